-- What the steps of an attempt at a resultant leave in its buffer, f of degree d and g of degree e.
--
--   Primitive n f            nothing but 1 divides n and every coefficient of f
--   ContentCleared n d e c   the content c of f is taken out, and g is reduced to what is left of the modulus
--   Beside F G l m s         l words F and m words G now stand side by side at s
--   words_at, words_back     the words from a place on, and l of them with the last first
use Rattle.std.specs.Prelude.{◌≡◌, List, ℕ, ◌+◌, ◌-◌, ◌/◌, ◌%◌, ◌<◌, length, get_or}
use Rattle.std.specs.Int.{◌∣◌}
use Rattle.definitions.specs.Polynomials.{coef}
use Rattle.windows.specs.Window.{piece, Around, Content}

pub record Primitive (n : ℕ) (f : List ℕ) : Type 0 where
  pub only : (x : ℕ) → x ∣ n → ((k : ℕ) → k < length f → x ∣ coef f k) → x ≡ 1

-- g of degree e at 0, f of degree d above it; the words beyond f are kept
pub record ContentCleared (n d e c : ℕ) (w w' : List ℕ) : Type 0 where
  pub content : Content n (piece w (e + 1) (d + 1)) c
  pub around : Around 0 (e + 1 + (d + 1)) w w'
  pub first : (k : ℕ) → k < d + 1 → get_or w' (e + 1 + k) 0 ≡ get_or w (e + 1 + k) 0 / c
  pub second : (k : ℕ) → k < e + 1 → get_or w' k 0 ≡ get_or w k 0 % (n / c)

pub record Beside (F G : ℕ → ℕ) (l m s : ℕ) (w w' : List ℕ) : Type 0 where
  pub around : Around s (l + m) w w'
  pub first : (k : ℕ) → k < l → get_or w' (s + k) 0 ≡ F k
  pub second : (k : ℕ) → k < m → get_or w' (s + l + k) 0 ≡ G k

abbrev pub words_at : List ℕ → ℕ → ℕ → ℕ
words_at w a k = get_or w (a + k) 0

abbrev pub words_back : List ℕ → ℕ → ℕ → ℕ → ℕ
words_back w a l k = get_or w (a + (l - 1 - k)) 0
