-- Buffers and what their words stand for.
--
--   values_length, values_at, values_below    the words of a buffer
--   Linear, known_linear, plain_linear        what the laws ask of a form, which both have
--   wrote, wrote_one, scaled, entered         what the loops make, for such a form
--   wrote_held, wrote_plain, single_held, single_plain, scaled_held, scaled_plain, entered_held, entered_plain
--                                             the same, as the loops of each form promise it
--   forms                                     the rules
use mathlib.Core.Path.{◌≡◌, refl, sym, ap, subst, ◌∙◌}
use mathlib.Core.List.{List}
use Prim.Native.Nat.{ℕ, zero, suc, ◌+◌, ◌-◌, ◌*◌, ◌%◌, ◌≤◌, ◌<◌}
use native.Mathlib.Nat.{mod-lt, le_of_lt}
use native.Mathlib.Omega.{arith}
use lib.ListN.{length, get_or, length-map, get_or-map}
use borrow.Author.Rules.{rules}
use Rattle.law_numbers.specs.Congruence.{Cong, c_refl, c_eq, c_add, c_mul}
use Rattle.windows.specs.Window.{Below, Written, Moved, mulBy, Loaded, behind}
use Rattle.windows.proofs.Leaf.{written_around, loaded_around}
use Rattle.windows.proofs.Lift.{moved_around}
use Rattle.window_combining.specs.Combined.{combination}
use Rattle.montgomery.specs.Held.{held, plain}
use Rattle.montgomery.specs.Decoding.{held_below}
use Rattle.modulus.specs.declared.Modulus.{Modulus}
use Rattle.modulus.specs.Values.{Known, value, values}
use Rattle.modulus.proofs.Valuing.{value_held, value_plain, value_none, value_below, value_three, value_negative, formed_of, ready_of}
use Rattle.modulus.proofs.Valuing.{entered_held as word_held}
use Rattle.modulus_windows.specs.LoopPromises.{Wrote, Scaled, Entered}

pub values_length : (m : Modulus) (w : List ℕ) → length (values m w) ≡ length w
unfolding values
values_length m w = length-map w (value m)

pub record Linear (m : Modulus) : Type 0 where
  pub pos : 1 ≤ m.n
  pub none : value m 0 ≡ 0
  pub three : (l x c y e z : ℕ) → value m ((l * x + c * y + e * z) % m.n) ≡ (l * value m x + c * value m y + e * value m z) % m.n
  pub negative : (p : ℕ) → p ≤ m.n → Cong m.n (value m (m.n - p)) (m.n - value m p)

pub known_linear : {m : Modulus} → Known m → Linear m
known_linear {m} k =
    record { pos = k.pos; none = value_none m k; three = value_three m k; negative = value_negative m k }

pub plain_linear : (m : Modulus) → 1 ≤ m.n → m.held ≡ 0 → Linear m
plain_linear m pos e = record {
  pos = pos;
  none = own (λ (u : ℕ → ℕ). u 0 ≡ 0) refl;
  three = λ l x c y d z. own (λ (u : ℕ → ℕ). u ((l * x + c * y + d * z) % m.n) ≡ (l * u x + c * u y + d * u z) % m.n) refl;
  negative = λ p l. own (λ (u : ℕ → ℕ). Cong m.n (u (m.n - p)) (m.n - u p)) c_refl;
}
  where
    own : (P : (ℕ → ℕ) → Type 0) → P (λ (x : ℕ). x) → P (value m)
    own P h = subst P (sym (value_plain m e)) h

module _ (m : Modulus) (k : Linear m) where
  at : (w : List ℕ) (i : ℕ) → get_or (values m w) i 0 ≡ value m (get_or w i 0)
  unfolding values
  at w i = ap (λ (z : ℕ). get_or (values m w) i z) (sym k.none) ∙ get_or-map (value m) w i 0

  same : (w w' : List ℕ) → length w' ≡ length w → length (values m w') ≡ length (values m w)
  same w w' e = values_length m w' ∙ e ∙ sym (values_length m w)

  kept : (w w' : List ℕ) (i : ℕ) → get_or w' i 0 ≡ get_or w i 0 → get_or (values m w') i 0 ≡ get_or (values m w) i 0
  kept w w' i e = at w' i ∙ ap (value m) e ∙ sym (at w i)

  before : (w : List ℕ) (src i : ℕ) → value m (behind (λ (j : ℕ). get_or w (src + j) 0) i)
      ≡ behind (λ (j : ℕ). get_or (values m w) (src + j) 0) i
  before w src zero = k.none
  before w src (suc i) = sym (at w (src + i))

  -- with multipliers of which only their residues count
  combines : (l c b c' b' src : ℕ) {dst len : ℕ} {w w' : List ℕ} → Cong m.n c c' → Cong m.n b b'
      → Written (combination m.n l c b src dst w) dst len w w' → Wrote m (combination m.n l c' b' src dst (values m w)) dst len w w'
  unfolding combination
  combines l c b c' b' src {dst} {len} {w} {w'} hc hb wr = record {
    around = written_around wr;
    below = record { at = λ i g. subst (λ (x : ℕ). x < m.n) (sym (wr.mid i g)) (mod-lt _ k.pos) };
    stands = record {
      same = same w w' wr.same;
      low = λ i h. kept w w' i (wr.low i h);
      mid = λ i h. at w' (dst + i) ∙ ap (value m) (wr.mid i h)
          ∙ k.three l (get_or w (dst + i) 0) c (behind (λ (j : ℕ). get_or w (src + j) 0) i) b (get_or w (src + i) 0)
          ∙ (c_add (c_add (c_mul (c_refl {a = l}) (c_eq (sym (at w (dst + i))))) (c_mul hc (c_eq (before w src i))))
          (c_mul hb (c_eq (sym (at w (src + i)))))).same;
      high = λ i h. kept w w' i (wr.high i h);
    };
  }

  pub wrote : (l c b src : ℕ) {dst len : ℕ} {w w' : List ℕ} → c < m.n → b < m.n
      → Written (combination m.n (value m l) (value m (m.n - c)) (value m (m.n - b)) src dst w) dst len w w'
      → Wrote m (combination m.n (value m l) (m.n - value m c) (m.n - value m b) src dst (values m w)) dst len w w'
  wrote l c b src lc lb = combines _ _ _ _ _ src (k.negative c (le_of_lt lc)) (k.negative b (le_of_lt lb))

  pub wrote_one : (l b src : ℕ) {dst len : ℕ} {w w' : List ℕ} → b < m.n
      → Written (combination m.n (value m l) (value m 0) (value m (m.n - b)) src dst w) dst len w w'
      → Wrote m (combination m.n (value m l) 0 (m.n - value m b) src dst (values m w)) dst len w w'
  wrote_one l b src lb = combines _ _ _ _ _ src (c_eq k.none) (k.negative b (le_of_lt lb))

  pub scaled : (c : ℕ) {src dst len : ℕ} {w w' : List ℕ} → Moved (mulBy m.n (value m c)) src dst len w w' → Scaled m c src dst len w w'
  scaled c {src} {dst} {len} {w} {w'} mv = record {
    around = moved_around mv;
    below = record { at = λ i g. subst (λ (x : ℕ). x < m.n) (sym (mv.mid i g)) (mod-lt _ k.pos) };
    stands = record {
      same = same w w' mv.same;
      low = λ i h. kept w w' i (mv.low i h);
      mid = λ i h. at w' (dst + i) ∙ ap (value m) (mv.mid i h ∙ alone _ (get_or w (src + i) 0) 0)
          ∙ k.three (value m c) (get_or w (src + i) 0) 0 0 0 0 ∙ sym (alone _ _ (value m 0))
          ∙ ap (λ (x : ℕ). (value m c * x) % m.n) (sym (at w (src + i)));
      high = λ i h. kept w w' i (mv.high i h);
    };
  }
    where
      alone : (a x z : ℕ) → (a * x) % m.n ≡ (a * x + 0 * z + 0 * z) % m.n
      alone a x z = ap (λ (y : ℕ). y % m.n) (omega arith)

  -- words of f made words by F
  pub entered : (F : ℕ → ℕ) (f : List ℕ) {a : ℕ} {w w' : List ℕ} → ((i : ℕ) → F i < m.n) → ((i : ℕ) → value m (F i) ≡ get_or f i 0 % m.n)
      → Written F a (length f) w w' → Entered m a f w w'
  entered F f {a} {w} {w'} small is wr = record {
    around = written_around wr;
    below = record { at = λ i g. subst (λ (x : ℕ). x < m.n) (sym (wr.mid i g)) (small i) };
    stands = record {
      same = same w w' wr.same;
      low = λ i h. kept w w' i (wr.low i h);
      mid = λ i h. at w' (a + i) ∙ ap (value m) (wr.mid i h) ∙ is i;
      high = λ i h. kept w w' i (wr.high i h);
    };
  }

  pub entered_own : (f : List ℕ) {a : ℕ} {w w' : List ℕ} → value m ≡ (λ (x : ℕ). x) → Loaded m.n a f w w' → Entered m a f w w'
  entered_own f e ld =
      entered (λ i. get_or f i 0 % m.n) f (λ i. mod-lt _ k.pos) (λ i. ap (λ (u : ℕ → ℕ). u (get_or f i 0 % m.n)) e)
      (record { same = ld.same; low = ld.low; mid = ld.mid; high = ld.high })

-- ---- as the loops of each form promise it

module _ (m : Modulus) (k : Known m) where
  pub values_at : (w : List ℕ) (i : ℕ) → get_or (values m w) i 0 ≡ value m (get_or w i 0)
  values_at = at m (known_linear k)

  pub values_below : {a l : ℕ} {w : List ℕ} → Below m.n a l w → Below m.n a l (values m w)
  values_below {a} {l} {w} b = record { at = λ i h. subst (λ (x : ℕ). x < m.n) (sym (values_at w (a + i))) (value_below m k (b.at i h)) }

  module _ (l c b src : ℕ) {dst len : ℕ} {w w' : List ℕ} where
    pub wrote_held : (m.held ≡ 0 → ⊥) → c < m.n → b < m.n
        → Written (combination m.n (plain m.n l) (plain m.n (m.n - c)) (plain m.n (m.n - b)) src dst w) dst len w w'
        → Wrote m (combination m.n (value m l) (m.n - value m c) (m.n - value m b) src dst (values m w)) dst len w w'
    wrote_held e lc lb wr =
        wrote m (known_linear k) l c b src lc lb (subst (λ (u : ℕ → ℕ). Written (combination m.n (u l) (u (m.n - c))
        (u (m.n - b)) src dst w) dst len w w') (sym (value_held m e)) wr)

    pub wrote_plain : m.held ≡ 0 → c < m.n → b < m.n → Written (combination m.n l (m.n - c) (m.n - b) src dst w) dst len w w'
        → Wrote m (combination m.n (value m l) (m.n - value m c) (m.n - value m b) src dst (values m w)) dst len w w'
    wrote_plain e lc lb wr =
        wrote m (known_linear k) l c b src lc lb (subst (λ (u : ℕ → ℕ). Written (combination m.n (u l) (u (m.n - c))
        (u (m.n - b)) src dst w) dst len w w') (sym (value_plain m e)) wr)

  module _ (l b src : ℕ) {dst len : ℕ} {w w' : List ℕ} where
    pub single_held : (m.held ≡ 0 → ⊥) → b < m.n
        → Written (combination m.n (plain m.n l) (plain m.n 0) (plain m.n (m.n - b)) src dst w) dst len w w'
        → Wrote m (combination m.n (value m l) 0 (m.n - value m b) src dst (values m w)) dst len w w'
    single_held e lb wr =
        wrote_one m (known_linear k) l b src lb (subst (λ (u : ℕ → ℕ). Written (combination m.n (u l) (u 0) (u (m.n - b)) src dst w)
        dst len w w') (sym (value_held m e)) wr)

    pub single_plain : m.held ≡ 0 → b < m.n → Written (combination m.n l 0 (m.n - b) src dst w) dst len w w'
        → Wrote m (combination m.n (value m l) 0 (m.n - value m b) src dst (values m w)) dst len w w'
    single_plain e lb wr =
        wrote_one m (known_linear k) l b src lb (subst (λ (u : ℕ → ℕ). Written (combination m.n (u l) (u 0) (u (m.n - b)) src dst w)
        dst len w w') (sym (value_plain m e)) wr)

  module _ (c : ℕ) {src dst len : ℕ} {w w' : List ℕ} where
    pub scaled_held : (m.held ≡ 0 → ⊥) → Moved (mulBy m.n (plain m.n c)) src dst len w w' → Scaled m c src dst len w w'
    scaled_held e mv =
        scaled m (known_linear k) c (subst (λ (u : ℕ → ℕ). Moved (mulBy m.n (u c)) src dst len w w') (sym (value_held m e)) mv)

    pub scaled_plain : m.held ≡ 0 → Moved (mulBy m.n c) src dst len w w' → Scaled m c src dst len w w'
    scaled_plain e mv =
        scaled m (known_linear k) c (subst (λ (u : ℕ → ℕ). Moved (mulBy m.n (u c)) src dst len w w') (sym (value_plain m e)) mv)

  module _ (f : List ℕ) {a : ℕ} {w w' : List ℕ} where
    pub entered_held : (m.held ≡ 0 → ⊥) → Written (λ (i : ℕ). held m.n (get_or f i 0)) a (length f) w w' → Entered m a f w w'
    entered_held e =
        entered m (known_linear k) (λ i. held m.n (get_or f i 0)) f (λ i. held_below m.n (k.formed e).fits.odd (get_or f i 0))
        (λ i. word_held m k (get_or f i 0) _ e refl)

    pub entered_plain : m.held ≡ 0 → Loaded m.n a f w w' → Entered m a f w w'
    entered_plain e = entered_own m (known_linear k) f (value_plain m e)

pub ruleset decoded = (wrote_held, wrote_plain, single_held, single_plain, scaled_held, scaled_plain, entered_held, entered_plain)

pub ruleset forms = (rules, le_of_lt, formed_of, ready_of, decoded)
