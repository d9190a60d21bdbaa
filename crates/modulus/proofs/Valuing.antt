-- What words stand for: the laws, for every modulus and both forms.
--
--   by_form                      a law of `value m` is a law of `plain n`, or of the words themselves
--   value_same, value_add, value_scaled, value_none, value_below, value_zero, value_negative
--                                equal words; a sum; a multiple; 0; a residue; a word that stands for 0; -p
--   value_gcd                    a word and what it stands for have the same greatest common divisor with n
--   value_three                  a sum with multipliers
--   formed_of, ready_of          what the record has for each form
--   left-…, entered-…, product-…, times-…, three-…, sum-…, difference-…
--                                what each form's operation answers, of what the words stand for
--   answers, plain_answers       the rules; those of words as they are, whatever n is
use mathlib.Core.Path.{◌≡◌, refl, sym, ap, ap₂, subst, ◌∙◌}
use Prim.Native.Nat.{ℕ, zero, suc, ◌+◌, ◌-◌, ◌*◌, ◌%◌, ◌^◌, ◌≤◌, ◌<◌}
use native.Mathlib.Omega.{arith}
use native.Mathlib.Nat.{mod-lt, mod-eq_of_lt, mul_comm, add-mul-mod_self_right, le_of_lt}
use borrow.Author.Rules.{rules}
use Rattle.law_numbers.specs.Congruence.{Cong, c_refl, c_sym, c_trans, c_eq, c_mod, c_add, c_mul}
use Rattle.law_numbers.specs.Divisors.{IsGcd}
use Rattle.reduction.specs.Moduli.{Ready}
use Rattle.reduction.specs.declared.Reciprocal.{Reciprocal}
use Rattle.montgomery.specs.Held.{held, plain, Formed}
use Rattle.montgomery.specs.declared.Form.{Form}
use Rattle.montgomery.specs.Decoding.{plain_below, plain_none, plain_same, plain_add, plain_mul, plain_zero}
use Rattle.montgomery.specs.Decoding.{plain_negative, plain_product, plain_three, plain_gcd, leave_enter, held_below}
use Rattle.modulus.specs.declared.Modulus.{Modulus}
use Rattle.modulus.specs.Values.{Known, value, value_by, form, reciprocal}

pub value_held : (m : Modulus) → (m.held ≡ 0 → ⊥) → value m ≡ plain m.n
unfolding value
value_held m f = go m.held refl
  where
    go : (h : ℕ) → m.held ≡ h → value m ≡ plain m.n
    go zero e = absurd (f e)
    go (suc h) e = ap {B = ℕ → ℕ} (λ (j : ℕ). λ (x : ℕ). value_by j m.n x) e

pub value_plain : (m : Modulus) → m.held ≡ 0 → value m ≡ (λ (x : ℕ). x)
unfolding value
value_plain m e = ap {B = ℕ → ℕ} (λ (h : ℕ). λ (x : ℕ). value_by h m.n x) e

pub by_form : (m : Modulus) (P : (ℕ → ℕ) → Type 0) → ((m.held ≡ 0 → ⊥) → P (plain m.n)) → (m.held ≡ 0 → P (λ (x : ℕ). x)) → P (value m)
by_form m P h p = go m.held refl
  where
    go : (j : ℕ) → m.held ≡ j → P (value m)
    go zero e = subst P (sym (value_plain m e)) (p e)
    go (suc j) e =
        let f : m.held ≡ 0 → ⊥ = λ z. omega arith in
        subst P (sym (value_held m f)) (h f)

nothing : (s t : ℕ) → s + t + 0 * 0 ≡ s + t
nothing s t = omega arith

module _ (m : Modulus) (k : Known m) where
  odd : (m.held ≡ 0 → ⊥) → m.n % 2 ≡ 1
  odd e = (k.formed e).fits.odd

  pub value_same : {x y : ℕ} → Cong m.n x y → Cong m.n (value m x) (value m y)
  value_same {x} {y} c = by_form m (λ (u : ℕ → ℕ). Cong m.n (u x) (u y)) (λ e. c_eq (plain_same m.n (odd e) c)) (λ e. c)

  pub value_add : (x y : ℕ) → Cong m.n (value m (x + y)) (value m x + value m y)
  value_add x y = by_form m (λ (u : ℕ → ℕ). Cong m.n (u (x + y)) (u x + u y)) (λ e. plain_add m.n (odd e) x y) (λ e. c_refl)

  pub value_scaled : (a x : ℕ) → Cong m.n (value m (a * x)) (a * value m x)
  value_scaled a x =
      by_form m (λ (u : ℕ → ℕ). Cong m.n (u (a * x)) (a * u x))
      (λ e. c_trans (c_eq (ap (plain m.n) (mul_comm a x)))
      (c_trans (plain_mul m.n (odd e) x a) (c_eq (mul_comm (plain m.n x) a)))) (λ e. c_refl)

  pub value_none : value m 0 ≡ 0
  value_none = by_form m (λ (u : ℕ → ℕ). u 0 ≡ 0) (λ e. plain_none m.n (odd e)) (λ e. refl)

  pub value_below : {x : ℕ} → x < m.n → value m x < m.n
  value_below {x} l = by_form m (λ (u : ℕ → ℕ). u x < m.n) (λ e. plain_below m.n (odd e) x) (λ e. l)

  pub value_zero : (x : ℕ) → x < m.n → value m x ≡ 0 → x ≡ 0
  value_zero x l = by_form m (λ (u : ℕ → ℕ). u x ≡ 0 → x ≡ 0) (λ e. plain_zero m.n (odd e) x l) (λ e z. z)

  pub value_three : (l x c y e z : ℕ) → value m ((l * x + c * y + e * z) % m.n) ≡ (l * value m x + c * value m y + e * value m z) % m.n
  value_three l x c y e z =
      by_form m (λ (u : ℕ → ℕ). u ((l * x + c * y + e * z) % m.n) ≡ (l * u x + c * u y + e * u z) % m.n)
      (λ h. plain_three m.n (odd h) l x c y e z) (λ h. refl)

  pub value_negative : (p : ℕ) → p ≤ m.n → Cong m.n (value m (m.n - p)) (m.n - value m p)
  value_negative p l = by_form m (λ (u : ℕ → ℕ). Cong m.n (u (m.n - p)) (m.n - u p)) (λ e. plain_negative m.n (odd e) p l)
      (λ e. c_refl)

  pub value_gcd : {x g : ℕ} → IsGcd m.n x g → IsGcd m.n (value m x) g
  value_gcd {x} {g} h = by_form m (λ (u : ℕ → ℕ). IsGcd m.n (u x) g) (λ e. plain_gcd m.n (odd e) h) (λ e. h)

  -- a residue that is equal to another number
  is : {x y : ℕ} → x < m.n → Cong m.n x y → x ≡ y % m.n
  is l c = sym (mod-eq_of_lt l) ∙ c.same

  -- ---- what the operations answer

  pub word_below : (r t : ℕ) → r ≡ t % m.n → r < m.n
  word_below r t e = subst (λ (z : ℕ). z < m.n) (sym e) (mod-lt t k.pos)

  pub plain_word : (r t : ℕ) → (m.held ≡ 0 → ⊥) → r ≡ plain m.n t → r < m.n
  plain_word r t e h = subst (λ (z : ℕ). z < m.n) (sym h) (plain_below m.n (odd e) t)

  pub held_word : (r t : ℕ) → (m.held ≡ 0 → ⊥) → r ≡ held m.n t → r < m.n
  held_word r t e h = subst (λ (z : ℕ). z < m.n) (sym h) (held_below m.n (odd e) t)

  pub entered_held : (a r : ℕ) → (m.held ≡ 0 → ⊥) → r ≡ held m.n a → value m r ≡ a % m.n
  entered_held a r e h =
      subst (λ (u : ℕ → ℕ). u r ≡ a % m.n) (sym (value_held m e)) (ap (plain m.n) h ∙ leave_enter m.n (odd e) a)

  pub product_held : (x y r : ℕ) → (m.held ≡ 0 → ⊥) → r ≡ plain m.n (x * y) → value m r ≡ (value m x * value m y) % m.n
  product_held x y r e h =
      subst (λ (u : ℕ → ℕ). u r ≡ (u x * u y) % m.n) (sym (value_held m e)) (ap (plain m.n) h ∙ plain_product m.n (odd e) x y)

  pub times_held : (x a r : ℕ) → (m.held ≡ 0 → ⊥) → r ≡ plain m.n (x * a) → r ≡ (value m x * a) % m.n
  times_held x a r e h =
      subst (λ (u : ℕ → ℕ). r ≡ (u x * a) % m.n) (sym (value_held m e))
      (is (plain_word r (x * a) e h) (c_trans (c_eq h) (plain_mul m.n (odd e) x a)))

  -- a word that is the sum of words, or their difference, stands for that of what they stand for
  added : (x y r : ℕ) → r < m.n → Cong m.n r (x + y) → value m r ≡ (value m x + value m y) % m.n
  added x y r l h = is (value_below l) (c_trans (value_same h) (value_add x y))

  less : (x y r : ℕ) → y ≤ m.n → r < m.n → Cong m.n r (x + (m.n - y)) → value m r ≡ (value m x + (m.n - value m y)) % m.n
  less x y r ly l h =
      is (value_below l) (c_trans (value_same h) (c_trans (value_add x (m.n - y)) (c_add c_refl (value_negative y ly))))

  -- n more
  once : {r z : ℕ} → z ≡ r + m.n → Cong m.n r z
  once {r} {z} e = record { same = sym (add-mul-mod_self_right r 1 m.n) ∙ ap (λ (y : ℕ). y % m.n) (omega arith) }

  module _ (x y r : ℕ) (lx : x < m.n) (ly : y < m.n) where
    pub sum_over : m.n - y ≤ x → r ≡ x - (m.n - y) → value m r ≡ (value m x + value m y) % m.n
    sum_over h e = added x y r (omega arith) (once (omega arith))

    pub sum_under : x < m.n - y → r ≡ x + y → value m r ≡ (value m x + value m y) % m.n
    sum_under h e = added x y r (omega arith) (c_eq e)

    pub difference_over : y ≤ x → r ≡ x - y → value m r ≡ (value m x + (m.n - value m y)) % m.n
    difference_over h e = less x y r (omega arith) (omega arith) (once (omega arith))

    pub difference_under : x < y → r ≡ x + (m.n - y) → value m r ≡ (value m x + (m.n - value m y)) % m.n
    difference_under h e = less x y r (omega arith) (omega arith) (c_eq e)

  -- l x + c y, where c is n - b, with held multipliers
  pub three_held : (l x b y r : ℕ) → (m.held ≡ 0 → ⊥) → b < m.n
      → r ≡ (plain m.n l * x + plain m.n (m.n - b) * y + plain m.n 0 * 0) % m.n
      → value m r ≡ (value m l * value m x + (m.n - value m b) * value m y) % m.n
  three_held l x b y r e lb h =
      ap (value m) (subst (λ (u : ℕ → ℕ). r ≡ (u l * x + u (m.n - b) * y + u 0 * 0) % m.n) (sym (value_held m e)) h)
      ∙ value_three (value m l) x (value m (m.n - b)) y (value m 0) 0
      ∙ (c_trans (c_add (c_add c_refl (c_mul (value_negative b (le_of_lt lb)) c_refl))
      (c_eq (ap₂ (λ (s t : ℕ). s * t) value_none value_none))) (c_eq (nothing _ _))).same

pub left_held : (m : Modulus) (x r : ℕ) → (m.held ≡ 0 → ⊥) → r ≡ plain m.n x → r ≡ value m x
left_held m x r e h = h ∙ ap (λ (u : ℕ → ℕ). u x) (sym (value_held m e))

-- words as they are, whatever n is
module _ (m : Modulus) (e : m.held ≡ 0) where
  own : (P : (ℕ → ℕ) → Type 0) → P (λ (x : ℕ). x) → P (value m)
  own P h = subst P (sym (value_plain m e)) h

  pub left_plain : (x : ℕ) → x ≡ value m x
  left_plain x = own (λ (u : ℕ → ℕ). x ≡ u x) refl

  pub entered_plain : (a r : ℕ) → r ≡ a % m.n → value m r ≡ a % m.n
  entered_plain a r h = own (λ (u : ℕ → ℕ). u r ≡ a % m.n) h

  pub product_plain : (x y r : ℕ) → r ≡ (x * y) % m.n → value m r ≡ (value m x * value m y) % m.n
  product_plain x y r h = own (λ (u : ℕ → ℕ). u r ≡ (u x * u y) % m.n) h

  pub times_plain : (x a r : ℕ) → r ≡ (x * a) % m.n → r ≡ (value m x * a) % m.n
  times_plain x a r h = own (λ (u : ℕ → ℕ). r ≡ (u x * a) % m.n) h

  pub difference_plain : (x y r : ℕ) → r ≡ (x + (m.n - y)) % m.n → value m r ≡ (value m x + (m.n - value m y)) % m.n
  difference_plain x y r h = own (λ (u : ℕ → ℕ). u r ≡ (u x + (m.n - u y)) % m.n) h

  pub three_plain : (l x b y r : ℕ) → r ≡ (l * x + (m.n - b) * y + 0 * 0) % m.n
      → value m r ≡ (value m l * value m x + (m.n - value m b) * value m y) % m.n
  three_plain l x b y r h = own (λ (u : ℕ → ℕ). u r ≡ (u l * u x + (m.n - u b) * u y) % m.n) (h ∙ ap (λ (z : ℕ). z % m.n) (nothing _ _))

pub formed_of : {m : Modulus} {f : Form} → Known m → (m.held ≡ 0 → ⊥) → f ≡ form m → Formed f
formed_of k h e = rw e (k.formed h)

pub ready_of : {m : Modulus} {r : Reciprocal} → Known m → r ≡ reciprocal m → Ready r
ready_of k e = rw e k.ready

pub ruleset held_answers = (word_below, plain_word, held_word, left_held, entered_held, product_held, times_held, three_held)

pub ruleset plain_answers = (left_plain, entered_plain, product_plain, times_plain, difference_plain, three_plain)

pub ruleset sums = (sum_over, sum_under, difference_over, difference_under)

pub ruleset answers = (rules, le_of_lt, formed_of, ready_of, sums, held_answers, plain_answers)
