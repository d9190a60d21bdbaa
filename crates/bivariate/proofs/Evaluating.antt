-- A polynomial in y and z at a point, word by word, and the run's laws for the evaluated pair.
--
--   tail_first, tail_next, tail_last    Horner's rule, from the last coefficient down
--   Groups               group after group, with its round and end
--   length_evaluated     the size of an evaluated polynomial
--   run_is, run_value    what the run returns for the pair at z, as it stands in two buffers
--   groups, evaluations  the rules
--
-- Letters: n is the modulus, z the point; f of degrees d in y and a in z, g of e and b; c are the words of a group; j, i are places.
use mathlib.Core.Path.{◌≡◌, refl, sym, ◌∙◌, ap, ap₂, fun_ext, subst}
use mathlib.Core.Logic.{⊎_elim}
use mathlib.Core.List.{List}
use Prim.Native.Nat.{ℕ, zero, suc, pred, ◌+◌, ◌-◌, ◌*◌, ◌^◌, ◌%◌, ◌<◌, ◌≤◌}
use native.Mathlib.Nat.{mul-zero, mul-add, mul-one, mul_left_comm, pow-zero, pow-succ', zero-mod, mod-mod, mul-le-mul_right}
use native.Mathlib.Omega.{arith}
use borrow.Author.Rules.{rules}
use lib.ListN.{length, get_or, take, drop, set}
use Rattle.definitions.specs.Polynomials.{coef, deg, total}
use Rattle.definitions.specs.Resultants.{resultant}
use Rattle.law_numbers.specs.Congruence.{c_refl, c_add, c_mul, c_mod}
use Rattle.law_polynomials.specs.ReachedSteps.{coef_beyond}
use Rattle.law_polynomials.specs.ResultantLaws.{resultant_cong}
use Rattle.law_polynomials.specs.BivariateLaws.{group_value, evaluated}
use Rattle.law_polynomials.specs.Words.{coef_tabulate, length_tabulate, total_cong}
use Rattle.windows.specs.Window.{piece, Written, Loaded}
use Rattle.windows.proofs.Leaf.{lt_or_le, piece_at, piece_length, written_step, written_loaded}
use Rattle.bivariate.specs.PairLengthsAsked.{PairLengthsAsked, value_at}

-- ---- one group

-- the terms from j on
abbrev tail : List ℕ → ℕ → ℕ → ℕ → ℕ
tail c z j r = total r (λ i. get_or c (j + i) 0 * z ^ i)

pub record Tail (n z : ℕ) (c : List ℕ) (j x : ℕ) : Type 0 where
  pub most : j ≤ length c
  pub is : (r : ℕ) → j + r ≡ length c → x ≡ tail c z j r % n

pub tail_first : (n z : ℕ) (c : List ℕ) → Tail n z c (length c) 0
tail_first n z c = record { most = omega arith; is = λ r h. go r (omega arith) }
  where
    go : (r : ℕ) → r ≡ 0 → 0 ≡ tail c z (length c) r % n
    go zero h = sym (zero-mod n)
    go (suc r) h = absurd (omega arith)

total_times : (n z : ℕ) (F : ℕ → ℕ) → z * total n F ≡ total n (λ j. z * F j)
total_times zero z F = mul-zero z
total_times (suc n) z F = mul-add z (F 0) (total n (λ j. F (suc j))) ∙ ap (λ (x : ℕ). z * F 0 + x) (total_times n z (λ j. F (suc j)))

tail_more : (c : List ℕ) (z j r : ℕ) → tail c z j (suc r) ≡ get_or c j 0 + z * tail c z (suc j) r
tail_more c z j r =
    ap₂ ◌+◌ (ap₂ (λ (x y : ℕ). get_or c x 0 * y) (none j) (pow-zero z) ∙ mul-one (get_or c j 0))
    (total_cong r (λ i. get_or c (j + suc i) 0 * z ^ suc i) (λ i. z * (get_or c (suc j + i) 0 * z ^ i))
    (λ i l. ap₂ (λ (x y : ℕ). get_or c x 0 * y) (over j i) (pow-succ' z i) ∙ mul_left_comm (get_or c (suc j + i) 0) z (z ^ i))
    ∙ sym (total_times r z (λ i. get_or c (suc j + i) 0 * z ^ i)))
  where
    none : (j : ℕ) → j + 0 ≡ j
    none j = omega arith

    over : (j i : ℕ) → j + suc i ≡ suc j + i
    over j i = omega arith

tail_step : (n z : ℕ) (c : List ℕ) (j x y : ℕ) → Tail n z c (suc j) x → y ≡ (get_or c j 0 + z * x) % n → Tail n z c j y
tail_step n z c j x y h e = record { most = omega (arith, h.most); is = go }
  where
    go : (r : ℕ) → j + r ≡ length c → y ≡ tail c z j r % n
    go zero q = absurd (omega (arith, h.most))
    go (suc r) q =
        e ∙ ap (λ (t : ℕ). (get_or c j 0 + z * t) % n) (h.is r (omega arith))
        ∙ (c_add (c_refl {n = n} {a = get_or c j 0}) (c_mul (c_refl {n = n} {a = z}) (c_mod {n = n} (tail c z (suc j) r)))).same
        ∙ ap (λ (t : ℕ). t % n) (sym (tail_more c z j r))

pub tail_next : {n z : ℕ} {c : List ℕ} (j : ℕ) {x y : ℕ} → Tail n z c j x → 0 < j → y ≡ (get_or c (j - 1) 0 + z * x) % n
    → Tail n z c (j - 1) y
tail_next zero h l e = absurd (omega arith)
tail_next {n} {z} {c} (suc j) {x} {y} h l e =
    subst (λ (t : ℕ). Tail n z c t y) (sym back) (tail_step n z c j x y h (subst (λ (t : ℕ). y ≡ (get_or c t 0 + z * x) % n) back e))
  where
    back : suc j - 1 ≡ j
    back = omega arith

pub tail_last : {n z j : ℕ} {c : List ℕ} {x : ℕ} → Tail n z c j x → j ≤ 0 → x ≡ total (length c) (λ j. get_or c j 0 * z ^ j) % n
tail_last {n} {z} {j} {c} h l =
    h.is (length c) (omega arith)
    ∙ ap (λ (F : ℕ → ℕ). total (length c) F % n) (fun_ext (λ i. ap (λ (x : ℕ). get_or c x 0 * z ^ i) (plus i)))
  where
    plus : (i : ℕ) → j + i ≡ i
    plus i = omega arith

pub ruleset groups = (rules, tail_first, tail_next, tail_last)

-- ---- all groups

-- the words of i groups stand in the window
pub record Groups (n at d a z : ℕ) (f w₀ w : List ℕ) (i : ℕ) : Type 0 where
  pub most : i ≤ d + 1
  pub done : Written (λ (k : ℕ). coef (evaluated d a f z) k % n) at i w₀ w

-- group i begins at i (a + 1)
module _ {n at d a z i : ℕ} {f w₀ w : List ℕ} (h : Groups n at d a z f w₀ w i) (e : length f ≡ (d + 1) * (a + 1)) (l : i < d + 1) where
  -- the group ends within the words
  part_inside : i * (a + 1) + (a + 1) ≤ length f
  part_inside =
      let m : (i + 1) * (a + 1) ≤ (d + 1) * (a + 1) = mul-le-mul_right (a + 1) (more i d l) in
      omega arith
    where
      more : (i d : ℕ) → i < d + 1 → i + 1 ≤ d + 1
      more i d q = omega arith

  -- the words of the group
  part : ℕ → List ℕ
  part k = take k (drop (i * (a + 1)) f)

  pub groups_next : {v i' : ℕ} {w' : List ℕ} → at + (d + 1) ≤ length w₀
      → v ≡ total (length (take (i * (a + 1) + (a + 1) - i * (a + 1)) (drop (i * (a + 1)) f)))
      (λ j. get_or (take (i * (a + 1) + (a + 1) - i * (a + 1)) (drop (i * (a + 1)) f)) j 0 * z ^ j) % n
      → w' ≡ set w (at + i) v → i' ≡ i + 1 → Groups n at d a z f w₀ w' i'
  unfolding piece part
  groups_next fit ev ew ei = rw (ew, ei) (record {
    most = omega arith;
    done = written_step h.done (omega arith) (ev ∙ ap (λ (x : ℕ). x % n) word);
  })
    where
      r : ℕ
      r = i * (a + 1) + (a + 1) - i * (a + 1)

      long : r ≡ suc a
      long = omega arith

      place : i * (a + 1) ≡ i * suc a
      place = omega arith

      word : total (length (part r)) (λ j. get_or (part r) j 0 * z ^ j) ≡ coef (evaluated d a f z) i
      word =
          ap (λ (k : ℕ). total k (λ j. get_or (part r) j 0 * z ^ j)) (piece_length f (i * (a + 1)) r (omega (arith, part_inside)) ∙ long)
          ∙ total_cong (suc a) (λ j. get_or (part r) j 0 * z ^ j) (λ j. coef f (i * suc a + j) * z ^ j)
          (λ j p. ap (λ (x : ℕ). x * z ^ j)
          (piece_at f (i * (a + 1)) r j (omega arith) ∙ ap (λ (x : ℕ). get_or f (x + j) 0) place))
          ∙ sym (coef_tabulate (suc d) (group_value a f z) i (omega arith))

pub length_evaluated : (d a : ℕ) (f : List ℕ) (z : ℕ) → length (evaluated d a f z) ≡ d + 1
length_evaluated d a f z = length_tabulate (suc d) (group_value a f z) ∙ more d
  where
    more : (d : ℕ) → suc d ≡ d + 1
    more d = omega arith

pub groups_end : {n at d a z i : ℕ} {f w₀ w : List ℕ} → Groups n at d a z f w₀ w i → d + 1 ≤ i → Loaded n at (evaluated d a f z) w₀ w
groups_end {n} {at} {d} {a} {z} {i} {f} {w₀} {w} h l = written_loaded n at (evaluated d a f z) w₀ w
    (subst (λ (k : ℕ). Written (λ (k : ℕ). coef (evaluated d a f z) k % n) at k w₀ w) (all ∙ sym (length_evaluated d a f z)) h.done)
  where
    all : i ≡ d + 1
    all = omega (arith, h.most)

pub ruleset evaluations = (rules, groups_next, groups_end)

-- ---- the run

-- the run's words are pieces from 0 on
pub run_is : (n d e r : ℕ) (p q : List ℕ) → r ≡ resultant n (take (d + 1 - 0) (drop 0 p)) (take (e + 1 - 0) (drop 0 q))
    → r ≡ resultant n (piece p 0 (d + 1)) (piece q 0 (e + 1))
unfolding piece
run_is n d e r p q h =
    h ∙ ap₂ (λ (x y : ℕ). resultant n (take x (drop 0 p)) (take y (drop 0 q))) (none (d + 1)) (none (e + 1))
  where
    none : (x : ℕ) → x - 0 ≡ x
    none x = omega arith

-- f at z, first in a buffer p of 49 words
module _ (n d a z : ℕ) (f p p' : List ℕ) (most : d ≤ 48) (size : length p ≡ 49) (h : Loaded n 0 (evaluated d a f z) p p') where
  pub at_length : length (piece p' 0 (d + 1)) ≡ d + 1
  at_length = piece_length p' 0 (d + 1) (omega (arith, h.same))

  at_degree : deg (piece p' 0 (d + 1)) ≡ deg (evaluated d a f z)
  at_degree = ap pred (at_length ∙ sym (length_evaluated d a f z))

  at_word : (k : ℕ) → coef (piece p' 0 (d + 1)) k % n ≡ coef (evaluated d a f z) k % n
  at_word k = ⊎_elim inside beyond (lt_or_le k (d + 1))
    where
      inside : k < d + 1 → coef (piece p' 0 (d + 1)) k % n ≡ coef (evaluated d a f z) k % n
      inside l =
          ap (λ (x : ℕ). x % n) (piece_at p' 0 (d + 1) k l ∙ h.mid k (omega (arith, length_evaluated d a f z)))
          ∙ mod-mod (coef (evaluated d a f z) k) n

      beyond : d + 1 ≤ k → coef (piece p' 0 (d + 1)) k % n ≡ coef (evaluated d a f z) k % n
      beyond l =
          ap (λ (x : ℕ). x % n) (coef_beyond (piece p' 0 (d + 1)) k (omega (arith, at_length))
          ∙ sym (coef_beyond (evaluated d a f z) k (omega (arith, length_evaluated d a f z))))

module _ (n d a e b z : ℕ) (f g w p p' q q' : List ℕ) (two : 2 ≤ n) (s : PairLengthsAsked f d a g e b w) (size_p : length p ≡ 49)
    (hp : Loaded n 0 (evaluated d a f z) p p') (size_q : length q ≡ 49) (hq : Loaded n 0 (evaluated e b g z) q q') where
  same_value : (m : ℕ) → n ≡ m → resultant m (piece p' 0 (d + 1)) (piece q' 0 (e + 1)) ≡ value_at m f d a g e b z
  same_value zero h = absurd (omega arith)
  same_value (suc m) h =
      resultant_cong m (piece p' 0 (d + 1)) (evaluated d a f z) (piece q' 0 (e + 1)) (evaluated e b g z)
      (at_degree n d a z f p p' s.most_d size_p hp) (at_degree n e b z g q q' s.most_e size_q hq)
      (λ k. subst (λ (x : ℕ). coef (piece p' 0 (d + 1)) k % x ≡ coef (evaluated d a f z) k % x) h
      (at_word n d a z f p p' s.most_d size_p hp k))
      (λ k. subst (λ (x : ℕ). coef (piece q' 0 (e + 1)) k % x ≡ coef (evaluated e b g z) k % x) h
      (at_word n e b z g q q' s.most_e size_q hq k))

  pub run_value : (r : ℕ) → r ≡ resultant n (piece p' 0 (d + 1)) (piece q' 0 (e + 1)) → r ≡ value_at n f d a g e b z
  run_value r h = h ∙ same_value n refl
