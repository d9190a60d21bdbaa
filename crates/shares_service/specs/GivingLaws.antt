-- The giving out, turn by turn: what stays true of whose turn it is, of what waits and of what was given.
--
--   Fair p w g               where w waits and g was given: what each group took of p turns
--   Found j w g, found       the search for a group passes over turns until that of group j
--   found_waits, none_at     the group found waits; where none is found, nothing waits
--   GivenTo j w g w' g'      a frame goes to group j
--   After n W s, after       what is known after n frames, where W waited at first
use Rattle.std.specs.Prelude.{◌≡◌, refl, Bool, true, false, cond, List, [], ◌∷◌, ℕ, zero, suc, ◌+◌, ◌-◌, ◌/◌, ◌%◌, min, ◌≤◌, ◌<◌, ltb, eqb, length, get_or, set}
use Rattle.std.proofs.Common.{sym, ap, subst, ◌∙◌, pos_of_ne-zero, arith, length-set, get_or-set_same, get_or-set_other, ltb-true, ltb-false, eqb-true}
use Rattle.std.proofs.Math.Decide.{ℕ_discrete}
use Rattle.std.proofs.lemmas.Bool.{eqb-false}
use Rattle.definitions.specs.Polynomials.{total}
use Rattle.shares_service.specs.GivingOut.{next_group, first_waiting_of, Giving, giving, give_to, give_frame_of, give_frames}

-- ---- whose turn

-- p turns came: a group that waits took each of its own, and no group took more
pub record Fair (p : ℕ) (w g : List ℕ) : Type 0 where
  pub upper : (i : ℕ) → i < 4 → get_or g i 0 ≤ (p + 3 - i) / 4
  pub lower : (i : ℕ) → i < 4 → 0 < get_or w i 0 → (p + 3 - i) / 4 ≤ get_or g i 0

-- the turn of a group with none left waiting is passed over
fair_pass : {p : ℕ} {w g : List ℕ} → get_or w (p % 4) 0 ≡ 0 → Fair p w g → Fair (p + 1) w g
fair_pass {p} {w} {g} e f = record {
  upper = λ i l. omega (arith, f.upper i l);
  lower = λ i l h. other i l h (ℕ_discrete i (p % 4));
}
  where
    other : (i : ℕ) → i < 4 → 0 < get_or w i 0 → Dec (i ≡ p % 4) → (p + 1 + 3 - i) / 4 ≤ get_or g i 0
    other i l h (yes z) = absurd (omega (arith, ap (λ (j : ℕ). get_or w j 0) z))
    other i l h (no z) = omega (arith, f.lower i l h)

-- turns pass until that of group j
record Found (j : ℕ) (w g : List ℕ) : Type 0 where
  pub at : ℕ
  pub turn : j ≡ at % 4
  pub fair : Fair at w g

found : (k p i : ℕ) (w g : List ℕ) → i ≡ p % 4 → Fair p w g → first_waiting_of w k i < 4 → Found (first_waiting_of w k i) w g
unfolding first_waiting_of
found zero p i w g e f l = absurd (omega arith)
found (suc k) p i w g e f l = go (eqb (get_or w i 0) 0) refl (found k (p + 1) (next_group i) w g (omega arith)) l
  where
    go : (t : Bool) → eqb (get_or w i 0) 0 ≡ t
        → (Fair (p + 1) w g → first_waiting_of w k (next_group i) < 4 → Found (first_waiting_of w k (next_group i)) w g)
        → cond t (first_waiting_of w k (next_group i)) i < 4 → Found (cond t (first_waiting_of w k (next_group i)) i) w g
    go true h ih l = ih (fair_pass (ap (λ (j : ℕ). get_or w j 0) (sym e) ∙ eqb-true _ _ h) f) l
    go false h ih l = record { at = p; turn = e; fair = f }

pub found_waits : (k i : ℕ) (w : List ℕ) → first_waiting_of w k i < 4 → 0 < get_or w (first_waiting_of w k i) 0
unfolding first_waiting_of
found_waits zero i w l = absurd (omega arith)
found_waits (suc k) i w l = go (eqb (get_or w i 0) 0) refl (found_waits k (next_group i) w) l
  where
    go : (t : Bool) → eqb (get_or w i 0) 0 ≡ t → (first_waiting_of w k (next_group i) < 4 → 0 < get_or w (first_waiting_of w k (next_group i)) 0)
        → cond t (first_waiting_of w k (next_group i)) i < 4 → 0 < get_or w (cond t (first_waiting_of w k (next_group i)) i) 0
    go true h ih l = ih l
    go false h ih l = pos_of_ne-zero (eqb-false _ _ h)

-- where none of k groups from i on waits
none_from : (k i : ℕ) (w : List ℕ) → i < 4 → 4 ≤ first_waiting_of w k i → (m : ℕ) → m < k → get_or w ((i + m) % 4) 0 ≡ 0
unfolding first_waiting_of
none_from zero i w b l m h = absurd (omega arith)
none_from (suc k) i w b l m h = go (eqb (get_or w i 0) 0) refl (none_from k (next_group i) w (omega arith)) l m h
  where
    go : (t : Bool) → eqb (get_or w i 0) 0 ≡ t
        → (4 ≤ first_waiting_of w k (next_group i) → (m : ℕ) → m < k → get_or w ((next_group i + m) % 4) 0 ≡ 0)
        → 4 ≤ cond t (first_waiting_of w k (next_group i)) i → (m : ℕ) → m < suc k → get_or w ((i + m) % 4) 0 ≡ 0
    go true e ih l zero h = let z : (i + 0) % 4 ≡ i = omega arith in rw z (eqb-true _ _ e)
    go true e ih l (suc m) h = let z : (i + suc m) % 4 ≡ (next_group i + m) % 4 = omega arith in rw z (ih l m (omega arith))
    go false e ih l m h = absurd (omega arith)

none_at : (i : ℕ) (w : List ℕ) → i < 4 → 4 ≤ first_waiting_of w 4 i → (j : ℕ) → j < 4 → get_or w j 0 ≡ 0
none_at i w b l j h =
    let z : (i + (j + 4 - i) % 4) % 4 ≡ j = omega arith in
    rw z at (none_from 4 i w b l ((j + 4 - i) % 4) (omega arith))

-- ---- one frame

-- a frame goes to group j
record GivenTo (j : ℕ) (w g w' g' : List ℕ) : Type 0 where
  pub here_w : get_or w' j 0 ≡ get_or w j 0 - 1
  pub here_g : get_or g' j 0 ≡ get_or g j 0 + 1
  pub there_w : (i : ℕ) → (i ≡ j → ⊥) → get_or w' i 0 ≡ get_or w i 0
  pub there_g : (i : ℕ) → (i ≡ j → ⊥) → get_or g' i 0 ≡ get_or g i 0

given_set : (j : ℕ) (w g : List ℕ) → j < length w → j < length g → GivenTo j w g (set w j (get_or w j 0 - 1)) (set g j (get_or g j 0 + 1))
given_set j w g a b = record {
  here_w = get_or-set_same w j _ 0 a;
  here_g = get_or-set_same g j _ 0 b;
  there_w = λ i e. get_or-set_other w j i _ 0 e;
  there_g = λ i e. get_or-set_other g j i _ 0 e;
}

fair_give : {p j : ℕ} {w g w' g' : List ℕ} → j ≡ p % 4 → 0 < get_or w j 0 → GivenTo j w g w' g' → Fair p w g → Fair (p + 1) w' g'
fair_give {p} {j} {w} {g} {w'} {g'} e s v f = record {
  upper = λ i l. most i l (ℕ_discrete i j);
  lower = λ i l h. least i l h (ℕ_discrete i j);
}
  where
    most : (i : ℕ) → i < 4 → Dec (i ≡ j) → get_or g' i 0 ≤ (p + 1 + 3 - i) / 4
    most i l (yes z) = rw z (omega (arith, f.upper j (omega arith), v.here_g))
    most i l (no z) = omega (arith, f.upper i l, v.there_g i z)

    least : (i : ℕ) → i < 4 → 0 < get_or w' i 0 → Dec (i ≡ j) → (p + 1 + 3 - i) / 4 ≤ get_or g' i 0
    least i l h (yes z) = rw z (omega (arith, f.lower j (omega arith) s, v.here_g))
    least i l h (no z) = omega (arith, f.lower i l (subst (λ (x : ℕ). 0 < x) (v.there_w i z) h), v.there_g i z)

kept_give : {j : ℕ} {w g w' g' : List ℕ} (W : List ℕ) → 0 < get_or w j 0 → GivenTo j w g w' g'
    → ((i : ℕ) → get_or w i 0 + get_or g i 0 ≡ get_or W i 0)
    → (i : ℕ) → get_or w' i 0 + get_or g' i 0 ≡ get_or W i 0
kept_give {j} {w} {g} {w'} {g'} W s v k i = go (ℕ_discrete i j)
  where
    go : Dec (i ≡ j) → get_or w' i 0 + get_or g' i 0 ≡ get_or W i 0
    go (yes z) = rw z (omega (arith, k j, v.here_w, v.here_g))
    go (no z) = omega (arith, k i, v.there_w i z, v.there_g i z)

total_give : {j : ℕ} {w g w' g' : List ℕ} → j < 4 → GivenTo j w g w' g' → total 4 (λ i. get_or g' i 0) ≡ total 4 (λ i. get_or g i 0) + 1
total_give {j} {w} {g} {w'} {g'} l v = go j l v.here_g v.there_g
  where
    go : (j : ℕ) → j < 4 → get_or g' j 0 ≡ get_or g j 0 + 1 → ((i : ℕ) → (i ≡ j → ⊥) → get_or g' i 0 ≡ get_or g i 0)
        → total 4 (λ i. get_or g' i 0) ≡ total 4 (λ i. get_or g i 0) + 1
    go zero l h t = omega (arith, t 1 (λ z. omega arith), t 2 (λ z. omega arith), t 3 (λ z. omega arith))
    go (suc zero) l h t = omega (arith, t 0 (λ z. omega arith), t 2 (λ z. omega arith), t 3 (λ z. omega arith))
    go (suc (suc zero)) l h t = omega (arith, t 0 (λ z. omega arith), t 1 (λ z. omega arith), t 3 (λ z. omega arith))
    go (suc (suc (suc zero))) l h t = omega (arith, t 0 (λ z. omega arith), t 1 (λ z. omega arith), t 2 (λ z. omega arith))
    go (suc (suc (suc (suc j)))) l h t = absurd (omega arith)

-- where group j waits, not all were given
pub total_less : (w g W : List ℕ) → ((i : ℕ) → get_or w i 0 + get_or g i 0 ≡ get_or W i 0) → (j : ℕ) → j < 4 → 0 < get_or w j 0
    → total 4 (λ i. get_or g i 0) < total 4 (λ i. get_or W i 0)
total_less w g W k zero l s = omega (arith, k 0, k 1, k 2, k 3)
total_less w g W k (suc zero) l s = omega (arith, k 0, k 1, k 2, k 3)
total_less w g W k (suc (suc zero)) l s = omega (arith, k 0, k 1, k 2, k 3)
total_less w g W k (suc (suc (suc zero))) l s = omega (arith, k 0, k 1, k 2, k 3)
total_less w g W k (suc (suc (suc (suc j)))) l s = absurd (omega arith)

-- where none waits, all were given
total_none : (w g W : List ℕ) → ((i : ℕ) → get_or w i 0 + get_or g i 0 ≡ get_or W i 0) → ((j : ℕ) → j < 4 → get_or w j 0 ≡ 0)
    → total 4 (λ i. get_or g i 0) ≡ total 4 (λ i. get_or W i 0)
total_none w g W k z =
    let a = z 0 (omega arith) in
    let b = z 1 (omega arith) in
    let c = z 2 (omega arith) in
    let d = z 3 (omega arith) in
    omega (arith, k 0, k 1, k 2, k 3)

-- ---- n frames

-- after n frames, where W waited
pub record After (n : ℕ) (W : List ℕ) (s : Giving) : Type 0 where
  pub turns : ℕ
  pub turn : s.turn ≡ turns % 4
  pub size_w : length s.waiting ≡ 4
  pub size_g : length s.given ≡ 4
  pub kept : (i : ℕ) → get_or s.waiting i 0 + get_or s.given i 0 ≡ get_or W i 0
  pub all : total 4 (λ i. get_or s.given i 0) ≡ min n (total 4 (λ i. get_or W i 0))
  pub fair : Fair turns s.waiting s.given

zeros_at : (i : ℕ) → ◌≡◌ {A = ℕ} (get_or (0 ∷ 0 ∷ 0 ∷ 0 ∷ []) i 0) 0
zeros_at zero = refl
zeros_at (suc zero) = refl
zeros_at (suc (suc zero)) = refl
zeros_at (suc (suc (suc zero))) = refl
zeros_at (suc (suc (suc (suc i)))) = refl

after_none : (W : List ℕ) → length W ≡ 4 → After 0 W (giving 0 W (0 ∷ 0 ∷ 0 ∷ 0 ∷ []))
after_none W e = record {
  turns = 0;
  turn = refl;
  size_w = e;
  size_g = refl;
  kept = λ i. omega (arith, zeros_at i);
  all = omega arith;
  fair = record { upper = λ i l. omega (arith, zeros_at i); lower = λ i l h. omega (arith, zeros_at i) };
}

after_one : (n : ℕ) (W : List ℕ) (s : Giving) → After n W s → After (suc n) W (give_frame_of s)
unfolding give_frame_of
after_one n W s a = go (first_waiting_of s.waiting 4 s.turn) (ltb (first_waiting_of s.waiting 4 s.turn) 4) refl
    (found 4 a.turns s.turn s.waiting s.given a.turn a.fair)
    (found_waits 4 s.turn s.waiting)
    (none_at s.turn s.waiting (omega arith))
  where
    given_to : (i : ℕ) → i < 4 → Found i s.waiting s.given → 0 < get_or s.waiting i 0 → After (suc n) W (give_to i s)
    given_to i l f h =
        let v = given_set i s.waiting s.given (omega arith) (omega arith) in
        let m = total_less s.waiting s.given W a.kept i l h in
        record {
          turns = f.at + 1;
          turn = omega arith;
          size_w = length-set s.waiting i (get_or s.waiting i 0 - 1) ∙ a.size_w;
          size_g = length-set s.given i (get_or s.given i 0 + 1) ∙ a.size_g;
          kept = kept_give W h v a.kept;
          all = omega (arith, total_give l v, a.all);
          fair = fair_give f.turn h v f.fair;
        }

    go : (i : ℕ) (t : Bool) → ltb i 4 ≡ t → (i < 4 → Found i s.waiting s.given) → (i < 4 → 0 < get_or s.waiting i 0)
        → (4 ≤ i → (j : ℕ) → j < 4 → get_or s.waiting j 0 ≡ 0)
        → After (suc n) W (cond t (give_to i s) s)
    go i true e f h z = let l = ltb-true i 4 e in given_to i l (f l) (h l)
    go i false e f h z = let y = z (ltb-false i 4 e) in record {
      turns = a.turns;
      turn = a.turn;
      size_w = a.size_w;
      size_g = a.size_g;
      kept = a.kept;
      all = let t = total_none s.waiting s.given W a.kept y in omega (arith, a.all);
      fair = a.fair;
    }

pub after : (n : ℕ) (W : List ℕ) → length W ≡ 4 → After n W (give_frames n (giving 0 W (0 ∷ 0 ∷ 0 ∷ 0 ∷ [])))
unfolding give_frames
after zero W e = after_none W e
after (suc n) W e = after_one n W _ (after n W e)
