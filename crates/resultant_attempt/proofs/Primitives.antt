-- Where the leading word of f is no unit: f primitive, its highest coefficient that is not nilpotent, f = U H.
--
--   cleared_asked           what is asked once the content is taken out
--   not_all_nilpotent       some coefficient of a primitive polynomial is not nilpotent
--   lead_asked              the highest such coefficient leads
--   given_in                what unit times monic asks
use mathlib.Core.Path.{◌≡◌, sym, ap, subst, ◌∙◌}
use mathlib.Core.List.{List}
use Prim.Native.Nat.{ℕ, ◌+◌, ◌-◌, ◌*◌, ◌/◌, ◌%◌, ◌≤◌, ◌<◌, ◌∣◌}
use native.Mathlib.Omega.{arith}
use native.Mathlib.Nat.{mul_comm, dvd-mul_left}
use lib.ListN.{length, get_or}
use borrow.Rule.Slice.PartMut.{mid_of}
use Rattle.definitions.specs.Residues.{IsNilpotent}
use Rattle.definitions.specs.Polynomials.{coef}
use Rattle.law_numbers.specs.Primes.{prime_of}
use Rattle.law_numbers.specs.Nilpotents.{nilpotent_radical}
use Rattle.windows.specs.Window.{piece}
use Rattle.windows.proofs.Leaf.{piece_at, piece_length}
use Rattle.windows.proofs.Lift.{mid_length, piece_mid, mid_below}
use Rattle.resultant_steps.specs.Layouts.{Primitive, ContentCleared}
use Rattle.resultant_steps.proofs.Contents.{factors, content_two, content_below, content_primitive}
use Rattle.resultant_steps.proofs.SideBySide.{pair_above, onward}
use Rattle.window_factor.specs.Factors.{LeadingUnit, AllNilpotents, Given}
use Rattle.resultant_attempt.specs.Rooms.{room, room_copies, room_copied, room_place}
use Rattle.resultant_attempt.specs.AttemptStages.{Stacked, DivisorPlaced}

-- ---- the content taken out

pub stacked_fits : (n d e : ℕ) (w : List ℕ) → Stacked n d e w → e + 1 + (d + 1) ≤ length w
stacked_fits n d e w st = omega (arith, room_copies d e st.one st.near, st.fits)

pub cleared_asked : (n c d e : ℕ) (w w' : List ℕ) → Stacked n d e w → ContentCleared n d e c w w' → (c ≡ n → ⊥)
    → Stacked (n / c) d e w' × Primitive (n / c) (piece w' (e + 1) (d + 1))
cleared_asked n c d e w w' st cl ne =
    let f = stacked_fits n d e w st in (
      record {
        two = content_two n c d e w w' st.two st.one st.near f st.below cl ne;
        one = st.one;
        near = st.near;
        fits = omega (arith, st.fits, cl.around.same);
        below = content_below n c d e w w' st.two st.one st.near f st.below cl ne;
      },
      content_primitive n c d e w w' st.two st.one st.near f st.below cl ne,
    )

-- an answer modulo n / c, as lifting wants it
pub cleared_divides : (n c d e : ℕ) (w w' : List ℕ) → ContentCleared n d e c w w' → n / c ∣ n
cleared_divides n c d e w w' cl = subst (λ (x : ℕ). n / c ∣ x) (factors n c cl.content.divides_n) (dvd-mul_left (n / c) c)

-- ---- the highest coefficient that is not nilpotent

pub not_all_nilpotent : (n : ℕ) (f : List ℕ) → 2 ≤ n → Primitive n f → AllNilpotents n f → ⊥
not_all_nilpotent n f two pr nil =
    let p = prime_of n two in
    let e : p.p ≡ 1 = pr.only p.p p.divides (λ k l. (nilpotent_radical (nil.at k)).at p.p p.prime p.divides) in
    omega (arith, p.prime.above)

pub lead_asked : (n d e t i : ℕ) (w : List ℕ) → Stacked n d e w → LeadingUnit n t i (piece w (e + 1) (d + 1)) → t ≡ d
    → DivisorPlaced n (e + 1) d 0 e (e + 1 + (d + 1)) i w
lead_asked n d e t i w st u h = record {
  two = st.two;
  one = st.one;
  near = st.near;
  first = omega arith;
  second = omega arith;
  fits = omega (arith, room_copied d e st.one st.near, st.fits);
  pair = pair_above n d e w st.below;
  inverse = ap (λ (x : ℕ). x % n) (mul_comm i (get_or w (e + 1 + d) 0)
      ∙ ap (λ (x : ℕ). x * i) (sym (ap (coef (piece w (e + 1) (d + 1))) h ∙ piece_at w (e + 1) (d + 1) d (omega arith)))) ∙ u.inverse.one;
}

pub lead_below : (n d e t i : ℕ) (w : List ℕ) → Stacked n d e w → LeadingUnit n t i (piece w (e + 1) (d + 1)) → (t ≡ d → ⊥) → t < d
lead_below n d e t i w st u ne = omega (arith, u.place, piece_length w (e + 1) (d + 1) (stacked_fits n d e w st))

-- ---- unit times monic, in the part that begins with f

pub given_in : (n d e t i : ℕ) (w : List ℕ) → Stacked n d e w → t < d → LeadingUnit n t i (piece w (e + 1) (d + 1))
    → ((2 ≤ n) × ((t ≤ d) × (d + 1 + (t + 1 + (d + 1)) ≤ length (onward w (e + 1))))) × Given n d t i (onward w (e + 1))
given_in n d e t i w st l u =
    let room = room_place d e t st.one st.near (le d t l) in
    let fit : e + 1 + (length w - (e + 1)) ≤ length w = omega (arith, stacked_fits n d e w st) in
    let long : d + 1 ≤ length w - (e + 1) = omega (arith, stacked_fits n d e w st) in
    let same : piece (onward w (e + 1)) 0 (d + 1) ≡ piece w (e + 1) (d + 1) = piece_mid (e + 1) (length w - (e + 1)) w fit 0 (d + 1)
    (omega arith) ∙ ap (λ (x : ℕ). piece w x (d + 1)) (none (e + 1)) in (
      (st.two, (omega arith, omega (arith, room, mid_length (e + 1) (length w - (e + 1)) w fit, st.fits))),
      record {
        small = u.inverse.below;
        below = mid_below (e + 1) (length w - (e + 1)) w fit n 0 (d + 1) (omega arith)
            (record { at = λ k b. subst (λ (x : ℕ). get_or w x 0 < n) (place k) (st.below.at (e + 1 + k) (omega arith)) });
        unit = ap (λ (f : List ℕ). (i * coef f t) % n) same ∙ ap (λ (x : ℕ). x % n) (mul_comm i (coef (piece w (e + 1) (d + 1)) t))
            ∙ u.inverse.one;
        nilpotent = λ k b. subst (λ (f : List ℕ). IsNilpotent n (coef f k)) (sym same) (u.nilpotent k b);
      },
    )
  where
    le : (d t : ℕ) → t < d → t ≤ d
    le d t l = omega arith

    none : (x : ℕ) → x + 0 ≡ x
    none x = omega arith

    place : (k : ℕ) → 0 + (e + 1 + k) ≡ e + 1 + 0 + k
    place k = omega arith
