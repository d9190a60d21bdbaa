-- The proved table: the eleven starred rows of S90, resultant and D, as one list and one theorem. One test is computed over the
-- list with a certificate for each row, and one lemma turns the test into the two statements at each row.
--
--   Entry, Holds        a row, and what it says
--   Certificate         u f + v g = D modulo n; w monic of degree 1 or more, f = w a and g = w b modulo D
--   passes, sound       the test of a row with its certificate, and what follows from it
--   starred             the eleven rows
--   table_holds         every row holds
--
-- Letters: e is a row, c a certificate; n, f, g, D as in the definitions; value is the resultant.
use Rattle.std.specs.Prelude.{◌≡◌, List, [], ◌∷◌, Bool, true, false, ◌&&◌, ℕ, ◌≤◌, ◌%◌, pred, T, leb, eqb, length}
use Rattle.std.proofs.Math.Nat.{dvd_of_mod-eq-zero}
use Rattle.std.proofs.Common.{arith, leb→le, eqb→eq}
use Rattle.definitions.specs.Expansions.{expansion}
use Rattle.definitions.specs.Polynomials.{coef}
use Rattle.definitions.specs.Resultants.{resultant, Reduced}
use Rattle.law_polynomials.specs.Certificates.{certified}
use Rattle.law_polynomials.specs.Computed.{both, multiplied, multiplied_by, combined, combined_by}

pub record Entry : Type 0 where
  pub n : ℕ
  pub f : List ℕ
  pub g : List ℕ
  pub value : ℕ
  pub D : ℕ

abbrev pub Holds : Entry → Type 0
Holds e = (resultant e.n e.f e.g ≡ e.value) × Reduced e.n e.f e.g e.D

pub record Certificate : Type 0 where
  pub u : List ℕ
  pub v : List ℕ
  pub w : List ℕ
  pub a : List ℕ
  pub b : List ℕ

abbrev pub tests : Entry → Certificate → List Bool
tests e c =
    eqb (resultant e.n e.f e.g) e.value
    ∷ leb 1 e.D
    ∷ leb e.D e.n
    ∷ eqb (e.n % e.D) 0
    ∷ combined e.n e.f e.g c.u c.v e.D
    ∷ leb 2 (length c.w)
    ∷ eqb (coef c.w (pred (length c.w)) % e.D) (1 % e.D)
    ∷ multiplied e.D e.f c.w c.a
    ∷ multiplied e.D e.g c.w c.b
    ∷ []

-- all of a list of tests, and each of them
abbrev pub conj : List Bool → Bool
conj [] = true
conj (b ∷ bs) = b && conj bs

abbrev Each : List Bool → Type 0
Each [] = Unit
Each (b ∷ bs) = T b × Each bs

each : (bs : List Bool) → T (conj bs) → Each bs
each [] t = tt
each (b ∷ bs) t = let h = both b (conj bs) t in (h.0, each bs h.1)

abbrev pub passes : Entry → Certificate → Bool
passes e c = conj (tests e c)

pub sound : (e : Entry) (c : Certificate) → T (passes e c) → Holds e
sound e c t =
    let h : Each (tests e c) = each (tests e c) t in
    let p : 1 ≤ e.D = leb→le 1 e.D h.1.0 in
    let q : e.D ≤ e.n = leb→le e.D e.n h.1.1.0 in
    let r : 2 ≤ length c.w = leb→le 2 (length c.w) h.1.1.1.1.1.0 in (
      eqb→eq (resultant e.n e.f e.g) e.value h.0,
      certified e.n e.D e.f e.g (omega arith) (dvd_of_mod-eq-zero e.D (eqb→eq (e.n % e.D) 0 h.1.1.1.0)) p q
          (record { u = c.u; v = c.v; combination = combined_by e.n e.f e.g c.u c.v e.D h.1.1.1.1.0 })
          (record {
            w = c.w;
            a = c.a;
            b = c.b;
            t = pred (length c.w);
            t_pos = omega arith;
            top = eqb→eq (coef c.w (pred (length c.w)) % e.D) (1 % e.D) h.1.1.1.1.1.1.0;
            above = omega arith;
            left = multiplied_by e.D e.f c.w c.a h.1.1.1.1.1.1.1.0;
            right = multiplied_by e.D e.g c.w c.b h.1.1.1.1.1.1.1.1.0;
          }),
    )

abbrev pub Every : List Entry → Type 0
Every [] = Unit
Every (e ∷ es) = Holds e × Every es

abbrev pub all_pass : List Entry → List Certificate → Bool
all_pass [] cs = true
all_pass (e ∷ es) [] = false
all_pass (e ∷ es) (c ∷ cs) = passes e c && all_pass es cs

every : (es : List Entry) (cs : List Certificate) → T (all_pass es cs) → Every es
every [] cs t = tt
every (e ∷ es) [] t = absurd t
every (e ∷ es) (c ∷ cs) t = let h = both (passes e c) (all_pass es cs) t in (sound e c h.0, every es cs h.1)

-- "those with a star belong to the proved table"
abbrev pub starred : List Entry
starred =
    record { n = 7; f = 1 ∷ 1 ∷ []; g = 2 ∷ 1 ∷ []; value = 1; D = 1 }
    ∷ record { n = 7; f = 2 ∷ 1 ∷ []; g = 1 ∷ 1 ∷ []; value = 6; D = 1 }
    ∷ record { n = 12; f = 3 ∷ 2 ∷ []; g = 1 ∷ 4 ∷ []; value = 2; D = 1 }
    ∷ record { n = 4; f = 1 ∷ 2 ∷ []; g = 3 ∷ 2 ∷ []; value = 0; D = 1 }
    ∷ record { n = 6; f = 2 ∷ []; g = 4 ∷ []; value = 1; D = 2 }
    ∷ record { n = 9; f = 3 ∷ []; g = 1 ∷ 0 ∷ 1 ∷ []; value = 0; D = 3 }
    ∷ record { n = 5; f = 2 ∷ 1 ∷ 0 ∷ []; g = 1 ∷ 1 ∷ []; value = 1; D = 1 }
    ∷ record { n = 5; f = 2 ∷ 1 ∷ []; g = 1 ∷ 1 ∷ []; value = 4; D = 1 }
    ∷ record { n = 5; f = 1 ∷ 0 ∷ []; g = 2 ∷ 0 ∷ []; value = 0; D = 1 }
    ∷ record { n = 10; f = 0 ∷ 0 ∷ []; g = 0 ∷ []; value = 0; D = 10 }
    ∷ record { n = 6; f = 5 ∷ 0 ∷ 1 ∷ []; g = 3 ∷ 1 ∷ []; value = 2; D = 2 }
    ∷ []

-- their certificates; where D reaches all constants, or both polynomials are 0 modulo D, w is x, which divides 0
certificates : List Certificate
certificates =
    record { u = 6 ∷ []; v = 1 ∷ []; w = 0 ∷ 1 ∷ []; a = []; b = [] }
    ∷ record { u = 1 ∷ []; v = 6 ∷ []; w = 0 ∷ 1 ∷ []; a = []; b = [] }
    ∷ record { u = 0 ∷ 2 ∷ []; v = 1 ∷ 2 ∷ []; w = 0 ∷ 1 ∷ []; a = []; b = [] }
    ∷ record { u = 1 ∷ 2 ∷ []; v = []; w = 0 ∷ 1 ∷ []; a = []; b = [] }
    ∷ record { u = 1 ∷ []; v = []; w = 0 ∷ 1 ∷ []; a = []; b = [] }
    ∷ record { u = 1 ∷ []; v = []; w = 1 ∷ 0 ∷ 1 ∷ []; a = []; b = 1 ∷ [] }
    ∷ record { u = 1 ∷ []; v = 4 ∷ []; w = 0 ∷ 1 ∷ []; a = []; b = [] }
    ∷ record { u = 1 ∷ []; v = 4 ∷ []; w = 0 ∷ 1 ∷ []; a = []; b = [] }
    ∷ record { u = 1 ∷ []; v = []; w = 0 ∷ 1 ∷ []; a = []; b = [] }
    ∷ record { u = []; v = []; w = 0 ∷ 1 ∷ []; a = []; b = [] }
    ∷ record { u = 1 ∷ []; v = 3 ∷ 5 ∷ []; w = 1 ∷ 1 ∷ []; a = 1 ∷ 1 ∷ []; b = 1 ∷ [] }
    ∷ []

-- THE TABLE: each starred row's resultant and D
pub table_holds : Every starred
unfolding resultant expansion certificates
table_holds = every starred certificates tt
