-- The worked examples of S91, checked against the definitions, and values from outside: K and L, the kinds of residues, division,
-- unit times monic, inverse, true degree, the row that is not starred, and products and resultants that another program gave.
--
--   k_of_12, k_of_largest, length_of_cofactors, longest_cofactor    K and L
--   unit_5, nilpotent_6, splits_2    the three kinds modulo 12
--   division_12, factors_4, inverse_8    division, unit times monic, inverse
--   degree_below_zeros, degree_over_zeros    the true degree
--   largest_modulus, content_stays    the row that is not starred; a content that is no factor of D
--   resultant_of_product, resultant_of_first, resultant_of_second, seven_rows    values of another program
use Rattle.std.specs.Prelude.{◌≡◌, refl, [], ◌∷◌, zero, suc}
use Rattle.std.proofs.Math.Nat.{dvd-sub, eq-one_of_dvd-one}
use Rattle.std.proofs.Common.{arith}
use Rattle.definitions.specs.Expansions.{expansion}
use Rattle.definitions.specs.Polynomials.{product, L, extent, place, true_degree, Division, UnitTimesMonic, InverseOf}
use Rattle.definitions.specs.Residues.{K, halvings, Inverse, IsNilpotent, Splitting}
use Rattle.definitions.specs.Resultants.{resultant}
use Rattle.law_polynomials.specs.Computed.{below_by, multiplied_by, divided_by, inverse_by}
use Rattle.law_polynomials.specs.StarredRows.{Holds, sound}

-- S4: "K is the largest whole number with 2^K <= n", at 12 and at the largest modulus
k_of_12 : K 12 ≡ 3
unfolding K halvings
k_of_12 = refl

k_of_largest : K 4294967295 ≡ 31
unfolding K halvings
k_of_largest = refl

-- S19: "Cofactor length L = K times the larger sent degree, plus 1"
length_of_cofactors : L 12 1 2 ≡ 7
unfolding K halvings
length_of_cofactors = refl

longest_cofactor : L 4294967295 48 48 ≡ 1489
unfolding K halvings
longest_cofactor = refl

-- S91: "Modulo 12: 5 unit, 6 nilpotent, 2 splits into 4 and 3."
unit_5 : Inverse 12 5 5
unit_5 = record { below = omega arith; one = refl }

nilpotent_6 : IsNilpotent 12 6
nilpotent_6 = record { exponent = 2; power = refl }

splits_2 : Splitting 12 2 4 3
splits_2 = record {
  product = refl;
  above₁ = omega arith;
  above₂ = omega arith;
  coprime = record { only = λ k p q. eq-one_of_dvd-one (dvd-sub k p q) };
  nilpotent = record { exponent = 2; power = refl };
  unit = record { inverse = 2; is = record { below = omega arith; one = refl } };
}

-- S91: "1,0,1 divided by 1,5 modulo 12: quotient 11,5, remainder 2."
division_12 : Division 12 (1 ∷ 0 ∷ 1 ∷ []) (1 ∷ 5 ∷ []) (11 ∷ 5 ∷ []) (2 ∷ [])
division_12 = record {
  length_q = refl;
  length_r = refl;
  residues_q = below_by 12 (11 ∷ 5 ∷ []) tt;
  residues_r = below_by 12 (2 ∷ []) tt;
  short = λ l. absurd (omega arith);
  equation = divided_by 12 (1 ∷ 0 ∷ 1 ∷ []) (1 ∷ 5 ∷ []) (11 ∷ 5 ∷ []) (2 ∷ []) tt;
}

-- S91: "Modulo 4: 3,1,2 is 3,2 times 1,1", the parts filled up to three words
factors_4 : UnitTimesMonic 4 (3 ∷ 1 ∷ 2 ∷ []) 1 (3 ∷ 2 ∷ 0 ∷ []) (1 ∷ 1 ∷ 0 ∷ [])
factors_4 = record {
  length_u = refl;
  length_h = refl;
  residues_u = below_by 4 (3 ∷ 2 ∷ 0 ∷ []) tt;
  residues_h = below_by 4 (1 ∷ 1 ∷ 0 ∷ []) tt;
  unit = record {
    unit = record { inverse = 3; is = record { below = omega arith; one = refl } };
    nilpotent = elim [
      | zero ↦ λ l. absurd (omega arith)
      | suc zero ↦ λ l. record { exponent = 2; power = refl }
      | suc (suc zero) ↦ λ l. record { exponent = 1; power = refl }
      | suc (suc (suc k)) ↦ λ l. record { exponent = 1; power = refl }
    ];
  };
  monic = record {
    lead = refl;
    above = elim [
      | zero ↦ λ l. absurd (omega arith)
      | suc zero ↦ λ l. absurd (omega arith)
      | suc (suc zero) ↦ λ l. refl
      | suc (suc (suc k)) ↦ λ l. refl
    ];
  };
  equation = multiplied_by 4 (3 ∷ 1 ∷ 2 ∷ []) (3 ∷ 2 ∷ 0 ∷ []) (1 ∷ 1 ∷ 0 ∷ []) tt;
}

-- S91: "Modulo 8 the inverse of 1,2 is 1,6,4", filled up to K d + 1 = 4 words
inverse_8 : InverseOf 8 (1 ∷ 2 ∷ []) (1 ∷ 6 ∷ 4 ∷ 0 ∷ [])
unfolding K halvings
inverse_8 = record {
  length_w = refl;
  residues_w = below_by 8 (1 ∷ 6 ∷ 4 ∷ 0 ∷ []) tt;
  equation = inverse_by 8 (1 ∷ 2 ∷ []) (1 ∷ 6 ∷ 4 ∷ 0 ∷ []) tt;
}

-- S18: "the place of the highest nonzero coefficient"
degree_below_zeros : true_degree (2 ∷ 1 ∷ 0 ∷ []) ≡ place 1
unfolding extent
degree_below_zeros = refl

degree_over_zeros : true_degree (1 ∷ 0 ∷ 3 ∷ 0 ∷ 0 ∷ []) ≡ place 2
unfolding extent
degree_over_zeros = refl

-- the row that is not starred
largest_modulus : Holds (record { n = 4294967295; f = 4294967294 ∷ []; g = 0 ∷ 1 ∷ []; value = 4294967294; D = 1 })
unfolding resultant expansion
largest_modulus = sound _ (record { u = 4294967294 ∷ []; v = []; w = 0 ∷ 1 ∷ []; a = []; b = [] }) tt

-- S92: "A content of f taken out as a factor of D though the top word of g is no unit: modulo 4, f = 2 and g = 1,2 would give 2, and D is
-- 1."
content_stays : Holds (record { n = 4; f = 2 ∷ []; g = 1 ∷ 2 ∷ []; value = 2; D = 1 })
unfolding resultant expansion
content_stays = sound _ (record { u = []; v = 1 ∷ 2 ∷ []; w = 0 ∷ 1 ∷ []; a = []; b = [] }) tt

-- a product whose top word is 0, and resultants that another program gave
product_12 : product 12 (3 ∷ 2 ∷ []) (5 ∷ 4 ∷ 0 ∷ []) ≡ 3 ∷ 10 ∷ 8 ∷ 0 ∷ []
product_12 = refl

resultant_of_product : resultant 12 (3 ∷ 10 ∷ 8 ∷ 0 ∷ []) (7 ∷ 5 ∷ 9 ∷ []) ≡ 3
unfolding resultant expansion
resultant_of_product = refl

resultant_of_first : resultant 12 (3 ∷ 2 ∷ []) (7 ∷ 5 ∷ 9 ∷ []) ≡ 7
unfolding resultant expansion
resultant_of_first = refl

resultant_of_second : resultant 12 (5 ∷ 4 ∷ 0 ∷ []) (7 ∷ 5 ∷ 9 ∷ []) ≡ 9
unfolding resultant expansion
resultant_of_second = refl

seven_rows : resultant 1000003 (3 ∷ 2 ∷ 8 ∷ 1 ∷ 5 ∷ []) (1 ∷ 4 ∷ 9 ∷ 6 ∷ []) ≡ 79963
unfolding resultant expansion
seven_rows = refl
