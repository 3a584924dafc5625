-- Laws of levels and their numbers.
-- Assumes nothing.
use Rattle.std.proofs.Common.{◌≡◌, Bool, true, false, ◌||◌, eqb, List, [], ◌∷◌, length, take, drop, refl, ap, ◌∙◌, arith}
use Rattle.std.specs.List.{list_any}
use Rattle.captures.specs.declared.form.Level.{Level}
use Rattle.captures.specs.Form.{number_of_level, numbers_of}
use Rattle.captures.specs.Import.{bus_open, one_open}

or_four : (a b c d e : Bool) → a || (b || (c || (d || e))) ≡ (a || (b || (c || d))) || e
or_four true b c d e = refl
or_four false true c d e = refl
or_four false false true d e = refl
or_four false false false true e = refl
or_four false false false false e = refl

or_none_last : (a b c d : Bool) → a || (b || (c || (d || false))) ≡ a || (b || (c || d))
or_none_last true b c d = refl
or_none_last false true c d = refl
or_none_last false false true d = refl
or_none_last false false false true = refl
or_none_last false false false false = refl

or_eight : (a b c d e f g h : Bool)
    → a || (b || (c || (d || (e || (f || (g || (h || false))))))) ≡ (a || (b || (c || d))) || (e || (f || (g || h)))
or_eight a b c d e f g h =
    or_four a b c d (e || (f || (g || (h || false)))) ∙ ap (λ (t : Bool). (a || (b || (c || d))) || t) (or_none_last e f g h)

-- x or z on one of DB0 to DB7
bus_any : (test : Level → Bool) → ((level : Level) → test level ≡ eqb (number_of_level level) 2) → (levels : List Level) → length levels ≡ 11
    → list_any test (take 8 (drop 3 levels)) ≡ bus_open (numbers_of levels)
unfolding bus_open one_open
bus_any test is [] long = absurd (omega arith)
bus_any test is (l0 ∷ []) long = absurd (omega arith)
bus_any test is (l0 ∷ l1 ∷ []) long = absurd (omega arith)
bus_any test is (l0 ∷ l1 ∷ l2 ∷ []) long = absurd (omega arith)
bus_any test is (l0 ∷ l1 ∷ l2 ∷ l3 ∷ []) long = absurd (omega arith)
bus_any test is (l0 ∷ l1 ∷ l2 ∷ l3 ∷ l4 ∷ []) long = absurd (omega arith)
bus_any test is (l0 ∷ l1 ∷ l2 ∷ l3 ∷ l4 ∷ l5 ∷ []) long = absurd (omega arith)
bus_any test is (l0 ∷ l1 ∷ l2 ∷ l3 ∷ l4 ∷ l5 ∷ l6 ∷ []) long = absurd (omega arith)
bus_any test is (l0 ∷ l1 ∷ l2 ∷ l3 ∷ l4 ∷ l5 ∷ l6 ∷ l7 ∷ []) long = absurd (omega arith)
bus_any test is (l0 ∷ l1 ∷ l2 ∷ l3 ∷ l4 ∷ l5 ∷ l6 ∷ l7 ∷ l8 ∷ []) long = absurd (omega arith)
bus_any test is (l0 ∷ l1 ∷ l2 ∷ l3 ∷ l4 ∷ l5 ∷ l6 ∷ l7 ∷ l8 ∷ l9 ∷ []) long = absurd (omega arith)
bus_any test is (l0 ∷ l1 ∷ l2 ∷ l3 ∷ l4 ∷ l5 ∷ l6 ∷ l7 ∷ l8 ∷ l9 ∷ l10 ∷ []) long =
    simp (is l3, is l4, is l5, is l6, is l7, is l8, is l9, is l10)
    (or_eight (at l3) (at l4) (at l5) (at l6) (at l7) (at l8) (at l9) (at l10))
  where
    at : Level → Bool
    at level = eqb (number_of_level level) 2
bus_any test is (l0 ∷ l1 ∷ l2 ∷ l3 ∷ l4 ∷ l5 ∷ l6 ∷ l7 ∷ l8 ∷ l9 ∷ l10 ∷ more ∷ rest) long = absurd (omega arith)

pub bus_tested : {test : Level → Bool} {r : Bool} (levels : List Level) → r ≡ list_any test (take 8 (drop 3 levels))
    → ((level : Level) → test level ≡ eqb (number_of_level level) 2) → length levels ≡ 11 → r ≡ bus_open (numbers_of levels)
bus_tested {test} levels tested is long = tested ∙ bus_any test is levels long
