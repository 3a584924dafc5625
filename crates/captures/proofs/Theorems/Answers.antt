-- Each number of import is given exactly where its row applies, and no second answer fits.
-- Assumes nothing.
use Rattle.std.proofs.Common.{◌≡◌, ℕ, Bool, true, false, cond, not, ltb, ◌⊎◌, List, [], ◌∷◌, length, sym, refl, ap, ◌∙◌, inl, inr, arith}
use mathlib.Core.Bool.{false≢true}
use borrow.Author.Tests.{not-false}
use Rattle.controller.proofs.Laws.Answers.{none_applies, one_answer, row_applies, tells_as}
use Rattle.controller.proofs.Laws.Tests.{Tests, tests_and, tests_as, tests_eq, tests_false, tests_lt, tests_not, tests_or}
use Rattle.controller.proofs.Laws.Choice.{cond-elim}
use Rattle.controller.specs.Answers.{is_done, number_of}
use Rattle.controller.specs.declared.answers.Answer.TheVariants.{OutsideSubset}
use Rattle.lines.specs.Writing.{wanting}
use Rattle.lines.proofs.Laws.Digits.{either}
use Rattle.lines.proofs.Laws.Nothing.{WritesNothing, wanting_nothing}
use Rattle.lines.proofs.Theorems.One.{one_writing}
use Rattle.captures.specs.Import.{bus_open, one_open, unknown_at, falls_of, in_subset, is_missing, unknown_in, session_text, judged, judgement_of, importing}
use Rattle.captures.specs.Falls.{Fall, level_at}
use Rattle.captures.specs.Grammar.{InSubset}
use Rattle.captures.specs.Theorems.{Some, UnknownAt, import_rows, ImportAnswers, OneImport}
use Rattle.captures.proofs.Theorems.Subset.{inside, is_inside, missing_tests}

-- x or z at a fall
bus_tests : (levels : List ℕ) → Tests (bus_open levels) (Some (λ line. level_at levels line ≡ 2) (3 ∷ 4 ∷ 5 ∷ 6 ∷ 7 ∷ 8 ∷ 9 ∷ 10 ∷ []))
unfolding bus_open one_open Some
bus_tests levels =
    tests_as to from
    (tests_or _ _ (four 3 4 5 6) (four 7 8 9 10))
  where
    at : ℕ → Type 0
    at line = level_at levels line ≡ 2

    four : (a b c d : ℕ) → Tests (one_open (level_at levels a) (level_at levels b) (level_at levels c) (level_at levels d)) (at a ⊎ (at b ⊎ (at c ⊎ at d)))
    four a b c d = tests_or _ _ (tests_eq _ 2) (tests_or _ _ (tests_eq _ 2) (tests_or _ _ (tests_eq _ 2) (tests_eq _ 2)))

    to : (at 3 ⊎ (at 4 ⊎ (at 5 ⊎ at 6))) ⊎ (at 7 ⊎ (at 8 ⊎ (at 9 ⊎ at 10))) → Some at (3 ∷ 4 ∷ 5 ∷ 6 ∷ 7 ∷ 8 ∷ 9 ∷ 10 ∷ [])
    to (inl (inl x)) = inl x
    to (inl (inr (inl x))) = inr (inl x)
    to (inl (inr (inr (inl x)))) = inr (inr (inl x))
    to (inl (inr (inr (inr x)))) = inr (inr (inr (inl x)))
    to (inr (inl x)) = inr (inr (inr (inr (inl x))))
    to (inr (inr (inl x))) = inr (inr (inr (inr (inr (inl x)))))
    to (inr (inr (inr (inl x)))) = inr (inr (inr (inr (inr (inr (inl x))))))
    to (inr (inr (inr (inr x)))) = inr (inr (inr (inr (inr (inr (inr (inl x)))))))

    from : Some at (3 ∷ 4 ∷ 5 ∷ 6 ∷ 7 ∷ 8 ∷ 9 ∷ 10 ∷ []) → (at 3 ⊎ (at 4 ⊎ (at 5 ⊎ at 6))) ⊎ (at 7 ⊎ (at 8 ⊎ (at 9 ⊎ at 10)))
    from (inl x) = inl (inl x)
    from (inr (inl x)) = inl (inr (inl x))
    from (inr (inr (inl x))) = inl (inr (inr (inl x)))
    from (inr (inr (inr (inl x)))) = inl (inr (inr (inr x)))
    from (inr (inr (inr (inr (inl x))))) = inr (inl x)
    from (inr (inr (inr (inr (inr (inl x)))))) = inr (inr (inl x))
    from (inr (inr (inr (inr (inr (inr (inl x))))))) = inr (inr (inr (inl x)))
    from (inr (inr (inr (inr (inr (inr (inr (inl x)))))))) = inr (inr (inr (inr x)))
    from (inr (inr (inr (inr (inr (inr (inr (inr x)))))))) = absurd x

unknown_tests : (fell : List Fall) → Tests (unknown_in fell) (Some UnknownAt fell)
unfolding unknown_in unknown_at Some
unknown_tests [] = record { yes = λ e. false≢true e; no = λ _ is. is }
unknown_tests (fall ∷ later) =
    tests_or _ _
    (tests_or _ _ (tests_eq _ 2) (tests_or _ _ (tests_eq _ 2) (tests_and _ _ (tests_eq _ 0) (bus_tests fall.levels))))
    (unknown_tests later)

-- a text is outside where it is not inside
outside_tests : (capture : List ℕ) → Tests (not (in_subset capture)) (InSubset capture → ⊥)
outside_tests capture =
    tests_not (record { yes = inside capture; no = λ e stands. false≢true (sym e ∙ is_inside capture stands) })

-- the number that the chain of choices gives
abbrev chain : Bool → Bool → Bool → Bool → ℕ
chain inside missing unknown short = cond (not inside) 14 (cond missing 15 (cond unknown 28 (cond short 11 0)))

abbrev too_short : List ℕ → List ℕ → Bool
too_short capture out = ltb (length out) (length (session_text capture))

-- its tests by name
numbers : (capture out : List ℕ) (inside missing unknown short : Bool) → in_subset capture ≡ inside → is_missing capture ≡ missing
    → unknown_in (falls_of capture) ≡ unknown → too_short capture out ≡ short
    → number_of (importing capture out).answer ≡ chain (in_subset capture) (is_missing capture) (unknown_in (falls_of capture)) (too_short capture out)
unfolding importing judged wanting
numbers capture out false missing unknown short i m u s = simp i
numbers capture out true true unknown short i m u s = simp (i, m)
numbers capture out true false true short i m u s = simp (i, m, u)
numbers capture out true false false true i m u s = simp (i, m, u, s)
numbers capture out true false false false i m u s = simp (i, m, u, s)

number_of_lem : (capture out : List ℕ)
    → number_of (importing capture out).answer ≡ chain (in_subset capture) (is_missing capture) (unknown_in (falls_of capture)) (too_short capture out)
number_of_lem capture out = numbers capture out _ _ _ _ refl refl refl refl

pub import_answers : ImportAnswers
unfolding import_rows
import_answers capture out =
    tells_as _ _ _ (number_of_lem capture out)
    (row_applies _ _ _ _ (outside_tests capture)
    (λ not-outside. row_applies _ _ _ _
    (missing_tests capture (inside capture (not-false _ (tests_false (outside_tests capture) not-outside))))
    (λ _. row_applies _ _ _ _ (unknown_tests (falls_of capture))
    (λ _. row_applies _ _ _ _ (tests_lt (length out) (length (session_text capture))) (λ _. none_applies)))))

-- it is 14 exactly where the text is outside the subset, whatever the buffer
pub outside_first : (capture out other : List ℕ) → (importing capture out).answer ≡ OutsideSubset → (importing capture other).answer ≡ OutsideSubset
outside_first capture out other refused =
    let from : List ℕ → Bool → ℕ = λ o b. chain b (is_missing capture) (unknown_in (falls_of capture)) (too_short capture o) in
    either (in_subset capture)
    (λ inside. absurd (none-else (is_missing capture) (unknown_in (falls_of capture)) (too_short capture out)
    (sym (ap number_of refused) ∙ number_of_lem capture out ∙ ap (from out) inside)))
    (λ outside. one_answer _ OutsideSubset (number_of_lem capture other ∙ ap (from other) outside))
  where
    none-else : (m u s : Bool) → ◌≡◌ {A = ℕ} 14 (chain true m u s) → ⊥
    none-else true u s e = absurd (omega arith)
    none-else false true s e = absurd (omega arith)
    none-else false false true e = absurd (omega arith)
    none-else false false false e = absurd (omega arith)

-- a refusal writes nothing
pub import_nothing : (capture out : List ℕ) → WritesNothing (importing capture out)
unfolding importing
import_nothing capture out =
    cond-elim WritesNothing (is_done (judgement_of capture)) _ _
    (λ _. wanting_nothing (length (session_text capture)) (session_text capture) out) (λ _ _. refl)

pub one_import : OneImport
one_import capture out a b x y is also = one_writing (importing capture out) out a b x y is also
