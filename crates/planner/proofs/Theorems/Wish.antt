-- What is answered to which wish, and what is not a wish.
-- Assumes nothing.
use mathlib.Core.Bool.{Bool, true, false, cond, not, ◌&&◌, true≢false}
use mathlib.Core.List.{List, [], ◌∷◌}
use mathlib.Core.Logic.{◌⊎◌}
use mathlib.Core.Path.{◌≡◌, refl, sym, ap, ◌∙◌}
use Prim.Native.Nat.{ℕ, ◌≤◌}
use lib.Dec.{ltb}
use lib.ListN.{length}
use Rattle.controller.proofs.Laws.Choice.{cond-elim, cond_map, and_left, and_right}
use Rattle.controller.proofs.Laws.Answers.{none_applies, row_applies, tells_as}
use Rattle.controller.proofs.Laws.Rows.{range_fails, whole_fails}
use Rattle.controller.proofs.Laws.Tests.{Fails, Tests, fails_and, fails_as, fails_false, fails_le, fails_lt, fails_not, tests_fails, tests_lt}
use Rattle.controller.specs.Rows.{NotLong}
use Rattle.controller.specs.Bus.{whole}
use Rattle.controller.specs.Cells.{line_length}
use Rattle.controller.specs.Answers.{number_of, Tells}
use Rattle.controller.specs.declared.answers.Answer.TheVariants.{NotWhole}
use Rattle.planner.specs.declared.wish.Wish.{Wish}
use Rattle.planner.specs.Call.{Planned, Reply, wanted, turned_down, reply_to, laid_out}
use Rattle.planner.specs.Plan.{encoded}
use Rattle.planner.specs.Theorems.{plan_rows, PlanAnswers, MarkAbove, NotWished, NotWishes, PlanRefusals, OnePlan}
use Rattle.planner.specs.Wish.{marks_fit, is_wish}

abbrev numbered : Reply → ℕ
numbered r = number_of r.answer

-- either of two memories of the wrong length
either : (a b : Bool) (later : Reply) (n : ℕ) → numbered later ≡ n
    → numbered (cond (not a) (turned_down NotWhole) (cond (not b) (turned_down NotWhole) later)) ≡ cond (not (a && b)) 2 n
either true true later n is = is
either true false later n is = refl
either false b later n is = refl

reply_number : (wish : Wish) (marks values out : List ℕ)
    → numbered (reply_to wish marks values out) ≡ cond (not (whole marks && whole values)) 2 (cond (not (is_wish wish marks)) 13 (cond (ltb (length out) wanted) 11 0))
unfolding reply_to
reply_number wish marks values out =
    either (whole marks) (whole values) _ _
    (cond_map numbered (not (is_wish wish marks)) _ _ 13 _ (λ _. refl)
    (λ _. cond_map numbered (ltb (length out) wanted) _ _ 11 0 (λ _. refl) (λ _. refl)))

marks_fail : (marks : List ℕ) → Fails (marks_fit marks) (MarkAbove marks)
unfolding marks_fit MarkAbove
marks_fail [] = record { yes = true≢false; no = λ _ none. none }
marks_fail (mark ∷ marks) = fails_and _ _ (fails_le mark 1) (marks_fail marks)

-- N and F both 1
both_fail : (n f : Bool) → Fails (not (n && f)) ((n ≡ true) × (f ≡ true))
both_fail n f =
    fails_as (λ (both : (n && f) ≡ true). (and_left n f both, and_right n f both)) (λ both. rw (both.0, both.1) refl) (fails_not (n && f))

shift_fails : (n : Bool) (shift : ℕ) → Fails (ltb shift (line_length n)) (cond n 40 80 ≤ shift)
shift_fails true shift = fails_lt shift 40
shift_fails false shift = fails_lt shift 80

pub wish_fails : (wish : Wish) (marks : List ℕ) → Fails (is_wish wish marks) (NotWished wish marks)
unfolding is_wish
wish_fails wish marks =
    fails_and _ _ (both_fail wish.function.n wish.function.f)
    (fails_and _ _ (shift_fails wish.function.n wish.shift) (fails_and _ _ (fails_lt wish.cursor 80)
    (fails_and _ _ (range_fails wish.frequency) (marks_fail marks))))

-- marks or values not 144 long
pub lengths_fail : (marks values : List ℕ) → Tests (not (whole marks && whole values)) (NotLong marks ⊎ NotLong values)
lengths_fail marks values = tests_fails _ (fails_and _ _ (whole_fails marks) (whole_fails values))

-- the rows after the lengths, where this says what is not a wish
pub plan_given : (wish : Wish) (marks values out : List ℕ) {NotOne : Type 0} → Tests (not (is_wish wish marks)) NotOne
    → Tells (numbered (reply_to wish marks values out)) (plan_rows NotOne marks values out)
unfolding plan_rows wanted
plan_given wish marks values out none =
    tells_as _ _ _ (reply_number wish marks values out)
    (row_applies _ _ _ _ (lengths_fail marks values)
    (λ _. row_applies _ _ _ _ none (λ _. row_applies _ _ _ _ (tests_lt (length out) 2808) (λ _. none_applies))))

pub plan_answers : PlanAnswers
plan_answers wish marks values out = plan_given wish marks values out (tests_fails (is_wish wish marks) (wish_fails wish marks))

pub not_wishes : NotWishes
not_wishes wish marks =
    ((wish_fails wish marks).yes, λ not-wished. fails_false (is_wish wish marks) (wish_fails wish marks) not-wished)

pub one_plan : OnePlan
one_plan = record {
  result = λ wish marks values out a b x y is also. (is.told ∙ sym also.told, is.buffer ∙ sym also.buffer);
  reply = λ wish marks values out a b x y is also. (is.told ∙ sym also.told, is.buffer ∙ sym also.buffer);
}

-- a reply with another number than 0 plans nothing
none_planned : (wish : Wish) (marks values out : List ℕ) → (numbered (reply_to wish marks values out) ≡ 0 → ⊥) → (reply_to wish marks values out).plan ≡ []
unfolding reply_to
none_planned wish marks values out =
    let P : Reply → Type 0 = λ r. (numbered r ≡ 0 → ⊥) → r.plan ≡ [] in
    cond-elim P (not (whole marks)) _ _ (λ _ _. refl)
    (λ _. cond-elim P (not (whole values)) _ _ (λ _ _. refl)
    (λ _. cond-elim P (not (is_wish wish marks)) _ _ (λ _ _. refl)
    (λ _. cond-elim P (ltb (length out) wanted) _ _ (λ _ _. refl) (λ _ other. absurd (other refl)))))

pub plan_refusals : PlanRefusals
unfolding laid_out encoded
plan_refusals wish marks values out returned after meets refused =
    let none = none_planned wish marks values out (λ e. refused (ap (λ (p : Planned). number_of p.answer) meets.told ∙ e)) in (
      ap (λ (p : Planned). p.count) meets.told ∙ ap length none,
      meets.buffer ∙ ap (λ plan. laid_out plan out) none,
    )
