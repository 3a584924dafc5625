-- Laws of the plan for C.
-- Assumes nothing.
use Rattle.std.specs.Prelude.{Some, None, Result}
use mathlib.Core.Bool.{true, not, cond}
use mathlib.Core.List.{List}
use mathlib.Core.Path.{◌≡◌, refl, ap, ◌∙◌}
use Prim.Native.Nat.{ℕ, ◌+◌, ◌*◌, ◌≤◌}
use native.Mathlib.Omega.{arith}
use lib.Dec.{ltb}
use lib.ListN.{length}
use borrow.Author.Tests.{not-false}
use Rattle.controller.specs.declared.answers.Answer.{Answer}
use Rattle.controller.specs.declared.answers.Answer.TheVariants.{Done, NotWhole, NotWish, OutputShort}
use Rattle.controller.specs.Bus.{whole}
use Rattle.controller.specs.Answers.{number_of}
use Rattle.controller.proofs.Laws.Choice.{cond-elim}
use Rattle.lines.specs.Writing.{answer_in, length_in}
use Rattle.planner.specs.declared.wish.Wish.{Wish}
use Rattle.planner.specs.Call.{Returns, Reply, reply_to, result_of, told_of, turned_down, wanted}
use Rattle.planner.specs.Plan.{plan_of}
use Rattle.planner.specs.Wish.{is_wish}
use Rattle.planner.proofs.Laws.Count.{plan_bound}
use Rattle.planner.proofs.Laws.Reply.{reply_cases}
use Rattle.interface.specs.Filling.{Fills}
use Rattle.interface.specs.PlanCalls.{plan_call, plan_from, planning_of, wishless}
use Rattle.interface.specs.WishBytes.{wish_in}

-- the records of a reply are at most 468
pub reply_bound : (wish : Wish) (marks values out : List ℕ) → length (reply_to wish marks values out).plan ≤ 468
reply_bound wish marks values out =
    reply_cases (λ (r : Reply). length r.plan ≤ 468) wish marks values out (omega arith) (omega arith) (omega arith) (plan_bound wish marks values)

-- what is told of a reply is its answer and the number of its records
reply_told : (wish : Wish) (marks values out : List ℕ)
    → (answer_in (result_of (told_of (reply_to wish marks values out))) ≡ (reply_to wish marks values out).answer)
    × (length_in (result_of (told_of (reply_to wish marks values out))) ≡ length (reply_to wish marks values out).plan)
reply_told wish marks values out =
    reply_cases
    (λ (r : Reply). (answer_in (result_of (told_of r)) ≡ r.answer) × (length_in (result_of (told_of r)) ≡ length r.plan))
    wish marks values out (refl, refl) (refl, refl) (refl, refl) (λ _. (refl, refl))

-- and so is the count that is told
pub count_bound : (wish : Wish) (marks values out : List ℕ) (told : Result ℕ Answer) {after : List ℕ}
    → Returns (reply_to wish marks values out) out told after → length_in told ≤ 468
count_bound wish marks values out told met =
    let same = ap length_in met.told ∙ (reply_told wish marks values out).1 in
    let bound = reply_bound wish marks values out in
    omega arith

-- a plan that was written
pub planned_fills : (wish : Wish) (marks values out : List ℕ) (told : Result ℕ Answer) {returned : ℕ} {after : List ℕ}
    → Returns (reply_to wish marks values out) out told after → returned ≡ number_of (answer_in told) + 256 * length_in told
    → Fills (planning_of (reply_to wish marks values out) out) returned after
planned_fills wish marks values out told met is =
    let whole = reply_told wish marks values out in
    record {
      told = is ∙ ap (λ (t : Result ℕ Answer). number_of (answer_in t) + 256 * length_in t) met.told ∙ simp (whole.0, whole.1);
      buffer = met.buffer;
    }

-- bytes that say no wish
pub wishless_fills : (bytes marks values out : List ℕ) {returned : ℕ} → wish_in bytes ≡ None → returned ≡ number_of (wishless marks values)
    → Fills (plan_call bytes marks values out) returned out
unfolding plan_from
wishless_fills bytes marks values out none is = rw none (record { told = is; buffer = refl })

-- bytes that say this wish
pub wished_fills : (bytes marks values out : List ℕ) (wish : Wish) {returned : ℕ} {after : List ℕ} → wish_in bytes ≡ Some wish
    → Fills (planning_of (reply_to wish marks values out) out) returned after → Fills (plan_call bytes marks values out) returned after
unfolding plan_from
wished_fills bytes marks values out wish found fills = rw found fills
