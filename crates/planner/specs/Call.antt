-- The public call: plan, with its refusals in order (document 01, "The plan", "What each number says").
-- Assumes nothing.
use Rattle.std.specs.Prelude.{cond, not, List, [], ◌++◌, ◌≡◌, ℕ, ltb, length, drop, Result, Ok, Err}
use Rattle.controller.specs.Bus.{whole}
use Rattle.controller.specs.Answers.{number_of, is_done}
use Rattle.controller.specs.declared.sent.Sent.{Sent}
use Rattle.controller.specs.declared.answers.Answer.{Answer}
use Rattle.controller.specs.declared.answers.Answer.TheVariants.{Done, NotWhole, OutputShort, NotWish}
use Rattle.planner.specs.declared.wish.Wish.{Wish}
use Rattle.planner.specs.Plan.{plan_of, encoded}
use Rattle.planner.specs.Wish.{is_wish}

-- What a call for a plan comes to: the answer, and the transfers planned, none where it is refused.
pub record Reply : Type 0 where
  pub answer : Answer
  pub plan : List Sent

-- A refusal: this answer, and no records.
abbrev pub turned_down : Answer → Reply
turned_down answer = record { answer = answer; plan = [] }

-- The buffer must have 2,808 bytes: 468 records of six.
unfoldable pub wanted : ℕ
wanted = 2808

-- The refusals in their order: 2, 13, 11.
unfoldable pub reply_to : Wish → List ℕ → List ℕ → List ℕ → Reply
reply_to wish marks values out =
    cond (not (whole marks)) (turned_down NotWhole)
    (cond (not (whole values)) (turned_down NotWhole)
    (cond (not (is_wish wish marks)) (turned_down NotWish)
    (cond (ltb (length out) wanted) (turned_down OutputShort)
    (record { answer = Done; plan = plan_of wish marks values }))))

-- The buffer with a plan's records at its start; the bytes past the last record stay.
unfoldable pub laid_out : List Sent → List ℕ → List ℕ
laid_out plan out = encoded plan ++ drop (length (encoded plan)) out

-- An answer, and how many records were written.
pub record Planned : Type 0 where
  pub answer : Answer
  pub count : ℕ

-- What is to be told of a reply.
abbrev pub told_of : Reply → Planned
told_of reply = record { answer = reply.answer; count = length reply.plan }

-- As the caller of `plan` is told it: the count where the answer is 0, and else the refusal.
abbrev pub result_of : Planned → Result ℕ Answer
result_of planned = cond (is_done planned.answer) (Ok planned.count) (Err planned.answer)

-- What a result tells: the answer 0 with this count, or the refusal with none.
abbrev pub planned_in : Result ℕ Answer → Planned
planned_in (Ok count) = record { answer = Done; count = count }
planned_in (Err refusal) = record { answer = refusal; count = 0 }

-- A reply in full: the answer, its number in the table, the count of records, and every byte of the buffer.
pub record Plans (reply : Reply) (before : List ℕ) (returned : Planned) (after : List ℕ) : Type 0 where
  pub told : returned ≡ told_of reply
  pub number : number_of returned.answer ≡ number_of reply.answer
  pub buffer : after ≡ laid_out reply.plan before

-- What `plan` promises of a reply: what is returned, every byte of the buffer, and the reply in full as the result tells it.
pub record Returns (reply : Reply) (before : List ℕ) (returned : Result ℕ Answer) (after : List ℕ) : Type 0 where
  pub told : returned ≡ result_of (told_of reply)
  pub buffer : after ≡ laid_out reply.plan before
  pub plans : Plans reply before (planned_in returned) after
