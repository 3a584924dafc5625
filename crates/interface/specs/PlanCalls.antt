-- The plan for C: the answer's number, 256 times the count of records, and every byte of the buffer.
-- Assumes nothing.
use Rattle.std.specs.Prelude.{cond, not, List, ℕ, ◌+◌, ◌*◌, length, Option, Some, None}
use Rattle.controller.specs.declared.answers.Answer.{Answer}
use Rattle.controller.specs.declared.answers.Answer.TheVariants.{NotWhole, NotWish}
use Rattle.controller.specs.Bus.{whole}
use Rattle.controller.specs.Answers.{number_of}
use Rattle.planner.specs.declared.wish.Wish.{Wish}
use Rattle.planner.specs.Call.{Reply, laid_out, reply_to}
use Rattle.interface.specs.Filling.{Filling, declined}
use Rattle.interface.specs.WishBytes.{wish_in}

-- The call of a reply.
abbrev pub planning_of : Reply → List ℕ → Filling
planning_of reply out =
    record { returned = number_of reply.answer + 256 * length reply.plan; buffer = laid_out reply.plan out }

-- The answer where there is no wish: 2, then 13.
unfoldable pub wishless : List ℕ → List ℕ → Answer
wishless marks values = cond (not (whole marks)) NotWhole (cond (not (whole values)) NotWhole NotWish)

-- The plan for what the wish's bytes say.
unfoldable pub plan_from : Option Wish → List ℕ → List ℕ → List ℕ → Filling
plan_from None marks values out = declined (wishless marks values) out
plan_from (Some wish) marks values out = planning_of (reply_to wish marks values out) out

-- What `yaropesk_plan` comes to.
abbrev pub plan_call : List ℕ → List ℕ → List ℕ → List ℕ → Filling
plan_call bytes marks values out = plan_from (wish_in bytes) marks values out
