-- What each public function promises: the one predicate that its contract cites.
-- Assumes nothing.
use Rattle.std.specs.Prelude.{List, ℕ, Result}
use Rattle.controller.specs.declared.answers.Answer.{Answer}
use Rattle.planner.specs.declared.wish.Wish.{Wish}
use Rattle.planner.specs.Call.{Returns, reply_to}

-- `plan`: the count of records or the refusal, and every byte of the buffer, by what the call comes to.
abbrev pub PlanPromise : Wish → List ℕ → List ℕ → List ℕ → Result ℕ Answer → List ℕ → Type 0
PlanPromise wish marks values out returned after = Returns (reply_to wish marks values out) out returned after
