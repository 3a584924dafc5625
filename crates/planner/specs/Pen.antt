-- What is written so far: the pen stands at the next record and knows the time that the last instruction takes, and the times of
-- those to come.
-- Assumes nothing.
use Rattle.std.specs.Prelude.{List, [], ◌∷◌, ◌≡◌, ℕ, ◌+◌, ◌*◌, length}
use Rattle.std.proofs.lemmas.List.Edits.{sets}
use Rattle.planner.specs.declared.pen.Pen.{Pen}
use Rattle.planner.specs.declared.pen.Times.{Times}
use Rattle.planner.specs.Plan.{Command, time_of, in_halves, encoded}

-- The time that the last of these commands takes, or the time before them where there is none.
unfoldable pub time_after : Times → ℕ → List Command → ℕ
time_after times before [] = before
time_after times before (command ∷ rest) = time_after times (time_of times command) rest

-- These commands have been written in halves where the pen stood, and the pen stands after them.
pub record Wrote (commands : List Command) (before after : Pen) (out now : List ℕ) : Type 0 where
  pub at : after.at ≡ before.at + 2 * length commands
  pub wait : after.wait ≡ time_after before.times before.wait commands
  pub times : after.times ≡ before.times
  pub buffer : now ≡ sets out (before.at * 6) (encoded (in_halves before.times before.wait commands))
