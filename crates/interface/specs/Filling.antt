-- Calls that write into one lent buffer: what is returned, and every byte of the buffer.
-- Assumes nothing.
use Rattle.std.specs.Prelude.{List, ◌≡◌, ℕ}
use Rattle.controller.specs.declared.answers.Answer.{Answer}
use Rattle.controller.specs.Answers.{number_of}

-- What such a call comes to: the number returned, and the buffer as it is left.
pub record Filling : Type 0 where
  pub returned : ℕ
  pub buffer : List ℕ

-- A refusal returns the bare number and writes nothing.
abbrev pub declined : Answer → List ℕ → Filling
declined answer out = record { returned = number_of answer; buffer = out }

-- What such a call promises.
pub record Fills (call : Filling) (returned : ℕ) (after : List ℕ) : Type 0 where
  pub told : returned ≡ call.returned
  pub buffer : after ≡ call.buffer
