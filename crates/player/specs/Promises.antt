-- What each public function promises: the one predicate that its contract cites.
-- Assumes nothing.
use Rattle.std.specs.Prelude.{List, ◌≡◌, ℕ, Result}
use Rattle.controller.specs.declared.oscillator.Frequency.{Frequency}
use Rattle.controller.specs.declared.answers.Answer.{Answer}
use Rattle.lines.specs.Writing.{Writes}
use Rattle.player.specs.declared.through.Standing.{Standing}
use Rattle.player.specs.Report.{playing}
use Rattle.player.specs.Standing.{standing}

-- `play`: the report's length or the refusal, and every byte of the buffer.
abbrev pub PlayPromise : List ℕ → Frequency → List ℕ → Result ℕ Answer → List ℕ → Type 0
PlayPromise text frequency out returned after = Writes (playing frequency text out) out returned after

-- `play_through`: how at most so many lines of the text leave the bench.
abbrev pub PlayThroughPromise : List ℕ → Frequency → ℕ → Standing → Type 0
PlayThroughPromise text frequency most returned = returned ≡ standing frequency text most
