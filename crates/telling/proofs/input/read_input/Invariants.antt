-- `telling::input::read_input`. The invariant: the loan keeps its length, what was read fits it, and is what the input has lost.
-- The measure is what is left of the buffer. Assumes nothing.
use Rattle.std.proofs.Common.{length, take, ◌-◌, ◌≡◌, ◌≤◌}
use Rattle.std.specs.Io.KnownBytes.{Consumes}
use Rattle.telling.proofs.input.read_input.Given as goal

abbrev pub invariant-loop-length : goal.invariant-loop-length
invariant-loop-length g l =
    (length l.input ≡ length l.initial.input) × (l.length ≤ length l.input)
    × Consumes (g.R.Read.remaining l.initial.from) (g.R.Read.remaining l.from) (take l.length l.input)

abbrev pub decreases-loop-length : goal.decreases-loop-length
decreases-loop-length g l = length l.initial.input - l.length
