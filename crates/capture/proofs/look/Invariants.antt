-- `capture::look` is safe and ends: a line that stands has at least 7 bytes, all of them in the text, so that there are no more
-- lines than bytes. The measure is what is left of the text. Assumes nothing.
use Rattle.std.proofs.Common.{◌+◌, ◌-◌, ◌<◌, ◌≤◌, IfSome, length}
use Rattle.capture.proofs.look.Given as goal

abbrev pub invariant-loop-line : goal.invariant-loop-line
invariant-loop-line l =
    (0 < l.number) × IfSome l.close (λ c. c.pulses < l.number) × (l.number ≤ l.from + 1)
    × (l.from ≤ length l.text) × (length l.text < 9223372036854775808)

abbrev pub decreases-loop-line : goal.decreases-loop-line
decreases-loop-line l = length l.text - l.from
