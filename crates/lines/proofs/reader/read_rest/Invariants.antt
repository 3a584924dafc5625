-- `lines::reader::read_rest`: what is left to read, with the value of the digits before it, is what was to be read at the start; the
-- value stays within the limit, and no place is past the text or the first one.
-- Assumes nothing.
use Prim.Native.Nat.{◌≤◌, max}
use mathlib.Core.Path.{◌≡◌}
use lib.ListN.{drop, length}
use Rattle.lines.specs.Line.{wait_limit}
use Rattle.lines.specs.Reading.{rest_of}
use Rattle.lines.proofs.reader.read_rest.Given as goal

abbrev pub invariant-loop-place : goal.invariant-loop-place
invariant-loop-place l =
    (l.place ≤ max (length l.text) 6)
    × (l.value ≤ wait_limit)
    × (rest_of l.place l.value (drop l.place l.text) ≡ rest_of 6 l.fn.first (drop 6 l.text))
