-- `captures::form::number_of` meets its contract. The invariant: the digits that are left, behind the number so far, say what all of them say.
-- Assumes nothing.
use Rattle.std.proofs.Common.{◌≡◌, ◌≤◌, drop}
use Rattle.captures.specs.Form.{number_of, stamp_limit}
use Rattle.captures.proofs.form.number_of.Given as goal

abbrev pub invariant-loop-byte : goal.invariant-loop-byte
invariant-loop-byte l = (l.value ≤ stamp_limit) × (number_of l.value (drop l.byte-index l.digits) ≡ number_of 0 l.digits)
