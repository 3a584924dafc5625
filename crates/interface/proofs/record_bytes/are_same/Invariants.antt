-- `interface::record_bytes::are_same`: the bytes that are left are the same exactly where all of them are.
-- Assumes nothing.
use Rattle.std.proofs.Common.{◌≡◌, drop}
use Rattle.interface.specs.RecordBytes.{same_bytes}
use Rattle.interface.proofs.record_bytes.are_same.Given as goal

abbrev pub invariant-loop-at : goal.invariant-loop-at
invariant-loop-at g l = same_bytes (drop l.at l.bytes) (drop l.at l.own) ≡ same_bytes l.bytes l.own
