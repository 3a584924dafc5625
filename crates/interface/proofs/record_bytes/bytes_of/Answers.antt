-- `interface::record_bytes::bytes_of`: each of the 24 bytes is what `record_bytes` has in its place.
-- Assumes nothing.
use Rattle.interface.specs.RecordBytes.{record_bytes}
use Rattle.interface.proofs.Laws.Same.{bit_told}
use Rattle.interface.proofs.record_bytes.bytes_of.Goals as goal

pub returns : goal.returns
unfolding record_bytes
returns c =
    simp (
      bit_told,
      c.width_byte.ensures,
      c.memory_byte.ensures,
      c.cell_of.ensures,
      c.half_byte.ensures,
      c.value_byte.ensures,
      c.little_endian-busy.ensures,
      c.khz_bytes-khz.ensures,
    )
