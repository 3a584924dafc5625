-- `interface::wish_bytes::wish_bytes_of`: each byte is the one that `wish_bytes` has in its place.
-- Assumes nothing.
use Rattle.interface.specs.WishBytes.{wish_bytes}
use Rattle.interface.proofs.Laws.Same.{bit_told}
use Rattle.interface.proofs.wish_bytes.wish_bytes_of.Goals as goal

pub returns : goal.returns
unfolding wish_bytes
returns c = simp (bit_told, c.khz_bytes-khz.ensures)
