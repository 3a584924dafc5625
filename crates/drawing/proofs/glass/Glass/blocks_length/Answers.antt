-- `drawing::glass::Glass::blocks_length` meets its contract: the rows of a small grid are few.
-- Assumes nothing.
use native.Mathlib.Omega.{arith}
use Rattle.drawing.proofs.Laws.Blocks.{blocks_product}
use Rattle.drawing.proofs.glass.Glass.blocks_length.Goals as goal

pub overflow_mul-result : goal.overflow_mul-result
overflow_mul-result c = rw (c.blocks_width.ensures, c.last_y.ensures.value) (omega (arith, blocks_product c.args.self.now.grid c.args.self.now.small))
