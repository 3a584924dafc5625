-- `drawing::glass::Glass::blocks_byte` meets its contract: a place within the text has a small column and row.
-- Assumes nothing.
use Rattle.drawing.proofs.Laws.Blocks.{blocks_column, blocks_row, blocks_some}
use Rattle.drawing.proofs.glass.Glass.blocks_byte.Goals as goal

pub text_byte-requires-clause-some : goal.text_byte-requires-clause-some
text_byte-requires-clause-some c = rw c.blocks_width.ensures (blocks_some c.args.self.now.grid)

pub text_byte-requires-clause-pre : goal.text_byte-requires-clause-pre
text_byte-requires-clause-pre c =
    let grid = c.args.self.now.grid in
    let small = c.args.self.now.small in
    λ inside lifetimes list values ranges more.
    rw c.blocks_width.ensures (blocks_column grid small c.args.place, blocks_row grid small c.args.place (rw c.blocks_length.ensures at inside))
