-- `drawing::glass::Glass::frame_byte` meets its contract: a place within the text has a small column and row.
-- Assumes nothing.
use Rattle.drawing.proofs.Laws.Drawing.{width_some, frame_column, frame_row}
use Rattle.drawing.proofs.glass.Glass.frame_byte.Goals as goal

pub text_byte-requires-clause-some : goal.text_byte-requires-clause-some
text_byte-requires-clause-some c = rw c.frame_width.ensures.value (width_some c.args.self.now.grid)

pub text_byte-requires-clause-pre : goal.text_byte-requires-clause-pre
text_byte-requires-clause-pre c =
    let grid = c.args.self.now.grid in
    let small = c.args.self.now.small in
    λ inside lifetimes list values ranges more.
    rw c.frame_width.ensures.value (frame_column grid small c.args.place, frame_row grid small c.args.place (rw c.frame_length.ensures at inside))
