-- `drawing::glass::Glass::bitmap_byte` meets its contract: past the head, a place of the bitmap has a small column and row.
-- Assumes nothing.
use Prim.Native.Nat.{◌-◌}
use Rattle.drawing.proofs.Laws.Drawing.{pixel_column, pixel_row}
use Rattle.drawing.proofs.glass.Glass.bitmap_byte.Goals as goal

pub pixels_at-requires : goal.pixels_at-requires
pixels_at-requires c =
    let grid = c.args.self.now.grid in
    let small = c.args.self.now.small in
    rw c.last_x-width.ensures.value
    (pixel_column grid small (c.args.place - 13), pixel_row grid small c.args.place c.if-place-lt-HEAD.false c.requires)
