-- `drawing::glass::Glass::byte_of` meets its contract: the empty rows above a place in a character are fewer than its rows.
-- Assumes nothing.
use Rattle.drawing.proofs.Laws.Grid.{empty_above}
use Rattle.drawing.proofs.glass.Glass.byte_of.Goals as goal

pub overflow_sub-result : goal.overflow_sub-result
overflow_sub-result c = empty_above c.args.self.now.grid c.args.x c.args.y c.requires.2
