-- `drawing::glass::Glass::letters_byte` meets its contract: a place within the text has a small column and row.
-- Assumes nothing.
use Rattle.drawing.proofs.Laws.Letters.{letters_column, letters_row, letters_some}
use Rattle.drawing.proofs.glass.Glass.letters_byte.Goals as goal

pub text_byte-requires-clause-some : goal.text_byte-requires-clause-some
text_byte-requires-clause-some c = rw c.letters_width.ensures (letters_some c.args.self.now.grid.size)

pub text_byte-requires-clause-pre : goal.text_byte-requires-clause-pre
text_byte-requires-clause-pre c =
    let grid = c.args.self.now.grid in
    let small = c.args.self.now.small in
    λ inside lifetimes list values ranges more.
    rw c.letters_width.ensures (letters_column grid small c.args.place, letters_row grid small c.args.place (rw c.letters_length.ensures at inside))
