-- `drawing::glass::Glass::letters_length` meets its contract: the rows of a small grid are few.
-- Assumes nothing.
use native.Mathlib.Omega.{arith}
use Rattle.drawing.proofs.Laws.Letters.{letters_product}
use Rattle.drawing.proofs.glass.Glass.letters_length.Goals as goal

pub overflow_mul-result-2 : goal.overflow_mul-result-2
overflow_mul-result-2 c = rw c.letters_width.ensures (omega (arith, letters_product c.args.self.now.grid c.args.self.now.small))
