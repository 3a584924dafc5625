-- `drawing::glass::Glass::length_of` meets its contract: the parts of each form add up to a length that fits.
-- Assumes nothing.
use native.Mathlib.Omega.{arith}
use Rattle.drawing.proofs.Laws.Blocks.{blocks_most}
use Rattle.drawing.proofs.Laws.Drawing.{frame_most}
use Rattle.drawing.proofs.Laws.Letters.{letters_most}
use Rattle.drawing.proofs.glass.Glass.length_of.Goals as goal

pub overflow_add-result : goal.overflow_add-result
overflow_add-result c = omega (arith, c.frame_length.ensures, frame_most c.args.self.now.grid c.args.self.now.small)

pub overflow_add-result-in-Blocks : goal.overflow_add-result-in-Blocks
overflow_add-result-in-Blocks c = omega (arith, c.blocks_length.ensures, blocks_most c.args.self.now.grid c.args.self.now.small)

pub overflow_add-result-in-Letters : goal.overflow_add-result-in-Letters
overflow_add-result-in-Letters c = omega (arith, c.letters_length.ensures, letters_most c.args.self.now.grid c.args.self.now.small)
