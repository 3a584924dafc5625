-- `planner::commands::write_cells` meets its contract: the loop has written the marked cells below `place`.
-- Assumes nothing.
use Rattle.planner.specs.Plan.{cells_below}
use Rattle.planner.specs.Pen.{Wrote}
use Rattle.planner.proofs.commands.write_cells.Given as goal

abbrev pub invariant-loop-place : goal.invariant-loop-place
invariant-loop-place l = Wrote (cells_below l.n l.marks l.values l.place) l.initial.pen l.pen l.initial.out l.out
