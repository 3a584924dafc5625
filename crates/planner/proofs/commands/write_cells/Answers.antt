-- `planner::commands::write_cells` meets its contract: the loop has written the marked cells below `place`.
-- Assumes nothing.
use Rattle.planner.proofs.Laws.Count.{cells_bound}
use Rattle.planner.proofs.Laws.Written.{wrote_none, wrote_append, below_none, below_more}
use native.Mathlib.Omega.{arith}
use mathlib.Core.Path.{◌≡◌}
use Rattle.planner.proofs.commands.write_cells.Goals as goal

pub loop-place-init : goal.loop-place-init
loop-place-init c = rw below_none (wrote_none _ _)

pub write_cell-requires : goal.write_cell-requires
write_cell-requires c =
    omega (arith, c.loop-place.invariant.at, cells_bound c.args.n c.args.marks.now c.args.values.now c.loop-place.place)

pub loop-place-preserved : goal.loop-place-preserved
loop-place-preserved c = rw (← below_more) (wrote_append c.loop-place.invariant c.write_cell.ensures)

pub returns : goal.returns
returns c =
    let all : c.loop-place.place ≡ 144 = omega arith in
    rw all at c.loop-place.invariant
