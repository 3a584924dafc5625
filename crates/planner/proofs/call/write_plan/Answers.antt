-- `planner::call::write_plan` meets its contract: the opening and the commands are the plan, and at most 468 records
-- fit the buffer.
-- Assumes nothing.
use Rattle.planner.proofs.Laws.Wish.{wish_shift_small}
use Rattle.planner.proofs.Laws.Count.{cells_bound, plan_bound}
use Rattle.planner.proofs.Laws.Written.{wrote_append, plan_laid}
use Rattle.planner.specs.Plan.{instruction, commands}
use Rattle.planner.specs.declared.pen.Pen.{Pen}
use native.Mathlib.Omega.{arith}
use lib.ListN.{length-replicate}
use mathlib.Core.Path.{ap}
use Rattle.planner.proofs.call.write_plan.Goals as goal

pub shift_left-requires : goal.shift_left-requires
shift_left-requires c =
    omega (arith, c.set_up.ensures.at, wish_shift_small _ _ c.requires, ap (λ (p : Pen). p.at) c.open-pen.ensures.0)

pub write_cells-requires : goal.write_cells-requires
write_cells-requires c =
    omega (
      arith,
      c.shift_left.ensures.at,
      length-replicate c.args.wish.shift (instruction 0x18),
      c.set_up.ensures.at,
      wish_shift_small _ _ c.requires,
      ap (λ (p : Pen). p.at) c.open-pen.ensures.0,
    )

pub end-requires : goal.end-requires
end-requires c =
    omega (
      arith,
      c.write_cells.ensures.at,
      cells_bound c.args.wish.function.n c.args.marks.now c.args.values.now 144,
      c.shift_left.ensures.at,
      length-replicate c.args.wish.shift (instruction 0x18),
      c.set_up.ensures.at,
      wish_shift_small _ _ c.requires,
      ap (λ (p : Pen). p.at) c.open-pen.ensures.0,
    )

pub returns : goal.returns
unfolding commands
returns c =
    let start = c.args in
    plan_laid start.wish start.marks.now start.values.now _ _ start.out.now _ _
    c.open-pen.ensures.0 c.open-pen.ensures.1
    (wrote_append c.set_up.ensures (wrote_append c.shift_left.ensures (wrote_append c.write_cells.ensures c.end.ensures)))
    (plan_bound start.wish start.marks.now start.values.now c.requires) (omega arith)
