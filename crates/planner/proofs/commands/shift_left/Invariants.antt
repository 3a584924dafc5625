-- `planner::commands::shift_left` meets its contract: the loop has written as many commands as it counted.
-- Assumes nothing.
use Rattle.planner.specs.Plan.{instruction}
use Rattle.planner.specs.Pen.{Wrote}
use lib.ListN.{replicate}
use Rattle.planner.proofs.commands.shift_left.Given as goal

abbrev pub invariant-loop : goal.invariant-loop
invariant-loop l = Wrote (replicate l.counter (instruction 0x18)) l.initial.pen l.pen l.initial.out l.out
