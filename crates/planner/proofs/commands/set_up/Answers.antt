-- `planner::commands::set_up` meets its contract: four commands, one behind the other.
-- Assumes nothing.
use Rattle.planner.proofs.Laws.Written.{wrote_append}
use Rattle.planner.proofs.commands.set_up.Goals as goal

pub returns : goal.returns
returns c =
    wrote_append (rw c.function_byte.ensures at c.send.ensures)
    (wrote_append c.send-2.ensures (wrote_append c.send-3.ensures c.send-4.ensures))
