-- `planner::commands::end` meets its contract: three commands, one behind the other.
-- Assumes nothing.
use Rattle.planner.proofs.Laws.Written.{wrote_append}
use Rattle.planner.proofs.commands.end.Goals as goal

pub returns : goal.returns
returns c =
    wrote_append (rw c.entry_byte.ensures at c.send.ensures)
    (wrote_append (rw c.address_byte.ensures at c.send-2.ensures) (rw c.control_byte.ensures at c.send-3.ensures))
