-- `captures::faults::lacks_signal` meets its contract: nothing is known before the first code. Assumes nothing.
use Rattle.captures.proofs.faults.lacks_signal.Goals as goal

pub read_head-head-requires : goal.read_head-head-requires
read_head-head-requires c = c.blank_table-table.ensures _ _
