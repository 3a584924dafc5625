-- `captures::faults::wrong_word` meets its contract: nothing is known before the first code. Assumes nothing.
use Rattle.captures.proofs.faults.wrong_word.Goals as goal

pub read_head-requires : goal.read_head-requires
read_head-requires c = c.blank_table-table.ensures _ _
