-- `captures::table::blank_table` meets its contract: nothing is known before the first code. Assumes nothing.
use Rattle.captures.proofs.Laws.Table.{table_blank}
use Rattle.captures.proofs.table.blank_table.Goals as goal

pub returns : goal.returns
returns c = table_blank
