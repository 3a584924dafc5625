-- `captures::table::serve_lines` meets its contract. The invariant: what the table says of the lines before this one is true.
-- Assumes nothing.
use Rattle.captures.specs.Words.{words}
use Rattle.captures.specs.Table.{Tabled}
use Rattle.captures.specs.Walk.{codes_in}
use Rattle.captures.proofs.table.serve_lines.Given as goal

abbrev pub invariant-loop-line : goal.invariant-loop-line
invariant-loop-line l = Tabled l.table (words l.text) (codes_in l.codes) l.line
