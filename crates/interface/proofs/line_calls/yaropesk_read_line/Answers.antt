-- `interface::line_calls::yaropesk_read_line`: the length of a line is at most 16 and the offset of a fault at most 15, so that they can
-- be told.
-- Assumes nothing.
use mathlib.Core.Path.{sym, ◌∙◌}
use Rattle.interface.proofs.Laws.Fillings.{read_short, fault_near, line_fills, fault_fills}
use Rattle.interface.proofs.line_calls.yaropesk_read_line.Goals as goal

pub store_line-requires : goal.store_line-requires
store_line-requires c = read_short c.args.text.now (sym c.in-Ok.is ∙ c.read_line.ensures)

pub placed-requires : goal.placed-requires
placed-requires c = fault_near c.args.text.now (sym c.in-Err.is ∙ c.read_line.ensures)

pub returns-in-Ok : goal.returns-in-Ok
returns-in-Ok c = line_fills c.args.text.now c.args.out.now (sym c.in-Ok.is ∙ c.read_line.ensures) c.store_line.ensures

pub returns-in-Err : goal.returns-in-Err
returns-in-Err c = fault_fills c.args.text.now c.args.out.now (sym c.in-Err.is ∙ c.read_line.ensures) c.placed.ensures
