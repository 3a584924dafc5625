-- `planner::commands::write_cell` meets its contract: the marks say which of the three cases of `cell` holds.
-- Assumes nothing.
use Rattle.planner.proofs.Laws.Written.{wrote_none, wrote_append, cell_none, cell_next, cell_first}
use mathlib.Core.Path.{sym, ◌∙◌}
use Rattle.planner.proofs.commands.write_cell.Goals.{then-not-follows_marked, else-not-follows_marked}
use Rattle.planner.proofs.commands.write_cell.Goals as goal

pub returns-else-is_marked : goal.returns-else-is_marked
returns-else-is_marked c = rw (cell_none _ _ _ _ (sym c.is_marked.ensures ∙ c.if-is_marked.false)) (wrote_none _ _)

pub returns-after-not-follows_marked : goal.returns-after-not-follows_marked
returns-after-not-follows_marked c =
    let marked = sym c.is_marked.ensures ∙ c.if-is_marked.true in
    let written = c.send-then-is_marked.ensures in
    elim c.if-not-follows_marked.branch [
      | then-not-follows_marked w ↦
          rw (cell_first _ _ _ _ marked (sym c.follows_marked.ensures ∙ w.if-not-follows_marked.true))
          (wrote_append (rw (w.address_byte.ensures, ← w.out-is, ← w.pen-is) at w.send.ensures) written)
      | else-not-follows_marked w ↦
          rw (cell_next _ _ _ _ marked (sym c.follows_marked.ensures ∙ w.if-not-follows_marked.false)) (rw (w.out-is, w.pen-is) at written)
    ]
