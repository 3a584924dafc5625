-- `drawing::state::state_byte` meets its contract: the settings are 66 bytes long, and what moves stands behind them.
-- Assumes nothing.
use Rattle.drawing.specs.State.{state_lines, settings_line, moving_line}
use Rattle.drawing.proofs.Laws.Text.{settings_length, first_byte, second_byte}
use Rattle.drawing.proofs.state.state_byte.Goals as goal

pub returns-then-place-lt66 : goal.returns-then-place-lt66
unfolding state_lines
returns-then-place-lt66 c =
    let rec = c.args.rec in
    simp c.settings_line.ensures
    (first_byte (settings_line rec) (moving_line rec) 66 _ (settings_length rec) c.if-place-lt66.true)

pub returns-else-place-lt66 : goal.returns-else-place-lt66
unfolding state_lines
returns-else-place-lt66 c =
    let rec = c.args.rec in
    simp c.moving_byte.ensures
    (second_byte (settings_line rec) (moving_line rec) 66 _ (settings_length rec) c.if-place-lt66.false)
