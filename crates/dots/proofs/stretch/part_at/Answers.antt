-- `dots::stretch::part_at` meets its contract: stretches are two to a line in the divided row, and else whole lines.
-- Assumes nothing.
use mathlib.Core.Path.{sym}
use Rattle.dots.proofs.Stretches.{part_divided, part_whole}
use Rattle.dots.proofs.stretch.part_at.Goals as goal

pub returns-in-Divided : goal.returns-in-Divided
returns-in-Divided c = rw c.in-Divided.is (sym (part_divided _ _))

pub returns-in_default : goal.returns-in_default
returns-in_default c = sym (part_whole _ _ _ c.requires.1 c.in_default.not-Divided)
