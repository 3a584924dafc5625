-- `drawing::glass::Glass::fill` meets its contract. Invariant: the bytes before `place` are drawn, the others as found.
-- Assumes nothing.
use mathlib.Core.Path.{◌≡◌}
use Rattle.dots.specs.Picture.{painted}
use Rattle.drawing.specs.Drawing.{drawn_byte}
use Rattle.drawing.proofs.glass.Glass.fill.Given as goal

abbrev pub invariant-loop-place : goal.invariant-loop-place
invariant-loop-place l =
    l.out ≡ painted (drawn_byte l.form l.self.dots.now l.self.memory.now l.self.rec l.self.grid) 0 l.place l.initial.out
