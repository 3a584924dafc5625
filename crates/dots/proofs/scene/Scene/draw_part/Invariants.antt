-- `dots::scene::Scene::draw_part` meets its contract. Invariant: the bytes before `column` are those of the picture.
-- Assumes nothing.
use Prim.Native.Nat.{ℕ, ◌+◌, ◌*◌, ◌<◌}
use mathlib.Core.Path.{◌≡◌}
use lib.ListN.{get_or}
use Rattle.dots.specs.Font.{font}
use Rattle.dots.specs.Picture.{picture_byte}
use Rattle.dots.specs.Stretch.{stretch}
use Rattle.dots.proofs.scene.Scene.draw_part.Given as goal

abbrev pub invariant-loop-column : goal.invariant-loop-column
invariant-loop-column l =
    (i : ℕ) → i < l.column
    → get_or l.part i 0 ≡ picture_byte font l.self.rec l.self.memory.now l.self.lit l.fn.profile (l.at * stretch l.fn.profile + i)
