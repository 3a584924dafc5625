-- `dots::scene::Scene::draw` meets its contract. Invariant: the parts of the picture before `at` are painted.
-- Assumes nothing.
use Prim.Native.Nat.{◌*◌}
use mathlib.Core.Path.{◌≡◌}
use Rattle.dots.specs.Font.{font}
use Rattle.dots.specs.Picture.{picture_byte, painted}
use Rattle.dots.specs.Stretch.{stretch}
use Rattle.dots.proofs.scene.Scene.draw.Given as goal

abbrev pub invariant-loop-at : goal.invariant-loop-at
invariant-loop-at l =
    l.out ≡ painted (picture_byte font l.self.rec l.self.memory.now l.self.lit l.fn.profile) 0 (l.at * stretch l.fn.profile) l.initial.out
