-- `dots::scene::Scene::draw_part` meets its contract: the dots at each column of a part are the picture's byte.
-- Assumes nothing.
use Prim.Native.Nat.{◌<◌}
use mathlib.Core.Path.{◌∙◌}
use native.Mathlib.Omega.{arith}
use lib.ListN.{length}
use Rattle.std.proofs.Common.{◌≢◌, below_more, get_or-set_other, get_or-set_same}
use Rattle.dots.proofs.Places.{height_some}
use Rattle.dots.proofs.Stretches.{begun, begun_byte, begun_row, begun_within, part_small}
use Rattle.dots.proofs.scene.Scene.draw_part.Goals as goal

pub place_at-place-requires : goal.place_at-place-requires
place_at-place-requires c =
    rw (c.part_at-start.ensures, c.rows_of.ensures)
    (part_small c.args.profile _ c.args.at c.requires.0 (height_some c.args.self.now.rec.function) c.requires.1)

pub loop-column-init : goal.loop-column-init
loop-column-init c = λ i h. absurd (omega arith)

pub overflow_add-place : goal.overflow_add-place
overflow_add-place c =
    let b = begun c.args.self.now.rec c.args.profile c.args.at _ _ _ c.rows_of.ensures c.part_at-start.ensures c.place_at-place.ensures in
    omega (arith, begun_within _ _ _ _ _ b c.requires.0 c.requires.1 c.loop-column.column (omega (arith, c.requires.2)))

pub dots_at-requires : goal.dots_at-requires
dots_at-requires c =
    let b = begun c.args.self.now.rec c.args.profile c.args.at _ _ _ c.rows_of.ensures c.part_at-start.ensures c.place_at-place.ensures in
    (begun_row _ _ _ _ _ b, begun_within _ _ _ _ _ b c.requires.0 c.requires.1 c.loop-column.column (omega (arith, c.requires.2)))

pub loop-column-preserved : goal.loop-column-preserved
loop-column-preserved c =
    let b = begun c.args.self.now.rec c.args.profile c.args.at _ _ _ c.rows_of.ensures c.part_at-start.ensures c.place_at-place.ensures in
    let within : c.loop-column.column < length c.loop-column.part = omega arith in
    below_more _ _
    (λ i h. let other : i ≢ c.loop-column.column = omega arith in rw get_or-set_other (c.loop-column.invariant i h))
    (rw get_or-set_same (c.dots_at.ensures ∙ begun_byte _ _ _ _ _ b _ _ _ c.loop-column.column (omega (arith, c.requires.2))))

pub returns : goal.returns
returns c = λ i h. c.loop-column.invariant i (omega (arith, c.requires.2))
