-- `dots::scene::Scene::draw` meets its contract: all parts together are the picture, and each ends within the output.
-- Assumes nothing.
use Prim.Native.Nat.{◌+◌, ◌*◌}
use mathlib.Core.Path.{◌≡◌, refl}
use native.Mathlib.Nat.{add-mul, add-sub_cancel_left, one-mul, zero-mul}
use native.Mathlib.Omega.{arith}
use lib.ListN.{length-drop, length-take}
use Rattle.dots.specs.Stretch.{stretch}
use Rattle.dots.proofs.Painting.{painted_none, painted_part}
use Rattle.dots.proofs.Stretches.{part_ends, part_within_output, parts_few, stretches_fill}
use Rattle.dots.proofs.scene.Scene.draw.Goals as goal

pub overflow_mul-at-end : goal.overflow_mul-at-end
overflow_mul-at-end c =
    rw (c.stretches_of.ensures, c.rows_of.ensures) (omega (arith, parts_few c.args.self.now.rec.function c.args.profile c.requires.0))

pub loop-at-init : goal.loop-at-init
loop-at-init c = rw zero-mul (painted_none _ _ _)

pub overflow_mul-at : goal.overflow_mul-at
overflow_mul-at c =
    let within = rw (c.stretches_of.ensures, c.rows_of.ensures) at c.loop-at-test.true in
    rw c.stretch_of-columns.ensures (omega (arith, part_ends c.args.self.now.rec.function c.args.profile c.loop-at.at c.requires.0 within))

pub overflow_mul-at-in-loop-at : goal.overflow_mul-at-in-loop-at
overflow_mul-at-in-loop-at c =
    let within = rw (c.stretches_of.ensures, c.rows_of.ensures) at c.loop-at-test.true in
    rw (c.stretch_of-columns.ensures, add-mul, one-mul)
    (omega (arith, part_ends c.args.self.now.rec.function c.args.profile c.loop-at.at c.requires.0 within))

pub slice_bounds-draw_part-end : goal.slice_bounds-draw_part-end
slice_bounds-draw_part-end c =
    let within = rw (c.stretches_of.ensures, c.rows_of.ensures) at c.loop-at-test.true in
    let ends = part_within_output c.args.self.now.rec.function c.args.profile c.loop-at.at _ within c.requires.1 in
    rw (c.stretch_of-columns.ensures, c.loop-at.auto.out) ends

pub loop-at-preserved : goal.loop-at-preserved
loop-at-preserved c =
    let within = rw (c.stretches_of.ensures, c.rows_of.ensures) at c.loop-at-test.true in
    let ends = part_within_output c.args.self.now.rec.function c.args.profile c.loop-at.at _ within c.requires.1 in
    let next : (c.loop-at.at + 1) * stretch c.args.profile ≡ c.loop-at.at * stretch c.args.profile + stretch c.args.profile =
    rw (add-mul, one-mul) refl in
    let long = rw (c.stretch_of-columns.ensures, next, add-sub_cancel_left, length-take, length-drop) at c.draw_part.auto.part in
    rw (c.stretch_of-columns.ensures, next, add-sub_cancel_left, c.loop-at.invariant)
    (painted_part _ _ _ _ _ (omega arith) (omega (arith, c.loop-at.auto.out)) c.draw_part.ensures)

pub returns : goal.returns
returns c =
    let all : c.loop-at.at ≡ c.stretches_of.result * c.rows_of.result = omega arith in
    rw (all, c.stretches_of.ensures, c.rows_of.ensures, stretches_fill c.args.profile) at c.loop-at.invariant
