-- `drawing::numbers::place_of` meets its contract: a power that is asked for is small, and each place is its digit, or blank.
-- Assumes nothing.
use native.Mathlib.Omega.{arith}
use borrow.Author.Tests.{lt-ltb, le-ltb}
use Rattle.drawing.proofs.Laws.Numbers.{other_place, power_most, power_some}
use Rattle.drawing.proofs.numbers.place_of.Goals as goal

pub pow-power-requires : goal.pow-power-requires
pow-power-requires c = omega (arith, power_most c.args.after c.requires)

pub nonzero_div-number : goal.nonzero_div-number
nonzero_div-number c = rw c.pow-power.ensures (power_some c.args.after c.requires)

pub returns-then-number-power : goal.returns-then-number-power
returns-then-number-power c =
    let small = lt-ltb _ _ (rw c.pow-power.ensures at c.if-number-power.true) in
    rw (other_place c.args.blank c.args.number c.args.after c.if-after-eq0.false) (simp small)

pub returns-else-number-power : goal.returns-else-number-power
returns-else-number-power c =
    let large = le-ltb _ _ (rw c.pow-power.ensures at c.if-number-power.false) in
    rw (other_place c.args.blank c.args.number c.args.after c.if-after-eq0.false) (simp (large, c.hex_digit-else-number-power.ensures, c.pow-power.ensures))
