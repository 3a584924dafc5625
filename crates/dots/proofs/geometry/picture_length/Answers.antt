-- `dots::geometry::picture_length` meets its contract: with lines and columns below 256 and at most `tallest` rows the product fits.
-- Assumes nothing.
use Prim.Native.Nat.{◌≤◌}
use native.Mathlib.Nat.{mul-le-mul}
use native.Mathlib.Omega.{arith}
use Rattle.dots.proofs.Places.{height_most}
use Rattle.dots.proofs.geometry.picture_length.Goals as goal

pub overflow_mul-result : goal.overflow_mul-result
overflow_mul-result c =
    let lines : c.size_of-size.result.lines ≤ 255 = omega arith in
    rw c.rows_of.ensures (omega (arith, mul-le-mul lines (height_most c.args.function)))

pub overflow_mul-result-2 : goal.overflow_mul-result-2
overflow_mul-result-2 c =
    let size = c.size_of-size.result in
    let lines : size.lines ≤ 255 = omega arith in
    let columns : size.columns ≤ 255 = omega arith in
    rw c.rows_of.ensures (omega (arith, mul-le-mul (mul-le-mul lines (height_most c.args.function)) columns))

pub returns : goal.returns
returns c = simp (c.rows_of.ensures, c.size_of-size.ensures)
