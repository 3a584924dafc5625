-- Laws of the grid: how large its numbers become, and that a place in a character has an empty row above it.
-- Assumes nothing.
use mathlib.Core.Bool.{Bool, true, false, ◌||◌}
use mathlib.Core.Path.{◌≡◌}
use Prim.Native.Nat.{ℕ, ◌+◌, ◌*◌, ◌/◌, ◌%◌, ◌≤◌, ◌<◌}
use native.Mathlib.Nat.{div-add-mod', div-lt_iff_lt-mul, mul_comm, mul-le-mul, mul-le-mul_left, mul-one}
use native.Mathlib.Omega.{arith}
use borrow.Author.Tests.{eqb-false}
use lib.Dec.{eqb}
use Rattle.dots.proofs.Places.{row_ends}
use Rattle.drawing.specs.declared.grid.Grid.{Grid}
use Rattle.drawing.specs.Grid.{Small, is_between, last_x, last_y}

-- the second test of two is false where neither holds
second_false : (a b : Bool) → (a || b) ≡ false → b ≡ false
second_false true b is = cc
second_false false b is = is

-- a place in a character is in none of the empty rows
pub some_row : (grid : Grid) (x y : ℕ) → is_between grid x y ≡ false → y % (grid.rows + 1) ≡ 0 → ⊥
unfolding is_between
some_row grid x y is = eqb-false (y % (grid.rows + 1)) 0 (second_false (eqb (x % 6) 0) (eqb (y % (grid.rows + 1)) 0) is)

-- so at least one row and the empty rows are above its end
pub empty_above : (grid : Grid) (x y : ℕ) → is_between grid x y ≡ false → y / (grid.rows + 1) + 1 ≤ y
empty_above grid x y is =
    let whole = div-add-mod' y (grid.rows + 1) in
    let least = mul-le-mul_left {m = 1} {n = grid.rows + 1} (y / (grid.rows + 1)) (omega arith) in
    let some = some_row grid x y is in
    omega (arith, mul-one (y / (grid.rows + 1)), some)

-- a product of small numbers is small
pub product : (a b m n : ℕ) → a ≤ m → b ≤ n → a * b ≤ m * n
product a b m n p q = mul-le-mul p q

-- a place of a text of so many rows stands in a row of it
pub in_row : (place width rows : ℕ) → 0 < width → place < width * rows → place / width < rows
in_row place width rows some inside = (div-lt_iff_lt-mul some).1 (rw (mul_comm width rows) at inside)

-- and a place of a row stands within the text
pub row_inside : (width row rows place : ℕ) → row < rows → place < width → row * width + place < width * rows
row_inside width row rows place r p = rw (mul_comm width rows) (omega (arith, row_ends width row rows r))

pub last_y_most : (grid : Grid) → Small grid → last_y grid ≤ 48
unfolding last_y
last_y_most grid small = product grid.size.lines (grid.rows + 1) 4 12 small.lines (let r = small.rows in omega arith)

pub last_x_most : (grid : Grid) → Small grid → last_x grid ≤ 240
unfolding last_x
last_x_most grid small = let c = small.columns in omega arith
