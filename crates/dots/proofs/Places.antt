-- Where things stand: a place in a grid, counted row by row, and the display cell of a position.
-- Assumes nothing.
use mathlib.Core.Bool.{Bool, true, false, cond}
use mathlib.Core.List.{List}
use mathlib.Core.Path.{◌≡◌, refl, ap, ◌∙◌}
use Prim.Native.Nat.{ℕ, ◌+◌, ◌*◌, ◌/◌, ◌%◌, ◌≤◌, ◌<◌}
use native.Mathlib.Nat.{add-zero, div-eq_of_lt, mod-eq_of_lt, mod-lt, mul-add-div_right, mul-add-mod_self_right, mul-le-mul_right, suc-mul}
use native.Mathlib.Omega.{arith}
use borrow.Author.Tests.{ltb-true}
use lib.Dec.{ltb}
use Rattle.std.specs.Prelude.{Some, None}
use Rattle.controller.specs.declared.«record».Function.{Function}
use Rattle.controller.specs.declared.«record».Record.{Record}
use Rattle.dots.specs.declared.panel.Profile.{Profile}
use Rattle.dots.specs.Geometry.{ShownWithin, cell_in, height, tallest}
use Rattle.dots.specs.Panel.{size_of}
use Rattle.dots.specs.Picture.{dots_on, picture_byte}

-- In a grid of rows of this width, place row * width + column stands in that row and that column.
pub row_of_place : (width row column : ℕ) → column < width → (row * width + column) / width ≡ row
row_of_place width row column h =
    let some : 0 < width = omega arith in
    mul-add-div_right some row column ∙ ap (λ (k : ℕ). row + k) (div-eq_of_lt h) ∙ add-zero row

pub column_of_place : (width row column : ℕ) → column < width → (row * width + column) % width ≡ column
column_of_place width row column h = mul-add-mod_self_right row width column ∙ mod-eq_of_lt h

-- A row below `rows` ends within rows * width places.
pub row_ends : (width row rows : ℕ) → row < rows → row * width + width ≤ rows * width
row_ends width row rows h = rw suc-mul at (mul-le-mul_right width h)

pub height_some : (function : Function) → 0 < height function
unfolding height
height_some function = omega arith

pub height_most : (function : Function) → height function ≤ tallest
unfolding height
height_most function = omega arith

-- What a position shows is a display cell, where the driven lines have no more than 80 cells together.
pub in_within : (driven length shift line position : ℕ) → 0 < length → driven * length ≤ 80 → ShownWithin (cell_in driven length shift line position)
unfolding cell_in
in_within driven length shift line position some few = go (ltb line driven) refl
  where
    go : (b : Bool) → ltb line driven ≡ b → ShownWithin (cond b (Some (line * length + (position + shift) % length)) None)
    go true e = omega (arith, row_ends length line driven (ltb-true line driven e), mod-lt (position + shift) some)
    go false e = tt

-- The dots at a line, a row and a column of the glass are the byte at that place of the output.
pub dots_are_byte : (shapes : List ℕ) (rec : Record) (mem : List ℕ) (lit : Bool) (profile : Profile) (line row column : ℕ) → row < height rec.function → column < (size_of profile).columns
    → dots_on shapes rec mem lit profile line row column ≡ picture_byte shapes rec mem lit profile ((line * height rec.function + row) * (size_of profile).columns + column)
unfolding picture_byte
dots_are_byte shapes rec mem lit profile line row column r h =
    let at = line * height rec.function + row in
    rw (
      row_of_place (size_of profile).columns at column h,
      column_of_place (size_of profile).columns at column h,
      row_of_place (height rec.function) line row r,
      column_of_place (height rec.function) line row r,
    )
    refl
