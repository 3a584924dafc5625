-- The size of a picture, and the display cell that each position shows (document 01, "The dots"). Lines, rows and columns count
-- from 0, so that line 2 is number 1 and the eighth row number 7.
-- Assumes nothing.
use Rattle.std.specs.Prelude.{Bool, cond, ◌&&◌, ℕ, ◌+◌, ◌-◌, ◌*◌, ◌/◌, ◌%◌, ◌<◌, ltb, Option, Some, None}
use Rattle.controller.specs.declared.«record».Function.{Function}
use Rattle.controller.specs.Cells.{line_length}
use Rattle.dots.specs.declared.panel.Profile.{Profile}
use Rattle.dots.specs.Panel.{on_glass, place_at, size_of}

-- The rows of a character: eight, whatever N and F are.
unfoldable pub height : Function → ℕ
height function = 8

-- No character is taller.
abbrev pub tallest : ℕ
tallest = 8

-- The bytes of a picture: lines x 8 x columns.
abbrev pub picture_length : Function → Profile → ℕ
picture_length function profile = (size_of profile).lines * height function * (size_of profile).columns

-- Every picture has room in so many bytes: two lines of 40 columns, or four of 20.
abbrev pub picture_room : ℕ
picture_room = 2 * tallest * 40

-- N=0 drives line 1 only, N=1 drives both.
abbrev pub driven_lines : Bool → ℕ
driven_lines n = cond n 2 1

-- Position p shows cell (p + shift) modulo L of its line, and nothing where the line is not driven. The cells of line 2
-- follow those of line 1.
unfoldable pub cell_in : ℕ → ℕ → ℕ → ℕ → ℕ → Option ℕ
cell_in driven length shift line position =
    cond (ltb line driven) (Some (line * length + (position + shift) % length)) None

-- The cell of a position: line length L is 80 (N=0) or 40 (N=1).
abbrev pub cell_at : Bool → ℕ → ℕ → ℕ → Option ℕ
cell_at n shift line position = cell_in (driven_lines n) (line_length n) shift line position

-- The cell that a position of the glass shows: that of its place.
abbrev pub shown_at : Bool → ℕ → Profile → ℕ → ℕ → Option ℕ
shown_at n shift profile line column =
    cell_at n shift (place_at profile line column).line (place_at profile line column).position

-- With so many lines of so many cells driven, a position of the glass shows this display cell: its line is driven, and its
-- place after the shift is on the glass.
unfoldable pub is_shown_in : ℕ → ℕ → ℕ → Profile → ℕ → Bool
is_shown_in driven length shift profile cell =
    ltb (cell / length) driven && on_glass profile (cell / length) ((cell % length + (length - shift % length)) % length)

-- A position of the glass shows this display cell.
abbrev pub is_shown : Bool → ℕ → Profile → ℕ → Bool
is_shown n shift profile cell = is_shown_in (driven_lines n) (line_length n) shift profile cell

-- What is shown is a display cell, 0 to 79, where it is a cell.
abbrev pub ShownWithin : Option ℕ → Type 0
ShownWithin (Some cell) = cell < 80
ShownWithin None = Unit {0}
