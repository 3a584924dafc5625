-- The dots as a portable bitmap (the format P4): each place of the grid is eight pixels wide and high, the last of them empty, so
-- that a byte of the bitmap is one place and the dots stand apart.
-- Assumes nothing.
use Rattle.std.specs.Prelude.{cond, List, ◌++◌, ℕ, ◌+◌, ◌*◌, ◌/◌, ◌%◌, eqb}
use Rattle.lines.specs.Text.{bytes_of}
use Rattle.drawing.specs.declared.grid.Grid.{Grid}
use Rattle.drawing.specs.Grid.{last_x, last_y, is_lit}
use Rattle.drawing.specs.Numbers.{four_digits}

-- The length of the head.
abbrev pub head_length : ℕ
head_length = 13

-- `P4`, the width and the height in pixels.
abbrev pub head_for : ℕ → ℕ → List ℕ
head_for width height = bytes_of "P4\n" ++ (four_digits width ++ (bytes_of " " ++ (four_digits height ++ bytes_of "\n")))

-- The head of a panel's bitmap.
abbrev pub bitmap_head : Grid → List ℕ
bitmap_head grid = head_for ((last_x grid + 1) * 8) ((last_y grid + 1) * 8)

-- Eight pixels: the place in this column of the grid, at this row of pixels.
unfoldable pub pixels_at : List ℕ → Grid → ℕ → ℕ → ℕ
pixels_at dots grid x y = cond (eqb (y % 8) 7) 0 (cond (is_lit dots grid x (y / 8)) 0b11111110 0)
