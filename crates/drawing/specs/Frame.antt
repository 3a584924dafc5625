-- The dots as text in a frame: `#` lit, `.` dark, blanks between the characters.
-- Assumes nothing.
use Rattle.std.specs.Prelude.{Bool, cond, ◌||◌, List, ℕ, ◌+◌, eqb}
use Prim.Native.Char.{code}
use Rattle.lines.specs.Digits.{newline}
use Rattle.drawing.specs.declared.grid.Grid.{Grid}
use Rattle.drawing.specs.Grid.{last_x, last_y, is_between, is_lit}

-- The first place or the last.
abbrev pub is_end : ℕ → ℕ → Bool
is_end last at = eqb at 0 || eqb at last

-- The upper and the lower border: `+` at a corner, else `-`.
abbrev pub border : Bool → ℕ
border corner = cond corner (code "+") (code "-")

-- A dot: `#` lit, `.` dark.
abbrev pub dot_char : Bool → ℕ
dot_char lit = cond lit (code "#") (code ".")

-- The byte of the text at a column and a row: `|` at the left and the right edge, a blank between characters, and a newline past
-- the last column.
unfoldable pub frame_at : List ℕ → Grid → ℕ → ℕ → ℕ
frame_at dots grid x y =
    cond (eqb x (last_x grid + 1)) newline
    (cond (is_end (last_y grid) y) (border (is_end (last_x grid) x))
    (cond (is_end (last_x grid) x) (code "|")
    (cond (is_between grid x y) (code " ")
    (dot_char (is_lit dots grid x y)))))
