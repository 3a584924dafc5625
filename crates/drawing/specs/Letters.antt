-- The glass as plain text: a row of letters for each line of the glass, and under it a row that marks the counter's place.
-- Assumes nothing.
use Rattle.std.specs.Prelude.{Bool, false, cond, List, ℕ, ◌+◌, ◌-◌, ◌*◌, ◌/◌, ◌%◌, eqb, ltb, get_or, Option, Some, None}
use Prim.Native.Char.{code}
use Rattle.controller.specs.declared.cells.Counter.{Counter}
use Rattle.controller.specs.declared.«record».Record.{Record}
use Rattle.dots.specs.declared.panel.Profile.{Profile}
use Rattle.dots.specs.declared.panel.Size.{Size}
use Rattle.dots.specs.Geometry.{shown_at}
use Rattle.dots.specs.Picture.{is_on}
use Rattle.lines.specs.Digits.{newline}
use Rattle.drawing.specs.declared.grid.Grid.{Grid}

-- The letter of a code: `~` for a pattern, 00h to 0Fh, since no shape of the font has it; 20h to 7Dh as ASCII has them, so that
-- 5Ch, on the glass a yen sign, is `\`; and a blank for the codes that the font leaves blank.
unfoldable pub letter_for : ℕ → ℕ
letter_for char =
    cond (ltb char 0x10) (code "~")
    (cond (ltb char 0x20) (code " ")
    (cond (ltb char 0x7E) char
    (code " ")))

-- What a position reads as: the letter of the cell that it shows, and a blank where its line is not driven.
abbrev pub letter_shown : List ℕ → Option ℕ → ℕ
letter_shown mem (Some cell) = letter_for (get_or mem cell 0)
letter_shown mem None = code " "

-- The letter at a line and a column of the glass. D=0: a blank.
unfoldable pub letter_at : List ℕ → Record → Profile → ℕ → ℕ → ℕ
letter_at mem rec profile line column =
    cond rec.control.d (letter_shown mem (shown_at rec.function.n rec.shift profile line column)) (code " ")

-- The counter is on the cell that a position shows.
abbrev pub counter_shown : Counter → Option ℕ → Bool
counter_shown counter (Some cell) = is_on counter cell
counter_shown counter None = false

-- Under a line and a column of the glass: `^` where the counter is on the cell shown there, whatever D, C and B are.
unfoldable pub caret_at : Record → Profile → ℕ → ℕ → ℕ
caret_at rec profile line column =
    cond (counter_shown rec.counter (shown_at rec.function.n rec.shift profile line column)) (code "^") (code " ")

-- Rows of letters and rows for the counter's place take turns, a row of letters first.
abbrev pub is_letters : ℕ → Bool
is_letters y = eqb (y % 2) 0

-- `|` before and after the letters.
abbrev pub side_at : ℕ → ℕ
side_at y = cond (is_letters y) (code "|") (code " ")

-- A column of the glass in a row of the text.
unfoldable pub column_at : List ℕ → Record → Profile → ℕ → ℕ → ℕ
column_at mem rec profile column y =
    cond (is_letters y) (letter_at mem rec profile (y / 2) column) (caret_at rec profile (y / 2) column)

-- A row of the text from the glass's first column on: its columns, its side, and a newline.
unfoldable pub from_column : List ℕ → Record → Grid → ℕ → ℕ → ℕ
from_column mem rec grid column y =
    cond (ltb column grid.size.columns) (column_at mem rec grid.profile column y)
    (cond (eqb column grid.size.columns) (side_at y)
    newline)

-- The byte of the text at a place of a row.
unfoldable pub letters_at : List ℕ → Record → Grid → ℕ → ℕ → ℕ
letters_at mem rec grid x y = cond (eqb x 0) (side_at y) (from_column mem rec grid (x - 1) y)

-- A row of the text: the columns of the glass, two sides, and the end of the line.
unfoldable pub letters_width : Size → ℕ
letters_width size = size.columns + 3

-- Two rows of text for each line of the glass.
unfoldable pub letters_length : Size → ℕ
letters_length size = letters_width size * (size.lines * 2)
