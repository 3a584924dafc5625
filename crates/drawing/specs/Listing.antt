-- All 144 cells as hexadecimal, sixteen to a line: the display cells, then the pattern cells. A display cell that no position of
-- the glass shows is marked `*`, and behind sixteen display cells they stand as letters.
-- Assumes nothing.
use Rattle.std.specs.Prelude.{Bool, cond, not, ◌&&◌, List, ◌++◌, ℕ, ◌+◌, ◌-◌, ◌*◌, ◌/◌, ◌%◌, ltb, eqb, get_or}
use Prim.Native.Char.{code}
use Rattle.dots.specs.declared.panel.Profile.{Profile}
use Rattle.dots.specs.Geometry.{is_shown}
use Rattle.lines.specs.Digits.{digit, newline}
use Rattle.lines.specs.Text.{bytes_of}
use Rattle.drawing.specs.Letters.{letter_for}
use Rattle.drawing.specs.Numbers.{two_wide}

-- The cell at this place of the memory is a display cell that the glass does not show.
unfoldable pub is_spare : Bool → ℕ → Profile → ℕ → Bool
is_spare n shift profile place = ltb place 80 && not (is_shown n shift profile place)

-- `display` and the first cell of the line.
abbrev pub display_label : ℕ → List ℕ
display_label cell = bytes_of "display " ++ two_wide cell

-- `pattern` and the first cell of the line.
abbrev pub pattern_label : ℕ → List ℕ
pattern_label cell = bytes_of "pattern " ++ two_wide cell

-- What stands before a line of cells: five lines are display cells, the rest pattern cells.
unfoldable pub label_for : ℕ → List ℕ
label_for line = cond (ltb line 5) (display_label (line * 16)) (pattern_label ((line - 5) * 16))

-- `*` for a spare cell.
abbrev pub mark_for : Bool → ℕ
mark_for spare = cond spare (code "*") (code " ")

-- One of the four bytes of a cell: a blank, its mark, and two digits.
unfoldable pub cell_char : Bool → ℕ → ℕ → ℕ
cell_char spare byte at =
    cond (eqb at 0) (code " ")
    (cond (eqb at 1) (mark_for spare)
    (cond (eqb at 2) (digit (byte / 16))
    (digit (byte % 16))))

-- The same of the cell at this place of the memory.
abbrev pub cell_field : List ℕ → Bool → ℕ → Profile → ℕ → ℕ → ℕ
cell_field mem n shift profile place at = cell_char (is_spare n shift profile place) (get_or mem place 0) at

-- The letters of a line's sixteen cells between bars, two blanks before them.
unfoldable pub letters_field : List ℕ → ℕ → ℕ → ℕ
letters_field mem line at =
    cond (ltb at 2) (code " ")
    (cond (eqb at 2) (code "|")
    (cond (eqb at 19) (code "|")
    (letter_for (get_or mem (line * 16 + (at - 3)) 0))))

-- What stands behind the cells: the letters of display cells. Pattern cells hold rows of dots and no text.
unfoldable pub text_column : List ℕ → ℕ → ℕ → ℕ
text_column mem line at = cond (ltb line 5) (letters_field mem line at) (code " ")

-- The byte of the listing at a column of a line: ten bytes of label, sixteen cells of four bytes, the letters, and a newline.
unfoldable pub listing_at : List ℕ → Bool → ℕ → Profile → ℕ → ℕ → ℕ
listing_at mem n shift profile x line =
    cond (eqb x 94) newline
    (cond (ltb x 10) (get_or (label_for line) x 0)
    (cond (ltb x 74) (cell_field mem n shift profile (line * 16 + (x - 10) / 4) ((x - 10) % 4))
    (text_column mem line (x - 74))))

-- A line of the listing: ten bytes of label, sixteen cells of four bytes, twenty bytes of letters, and a newline.
abbrev pub listing_width : ℕ
listing_width = 95

-- The nine lines.
abbrev pub listing_length : ℕ
listing_length = 9 * listing_width

-- What the marks mean.
abbrev pub legend : List ℕ
legend = bytes_of "display cells marked * are not on this glass\n"

-- The legend's length.
abbrev pub legend_length : ℕ
legend_length = 45
