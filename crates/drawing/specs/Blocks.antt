-- The dots as block characters in a frame, two dots to a character in each direction. Each character is three bytes of UTF-8.
-- Assumes nothing.
use Rattle.std.specs.Prelude.{Bool, cond, List, [], ◌∷◌, ℕ, ◌+◌, ◌-◌, ◌*◌, ◌/◌, ◌%◌, eqb, get_or}
use Rattle.lines.specs.Digits.{newline}
use Rattle.drawing.specs.declared.grid.Grid.{Grid}
use Rattle.drawing.specs.Grid.{is_lit, last_y}

-- One of the three bytes that UTF-8 has for a character U+0800 to U+FFFF.
unfoldable pub byte_of_char : ℕ → ℕ → ℕ
byte_of_char char at =
    cond (eqb at 0) (0xE0 + char / 4096)
    (cond (eqb at 1) (0x80 + char / 64 % 64)
    (0x80 + char % 64))

-- The sixteen characters of four quarters: 8 for the upper left one, 4 for the upper right, 2 for the lower left and 1 for the
-- lower right. The first is a blank of three bytes, the en space.
abbrev pub quadrants : List ℕ
quadrants =
    0x2002 ∷ 0x2597 ∷ 0x2596 ∷ 0x2584 ∷ 0x259D ∷ 0x2590 ∷ 0x259E ∷ 0x259F
    ∷ 0x2598 ∷ 0x259A ∷ 0x258C ∷ 0x2599 ∷ 0x2580 ∷ 0x259C ∷ 0x259B ∷ 0x2588 ∷ []

-- Two dots beside each other as a number: 2 for the left one, 1 for the right.
abbrev pub pair_of : Bool → Bool → ℕ
pair_of left right = cond left (cond right 3 2) (cond right 1 0)

-- The dot at a place of the grid and the one to its right.
unfoldable pub pair_at : List ℕ → Grid → ℕ → ℕ → ℕ
pair_at dots grid x y = pair_of (is_lit dots grid x y) (is_lit dots grid (x + 1) y)

-- The character of four dots, the upper left one at this place of the grid.
unfoldable pub block_at : List ℕ → Grid → ℕ → ℕ → ℕ
block_at dots grid x y = get_or quadrants (pair_at dots grid x y * 4 + pair_at dots grid x (y + 1)) 0

-- The last column of the text: three characters for each column of the glass, between the sides.
unfoldable pub blocks_edge : Grid → ℕ
blocks_edge grid = grid.size.columns * 3 + 1

-- The last row of the text.
unfoldable pub blocks_bottom : Grid → ℕ
blocks_bottom grid = last_y grid / 2 + 1

-- A side of the frame, with its corners.
abbrev pub side_char : Grid → ℕ → ℕ → ℕ → ℕ
side_char grid upper lower y = cond (eqb y 0) upper (cond (eqb y (blocks_bottom grid)) lower 0x2502)

-- What stands between the sides: the upper and the lower border, and the dots.
unfoldable pub inner_char : List ℕ → Grid → ℕ → ℕ → ℕ
inner_char dots grid x y =
    cond (eqb y 0) 0x2500
    (cond (eqb y (blocks_bottom grid)) 0x2500
    (block_at dots grid (x * 2 - 1) (y * 2 - 1)))

-- The character at a column and a row of the text.
unfoldable pub char_at : List ℕ → Grid → ℕ → ℕ → ℕ
char_at dots grid x y =
    cond (eqb x 0) (side_char grid 0x250C 0x2514 y)
    (cond (eqb x (blocks_edge grid)) (side_char grid 0x2510 0x2518 y)
    (inner_char dots grid x y))

-- The bytes of a row: three to a character, and a newline.
unfoldable pub blocks_width : Grid → ℕ
blocks_width grid = (grid.size.columns * 3 + 2) * 3 + 1

-- The bytes of all rows.
unfoldable pub blocks_length : Grid → ℕ
blocks_length grid = blocks_width grid * (last_y grid / 2 + 2)

-- The byte at a place of a row.
unfoldable pub blocks_at : List ℕ → Grid → ℕ → ℕ → ℕ
blocks_at dots grid at y =
    cond (eqb at ((grid.size.columns * 3 + 2) * 3)) newline
    (byte_of_char (char_at dots grid (at / 3) y) (at % 3))
