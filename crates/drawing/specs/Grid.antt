-- A panel's dots as a grid: before each character stands an empty column, above each line an empty row, and one of each at the
-- right and lower edge. Places count from 0 at the upper left corner.
-- Assumes nothing.
use Rattle.std.specs.Prelude.{Bool, not, ◌&&◌, ◌||◌, List, ℕ, ◌+◌, ◌-◌, ◌*◌, ◌/◌, ◌%◌, ◌^◌, ◌≤◌, eqb, get_or}
use Rattle.dots.specs.Geometry.{tallest}
use Rattle.drawing.specs.declared.grid.Grid.{Grid}

-- The last column of the grid: a character and the empty column before it are six.
unfoldable pub last_x : Grid → ℕ
last_x grid = grid.size.columns * 6

-- The last row of the grid: a line's rows and the empty row above them.
unfoldable pub last_y : Grid → ℕ
last_y grid = grid.size.lines * (grid.rows + 1)

-- The place stands between two characters or at an edge.
unfoldable pub is_between : Grid → ℕ → ℕ → Bool
is_between grid x y = eqb (x % 6) 0 || eqb (y % (grid.rows + 1)) 0

-- One of the five dots of a byte, counted from the left from 1: bit 4 is leftmost.
abbrev pub dot_of : ℕ → ℕ → Bool
dot_of byte dot = eqb (byte / 2 ^ (5 - dot) % 2) 1

-- The byte of the picture that holds the dot at a place: the empty rows above it are not counted.
unfoldable pub byte_of : Grid → ℕ → ℕ → ℕ
byte_of grid x y = (y - (y / (grid.rows + 1) + 1)) * grid.size.columns + x / 6

-- The dot at a place of the grid is lit; between characters there is none.
unfoldable pub is_lit : List ℕ → Grid → ℕ → ℕ → Bool
is_lit dots grid x y = not (is_between grid x y) && dot_of (get_or dots (byte_of grid x y) 0) (x % 6)

-- What the functions that draw lean on: no panel is larger.
pub record Small (grid : Grid) : Type 0 where
  pub columns : grid.size.columns ≤ 40
  pub lines : grid.size.lines ≤ 4
  pub rows : grid.rows ≤ tallest
