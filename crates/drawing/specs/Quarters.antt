-- What is proved of the block characters: each theorem is a type here, and its proof stands in proofs/Filled.antt. A rule that is
-- bent in code and definition alike is caught here.
-- Assumes nothing.
use Rattle.std.specs.Prelude.{Bool, false, ◌||◌, List, [], ◌∷◌, ◌≡◌, ℕ, ◌+◌, ◌*◌, ◌/◌, ◌<◌, eqb}
use Rattle.controller.specs.declared.«record».Record.{Record}
use Rattle.drawing.specs.declared.drawing.Form.TheVariants.{Blocks}
use Rattle.drawing.specs.declared.grid.Grid.{Grid}
use Rattle.drawing.specs.Blocks.{block_at, byte_of_char}
use Rattle.drawing.specs.Drawing.{drawn_byte}
use Rattle.drawing.specs.Grid.{is_lit, last_y}

-- The block at column x and row y of those in the frame stands for the dots from column 2 x + 1 and row 2 y + 1 of the grid on,
-- each of its three bytes at its place.
abbrev pub BlocksInPlace : Type 0
BlocksInPlace =
    (dots mem : List ℕ) (rec : Record) (grid : Grid) (x y at : ℕ)
    → x < grid.size.columns * 3 → y < last_y grid / 2 → at < 3
    → drawn_byte Blocks dots mem rec grid ((y + 1) * ((grid.size.columns * 3 + 2) * 3 + 1) + ((x + 1) * 3 + at))
    ≡ byte_of_char (block_at dots grid (x * 2 + 1) (y * 2 + 1)) at

-- A character is one of these.
unfoldable pub is_among : List ℕ → ℕ → Bool
is_among [] char = false
is_among (one ∷ rest) char = eqb char one || is_among rest char

-- Unicode's characters that fill the upper left quarter.
abbrev pub upper_left : List ℕ
upper_left = 0x2580 ∷ 0x2588 ∷ 0x258C ∷ 0x2598 ∷ 0x2599 ∷ 0x259A ∷ 0x259B ∷ 0x259C ∷ []

-- Those that fill the upper right quarter.
abbrev pub upper_right : List ℕ
upper_right = 0x2580 ∷ 0x2588 ∷ 0x2590 ∷ 0x259B ∷ 0x259C ∷ 0x259D ∷ 0x259E ∷ 0x259F ∷ []

-- Those that fill the lower left quarter.
abbrev pub lower_left : List ℕ
lower_left = 0x2584 ∷ 0x2588 ∷ 0x258C ∷ 0x2596 ∷ 0x2599 ∷ 0x259B ∷ 0x259E ∷ 0x259F ∷ []

-- Those that fill the lower right quarter.
abbrev pub lower_right : List ℕ
lower_right = 0x2584 ∷ 0x2588 ∷ 0x2590 ∷ 0x2597 ∷ 0x2599 ∷ 0x259A ∷ 0x259C ∷ 0x259F ∷ []

-- A character fills exactly these of its quarters.
pub record Fills (char : ℕ) (aboveLeft aboveRight belowLeft belowRight : Bool) : Type 0 where
  pub above_left : is_among upper_left char ≡ aboveLeft
  pub above_right : is_among upper_right char ≡ aboveRight
  pub below_left : is_among lower_left char ≡ belowLeft
  pub below_right : is_among lower_right char ≡ belowRight

-- Each quarter is filled exactly where its dot is lit.
abbrev pub QuartersLit : Type 0
QuartersLit =
    (dots : List ℕ) (grid : Grid) (x y : ℕ)
    → Fills (block_at dots grid x y)
    (is_lit dots grid x y) (is_lit dots grid (x + 1) y) (is_lit dots grid x (y + 1)) (is_lit dots grid (x + 1) (y + 1))
