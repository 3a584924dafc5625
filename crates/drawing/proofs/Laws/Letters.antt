-- Laws of the letters: how large their numbers become, and what stands at a place of a row.
-- Assumes nothing.
use Prim.Native.Nat.{ℕ, ◌+◌, ◌*◌, ◌/◌, ◌%◌, ◌≤◌, ◌<◌}
use native.Mathlib.Nat.{mod-lt}
use native.Mathlib.Omega.{arith}
use Rattle.dots.specs.declared.panel.Size.{Size}
use Rattle.drawing.specs.declared.grid.Grid.{Grid}
use Rattle.drawing.specs.Grid.{Small}
use Rattle.drawing.specs.Letters.{letters_length, letters_width}
use Rattle.drawing.proofs.Laws.Grid.{in_row, product}

pub letters_some : (size : Size) → 0 < letters_width size
unfolding letters_width
letters_some size = omega arith

module _ (grid : Grid) (small : Small grid) where
  pub letters_product : letters_width grid.size * (grid.size.lines * 2) ≤ 344
  unfolding letters_width
  letters_product = product (grid.size.columns + 3) (grid.size.lines * 2) 43 8 (omega (arith, small.columns)) (omega (arith, small.lines))

  pub letters_most : letters_length grid.size ≤ 344
  unfolding letters_length
  letters_most = letters_product

  -- a place of the letters: its column and its row are small
  pub letters_column : (place : ℕ) → place % letters_width grid.size ≤ 255
  unfolding letters_width
  letters_column place = omega (arith, mod-lt place (letters_some grid.size), small.columns)

  pub letters_row : (place : ℕ) → place < letters_length grid.size → place / letters_width grid.size ≤ 255
  unfolding letters_length
  letters_row place inside =
      omega (arith, in_row place (letters_width grid.size) (grid.size.lines * 2) (letters_some grid.size) inside, small.lines)
