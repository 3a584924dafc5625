-- Laws of the block characters: how large their numbers become.
-- Assumes nothing.
use Prim.Native.Nat.{ℕ, ◌+◌, ◌*◌, ◌/◌, ◌%◌, ◌≤◌, ◌<◌}
use native.Mathlib.Nat.{mod-lt}
use native.Mathlib.Omega.{arith}
use Rattle.drawing.specs.declared.grid.Grid.{Grid}
use Rattle.drawing.specs.Grid.{Small, last_y}
use Rattle.drawing.specs.Blocks.{blocks_length, blocks_width}
use Rattle.drawing.proofs.Laws.Grid.{in_row, last_y_most, product}

pub blocks_some : (grid : Grid) → 0 < blocks_width grid
unfolding blocks_width
blocks_some grid = omega arith

module _ (grid : Grid) (small : Small grid) where
  pub blocks_width_most : blocks_width grid ≤ 367
  unfolding blocks_width
  blocks_width_most = omega (arith, small.columns)

  pub blocks_product : blocks_width grid * (last_y grid / 2 + 2) ≤ 9542
  blocks_product = product (blocks_width grid) (last_y grid / 2 + 2) 367 26 blocks_width_most (omega (arith, last_y_most grid small))

  pub blocks_most : blocks_length grid ≤ 9542
  unfolding blocks_length
  blocks_most = blocks_product

  -- a place of the text: its column and its row are small
  pub blocks_column : (place : ℕ) → place % blocks_width grid ≤ 366
  blocks_column place = omega (arith, mod-lt place (blocks_some grid), blocks_width_most)

  pub blocks_row : (place : ℕ) → place < blocks_length grid → place / blocks_width grid ≤ 127
  unfolding blocks_length
  blocks_row place inside =
      omega (arith, in_row place (blocks_width grid) (last_y grid / 2 + 2) (blocks_some grid) inside, last_y_most grid small)
