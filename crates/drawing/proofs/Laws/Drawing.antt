-- Laws of the drawings: how large they are, where their bytes stand, and when the picture beneath is refused.
-- Assumes nothing.
use Prim.Native.Nat.{ℕ, ◌+◌, ◌-◌, ◌*◌, ◌/◌, ◌%◌, ◌≤◌, ◌<◌}
use native.Mathlib.Nat.{mod-lt}
use native.Mathlib.Omega.{arith}
use Rattle.drawing.specs.declared.grid.Grid.{Grid}
use Rattle.drawing.specs.Grid.{Small, last_x, last_y}
use Rattle.drawing.specs.Drawing.{frame_width, frame_length, bitmap_length}
use Rattle.drawing.proofs.Laws.Grid.{in_row, last_x_most, last_y_most, product}

pub width_some : (grid : Grid) → 0 < frame_width grid
unfolding frame_width
width_some grid = omega arith

last_some : (grid : Grid) → 0 < last_x grid + 1
last_some grid = omega arith

module _ (grid : Grid) (small : Small grid) where
  pub width_most : frame_width grid ≤ 242
  unfolding frame_width
  width_most = omega (arith, last_x_most grid small)

  pub frame_product : frame_width grid * (last_y grid + 1) ≤ 11858
  frame_product = product (frame_width grid) (last_y grid + 1) 242 49 width_most (omega (arith, last_y_most grid small))

  pub frame_most : frame_length grid ≤ 11858
  unfolding frame_length
  frame_most = frame_product

  -- a place of the frame: its column and its row are small
  pub frame_column : (place : ℕ) → place % frame_width grid ≤ 255
  frame_column place = omega (arith, mod-lt place (width_some grid), width_most)

  pub frame_row : (place : ℕ) → place < frame_length grid → place / frame_width grid ≤ 255
  unfolding frame_length
  frame_row place inside = omega (arith, in_row place (frame_width grid) (last_y grid + 1) (width_some grid) inside, last_y_most grid small)

  -- the same of the pixels
  pub pixel_column : (place : ℕ) → place % (last_x grid + 1) ≤ 255
  pixel_column place = omega (arith, mod-lt place (last_some grid), last_x_most grid small)

  pub pixel_row : (place : ℕ) → 13 ≤ place → place < bitmap_length grid → (place - 13) / (last_x grid + 1) ≤ 511
  unfolding bitmap_length
  pixel_row place past inside =
      omega (arith, in_row (place - 13) (last_x grid + 1) ((last_y grid + 1) * 8) (omega arith) (omega arith), last_y_most grid small)
