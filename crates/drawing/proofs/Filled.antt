-- The theorems of specs/Quarters.antt.
-- Assumes nothing.
use mathlib.Core.Bool.{Bool, true, false}
use mathlib.Core.Path.{◌≡◌, refl}
use Prim.Native.Nat.{◌+◌, ◌-◌, ◌*◌, ◌/◌, ◌%◌}
use native.Mathlib.Omega.{arith}
use borrow.Author.Tests.{lt-ltb, ne_eqb}
use lib.ListN.{get_or}
use Rattle.dots.proofs.Places.{column_of_place, row_of_place}
use Rattle.drawing.specs.Blocks.{block_at, blocks_at, blocks_bottom, blocks_edge, blocks_length, blocks_width, char_at, inner_char, pair_at, pair_of, quadrants}
use Rattle.drawing.specs.Drawing.{blocks_byte}
use Rattle.drawing.specs.Grid.{is_lit, last_y}
use Rattle.drawing.specs.Quarters.{BlocksInPlace, Fills, QuartersLit, is_among}
use Rattle.drawing.proofs.Laws.Grid.{row_inside}

pub blocks_in_place : BlocksInPlace
unfolding blocks_byte blocks_length blocks_width blocks_at char_at inner_char blocks_edge blocks_bottom
blocks_in_place dots mem rec grid x y at k r third =
    let columns = grid.size.columns in
    let width = (columns * 3 + 2) * 3 + 1 in
    let column = (x + 1) * 3 + at in
    let char : column / 3 ≡ x + 1 = omega arith in
    let byte : column % 3 ≡ at = omega arith in
    let left : (x + 1) * 2 - 1 ≡ x * 2 + 1 = omega arith in
    let upper : (y + 1) * 2 - 1 ≡ y * 2 + 1 = omega arith in
    simp (
      lt-ltb _ _ (row_inside width (y + 1) (last_y grid / 2 + 2) column (omega arith) (omega arith)),
      column_of_place width (y + 1) column (omega arith),
      row_of_place width (y + 1) column (omega arith),
      ne_eqb column ((columns * 3 + 2) * 3) (λ e. omega arith),
      char,
      byte,
      ne_eqb (x + 1) 0 (λ e. omega arith),
      ne_eqb (x + 1) (columns * 3 + 1) (λ e. omega arith),
      ne_eqb (y + 1) 0 (λ e. omega arith),
      ne_eqb (y + 1) (last_y grid / 2 + 1) (λ e. omega arith),
      left,
      upper,
    )

-- the sixteen characters one by one
each : (a b c d : Bool) → Fills (get_or quadrants (pair_of a b * 4 + pair_of c d) 0) a b c d
unfolding is_among
each true true true true = record { above_left = refl; above_right = refl; below_left = refl; below_right = refl }
each true true true false = record { above_left = refl; above_right = refl; below_left = refl; below_right = refl }
each true true false true = record { above_left = refl; above_right = refl; below_left = refl; below_right = refl }
each true true false false = record { above_left = refl; above_right = refl; below_left = refl; below_right = refl }
each true false true true = record { above_left = refl; above_right = refl; below_left = refl; below_right = refl }
each true false true false = record { above_left = refl; above_right = refl; below_left = refl; below_right = refl }
each true false false true = record { above_left = refl; above_right = refl; below_left = refl; below_right = refl }
each true false false false = record { above_left = refl; above_right = refl; below_left = refl; below_right = refl }
each false true true true = record { above_left = refl; above_right = refl; below_left = refl; below_right = refl }
each false true true false = record { above_left = refl; above_right = refl; below_left = refl; below_right = refl }
each false true false true = record { above_left = refl; above_right = refl; below_left = refl; below_right = refl }
each false true false false = record { above_left = refl; above_right = refl; below_left = refl; below_right = refl }
each false false true true = record { above_left = refl; above_right = refl; below_left = refl; below_right = refl }
each false false true false = record { above_left = refl; above_right = refl; below_left = refl; below_right = refl }
each false false false true = record { above_left = refl; above_right = refl; below_left = refl; below_right = refl }
each false false false false = record { above_left = refl; above_right = refl; below_left = refl; below_right = refl }

pub quarters_lit : QuartersLit
unfolding block_at pair_at
quarters_lit dots grid x y = each (is_lit dots grid x y) (is_lit dots grid (x + 1) y) (is_lit dots grid x (y + 1)) (is_lit dots grid (x + 1) (y + 1))
