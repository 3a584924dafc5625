-- The theorems of specs/Theorems.antt.
-- Assumes nothing.
use mathlib.Core.Bool.{Bool, true, false, cond, not, ◌&&◌}
use mathlib.Core.Path.{◌≡◌, refl, sym, ap, ◌∙◌}
use Prim.Native.Nat.{ℕ, ◌+◌, ◌-◌, ◌*◌, ◌%◌, ◌≤◌, ◌<◌}
use native.Mathlib.Nat.{mod-eq_of_lt, mul-add, mul-one}
use native.Mathlib.Omega.{arith}
use borrow.Author.Tests.{ltb-true, ne_eqb}
use lib.Dec.{ltb}
use lib.ListN.{length, replicate}
use Rattle.controller.specs.declared.cells.Counter.TheVariants.{Display, Pattern}
use Rattle.controller.specs.Answers.{is_refusal}
use Rattle.controller.specs.Cells.{address_of, address_set}
use Rattle.controller.proofs.Laws.Cells.{address_below, on_display, on_pattern}
use Rattle.dots.specs.declared.panel.Profile.TheVariants.{FourRows}
use Rattle.dots.specs.Geometry.{height, is_shown, picture_room}
use Rattle.dots.specs.Panel.{fits_glass}
use Rattle.dots.proofs.Answers.{passed}
use Rattle.dots.proofs.Places.{column_of_place, row_of_place}
use Rattle.dots.proofs.Profiles.{every_cell_shown, on_glass_lem}
use Rattle.dots.proofs.Theorems.{answers_given, each_byte}
use Rattle.drawing.specs.declared.grid.Grid.{Grid}
use Rattle.drawing.specs.declared.drawing.Form.TheVariants.{Blocks, Dots, Letters, Bitmap, Cells}
use Rattle.drawing.specs.Grid.{byte_of, is_between, is_lit, last_x, last_y}
use Rattle.drawing.specs.Blocks.{blocks_length, blocks_width}
use Rattle.drawing.specs.Letters.{letters_length, letters_width}
use Rattle.drawing.specs.Listing.{is_spare}
use Rattle.drawing.specs.Drawing.{Written, answering, bitmap_length, drawn_length, frame_length, frame_width, grid_for}
use Rattle.drawing.specs.State.{address_shown}
use Rattle.drawing.specs.Theorems.{AddressTold, DotsInPlace, DrawAnswers, DrawFits, DrawRefusals, NoneSpare, OneDrawing}

-- a place in a character is between none
inside_character : (grid : Grid) (line row column dot : ℕ) → row < grid.rows → 1 ≤ dot → dot ≤ 5
    → is_between grid (column * 6 + dot) (line * (grid.rows + 1) + (row + 1)) ≡ false
unfolding is_between
inside_character grid line row column dot r low high =
    simp (
      column_of_place 6 column dot (omega arith),
      column_of_place (grid.rows + 1) line (row + 1) (omega arith),
      ne_eqb dot 0 (λ e. omega arith),
      ne_eqb (row + 1) 0 (λ e. omega arith),
    )

-- the byte of such a place is that of its line, row and column
byte_in_place : (grid : Grid) (line row column dot : ℕ) → row < grid.rows → dot ≤ 5
    → byte_of grid (column * 6 + dot) (line * (grid.rows + 1) + (row + 1)) ≡ (line * grid.rows + row) * grid.size.columns + column
unfolding byte_of
byte_in_place grid line row column dot r high =
    let above : line * (grid.rows + 1) + (row + 1) - (line + 1) ≡ line * grid.rows + row = omega (arith, mul-add line grid.rows 1, mul-one line) in
    simp (row_of_place 6 column dot (omega arith), row_of_place (grid.rows + 1) line (row + 1) (omega arith), above)

pub dots_in_place : DotsInPlace
unfolding is_lit
dots_in_place rec mem profile lit line row column dot done l r k low high =
    let grid = grid_for rec profile in
    simp (
      inside_character grid line row column dot r low high,
      byte_in_place grid line row column dot r high,
      column_of_place 6 column dot (omega arith),
      each_byte rec mem profile lit (replicate picture_room 0) line row column done l r k,
    )

pub none_spare : NoneSpare
unfolding is_spare fits_glass
none_spare shift place = go (ltb place 80) refl
  where
    go : (b : Bool) → ltb place 80 ≡ b → (b && not (is_shown true shift FourRows place)) ≡ false
    go true e = simp ((on_glass_lem true shift FourRows place refl).1 (every_cell_shown shift place (ltb-true place 80 e)))
    go false e = refl

pub address_told : AddressTold
unfolding address_shown address_set address_of
address_told n (Display cell) on =
    let same : cell % 80 ≡ cell = mod-eq_of_lt (on_display cell on) in
    rw same (omega (arith, address_below n (Display cell) on))
address_told n (Pattern cell) on = omega (arith, on_pattern cell on)

pub draw_answers : DrawAnswers
unfolding frame_length frame_width blocks_length blocks_width letters_length letters_width bitmap_length last_x last_y height
draw_answers Dots rec mem profile room = answers_given rec mem profile _ room
draw_answers Blocks rec mem profile room = answers_given rec mem profile _ room
draw_answers Letters rec mem profile room = answers_given rec mem profile _ room
draw_answers Bitmap rec mem profile room = answers_given rec mem profile _ room
draw_answers Cells rec mem profile room = answers_given rec mem profile _ room

pub draw_refusals : DrawRefusals
draw_refusals form rec mem profile lit before returned after drawn refused =
    let is = ap (λ (w : Written). is_refusal w.answer) (sym drawn.told) ∙ refused in
    (ap (λ (w : Written). w.length) drawn.told ∙ rw is refl, drawn.out ∙ rw is refl)

pub draw_fits : DrawFits
draw_fits form rec mem profile lit before returned after drawn =
    rw (ap (λ (w : Written). w.length) drawn.told) (go (is_refusal (answering form rec mem profile (length before))) refl)
  where
    go : (b : Bool) → is_refusal (answering form rec mem profile (length before)) ≡ b → cond b 0 (drawn_length form rec profile) ≤ length before
    go true is = omega arith
    go false is = (passed rec mem profile _ _ is).room

pub one_drawing : OneDrawing
one_drawing = record {
  result = λ form rec mem profile lit before a b x y p q. (p.told ∙ sym q.told, p.drawn.out ∙ sym q.drawn.out);
  written = λ form rec mem profile lit before a b x y p q. (p.told ∙ sym q.told, p.out ∙ sym q.out);
}
