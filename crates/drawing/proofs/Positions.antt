-- The theorems of specs/Theorems.antt on the letters.
-- Assumes nothing.
use mathlib.Core.Bool.{Bool, true, false, cond, false≢true}
use mathlib.Core.List.{List}
use mathlib.Core.Path.{◌≡◌, refl, sym, ap, ◌∙◌}
use Prim.Native.Char.{code}
use Prim.Native.Nat.{ℕ, ◌+◌, ◌-◌, ◌*◌, ◌/◌, ◌%◌, ◌<◌}
use native.Mathlib.Omega.{arith}
use borrow.Author.Tests.{eq-eqb, eqb-true, le-ltb, lt-ltb, ne_eqb}
use Rattle.std.specs.Prelude.{Option, Some, None}
use Rattle.controller.specs.declared.cells.Counter.{Counter}
use Rattle.controller.specs.declared.cells.Counter.TheVariants.{Display, Pattern}
use Rattle.controller.specs.declared.«record».Record.{Record}
use Rattle.dots.specs.declared.panel.Profile.{Profile}
use Rattle.dots.specs.Geometry.{shown_at}
use Rattle.dots.proofs.Places.{column_of_place, row_of_place}
use Rattle.drawing.specs.declared.grid.Grid.{Grid}
use Rattle.drawing.specs.declared.drawing.Form.TheVariants.{Letters}
use Rattle.drawing.specs.Letters.{caret_at, column_at, counter_shown, from_column, letter_at, letter_for, letters_at, letters_length, letters_width}
use Rattle.drawing.specs.Drawing.{drawn_byte, letters_byte}
use Rattle.drawing.proofs.Laws.Grid.{row_inside}
use Rattle.drawing.specs.Theorems.{CaretInPlace, LettersInPlace, LettersKept, ShowsCounter}

pub letters_kept : LettersKept
unfolding letter_for
letters_kept char low high = simp (le-ltb char 0x10 (omega arith), le-ltb char 0x20 low, lt-ltb char 0x7E high)

-- the byte at a row of the text and a column of the glass
byte_of_column : (dots mem : List ℕ) (rec : Record) (grid : Grid) (row column : ℕ) → row < grid.size.lines * 2 → column < grid.size.columns
    → drawn_byte Letters dots mem rec grid (row * (grid.size.columns + 3) + (column + 1)) ≡ column_at mem rec grid.profile column row
unfolding letters_byte letters_length letters_width letters_at from_column
byte_of_column dots mem rec grid row column r k =
    let width = grid.size.columns + 3 in
    let back : column + 1 - 1 ≡ column = omega arith in
    simp (
      lt-ltb _ _ (row_inside width row (grid.size.lines * 2) (column + 1) r (omega arith)),
      column_of_place width row (column + 1) (omega arith),
      row_of_place width row (column + 1) (omega arith),
      ne_eqb (column + 1) 0 (λ e. omega arith),
      back,
      lt-ltb column grid.size.columns k,
    )

pub letters_in_place : LettersInPlace
unfolding column_at letter_at
letters_in_place dots mem rec grid line column cell l k on shown =
    let even : line * 2 % 2 ≡ 0 = omega arith in
    let half : line * 2 / 2 ≡ line = omega arith in
    byte_of_column dots mem rec grid (line * 2) column (omega arith) k ∙ simp (even, half, on, shown)

-- the row below the letters
caret_of : (dots mem : List ℕ) (rec : Record) (grid : Grid) (line column : ℕ) → line < grid.size.lines → column < grid.size.columns
    → drawn_byte Letters dots mem rec grid ((line * 2 + 1) * (grid.size.columns + 3) + (column + 1)) ≡ caret_at rec grid.profile line column
unfolding column_at
caret_of dots mem rec grid line column l k =
    let odd : (line * 2 + 1) % 2 ≡ 1 = omega arith in
    let half : (line * 2 + 1) / 2 ≡ line = omega arith in
    byte_of_column dots mem rec grid (line * 2 + 1) column (omega arith) k ∙ simp (odd, half)

-- what stands there is decided by the counter and the cell shown
caret_is : (rec : Record) (profile : Profile) (line column : ℕ)
    → caret_at rec profile line column ≡ cond (counter_shown rec.counter (shown_at rec.function.n rec.shift profile line column)) (code "^") (code " ")
unfolding caret_at
caret_is rec profile line column = refl

-- a caret is drawn where the test holds and nowhere else
caret_tells : (b : Bool) → cond b (code "^") (code " ") ≡ code "^" → b ≡ true
caret_tells true is = refl
caret_tells false is = let differ : ◌≡◌ {A = ℕ} 32 94 = is in absurd (omega arith)

-- the test holds where the counter is on the cell that is shown
record On (counter : Counter) (shown : Option ℕ) : Type 0 where
  cell : ℕ
  counter_is : counter ≡ Display cell
  shown_is : shown ≡ Some cell

on_shown : (counter : Counter) (shown : Option ℕ) → counter_shown counter shown ≡ true → On counter shown
on_shown (Display at) (Some cell) is = record { cell = cell; counter_is = ap Display (eqb-true at cell is); shown_is = refl }
on_shown (Pattern at) (Some cell) is = absurd (false≢true is)
on_shown counter None is = absurd (false≢true is)

pub caret_in_place : CaretInPlace
caret_in_place dots mem rec grid line column l k = (there, here)
  where
    there : drawn_byte Letters dots mem rec grid ((line * 2 + 1) * (grid.size.columns + 3) + (column + 1)) ≡ code "^" → ShowsCounter rec grid.profile line column
    there is =
        let on = on_shown rec.counter (shown_at rec.function.n rec.shift grid.profile line column)
        (caret_tells _ (sym (caret_is rec grid.profile line column) ∙ (sym (caret_of dots mem rec grid line column l k) ∙ is))) in
        record { cell = on.cell; counter = on.counter_is; shown = on.shown_is }

    here : ShowsCounter rec grid.profile line column → drawn_byte Letters dots mem rec grid ((line * 2 + 1) * (grid.size.columns + 3) + (column + 1)) ≡ code "^"
    here shows = caret_of dots mem rec grid line column l k ∙ (caret_is rec grid.profile line column ∙ simp (shows.counter, shows.shown, eq-eqb shows.cell shows.cell refl))
