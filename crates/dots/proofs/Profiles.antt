-- The theorems of specs/Profiles.antt.
-- Assumes nothing.
use mathlib.Core.Bool.{Bool, true, false}
use mathlib.Core.Path.{◌≡◌, refl, sym, ap, ◌∙◌}
use Prim.Native.Nat.{ℕ, ◌+◌, ◌-◌, ◌*◌, ◌/◌, ◌%◌, ◌≤◌, ◌<◌}
use native.Mathlib.Nat.{add-mul, add-mul-mod_self_right, div-add-mod', mod-add-mod, mod-eq_of_lt, mod-lt, one-mul}
use native.Mathlib.Omega.{arith}
use borrow.Author.Tests.{le-ltb, lt-ltb}
use lib.Dec.{ltb}
use Rattle.std.specs.Prelude.{Some}
use Rattle.controller.specs.Cells.{add_of_cell, line_length}
use Rattle.controller.proofs.Laws.Choice.{and_left, and_right}
use Rattle.dots.specs.declared.panel.Profile.{Profile}
use Rattle.dots.specs.declared.panel.Profile.TheVariants.{Plain, FourRows, Divided, Unknown}
use Rattle.dots.specs.Geometry.{cell_at, cell_in, driven_lines, is_shown_in, shown_at}
use Rattle.dots.specs.Panel.{fits_glass, on_glass, place_at, size_of}
use Rattle.dots.specs.Picture.{dots_at, shown_row}
use Rattle.dots.specs.Profiles.{Dark, EveryCellShown, FirstLineReads, OnGlass, OnePosition, PanelSizes, Position, RowsRun, RowsStart, SecondLineDark}
use Rattle.dots.specs.Theorems.{next_cell}
use Rattle.dots.proofs.Logic.{either}
use Rattle.dots.proofs.Panels.{on_place, place_on, place_one, place_within}
use Rattle.dots.proofs.Places.{column_of_place, row_of_place}
use Rattle.dots.proofs.Theorems.{line_shows, shown_at_lem}

pub panel_sizes : PanelSizes
unfolding size_of
panel_sizes = record { plain = λ size. refl; four_rows = (refl, refl); divided = (refl, refl) }

pub rows_start : RowsStart
unfolding cell_in place_at add_of_cell
rows_start =
    record {
      line_1 = λ size. refl;
      line_2 = λ size. refl;
      row_1 = refl;
      row_2 = refl;
      row_3 = refl;
      row_4 = refl;
      column_1 = refl;
      column_9 = refl;
    }

-- One position on in a line, where that is known by equations.
step_on : (n : Bool) (shift line position line' position' cell : ℕ) → line ≡ line' → position + 1 ≡ position'
    → cell_at n shift line position ≡ Some cell → cell_at n shift line' position' ≡ Some (next_cell n cell)
step_on n shift line position line' position' cell same on is = rw (sym same, sym on) (line_shows.next n shift line position cell is)

next_column : (n : Bool) (shift : ℕ) (profile : Profile) (line column cell : ℕ)
    → column + 1 < (size_of profile).columns → (profile ≡ Divided → column + 1 ≡ 8 → ⊥)
    → shown_at n shift profile line column ≡ Some cell → shown_at n shift profile line (column + 1) ≡ Some (next_cell n cell)
unfolding size_of place_at
next_column n shift (Plain size) line column cell k whole is = step_on n shift _ _ _ _ cell refl refl is
next_column n shift FourRows line column cell k whole is = step_on n shift _ _ _ _ cell refl (omega arith) is
next_column n shift Divided line column cell k whole is =
    let not-8 = whole refl in
    step_on n shift _ _ _ _ cell (omega (arith, not-8)) (omega (arith, not-8)) is
next_column n shift Unknown line column cell k whole is = step_on n shift _ _ _ _ cell refl refl is

next_row : (n : Bool) (shift line cell : ℕ)
    → shown_at n shift FourRows line 19 ≡ Some cell → shown_at n shift FourRows (line + 2) 0 ≡ Some (next_cell n cell)
unfolding place_at
next_row n shift line cell is = step_on n shift _ _ _ _ cell (omega arith) (omega arith) is

pub rows_run : RowsRun
rows_run =
    record {
      next = next_column;
      below = next_row;
      shifted = λ n shift profile line column cell is.
          line_shows.shifted n shift (place_at profile line column).line (place_at profile line column).position
          ∙ line_shows.next n shift (place_at profile line column).line (place_at profile line column).position cell is;
    }

-- With N=0 a place behind line 1 is zero.
behind_dark : (profile : Profile) (line column : ℕ) → 1 ≤ (place_at profile line column).line → Dark profile line column
unfolding dots_at shown_row cell_in
behind_dark profile line column behind shapes rec mem lit row n =
    rw (n, le-ltb (place_at profile line column).line 1 behind) (either (λ (k : ℕ). k ≡ 0) rec.control.d 0 0 refl refl)

pub second_line_dark : SecondLineDark
unfolding place_at
second_line_dark =
    record {
      line_2 = λ size column. behind_dark (Plain size) 1 column (omega arith);
      row_2 = λ column. behind_dark FourRows 1 column (omega arith);
      row_4 = λ column. behind_dark FourRows 3 column (omega arith);
      column_9 = λ column h. behind_dark Divided 0 column (omega arith);
    }

pub first_line_reads : FirstLineReads
unfolding cell_in place_at
first_line_reads =
    record {
      line_1 = λ shift size column. ap Some (omega arith);
      row_1 = λ shift column. ap Some (omega arith);
      row_3 = λ shift column. ap Some (omega arith);
      column_1 = λ shift column h.
          let first : column / 8 ≡ 0 = omega arith in
          let own : column % 8 ≡ column = omega arith in
          rw (first, own) (ap Some (omega arith));
    }

-- A position, shifted on and back again.
turned_back : (length shift position : ℕ) → position < length → (position + shift + (length - shift % length)) % length ≡ position
turned_back length shift position h =
    let some : 0 < length = omega arith in
    let whole : position + shift + (length - shift % length) ≡ position + (shift / length + 1) * length =
    omega (arith, div-add-mod' shift length, mod-lt shift some, add-mul (shift / length) 1 length, one-mul length) in
    rw (whole, add-mul-mod_self_right) (mod-eq_of_lt h)

-- The place that shows a cell: its line, and its position turned back.
module _ (driven length shift cell : ℕ) (some : 0 < length) where
  found : ltb (cell / length) driven ≡ true → cell_in driven length shift (cell / length) ((cell % length + (length - shift % length)) % length) ≡ Some cell
  unfolding cell_in
  found driving =
      let turned : cell % length + (length - shift % length) + shift ≡ cell % length + shift + (length - shift % length) = omega arith in
      let back : ((cell % length + (length - shift % length)) % length + shift) % length ≡ cell % length =
      rw (mod-add-mod, turned) (turned_back length shift (cell % length) (mod-lt cell some)) in
      rw (driving, back) (ap Some (div-add-mod' cell length))

  line_of : (line position : ℕ) → cell_in driven length shift line position ≡ Some cell → cell / length ≡ line
  line_of line position e = rw (sym (shown_at_lem driven length shift line position cell e).1) (row_of_place length line _ (mod-lt (position + shift) some))

  position_of : (line position : ℕ) → position < length → cell_in driven length shift line position ≡ Some cell
      → (cell % length + (length - shift % length)) % length ≡ position
  position_of line position within e =
      let rest : cell % length ≡ (position + shift) % length =
      rw (sym (shown_at_lem driven length shift line position cell e).1) (column_of_place length line _ (mod-lt (position + shift) some)) in
      rw (rest, mod-add-mod) (turned_back length shift position within)

line_long : (n : Bool) → 40 ≤ line_length n
line_long true = omega arith
line_long false = omega arith

line_some : (n : Bool) → 0 < line_length n
line_some true = omega arith
line_some false = omega arith

pub one_position : OnePosition
one_position n shift profile cell line column line' column' fits hl hl' hk hk' e e' =
    let long = line_long n in
    let within = place_within profile line column fits hl hk in
    let within' = place_within profile line' column' fits hl' hk' in
    place_one profile line column line' column' hl hl' hk hk'
    (sym (line_of (driven_lines n) (line_length n) shift cell (line_some n) _ _ e) ∙ line_of (driven_lines n) (line_length n) shift cell (line_some n) _ _ e')
    (sym (position_of (driven_lines n) (line_length n) shift cell (line_some n) _ _ (omega arith) e)
    ∙ position_of (driven_lines n) (line_length n) shift cell (line_some n) _ _ (omega arith) e')

pub on_glass_lem : OnGlass
unfolding is_shown_in
on_glass_lem n shift profile cell fits = (there, here)
  where
    there : is_shown_in (driven_lines n) (line_length n) shift profile cell ≡ true → Position n shift profile cell
    there is =
        let at = on_place profile _ _ (and_right (ltb (cell / line_length n) (driven_lines n)) _ is) in
        record {
          line = at.on;
          column = at.column;
          on_line = at.on_line;
          on_column = at.on_column;
          shows = rw (at.line_is, at.position_is) (found (driven_lines n) (line_length n) shift cell (line_some n) (and_left _ _ is));
        }

    here : Position n shift profile cell → is_shown_in (driven_lines n) (line_length n) shift profile cell ≡ true
    here p =
        let long = line_long n in
        let within = place_within profile p.line p.column fits p.on_line p.on_column in
        let row = line_of (driven_lines n) (line_length n) shift cell (line_some n) _ _ p.shows in
        let back = position_of (driven_lines n) (line_length n) shift cell (line_some n) _ _ (omega arith) p.shows in
        let driving = (shown_at_lem (driven_lines n) (line_length n) shift _ _ cell p.shows).0 in
        simp (row, back, driving, place_on profile p.line p.column fits p.on_line p.on_column)

pub every_cell_shown : EveryCellShown
unfolding fits_glass is_shown_in on_glass
every_cell_shown shift cell h =
    let inside = lt-ltb ((cell % 40 + (40 - shift % 40)) % 40) 40 (mod-lt _ (omega arith)) in
    (on_glass_lem true shift FourRows cell refl).0 (simp (lt-ltb (cell / 40) 2 (omega arith), inside))
