-- Laws of the stretches: they fill the picture, a part of it stays in one line and one row, and its columns stand one behind the
-- other.
-- Assumes nothing.
use mathlib.Core.Bool.{Bool, true, false≢true}
use mathlib.Core.List.{List}
use mathlib.Core.Path.{◌≡◌, refl, sym, ap, ◌∙◌}
use Prim.Native.Nat.{ℕ, ◌+◌, ◌*◌, ◌/◌, ◌%◌, ◌≤◌, ◌<◌}
use native.Mathlib.Nat.{add-mul, add-zero, div-lt_iff_lt-mul, mod-lt, mul-le-mul, one-mul}
use native.Mathlib.Omega.{arith}
use Rattle.controller.specs.declared.«record».Function.{Function}
use Rattle.controller.specs.declared.«record».Record.{Record}
use Rattle.dots.specs.declared.panel.Place.{Place}
use Rattle.dots.specs.declared.panel.Profile.{Profile}
use Rattle.dots.specs.declared.panel.Profile.TheVariants.{Plain, FourRows, Divided, Unknown}
use Rattle.dots.specs.declared.panel.Size.{Size}
use Rattle.dots.specs.declared.stretch.Part.{Part}
use Rattle.dots.specs.Geometry.{height, picture_length, picture_room, tallest}
use Rattle.dots.specs.Panel.{fits_glass, place_at, size_of}
use Rattle.dots.specs.Picture.{dots_at, picture_byte}
use Rattle.dots.specs.Stretch.{part_at, stretch, stretches}
use Rattle.dots.proofs.Panels.{panel_columns, panel_lines, panel_some, picture_fits, place_within, plain_lines, plain_some}
use Rattle.dots.proofs.Places.{column_of_place, height_most, height_some, row_ends, row_of_place}

-- All parts together are the picture.
pub stretches_fill : (profile : Profile) (rows : ℕ) → stretches profile * rows * stretch profile ≡ (size_of profile).lines * rows * (size_of profile).columns
unfolding stretch stretches size_of
stretches_fill (Plain size) rows = refl
stretches_fill FourRows rows = refl
stretches_fill Divided rows = omega arith
stretches_fill Unknown rows = refl

-- They are few.
stretches_few : (profile : Profile) → fits_glass profile ≡ true → stretches profile ≤ 4
unfolding stretches fits_glass
stretches_few (Plain size) e = let few = plain_lines size e in omega arith
stretches_few FourRows e = omega arith
stretches_few Divided e = omega arith
stretches_few Unknown e = omega arith

pub parts_few : (function : Function) (profile : Profile) → fits_glass profile ≡ true → stretches profile * height function ≤ 4 * tallest
parts_few function profile e = mul-le-mul (stretches_few profile e) (height_most function)

-- And each ends within the room that every picture has.
pub part_ends : (function : Function) (profile : Profile) (at : ℕ) → fits_glass profile ≡ true → at < stretches profile * height function
    → at * stretch profile + stretch profile ≤ picture_room
part_ends function profile at e h =
    omega (arith, row_ends (stretch profile) at _ h, stretches_fill profile (height function), picture_fits function profile e)

-- And within an output that has room for the picture.
pub part_within_output : (function : Function) (profile : Profile) (at room : ℕ) → at < stretches profile * height function
    → picture_length function profile ≤ room → (at + 1) * stretch profile ≤ room
part_within_output function profile at room h fits =
    rw (add-mul, one-mul) (omega (arith, row_ends (stretch profile) at _ h, stretches_fill profile (height function)))

-- The first place of a row of a grid.
first_row : (width row : ℕ) → 0 < width → row * width / width ≡ row
first_row width row some = ap (λ (k : ℕ). k / width) (sym (add-zero (row * width))) ∙ row_of_place width row 0 some

first_column : (width row : ℕ) → 0 < width → row * width % width ≡ 0
first_column width row some = ap (λ (k : ℕ). k % width) (sym (add-zero (row * width))) ∙ column_of_place width row 0 some

-- Where a part begins: a row of a line, and in the divided row a row of one of its halves.
part_plain : (size : Size) (rows at : ℕ) → 0 < size.columns → part_at (Plain size) rows at ≡ record { line = at / rows; row = at % rows; column = 0 }
unfolding part_at stretch size_of
part_plain size rows at some = rw (first_row size.columns at some, first_column size.columns at some) refl

part_four_rows : (rows at : ℕ) → part_at FourRows rows at ≡ record { line = at / rows; row = at % rows; column = 0 }
unfolding part_at stretch size_of
part_four_rows rows at = rw (first_row 20 at (omega arith), first_column 20 at (omega arith)) refl

pub part_divided : (rows at : ℕ) → part_at Divided rows at ≡ record { line = at / 2 / rows; row = at / 2 % rows; column = at % 2 * 8 }
unfolding part_at stretch size_of
part_divided rows at =
    let above : at * 8 / 16 ≡ at / 2 = omega arith in
    let half : at * 8 % 16 ≡ at % 2 * 8 = omega arith in
    rw (above, half) refl

-- Of a panel that is there.
pub part_whole : (profile : Profile) (rows at : ℕ) → fits_glass profile ≡ true → (profile ≡ Divided → ⊥)
    → part_at profile rows at ≡ record { line = at / rows; row = at % rows; column = 0 }
unfolding fits_glass
part_whole (Plain size) rows at fits other = part_plain size rows at (plain_some size fits)
part_whole FourRows rows at fits other = part_four_rows rows at
part_whole Divided rows at fits other = absurd (other refl)
part_whole Unknown rows at fits other = absurd (false≢true fits)

-- The columns of a part are in the row where it begins, and count on from there.
same_row : (profile : Profile) (at i : ℕ) → i < stretch profile
    → (at * stretch profile + i) / (size_of profile).columns ≡ at * stretch profile / (size_of profile).columns
unfolding stretch size_of
same_row (Plain size) at i h = row_of_place size.columns at i h ∙ sym (first_row size.columns at (omega arith))
same_row FourRows at i h = omega arith
same_row Divided at i h = omega arith
same_row Unknown at i h = absurd (omega arith)

along_line : (profile : Profile) (line at i : ℕ) → i < stretch profile
    → (place_at profile line ((at * stretch profile + i) % (size_of profile).columns)).line ≡ (place_at profile line (at * stretch profile % (size_of profile).columns)).line
unfolding stretch size_of place_at
along_line (Plain size) line at i h = refl
along_line FourRows line at i h = refl
along_line Divided line at i h = omega arith
along_line Unknown line at i h = refl

along_position : (profile : Profile) (line at i : ℕ) → i < stretch profile
    → (place_at profile line ((at * stretch profile + i) % (size_of profile).columns)).position
    ≡ (place_at profile line (at * stretch profile % (size_of profile).columns)).position + i
unfolding stretch size_of place_at
along_position (Plain size) line at i h = omega (arith, column_of_place size.columns at i h, first_column size.columns at (omega arith))
along_position FourRows line at i h = omega arith
along_position Divided line at i h = omega arith
along_position Unknown line at i h = absurd (omega arith)

-- A part of the picture begins on the glass.
rows_above : (profile : Profile) (rows at : ℕ) → fits_glass profile ≡ true → at < stretches profile * rows
    → at * stretch profile / (size_of profile).columns < (size_of profile).lines * rows
unfolding stretch stretches size_of fits_glass
rows_above (Plain size) rows at e h = rw (first_row size.columns at (panel_some (Plain size) e)) h
rows_above FourRows rows at e h = omega arith
rows_above Divided rows at e h = omega arith
rows_above Unknown rows at e h = absurd (false≢true e)

module _ (profile : Profile) (rows at : ℕ) (fits : fits_glass profile ≡ true) (some : 0 < rows) (within : at < stretches profile * rows) where
  part_line : (part_at profile rows at).line < (size_of profile).lines
  unfolding part_at
  part_line = (div-lt_iff_lt-mul some).1 (rows_above profile rows at fits within)

  -- Its line and its column are small.
  pub part_small : ((part_at profile rows at).line ≤ 255) × ((part_at profile rows at).column ≤ 255)
  unfolding part_at
  part_small = (
    omega (arith, part_line, panel_lines profile fits),
    omega (arith, mod-lt (at * stretch profile) (panel_some profile fits), panel_columns profile fits),
  )

  -- Its columns stand one behind the other within 40 positions.
  part_within : (i : ℕ) → i < stretch profile → (place_at profile (part_at profile rows at).line (part_at profile rows at).column).position + i < 40
  unfolding part_at
  part_within i h =
      rw (along_position profile (at * stretch profile / (size_of profile).columns / rows) at i h)
      at (place_within profile _ ((at * stretch profile + i) % (size_of profile).columns) fits part_line (mod-lt _ (panel_some profile fits)))

-- The dots at such a column are the byte of the picture.
part_is_byte : (shapes : List ℕ) (rec : Record) (mem : List ℕ) (lit : Bool) (profile : Profile) (at i : ℕ) → i < stretch profile
    → let part = part_at profile (height rec.function) at in
    let place = place_at profile part.line part.column in
    dots_at shapes rec mem lit place.line part.row (place.position + i) ≡ picture_byte shapes rec mem lit profile (at * stretch profile + i)
unfolding part_at picture_byte
part_is_byte shapes rec mem lit profile at i h =
    let line = at * stretch profile / (size_of profile).columns / height rec.function in
    rw (same_row profile at i h, along_line profile line at i h, along_position profile line at i h) refl

-- What is known once the place of a part was looked up.
pub record Begun (rec : Record) (profile : Profile) (at : ℕ) (part : Part) (place : Place) : Type 0 where
  pub part_is : part ≡ part_at profile (height rec.function) at
  pub place_is : place ≡ place_at profile part.line part.column

pub begun : (rec : Record) (profile : Profile) (at : ℕ) (part : Part) (place : Place) (rows : ℕ) → rows ≡ height rec.function
    → part ≡ part_at profile rows at → place ≡ place_at profile part.line part.column → Begun rec profile at part place
begun rec profile at part place rows high is there = record { part_is = rw high at is; place_is = there }

module _ (rec : Record) (profile : Profile) (at : ℕ) (part : Part) (place : Place) (b : Begun rec profile at part place) where
  -- Its row is one of a line's, and each of its columns stands within 40 positions.
  pub begun_row : part.row < height rec.function
  unfolding part_at
  begun_row = rw b.part_is (mod-lt _ (height_some rec.function))

  pub begun_within : fits_glass profile ≡ true → at < stretches profile * height rec.function → (i : ℕ) → i < stretch profile → place.position + i < 40
  begun_within fits within i h =
      rw (b.place_is, b.part_is)
      (part_within profile (height rec.function) at fits (height_some rec.function) within i h)

  -- Its bytes are that part of the picture.
  pub begun_byte : (shapes mem : List ℕ) (lit : Bool) (i : ℕ) → i < stretch profile
      → dots_at shapes rec mem lit place.line part.row (place.position + i) ≡ picture_byte shapes rec mem lit profile (at * stretch profile + i)
  begun_byte shapes mem lit i h = rw (b.place_is, b.part_is) (part_is_byte shapes rec mem lit profile at i h)
