-- Laws of the panels: how large they are, and how their positions and the places in the controller's lines belong together.
-- Assumes nothing.
use mathlib.Core.Bool.{true, ◌&&◌, false≢true}
use mathlib.Core.Path.{◌≡◌, refl}
use Prim.Native.Nat.{ℕ, ◌+◌, ◌*◌, ◌/◌, ◌%◌, ◌≤◌, ◌<◌}
use native.Mathlib.Nat.{mul-le-mul}
use native.Mathlib.Omega.{arith}
use borrow.Author.Tests.{leb-true, lt-ltb, ltb-true}
use lib.Dec.{leb, ltb}
use Rattle.controller.specs.declared.«record».Function.{Function}
use Rattle.controller.proofs.Laws.Choice.{and_left, and_right}
use Rattle.dots.specs.declared.panel.Profile.{Profile}
use Rattle.dots.specs.declared.panel.Profile.TheVariants.{Plain, FourRows, Divided, Unknown}
use Rattle.dots.specs.declared.panel.Size.{Size}
use Rattle.dots.specs.Geometry.{picture_length, picture_room}
use Rattle.dots.specs.Panel.{fits_glass, fits_plain, on_glass, place_at, size_of}
use Rattle.dots.proofs.Places.{height_most}

-- A plain size in range.
plain_columns : (size : Size) → fits_plain size ≡ true → size.columns ≤ 40
unfolding fits_plain
plain_columns size e = leb-true size.columns 40 (and_left _ _ (and_right (leb 1 size.columns) _ e))

pub plain_lines : (size : Size) → fits_plain size ≡ true → size.lines ≤ 2
unfolding fits_plain
plain_lines size e =
    leb-true size.lines 2 (and_right (leb 1 size.lines) _ (and_right (leb size.columns 40) _ (and_right (leb 1 size.columns) _ e)))

pub plain_some : (size : Size) → fits_plain size ≡ true → 0 < size.columns
unfolding fits_plain
plain_some size e = let least = leb-true 1 size.columns (and_left _ _ e) in omega arith

-- Of every panel.
pub panel_columns : (profile : Profile) → fits_glass profile ≡ true → (size_of profile).columns ≤ 40
unfolding fits_glass size_of
panel_columns (Plain size) e = plain_columns size e
panel_columns FourRows e = omega arith
panel_columns Divided e = omega arith
panel_columns Unknown e = omega arith

pub panel_lines : (profile : Profile) → fits_glass profile ≡ true → (size_of profile).lines ≤ 4
unfolding fits_glass size_of
panel_lines (Plain size) e = let few = plain_lines size e in omega arith
panel_lines FourRows e = omega arith
panel_lines Divided e = omega arith
panel_lines Unknown e = omega arith

pub panel_some : (profile : Profile) → fits_glass profile ≡ true → 0 < (size_of profile).columns
unfolding fits_glass size_of
panel_some (Plain size) e = plain_some size e
panel_some FourRows e = omega arith
panel_some Divided e = omega arith
panel_some Unknown e = absurd (false≢true e)

-- Its picture has room in so many bytes.
pub picture_fits : (function : Function) (profile : Profile) → fits_glass profile ≡ true → picture_length function profile ≤ picture_room
unfolding fits_glass size_of
picture_fits function (Plain size) e = mul-le-mul (mul-le-mul (plain_lines size e) (height_most function)) (plain_columns size e)
picture_fits function FourRows e = omega (arith, height_most function)
picture_fits function Divided e = omega (arith, height_most function)
picture_fits function Unknown e = omega arith

-- A place is small for every byte, and within 40 positions for the positions of a glass.
pub place_small : (profile : Profile) (line column : ℕ) → line ≤ 255 → column ≤ 255 → (place_at profile line column).position < 4096
unfolding place_at
place_small (Plain size) line column l k = omega arith
place_small FourRows line column l k = omega arith
place_small Divided line column l k = omega arith
place_small Unknown line column l k = omega arith

pub place_within : (profile : Profile) (line column : ℕ) → fits_glass profile ≡ true
    → line < (size_of profile).lines → column < (size_of profile).columns → (place_at profile line column).position < 40
unfolding fits_glass size_of place_at
place_within (Plain size) line column e l k = let most = plain_columns size e in omega arith
place_within FourRows line column e l k = omega arith
place_within Divided line column e l k = omega arith
place_within Unknown line column e l k = absurd (false≢true e)

-- No two positions of a glass have the same place.
pub place_one : (profile : Profile) (line column line' column' : ℕ)
    → line < (size_of profile).lines → line' < (size_of profile).lines → column < (size_of profile).columns → column' < (size_of profile).columns
    → (place_at profile line column).line ≡ (place_at profile line' column').line
    → (place_at profile line column).position ≡ (place_at profile line' column').position
    → (line ≡ line') × (column ≡ column')
unfolding size_of place_at
place_one (Plain size) line column line' column' l l' k k' same_line same = (same_line, same)
place_one FourRows line column line' column' l l' k k' same_line same = (omega arith, omega arith)
place_one Divided line column line' column' l l' k k' same_line same = (omega arith, omega arith)
place_one Unknown line column line' column' l l' k k' same_line same = (same_line, same)

-- Two tests that both hold.
both_below : (a b c d : ℕ) → a < b → c < d → (ltb a b && ltb c d) ≡ true
both_below a b c d p q = simp (lt-ltb a b p, lt-ltb c d q)

-- The place of a position is on the glass.
pub place_on : (profile : Profile) (line column : ℕ) → fits_glass profile ≡ true → line < (size_of profile).lines → column < (size_of profile).columns
    → on_glass profile (place_at profile line column).line (place_at profile line column).position ≡ true
unfolding fits_glass size_of place_at on_glass
place_on (Plain size) line column e l k = both_below line size.lines column size.columns l k
place_on FourRows line column e l k =
    let place = place_at FourRows line column in both_below place.line 2 place.position 40 (omega arith) (omega arith)
place_on Divided line column e l k =
    let place = place_at Divided line column in both_below place.line 2 place.position 8 (omega arith) (omega arith)
place_on Unknown line column e l k = absurd (false≢true e)

-- And a place on the glass is that of a position.
pub record Stands (profile : Profile) (line position : ℕ) : Type 0 where
  pub on : ℕ
  pub column : ℕ
  pub on_line : on < (size_of profile).lines
  pub on_column : column < (size_of profile).columns
  pub line_is : (place_at profile on column).line ≡ line
  pub position_is : (place_at profile on column).position ≡ position

pub on_place : (profile : Profile) (line position : ℕ) → on_glass profile line position ≡ true → Stands profile line position
unfolding size_of place_at on_glass
on_place (Plain size) line position is =
    record {
      on = line;
      column = position;
      on_line = ltb-true line size.lines (and_left _ _ is);
      on_column = ltb-true position size.columns (and_right (ltb line size.lines) _ is);
      line_is = refl;
      position_is = refl;
    }
on_place FourRows line position is =
    let few = ltb-true line 2 (and_left _ _ is) in
    let near = ltb-true position 40 (and_right (ltb line 2) _ is) in
    record {
      on = position / 20 * 2 + line;
      column = position % 20;
      on_line = omega arith;
      on_column = omega arith;
      line_is = omega arith;
      position_is = omega arith;
    }
on_place Divided line position is =
    let few = ltb-true line 2 (and_left _ _ is) in
    let near = ltb-true position 8 (and_right (ltb line 2) _ is) in
    record {
      on = 0;
      column = line * 8 + position;
      on_line = omega arith;
      on_column = omega arith;
      line_is = omega arith;
      position_is = omega arith;
    }
on_place Unknown line position is = absurd (false≢true is)
