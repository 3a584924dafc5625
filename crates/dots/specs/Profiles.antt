-- What is proved of the panels, in the words of document 02, request e: where their rows start, by addresses, and how they run
-- on; what N=0 leaves; that no cell shows at two positions; and which cells a glass shows. Each theorem is a type here, and its
-- proof stands in proofs/Profiles.antt.
-- Assumes nothing.
use Rattle.std.specs.Prelude.{Bool, true, false, List, ◌↔◌, ◌≡◌, ℕ, ◌+◌, ◌%◌, ◌≤◌, ◌<◌, Option, Some, None}
use Rattle.controller.specs.declared.«record».Record.{Record}
use Rattle.controller.specs.Cells.{add_of_cell}
use Rattle.dots.specs.declared.panel.Profile.{Profile}
use Rattle.dots.specs.declared.panel.Profile.TheVariants.{Plain, FourRows, Divided}
use Rattle.dots.specs.declared.panel.Size.{Size}
use Rattle.dots.specs.Geometry.{is_shown, shown_at}
use Rattle.dots.specs.Panel.{fits_glass, size_of}
use Rattle.dots.specs.Picture.{dots_on}
use Rattle.dots.specs.Theorems.{next_cell}

-- The plain geometry has the size that is asked for, the others their own.
pub record PanelSizes : Type 0 where
  pub plain : (size : Size) → size_of (Plain size) ≡ size
  pub four_rows : ((size_of FourRows).columns ≡ 20) × ((size_of FourRows).lines ≡ 4)
  pub divided : ((size_of Divided).columns ≡ 16) × ((size_of Divided).lines ≡ 1)

-- What is shown is the display cell at this address.
abbrev pub ShowsAddress : Bool → Option ℕ → ℕ → Type 0
ShowsAddress n (Some cell) address = (add_of_cell n cell).0 ≡ address
ShowsAddress n None address = ⊥

-- With N=1, at shift 0, this line and column of the glass shows the display cell at this address.
abbrev pub StartsAt : Profile → ℕ → ℕ → ℕ → Type 0
StartsAt profile line column address = ShowsAddress true (shown_at true 0 profile line column) address

-- Plain lines start at 00h and 40h. Rows 1 and 2 of the 20 x 4 panel start at 00h and 40h, rows 3 and 4 at 14h and 54h. The
-- divided row starts at 00h, and its columns 9 to 16 start at 40h.
pub record RowsStart : Type 0 where
  pub line_1 : (size : Size) → StartsAt (Plain size) 0 0 0x00
  pub line_2 : (size : Size) → StartsAt (Plain size) 1 0 0x40
  pub row_1 : StartsAt FourRows 0 0 0x00
  pub row_2 : StartsAt FourRows 1 0 0x40
  pub row_3 : StartsAt FourRows 2 0 0x14
  pub row_4 : StartsAt FourRows 3 0 0x54
  pub column_1 : StartsAt Divided 0 0 0x00
  pub column_9 : StartsAt Divided 0 8 0x40

-- The next column shows the next cell of the line, but for column 9 of the divided row. Rows 3 and 4 go on where rows 1 and 2
-- end. Shifting turns each line: one more shift shows at each position the next cell.
pub record RowsRun : Type 0 where
  pub next :
      (n : Bool) (shift : ℕ) (profile : Profile) (line column cell : ℕ)
      → column + 1 < (size_of profile).columns → (profile ≡ Divided → column + 1 ≡ 8 → ⊥)
      → shown_at n shift profile line column ≡ Some cell → shown_at n shift profile line (column + 1) ≡ Some (next_cell n cell)
  pub below :
      (n : Bool) (shift line cell : ℕ)
      → shown_at n shift FourRows line 19 ≡ Some cell → shown_at n shift FourRows (line + 2) 0 ≡ Some (next_cell n cell)
  pub shifted :
      (n : Bool) (shift : ℕ) (profile : Profile) (line column cell : ℕ)
      → shown_at n shift profile line column ≡ Some cell → shown_at n (shift + 1) profile line column ≡ Some (next_cell n cell)

-- With N=0 this line and column of the glass is zero.
abbrev pub Dark : Profile → ℕ → ℕ → Type 0
Dark profile line column =
    (shapes : List ℕ) (rec : Record) (mem : List ℕ) (lit : Bool) (row : ℕ)
    → rec.function.n ≡ false → dots_on shapes rec mem lit profile line row column ≡ 0

-- N=0: plain line 2 is zero, and so are the positions that start at 40h or 54h: rows 2 and 4, and columns 9 to 16.
pub record SecondLineDark : Type 0 where
  pub line_2 : (size : Size) (column : ℕ) → Dark (Plain size) 1 column
  pub row_2 : (column : ℕ) → Dark FourRows 1 column
  pub row_4 : (column : ℕ) → Dark FourRows 3 column
  pub column_9 : (column : ℕ) → 8 ≤ column → Dark Divided 0 column

-- N=0: the others read their cell plus shift modulo 80.
pub record FirstLineReads : Type 0 where
  pub line_1 : (shift : ℕ) (size : Size) (column : ℕ) → shown_at false shift (Plain size) 0 column ≡ Some ((column + shift) % 80)
  pub row_1 : (shift column : ℕ) → shown_at false shift FourRows 0 column ≡ Some ((column + shift) % 80)
  pub row_3 : (shift column : ℕ) → shown_at false shift FourRows 2 column ≡ Some ((0x14 + column + shift) % 80)
  pub column_1 : (shift column : ℕ) → column < 8 → shown_at false shift Divided 0 column ≡ Some ((column + shift) % 80)

-- At shift 0 no cell shows at two positions, nor at any other shift: for every panel and both N.
abbrev pub OnePosition : Type 0
OnePosition =
    (n : Bool) (shift : ℕ) (profile : Profile) (cell line column line' column' : ℕ)
    → fits_glass profile ≡ true → line < (size_of profile).lines → line' < (size_of profile).lines
    → column < (size_of profile).columns → column' < (size_of profile).columns
    → shown_at n shift profile line column ≡ Some cell → shown_at n shift profile line' column' ≡ Some cell
    → (line ≡ line') × (column ≡ column')

-- A position of the glass, and the display cell that it shows.
pub record Position (n : Bool) (shift : ℕ) (profile : Profile) (cell : ℕ) : Type 0 where
  pub line : ℕ
  pub column : ℕ
  pub on_line : line < (size_of profile).lines
  pub on_column : column < (size_of profile).columns
  pub shows : shown_at n shift profile line column ≡ Some cell

-- A display cell is shown exactly where a position of the glass shows it.
abbrev pub OnGlass : Type 0
OnGlass =
    (n : Bool) (shift : ℕ) (profile : Profile) (cell : ℕ) → fits_glass profile ≡ true
    → (is_shown n shift profile cell ≡ true) ↔ Position n shift profile cell

-- With N=1 the 20 x 4 panel shows every display cell, at every shift.
abbrev pub EveryCellShown : Type 0
EveryCellShown = (shift cell : ℕ) → cell < 80 → Position true shift FourRows cell
