-- What is proved of the definitions, in the order of document 01, "The dots"; then the rules of the answers. A rule is said in
-- another way than its definition says it, by steps, ranges or plain numbers, so that a theorem fails where a definition is
-- wrong. Each theorem is a type here, and its proof stands in proofs/Theorems.antt or, of the table, in proofs/Table.antt.
-- The theorems of the panels stand in Profiles.antt.
-- Assumes nothing.
use Rattle.std.specs.Prelude.{Bool, true, false, cond, ◌&&◌, List, [], ◌∷◌, ◌⊎◌, ◌≡◌, ℕ, ◌+◌, ◌*◌, ◌%◌, ◌≤◌, ◌<◌, eqb, length}
use Rattle.std.specs.Prelude.{get_or, Some, Result, ⊤}
use Rattle.controller.specs.declared.cells.Counter.TheVariants.{Display}
use Rattle.controller.specs.declared.answers.Answer.{Answer}
use Rattle.controller.specs.declared.answers.Answer.TheVariants.{Done}
use Rattle.controller.specs.declared.«record».Function.{Function}
use Rattle.controller.specs.declared.«record».Record.{Record}
use Rattle.controller.specs.Answers.{is_refusal, number_of, Row, Tells}
use Rattle.controller.specs.Record.{with_function}
use Rattle.controller.specs.Rows.{Breaks, NotLong}
use Rattle.dots.specs.declared.panel.Profile.{Profile}
use Rattle.dots.specs.declared.panel.Profile.TheVariants.{Plain, FourRows, Divided, Unknown}
use Rattle.dots.specs.Font.{font, shape_rows, table_length, table_row}
use Rattle.dots.specs.Geometry.{height, picture_length, cell_at, shown_at}
use Rattle.dots.specs.Panel.{size_of}
use Rattle.dots.specs.Picture.{Pictured, PictureReturns, answered, cell_row, dots_on, output, row_of}

-- This call is answered 0.
abbrev pub Draws : Record → List ℕ → Profile → List ℕ → Type 0
Draws rec mem profile out = answered rec mem profile (length out) ≡ Done

-- Output byte (line x 8 + row) x columns + column holds the five dots at line, row and column.
abbrev pub EachByte : Type 0
EachByte =
    (rec : Record) (mem : List ℕ) (profile : Profile) (lit : Bool) (out : List ℕ) (line row column : ℕ)
    → Draws rec mem profile out
    → line < (size_of profile).lines → row < height rec.function → column < (size_of profile).columns
    → get_or (output rec mem profile lit out) ((line * height rec.function + row) * (size_of profile).columns + column) 0
    ≡ dots_on font rec mem lit profile line row column

-- That is eight rows to a line, whatever N and F are.
abbrev pub EightRows : Type 0
EightRows = (function : Function) → height function ≡ 8

-- Five dots and no more: every byte of a picture is below 32.
abbrev pub FiveDots : Type 0
FiveDots =
    (rec : Record) (mem : List ℕ) (profile : Profile) (lit : Bool) (out : List ℕ) (at : ℕ)
    → Draws rec mem profile out → at < picture_length rec.function profile
    → get_or (output rec mem profile lit out) at 0 < 32

-- Later bytes stay, and the output keeps its length.
abbrev pub LaterStay : Type 0
LaterStay =
    (rec : Record) (mem : List ℕ) (profile : Profile) (lit : Bool) (out : List ℕ)
    → ((at : ℕ) → picture_length rec.function profile ≤ at → get_or (output rec mem profile lit out) at 0 ≡ get_or out at 0)
    × (length (output rec mem profile lit out) ≡ length out)

-- The cell behind this one in its line, and behind the line's last cell its first. With N=0 line 1 has cells 0 to 79; with N=1
-- line 1 has cells 0 to 39 and line 2 cells 40 to 79.
unfoldable pub next_cell : Bool → ℕ → ℕ
next_cell false cell = cond (eqb cell 79) 0 (cell + 1)
next_cell true cell = cond (eqb cell 39) 0 (cond (eqb cell 79) 40 (cell + 1))

-- The cell of each position of a line, by steps. At shift 0 line 1 begins with cell 0 and, with N=1, line 2 with cell 40. The
-- next position shows the next cell of the line, and one more shift shows at each position what the next one showed.
pub record LineShows : Type 0 where
  pub first : (n : Bool) → cell_at n 0 0 0 ≡ Some 0
  pub second : cell_at true 0 1 0 ≡ Some 40
  pub next :
      (n : Bool) (shift line position cell : ℕ)
      → cell_at n shift line position ≡ Some cell → cell_at n shift line (position + 1) ≡ Some (next_cell n cell)
  pub shifted : (n : Bool) (shift line position : ℕ) → cell_at n (shift + 1) line position ≡ cell_at n shift line (position + 1)

-- With D=1 a position of the glass that shows a cell has the dots of that cell.
abbrev pub PositionDots : Type 0
PositionDots =
    (shapes : List ℕ) (rec : Record) (mem : List ℕ) (lit : Bool) (profile : Profile) (line row column cell : ℕ)
    → rec.control.d ≡ true → shown_at rec.function.n rec.shift profile line column ≡ Some cell
    → dots_on shapes rec mem lit profile line row column ≡ cell_row shapes rec mem lit row cell

-- The low five bits of a byte: below 32, and the byte is a multiple of 32 more.
pub record LowFive (byte low : ℕ) : Type 0 where
  pub below : low < 32
  pub times : ℕ
  pub more : byte ≡ times * 32 + low

-- Codes 00h to 07h show patterns 0 to 7, low five bits: pattern cell 8 x code + row, behind the 80 display cells. Codes 08h to
-- 0Fh show the same patterns again.
pub record PatternShows : Type 0 where
  pub bits :
      (shapes mem : List ℕ) (code row : ℕ) → code < 8
      → LowFive (get_or mem (80 + (8 * code + row)) 0) (row_of shapes mem code row)
  pub again : (shapes mem : List ℕ) (code row : ℕ) → code < 8 → row_of shapes mem (code + 8) row ≡ row_of shapes mem code row

-- Other codes come from the table, whatever the memory is, eight rows to a code. It has 256 x 8 = 2,048 rows.
pub record TableShows : Type 0 where
  pub shown : (mem : List ℕ) (code row : ℕ) → 0x10 ≤ code → row_of font mem code row ≡ get_or font (code * 8 + row) 0
  pub long : length font ≡ 2048

-- All rows of a code are zero in the table.
abbrev pub Blank : ℕ → Type 0
Blank code = (row : ℕ) → row < shape_rows → table_row font code row ≡ 0

-- All rows of two codes are the same in the table.
abbrev pub Alike : ℕ → ℕ → Type 0
Alike a b = (row : ℕ) → row < shape_rows → table_row font a row ≡ table_row font b row

-- Outside 20h to 7Dh the table is blank. 20h is blank too; 21h to 7Dh are none of them blank and no two alike.
pub record TableShapes : Type 0 where
  pub below : (code : ℕ) → code < 0x20 → Blank code
  pub above : (code : ℕ) → 0x7D < code → Blank code
  pub space : Blank 0x20
  pub drawn : (code : ℕ) → 0x21 ≤ code → code ≤ 0x7D → Blank code → ⊥
  pub apart : (a b : ℕ) → 0x21 ≤ a → a ≤ 0x7D → 0x21 ≤ b → b ≤ 0x7D → Alike a b → a ≡ b

-- Every row in the table is below 32 and every eighth row is 0.
abbrev pub TableRows : Type 0
TableRows =
    (place : ℕ) → place < table_length
    → (get_or font place 0 < 32) × (place % shape_rows + 1 ≡ shape_rows → get_or font place 0 ≡ 0)

-- F does not alter the picture, nor the answer.
abbrev pub FAltersNothing : Type 0
FAltersNothing =
    (rec : Record) (f : Bool) (mem : List ℕ) (profile : Profile) (lit : Bool) (out : List ℕ)
    → let other = with_function rec.wide (record { n = rec.function.n; f = f }) rec in
    (answered other mem profile (length out) ≡ answered rec mem profile (length out))
    × (output other mem profile lit out ≡ output rec mem profile lit out)

-- With the counter on this display cell, C=1 sets all five dots of its last row, and B=1 in the lit phase those of every row.
-- Any other row is that of the cell's code.
pub record Cursor (shapes : List ℕ) (rec : Record) (mem : List ℕ) (cell : ℕ) : Type 0 where
  pub underlined :
      rec.counter ≡ Display cell → rec.control.c ≡ true → (lit : Bool) (row : ℕ) → row + 1 ≡ height rec.function
      → cell_row shapes rec mem lit row cell ≡ 0b11111
  pub blinking : rec.counter ≡ Display cell → rec.control.b ≡ true → (row : ℕ) → cell_row shapes rec mem true row cell ≡ 0b11111
  pub higher :
      (lit : Bool) → (rec.control.b && lit) ≡ false → (row : ℕ) → row + 1 < height rec.function
      → cell_row shapes rec mem lit row cell ≡ row_of shapes mem (get_or mem cell 0) row
  pub without :
      (lit : Bool) → (rec.control.b && lit) ≡ false → rec.control.c ≡ false → (row : ℕ)
      → cell_row shapes rec mem lit row cell ≡ row_of shapes mem (get_or mem cell 0) row
  pub elsewhere :
      (lit : Bool) → (rec.counter ≡ Display cell → ⊥) → (row : ℕ)
      → cell_row shapes rec mem lit row cell ≡ row_of shapes mem (get_or mem cell 0) row

-- So it is for every table, record, memory and cell.
abbrev pub CursorShows : Type 0
CursorShows = (shapes : List ℕ) (rec : Record) (mem : List ℕ) (cell : ℕ) → Cursor shapes rec mem cell

-- D=0: all zero.
abbrev pub OffDark : Type 0
OffDark =
    (shapes : List ℕ) (rec : Record) (mem : List ℕ) (lit : Bool) (profile : Profile) (line row column : ℕ)
    → rec.control.d ≡ false → dots_on shapes rec mem lit profile line row column ≡ 0

-- Row 10: columns outside 1 to 40, or lines outside 1 and 2, of the plain geometry; or an unknown profile.
unfoldable pub OffGlass : Profile → Type 0
OffGlass (Plain size) = (size.columns < 1) ⊎ ((40 < size.columns) ⊎ ((size.lines < 1) ⊎ (2 < size.lines)))
OffGlass FourRows = ⊥
OffGlass Divided = ⊥
OffGlass Unknown = Unit {0}

-- The rows of a call that draws so many bytes, in their order.
unfoldable pub rows_for : Record → List ℕ → Profile → ℕ → ℕ → List Row
rows_for rec mem profile bytes room =
    record { number = 1; applies = Breaks rec }
    ∷ record { number = 2; applies = NotLong mem }
    ∷ record { number = 10; applies = OffGlass profile }
    ∷ record { number = 11; applies = room < bytes }
    ∷ []

-- The bytes that picture draws: lines x 8 x columns, 640 for the 20 x 4 panel and 128 for the divided row.
unfoldable pub picture_bytes : Profile → ℕ
picture_bytes (Plain size) = size.lines * 8 * size.columns
picture_bytes FourRows = 640
picture_bytes Divided = 128
picture_bytes Unknown = 0

-- The rows of picture.
abbrev pub picture_rows : Record → List ℕ → Profile → ℕ → List Row
picture_rows rec mem profile room = rows_for rec mem profile (picture_bytes profile) room

-- Each number is given exactly where its row applies and none before it in the order.
abbrev pub PictureAnswers : Type 0
PictureAnswers =
    (rec : Record) (mem : List ℕ) (profile : Profile) (room : ℕ)
    → Tells (number_of (answered rec mem profile room)) (picture_rows rec mem profile room)

-- A refusal leaves the output as found.
abbrev pub PictureRefusals : Type 0
PictureRefusals =
    (rec : Record) (mem : List ℕ) (profile : Profile) (lit : Bool) (out : List ℕ)
    → is_refusal (answered rec mem profile (length out)) ≡ true → output rec mem profile lit out ≡ out

-- No second answer fits: two results that both meet the promise of `picture` are one, and so are the outputs; and so it is of the
-- answers that they tell.
pub record OnePicture : Type 0 where
  pub result :
      (rec : Record) (mem : List ℕ) (profile : Profile) (lit : Bool) (before : List ℕ) (a b : Result ⊤ Answer) (x y : List ℕ)
      → PictureReturns rec mem profile lit before a x → PictureReturns rec mem profile lit before b y → (a ≡ b) × (x ≡ y)
  pub answer :
      (rec : Record) (mem : List ℕ) (profile : Profile) (lit : Bool) (before : List ℕ) (a b : Answer) (x y : List ℕ)
      → Pictured rec mem profile lit before a x → Pictured rec mem profile lit before b y → (a ≡ b) × (x ≡ y)
