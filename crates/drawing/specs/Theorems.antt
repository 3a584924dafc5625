-- What is proved of the drawings: each theorem is a type here, and its proof stands in proofs/Theorems.antt or, of the letters,
-- in proofs/Positions.antt.
-- Assumes nothing.
use Rattle.std.specs.Prelude.{Bool, true, false, List, ◌↔◌, ◌≡◌, ℕ, ◌+◌, ◌*◌, ◌/◌, ◌≤◌, ◌<◌, length, get_or, Some, Result}
use Prim.Native.Char.{code}
use Rattle.controller.specs.declared.answers.Answer.{Answer}
use Rattle.controller.specs.declared.answers.Answer.TheVariants.{Done}
use Rattle.controller.specs.declared.cells.Counter.{Counter}
use Rattle.controller.specs.declared.cells.Counter.TheVariants.{Display}
use Rattle.controller.specs.declared.«record».Record.{Record}
use Rattle.controller.specs.Answers.{is_refusal, number_of, Row, Tells}
use Rattle.controller.specs.Cells.{address_of, on_cell}
use Rattle.dots.specs.declared.panel.Profile.{Profile}
use Rattle.dots.specs.declared.panel.Profile.TheVariants.{FourRows}
use Rattle.dots.specs.declared.panel.Size.{Size}
use Rattle.dots.specs.Font.{font}
use Rattle.dots.specs.Geometry.{height, picture_room, shown_at}
use Rattle.dots.specs.Panel.{size_of}
use Rattle.dots.specs.Picture.{answered, dots_on}
use Rattle.dots.specs.Theorems.{rows_for}
use Rattle.drawing.specs.declared.drawing.Form.{Form}
use Rattle.drawing.specs.declared.drawing.Form.TheVariants.{Blocks, Dots, Letters, Bitmap, Cells}
use Rattle.drawing.specs.declared.grid.Grid.{Grid}
use Rattle.drawing.specs.Grid.{dot_of, is_lit}
use Rattle.drawing.specs.Letters.{letter_for}
use Rattle.drawing.specs.Listing.{is_spare}
use Rattle.drawing.specs.Drawing.{DrawReturns, Drawn, Written, answering, dots_of, drawn_byte, grid_for}
use Rattle.drawing.specs.State.{address_shown}

-- Five columns of the grid for each column of the glass, and a row for each row of dots: the grid is lit where the picture's dot
-- is, the dots counted from the left from 1.
abbrev pub DotsInPlace : Type 0
DotsInPlace =
    (rec : Record) (mem : List ℕ) (profile : Profile) (lit : Bool) (line row column dot : ℕ)
    → answered rec mem profile picture_room ≡ Done
    → line < (size_of profile).lines → row < height rec.function → column < (size_of profile).columns → 1 ≤ dot → dot ≤ 5
    → is_lit (dots_of rec mem profile lit) (grid_for rec profile)
    (column * 6 + dot) (line * (height rec.function + 1) + (row + 1))
    ≡ dot_of (dots_on font rec mem lit profile line row column) dot

-- The letters of the codes that ASCII and the font both have are ASCII's.
abbrev pub LettersKept : Type 0
LettersKept = (char : ℕ) → 0x20 ≤ char → char < 0x7E → letter_for char ≡ char

-- With the display on, the letter of the cell that line l, column c of the glass shows stands in row 2 l of the text, column c
-- behind its side.
abbrev pub LettersInPlace : Type 0
LettersInPlace =
    (dots mem : List ℕ) (rec : Record) (grid : Grid) (line column cell : ℕ)
    → line < grid.size.lines → column < grid.size.columns → rec.control.d ≡ true
    → shown_at rec.function.n rec.shift grid.profile line column ≡ Some cell
    → drawn_byte Letters dots mem rec grid (line * 2 * (grid.size.columns + 3) + (column + 1)) ≡ letter_for (get_or mem cell 0)

-- This position of the glass shows the counter's cell.
pub record ShowsCounter (rec : Record) (profile : Profile) (line column : ℕ) : Type 0 where
  pub cell : ℕ
  pub counter : rec.counter ≡ Display cell
  pub shown : shown_at rec.function.n rec.shift profile line column ≡ Some cell

-- A caret stands in the row below it exactly where a position shows the counter's cell.
abbrev pub CaretInPlace : Type 0
CaretInPlace =
    (dots mem : List ℕ) (rec : Record) (grid : Grid) (line column : ℕ)
    → line < grid.size.lines → column < grid.size.columns
    → (drawn_byte Letters dots mem rec grid ((line * 2 + 1) * (grid.size.columns + 3) + (column + 1)) ≡ code "^")
    ↔ ShowsCounter rec grid.profile line column

-- With N=1 no cell is spare on the 20 x 4 panel, at any shift: the listing marks none.
abbrev pub NoneSpare : Type 0
NoneSpare = (shift place : ℕ) → is_spare true shift FourRows place ≡ false

-- The address that the state tells is the counter's own, which a status read gives.
abbrev pub AddressTold : Type 0
AddressTold = (n : Bool) (counter : Counter) → on_cell counter ≡ true → address_shown n counter ≡ address_of n counter

-- The bytes of a drawing, each character six dots wide and nine high with the gap beside it. All but the bitmap end with the
-- state's 136. In a frame: lines of text with their ends; rows of block characters, three bytes each, two dots wide and high; two
-- rows of letters for each line, three places wider than it. A head of 13 and pixels eight rows high. A listing of 900.
abbrev pub bytes_for : Form → Size → ℕ
bytes_for Dots size = (size.columns * 6 + 2) * (size.lines * 9 + 1) + 136
bytes_for Blocks size = ((size.columns * 3 + 2) * 3 + 1) * (size.lines * 9 / 2 + 2) + 136
bytes_for Letters size = (size.columns + 3) * (size.lines * 2) + 136
bytes_for Bitmap size = 13 + (size.columns * 6 + 1) * ((size.lines * 9 + 1) * 8)
bytes_for Cells size = 900 + 136

-- The rows of draw.
abbrev pub draw_rows : Form → Record → List ℕ → Profile → ℕ → List Row
draw_rows form rec mem profile room = rows_for rec mem profile (bytes_for form (size_of profile)) room

-- Each number is given exactly where its row applies and none before it in the order.
abbrev pub DrawAnswers : Type 0
DrawAnswers =
    (form : Form) (rec : Record) (mem : List ℕ) (profile : Profile) (room : ℕ)
    → Tells (number_of (answering form rec mem profile room)) (draw_rows form rec mem profile room)

-- A refusal tells length 0 and leaves the output as found.
abbrev pub DrawRefusals : Type 0
DrawRefusals =
    (form : Form) (rec : Record) (mem : List ℕ) (profile : Profile) (lit : Bool) (before : List ℕ)
    (returned : Written) (after : List ℕ)
    → Drawn form rec mem profile lit before returned after → is_refusal returned.answer ≡ true
    → (returned.length ≡ 0) × (after ≡ before)

-- What is told to be drawn lies within the output.
abbrev pub DrawFits : Type 0
DrawFits =
    (form : Form) (rec : Record) (mem : List ℕ) (profile : Profile) (lit : Bool) (before : List ℕ)
    (returned : Written) (after : List ℕ)
    → Drawn form rec mem profile lit before returned after → returned.length ≤ length before

-- No second answer fits: two results that both meet the promise of `draw` are one, and so are the outputs; and so it is of the
-- answers and lengths that they tell.
pub record OneDrawing : Type 0 where
  pub result :
      (form : Form) (rec : Record) (mem : List ℕ) (profile : Profile) (lit : Bool) (before : List ℕ)
      (a b : Result ℕ Answer) (x y : List ℕ)
      → DrawReturns form rec mem profile lit before a x → DrawReturns form rec mem profile lit before b y → (a ≡ b) × (x ≡ y)
  pub written :
      (form : Form) (rec : Record) (mem : List ℕ) (profile : Profile) (lit : Bool) (before : List ℕ) (a b : Written) (x y : List ℕ)
      → Drawn form rec mem profile lit before a x → Drawn form rec mem profile lit before b y → (a ≡ b) × (x ≡ y)
