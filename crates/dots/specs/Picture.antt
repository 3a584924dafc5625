-- The dots of a picture and the call that draws it, with its refusals in order (document 01, "The dots", "What each number
-- says").
-- Assumes nothing.
use Rattle.std.specs.Prelude.{Bool, false, cond, not, ◌&&◌, ◌||◌, List, ◌≡◌, ℕ, zero, suc, ◌+◌, ◌*◌, ◌/◌, ◌%◌, ltb, eqb, length}
use Rattle.std.specs.Prelude.{get_or, set, Option, Some, None, Result, Ok, Err, ⊤}
use Rattle.controller.specs.declared.cells.Counter.{Counter}
use Rattle.controller.specs.declared.cells.Counter.TheVariants.{Display, Pattern}
use Rattle.controller.specs.declared.answers.Answer.{Answer}
use Rattle.controller.specs.declared.answers.Answer.TheVariants.{Done, Unsound, NotWhole, BadSize, OutputShort}
use Rattle.controller.specs.declared.«record».Control.{Control}
use Rattle.controller.specs.declared.«record».Record.{Record}
use Rattle.controller.specs.Bus.{whole}
use Rattle.controller.specs.Answers.{number_of, is_refusal}
use Rattle.controller.specs.Record.{sound}
use Rattle.dots.specs.declared.panel.Profile.{Profile}
use Rattle.dots.specs.Font.{font, table_row}
use Rattle.dots.specs.Geometry.{height, picture_length, cell_at}
use Rattle.dots.specs.Panel.{fits_glass, place_at, size_of}

-- Pattern (code modulo 8), low five bits. The pattern cells stand behind the 80 display cells, eight to a pattern.
abbrev pub pattern_row : List ℕ → ℕ → ℕ → ℕ
pattern_row mem code row = get_or mem (80 + code % 8 * 8 + row) 0 % 32

-- Codes 00h to 0Fh show a pattern, other codes come from the table of shapes.
unfoldable pub row_of : List ℕ → List ℕ → ℕ → ℕ → ℕ
row_of shapes mem code row = cond (ltb code 0x10) (pattern_row mem code row) (table_row shapes code row)

-- The counter is on this display cell.
abbrev pub is_on : Counter → ℕ → Bool
is_on (Display at) cell = eqb at cell
is_on (Pattern at) cell = false

-- Under the counter, C=1 sets the last row, and B=1 in the lit phase every row.
unfoldable pub cursor_sets : Control → Bool → ℕ → ℕ → Bool
cursor_sets control lit rows row = (control.c && eqb (row + 1) rows) || (control.b && lit)

-- The cursor or the blinking covers this row of this cell.
unfoldable pub covered : Record → Bool → ℕ → ℕ → Bool
covered rec lit row cell = cursor_sets rec.control lit (height rec.function) row && is_on rec.counter cell

-- One row of a display cell: all five dots where it is covered, else the row of the cell's code.
unfoldable pub cell_row : List ℕ → Record → List ℕ → Bool → ℕ → ℕ → ℕ
cell_row shapes rec mem lit row cell = cond (covered rec lit row cell) 0b11111 (row_of shapes mem (get_or mem cell 0) row)

-- A line that is not driven is zero.
unfoldable pub shown_row : List ℕ → Record → List ℕ → Bool → ℕ → Option ℕ → ℕ
shown_row shapes rec mem lit row (Some cell) = cell_row shapes rec mem lit row cell
shown_row shapes rec mem lit row None = 0

-- The five dots at a line of the controller, a row and a position, bit 4 leftmost. D=0: all zero.
unfoldable pub dots_at : List ℕ → Record → List ℕ → Bool → ℕ → ℕ → ℕ → ℕ
dots_at shapes rec mem lit line row position =
    cond rec.control.d (shown_row shapes rec mem lit row (cell_at rec.function.n rec.shift line position)) 0

-- The five dots at a line of the glass, a row and a column: those of its place.
abbrev pub dots_on : List ℕ → Record → List ℕ → Bool → Profile → ℕ → ℕ → ℕ → ℕ
dots_on shapes rec mem lit profile line row column =
    dots_at shapes rec mem lit (place_at profile line column).line row (place_at profile line column).position

-- Output byte (line x 8 + row) x columns + column holds the five dots at line, row and column.
unfoldable pub picture_byte : List ℕ → Record → List ℕ → Bool → Profile → ℕ → ℕ
picture_byte shapes rec mem lit profile at =
    let columns = (size_of profile).columns in
    let rows = height rec.function in
    dots_on shapes rec mem lit profile (at / columns / rows) (at / columns % rows) (at % columns)

-- Bytes start to start + count - 1 become f of their place; all others stay.
unfoldable pub painted : (ℕ → ℕ) → ℕ → ℕ → List ℕ → List ℕ
painted f start zero out = out
painted f start (suc count) out = set (painted f start count out) (start + count) (f (start + count))

-- The answer where so many bytes are to be drawn, the refusals in their order: 1, 2, 10, 11. `room` is the length of the output.
unfoldable pub answer_for : Record → List ℕ → Profile → ℕ → ℕ → Answer
answer_for rec mem profile bytes room =
    cond (not (sound rec)) Unsound
    (cond (not (whole mem)) NotWhole
    (cond (not (fits_glass profile)) BadSize
    (cond (ltb room bytes) OutputShort
    Done)))

-- The output left behind: as found on a refusal, else so many bytes are drawn, later bytes as found.
abbrev pub output_left : Answer → (ℕ → ℕ) → ℕ → List ℕ → List ℕ
output_left answer byte bytes out = cond (is_refusal answer) out (painted byte 0 bytes out)

-- The answer of the picture.
abbrev pub answered : Record → List ℕ → Profile → ℕ → Answer
answered rec mem profile room = answer_for rec mem profile (picture_length rec.function profile) room

-- The output that the picture leaves.
unfoldable pub output : Record → List ℕ → Profile → Bool → List ℕ → List ℕ
output rec mem profile lit out =
    output_left (answered rec mem profile (length out)) (picture_byte font rec mem lit profile)
    (picture_length rec.function profile) out

-- What a picture that is answered so tells: the answer, its number in the table, and every byte of the output.
pub record Pictured (rec : Record) (mem : List ℕ) (profile : Profile) (lit : Bool) (before : List ℕ) (answer : Answer)
    (after : List ℕ) : Type 0 where
  pub told : answer ≡ answered rec mem profile (length before)
  pub number : number_of answer ≡ number_of (answered rec mem profile (length before))
  pub out : after ≡ output rec mem profile lit before

-- The result that tells an answer: the refusal, or nothing more where it is 0.
abbrev pub result_of : Answer → Result ⊤ Answer
result_of Done = Ok tt
result_of refusal = Err refusal

-- The answer that a result tells.
abbrev pub answer_of : Result ⊤ Answer → Answer
answer_of (Ok done) = Done
answer_of (Err refusal) = refusal

-- What `picture` promises: the result, and the picture with the answer that it tells.
pub record PictureReturns (rec : Record) (mem : List ℕ) (profile : Profile) (lit : Bool) (before : List ℕ)
    (returned : Result ⊤ Answer) (after : List ℕ) : Type 0 where
  pub told : returned ≡ result_of (answered rec mem profile (length before))
  pub pictured : Pictured rec mem profile lit before (answer_of returned) after
