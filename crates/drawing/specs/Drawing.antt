-- The forms of a drawing, byte by byte, and the call that draws, with its refusals in order.
-- Assumes nothing.
use Rattle.std.specs.Prelude.{Bool, cond, List, ◌≡◌, ℕ, ◌+◌, ◌-◌, ◌*◌, ◌/◌, ◌%◌, ltb, length, get_or, replicate, Result, Ok, Err}
use Rattle.controller.specs.declared.answers.Answer.{Answer}
use Rattle.controller.specs.declared.answers.Answer.TheVariants.{Done, OutputShort}
use Rattle.controller.specs.declared.«record».Record.{Record}
use Rattle.controller.specs.Answers.{is_done, number_of, is_refusal}
use Rattle.dots.specs.declared.panel.Profile.{Profile}
use Rattle.dots.specs.Geometry.{height, picture_room}
use Rattle.dots.specs.Panel.{size_of}
use Rattle.dots.specs.Picture.{answer_for, output, output_left}
use Rattle.drawing.specs.declared.drawing.Form.{Form}
use Rattle.drawing.specs.declared.drawing.Form.TheVariants.{Blocks, Dots, Letters, Bitmap, Cells}
use Rattle.drawing.specs.declared.grid.Grid.{Grid}
use Rattle.drawing.specs.Grid.{last_x, last_y}
use Rattle.drawing.specs.Frame.{frame_at}
use Rattle.drawing.specs.Blocks.{blocks_at, blocks_length, blocks_width}
use Rattle.drawing.specs.Bitmap.{bitmap_head, head_length, pixels_at}
use Rattle.drawing.specs.Letters.{letters_at, letters_length, letters_width}
use Rattle.drawing.specs.Listing.{legend, legend_length, listing_at, listing_length, listing_width}
use Rattle.drawing.specs.State.{state_byte, state_length}

-- A line of the frame: the grid's columns, one more for its edge, and the end of the line.
unfoldable pub frame_width : Grid → ℕ
frame_width grid = last_x grid + 2

-- The frame's lines: the grid's rows, and one more for its edge.
unfoldable pub frame_length : Grid → ℕ
frame_length grid = frame_width grid * (last_y grid + 1)

-- The head, and eight rows of pixels for each row of the grid.
unfoldable pub bitmap_length : Grid → ℕ
bitmap_length grid = head_length + (last_x grid + 1) * ((last_y grid + 1) * 8)

-- The bytes of a drawing. All but the bitmap end with the state's lines.
abbrev pub length_of : Form → Grid → ℕ
length_of Dots grid = frame_length grid + state_length
length_of Blocks grid = blocks_length grid + state_length
length_of Letters grid = letters_length grid.size + state_length
length_of Bitmap grid = bitmap_length grid
length_of Cells grid = legend_length + (listing_length + state_length)

-- A byte of the bitmap's head.
abbrev pub head_byte : Grid → ℕ → ℕ
head_byte grid place = get_or (bitmap_head grid) place 0

-- The frame line by line, then the state.
unfoldable pub frame_byte : List ℕ → Record → Grid → ℕ → ℕ
frame_byte dots rec grid place =
    cond (ltb place (frame_length grid)) (frame_at dots grid (place % frame_width grid) (place / frame_width grid))
    (state_byte rec (place - frame_length grid))

-- The block characters row by row, then the state.
unfoldable pub blocks_byte : List ℕ → Record → Grid → ℕ → ℕ
blocks_byte dots rec grid place =
    cond (ltb place (blocks_length grid)) (blocks_at dots grid (place % blocks_width grid) (place / blocks_width grid))
    (state_byte rec (place - blocks_length grid))

-- The letters row by row, then the state.
unfoldable pub letters_byte : List ℕ → Record → Grid → ℕ → ℕ
letters_byte mem rec grid place =
    cond (ltb place (letters_length grid.size))
    (letters_at mem rec grid (place % letters_width grid.size) (place / letters_width grid.size))
    (state_byte rec (place - letters_length grid.size))

-- The head, then the pixels row by row.
unfoldable pub bitmap_byte : List ℕ → Grid → ℕ → ℕ
bitmap_byte dots grid place =
    cond (ltb place head_length) (head_byte grid place)
    (pixels_at dots grid ((place - head_length) % (last_x grid + 1)) ((place - head_length) / (last_x grid + 1)))

-- The cells line by line, then the state.
unfoldable pub listing_byte : List ℕ → Record → Profile → ℕ → ℕ
listing_byte mem rec profile place =
    cond (ltb place listing_length)
    (listing_at mem rec.function.n rec.shift profile (place % listing_width) (place / listing_width))
    (state_byte rec (place - listing_length))

-- The legend, then the listing.
unfoldable pub cells_byte : List ℕ → Record → Profile → ℕ → ℕ
cells_byte mem rec profile place =
    cond (ltb place legend_length) (get_or legend place 0) (listing_byte mem rec profile (place - legend_length))

-- The byte at a place of a drawing.
abbrev pub drawn_byte : Form → List ℕ → List ℕ → Record → Grid → ℕ → ℕ
drawn_byte Dots dots mem rec grid place = frame_byte dots rec grid place
drawn_byte Blocks dots mem rec grid place = blocks_byte dots rec grid place
drawn_byte Letters dots mem rec grid place = letters_byte mem rec grid place
drawn_byte Bitmap dots mem rec grid place = bitmap_byte dots grid place
drawn_byte Cells dots mem rec grid place = cells_byte mem rec grid.profile place

-- The grid of a panel.
abbrev pub grid_for : Record → Profile → Grid
grid_for rec profile = record { profile = profile; size = size_of profile; rows = height rec.function }

-- The picture that is drawn, taken into a buffer that has room for every picture.
abbrev pub dots_of : Record → List ℕ → Profile → Bool → List ℕ
dots_of rec mem profile lit = output rec mem profile lit (replicate picture_room 0)

-- The bytes of a panel's drawing.
abbrev pub drawn_length : Form → Record → Profile → ℕ
drawn_length form rec profile = length_of form (grid_for rec profile)

-- The answer, the refusals in the order of the picture's. `room` is the length of the output.
abbrev pub answering : Form → Record → List ℕ → Profile → ℕ → Answer
answering form rec mem profile room = answer_for rec mem profile (drawn_length form rec profile) room

-- What a drawing comes to: an answer, and a length.
pub record Written : Type 0 where
  pub answer : Answer
  pub length : ℕ

-- What the caller is told of it: the length, or the refusal.
abbrev pub result_of : Written → Result ℕ Answer
result_of w = cond (is_done w.answer) (Ok w.length) (Err w.answer)

-- What a result tells: the answer 0 with this length, or the refusal with none.
abbrev pub written_in : Result ℕ Answer → Written
written_in (Ok long) = record { answer = Done; length = long }
written_in (Err refusal) = record { answer = refusal; length = 0 }

-- What is told: the answer, and the bytes of the drawing, 0 on a refusal.
abbrev pub telling : Answer → ℕ → Written
telling answer long = record { answer = answer; length = cond (is_refusal answer) 0 long }

-- What a drawing that comes to this tells: the answer and the length, the answer's number in the table, and every byte of the
-- output.
pub record Drawn (form : Form) (rec : Record) (mem : List ℕ) (profile : Profile) (lit : Bool) (before : List ℕ)
    (returned : Written) (after : List ℕ) : Type 0 where
  pub told : returned ≡ telling (answering form rec mem profile (length before)) (drawn_length form rec profile)
  pub number : number_of returned.answer ≡ number_of (answering form rec mem profile (length before))
  pub out :
      after
      ≡ output_left (answering form rec mem profile (length before))
      (drawn_byte form (dots_of rec mem profile lit) mem rec (grid_for rec profile)) (drawn_length form rec profile) before

-- What `draw` promises: the result, and the drawing with the answer and the length that it tells.
pub record DrawReturns (form : Form) (rec : Record) (mem : List ℕ) (profile : Profile) (lit : Bool) (before : List ℕ)
    (returned : Result ℕ Answer) (after : List ℕ) : Type 0 where
  pub told : returned ≡ result_of (telling (answering form rec mem profile (length before)) (drawn_length form rec profile))
  pub drawn : Drawn form rec mem profile lit before (written_in returned) after

-- Of a picture that was taken 11 is left to be given.
abbrev pub room_answer : Form → Grid → ℕ → Answer
room_answer form grid room = cond (ltb room (length_of form grid)) OutputShort Done

-- What is promised of drawing a picture that was taken: what is told, and every byte of the output.
pub record DrawnTaken (form : Form) (dots mem : List ℕ) (rec : Record) (grid : Grid) (before : List ℕ)
    (returned : Result ℕ Answer) (after : List ℕ) : Type 0 where
  pub told : returned ≡ result_of (telling (room_answer form grid (length before)) (length_of form grid))
  pub out :
      after ≡ output_left (room_answer form grid (length before)) (drawn_byte form dots mem rec grid) (length_of form grid) before
