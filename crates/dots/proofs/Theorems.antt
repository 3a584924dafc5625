-- The theorems of specs/Theorems.antt, but for those of the table, which stand in Table.antt.
-- Assumes nothing.
use mathlib.Core.Bool.{Bool, true, false, cond, not, false≢true, true≢false}
use mathlib.Core.List.{List}
use mathlib.Core.Path.{◌≡◌, refl, sym, ap, fun_ext, ◌∙◌}
use Prim.Native.Nat.{ℕ, ◌+◌, ◌*◌, ◌/◌, ◌%◌, ◌≤◌, ◌<◌}
use native.Mathlib.Nat.{div-add-mod', mod-lt}
use native.Mathlib.Omega.{arith}
use borrow.Author.Tests.{eq-eqb, eqb-false, eqb-true, lt-ltb, ltb-true, ne_eqb}
use lib.Dec.{eqb, ltb, lit<}
use lib.ListN.{length, get_or}
use Rattle.std.specs.Prelude.{Option, Some, None}
use Rattle.controller.specs.declared.cells.Counter.{Counter}
use Rattle.controller.specs.declared.cells.Counter.TheVariants.{Display, Pattern}
use Rattle.controller.specs.declared.«record».Record.{Record}
use Rattle.controller.specs.Bus.{whole}
use Rattle.controller.specs.Answers.{is_refusal, number_of, Tells}
use Rattle.controller.specs.Record.{sound, with_function}
use Rattle.controller.proofs.Laws.Answers.{none_applies, row_applies, tells_as}
use Rattle.controller.proofs.Laws.Rows.{sound_tests, whole_tests}
use Rattle.controller.proofs.Laws.Tests.{Fails, fails_and, fails_le, tests_fails, tests_lt}
use Rattle.dots.specs.declared.panel.Profile.{Profile}
use Rattle.dots.specs.declared.panel.Profile.TheVariants.{Plain, FourRows, Divided, Unknown}
use Rattle.dots.specs.declared.panel.Size.{Size}
use Rattle.dots.specs.Font.{font}
use Rattle.dots.specs.Geometry.{cell_at, cell_in, height, picture_length, shown_at}
use Rattle.dots.specs.Panel.{fits_glass, fits_plain, size_of}
use Rattle.dots.specs.Picture.{answer_for, answered, picture_byte, cell_row, covered, dots_at, cursor_sets, is_on, output, output_left, painted, row_of, shown_row}
use Rattle.dots.specs.Theorems.{CursorShows, Draws, EachByte, EightRows, FAltersNothing, FiveDots, LaterStay, LineShows, LowFive, OffDark, OnePicture, PatternShows, PictureAnswers, PictureRefusals, PositionDots, OffGlass, next_cell, picture_bytes, rows_for}
use Rattle.dots.proofs.Answers.{passed}
use Rattle.dots.proofs.Logic.{and_false, either, of_either, or_true}
use Rattle.dots.proofs.Painting.{painted_at, painted_length, painted_past}
use Rattle.dots.proofs.Places.{dots_are_byte, row_ends}
use Rattle.dots.proofs.Table.{row_below}

pub off_dark : OffDark
unfolding dots_at
off_dark shapes rec mem lit profile line row column d = rw d refl

-- What an answer 0 tells: the output has room, and it is painted.
module _ (rec : Record) (mem : List ℕ) (profile : Profile) (lit : Bool) (out : List ℕ) where
  room : Draws rec mem profile out → picture_length rec.function profile ≤ length out
  unfolding is_refusal
  room d = (passed rec mem profile _ _ (ap is_refusal d)).room

  drawn : Draws rec mem profile out → output rec mem profile lit out ≡ painted (picture_byte font rec mem lit profile) 0 (picture_length rec.function profile) out
  unfolding output is_refusal
  drawn d = rw d refl

  -- A byte of the picture, by its place.
  byte : (at : ℕ) → Draws rec mem profile out → at < picture_length rec.function profile → get_or (output rec mem profile lit out) at 0 ≡ picture_byte font rec mem lit profile at
  byte at d h = rw (drawn d) (painted_at _ 0 out (picture_length rec.function profile) at (omega arith) (omega arith) (omega (arith, room d)))

pub each_byte : EachByte
each_byte rec mem profile lit out line row column d hl hr hc =
    let h = height rec.function in
    let columns = (size_of profile).columns in
    let within : line * h + row < (size_of profile).lines * h = omega (arith, row_ends h line (size_of profile).lines hl) in
    byte rec mem profile lit out ((line * h + row) * columns + column) d (omega (arith, row_ends columns (line * h + row) ((size_of profile).lines * h) within))
    ∙ sym (dots_are_byte font rec mem lit profile line row column hr hc)

pub eight_rows : EightRows
unfolding height
eight_rows function = refl

pub later_stay : LaterStay
unfolding output
later_stay rec mem profile lit out =
    let long = picture_length rec.function profile in
    let f = picture_byte font rec mem lit profile in
    let refused = is_refusal (answered rec mem profile (length out)) in (
      λ at h. either (λ (l : List ℕ). get_or l at 0 ≡ get_or out at 0) refused out (painted f 0 long out) refl (painted_past f 0 out long at (omega arith)),
      either (λ (l : List ℕ). length l ≡ length out) refused out (painted f 0 long out) refl (painted_length f 0 out long),
    )

-- Every row that can be shown is below 32.
row_of_below : (mem : List ℕ) (code row : ℕ) → row_of font mem code row < 32
unfolding row_of
row_of_below mem code row = either (λ (k : ℕ). k < 32) (ltb code 0x10) _ _ (mod-lt _ (lit< tt)) (row_below _)

shown_below : (rec : Record) (mem : List ℕ) (lit : Bool) (row : ℕ) (shown : Option ℕ) → shown_row font rec mem lit row shown < 32
unfolding shown_row cell_row
shown_below rec mem lit row (Some cell) =
    either (λ (k : ℕ). k < 32) (covered rec lit row cell) 0b11111 (row_of font mem (get_or mem cell 0) row) (lit< tt) (row_of_below mem (get_or mem cell 0) row)
shown_below rec mem lit row None = lit< tt

byte_below : (rec : Record) (mem : List ℕ) (lit : Bool) (profile : Profile) (at : ℕ) → picture_byte font rec mem lit profile at < 32
unfolding picture_byte dots_at
byte_below rec mem lit profile at = either (λ (k : ℕ). k < 32) rec.control.d _ 0 (shown_below rec mem lit _ _) (lit< tt)

pub five_dots : FiveDots
five_dots rec mem profile lit out at d h = rw (byte rec mem profile lit out at d h) (byte_below rec mem lit profile at)

-- What a position shows that shows a cell.
pub shown_at_lem : (driven length shift line column cell : ℕ) → cell_in driven length shift line column ≡ Some cell
    → (ltb line driven ≡ true) × (line * length + (column + shift) % length ≡ cell)
unfolding cell_in
shown_at_lem driven length shift line column cell = go (ltb line driven)
  where
    go : (b : Bool) → cond b (Some (line * length + (column + shift) % length)) None ≡ Some cell
        → (b ≡ true) × (line * length + (column + shift) % length ≡ cell)
    go true e = (refl, cc)
    go false e = let z : ◌≡◌ {A = ℕ} 0 1 = cc in absurd (omega arith)

-- One position on: the next cell of a line of 80, and of either line of 40.
next_of_80 : (line place cell : ℕ) → line < 1 → line * 80 + place % 80 ≡ cell → line * 80 + (place + 1) % 80 ≡ next_cell false cell
unfolding next_cell
next_of_80 line place cell h e = go (eqb cell 79) refl
  where
    go : (b : Bool) → eqb cell 79 ≡ b → line * 80 + (place + 1) % 80 ≡ cond b 0 (cell + 1)
    go true is = omega (arith, eqb-true cell 79 is)
    go false is = let not_last = eqb-false cell 79 is in omega arith

next_of_40 : (line place cell : ℕ) → line < 2 → line * 40 + place % 40 ≡ cell → line * 40 + (place + 1) % 40 ≡ next_cell true cell
unfolding next_cell
next_of_40 line place cell h e = go (eqb cell 39) (eqb cell 79) refl refl
  where
    go : (b d : Bool) → eqb cell 39 ≡ b → eqb cell 79 ≡ d → line * 40 + (place + 1) % 40 ≡ cond b 0 (cond d 40 (cell + 1))
    go true _ is is' = omega (arith, eqb-true cell 39 is)
    go false true is is' = omega (arith, eqb-true cell 79 is')
    go false false is is' = let not-39 = eqb-false cell 39 is in let not-79 = eqb-false cell 79 is' in omega arith

next_shown : (n : Bool) (shift line position cell : ℕ) → cell_at n shift line position ≡ Some cell → cell_at n shift line (position + 1) ≡ Some (next_cell n cell)
unfolding cell_in
next_shown true shift line position cell e =
    let at = shown_at_lem 2 40 shift line position cell e in
    let place : position + 1 + shift ≡ position + shift + 1 = omega arith in
    rw (at.0, place) (ap Some (next_of_40 line (position + shift) cell (ltb-true line 2 at.0) at.1))
next_shown false shift line position cell e =
    let at = shown_at_lem 1 80 shift line position cell e in
    let place : position + 1 + shift ≡ position + shift + 1 = omega arith in
    rw (at.0, place) (ap Some (next_of_80 line (position + shift) cell (ltb-true line 1 at.0) at.1))

first_shown : (n : Bool) → cell_at n 0 0 0 ≡ Some 0
unfolding cell_in
first_shown true = refl
first_shown false = refl

pub line_shows : LineShows
unfolding cell_in
line_shows =
    record {
      first = first_shown;
      second = refl;
      next = next_shown;
      shifted = λ n shift line position. let place : position + (shift + 1) ≡ position + 1 + shift = omega arith in rw place refl;
    }

pub position_dots : PositionDots
unfolding dots_at shown_row
position_dots shapes rec mem lit profile line row column cell d shows =
    ap (λ (b : Bool). cond b (shown_row shapes rec mem lit row (shown_at rec.function.n rec.shift profile line column)) 0) d
    ∙ ap (shown_row shapes rec mem lit row) shows

-- The pattern of a code below 8, at its own place.
pattern_of : (shapes mem : List ℕ) (code row : ℕ) → code < 8 → row_of shapes mem code row ≡ get_or mem (80 + (8 * code + row)) 0 % 32
unfolding row_of
pattern_of shapes mem code row h = rw (lt-ltb code 0x10 (omega arith)) (ap (λ (k : ℕ). get_or mem k 0 % 32) (omega arith))

low_five : (byte low : ℕ) → low ≡ byte % 32 → LowFive byte low
low_five byte low e = record { below = rw e (mod-lt byte (lit< tt)); times = byte / 32; more = rw e (sym (div-add-mod' byte 32)) }

pub pattern_shows : PatternShows
unfolding row_of
pattern_shows =
    record {
      bits = λ shapes mem code row h. low_five _ _ (pattern_of shapes mem code row h);
      again = λ shapes mem code row h.
          rw (lt-ltb code 0x10 (omega arith), lt-ltb (code + 8) 0x10 (omega arith)) (ap (λ (k : ℕ). get_or mem k 0 % 32) (omega arith));
    }

-- A counter that is not on a display cell is off it.
is_off : (counter : Counter) (cell : ℕ) → (counter ≡ Display cell → ⊥) → is_on counter cell ≡ false
is_off (Display at) cell off = ne_eqb at cell (λ e. off (ap Display e))
is_off (Pattern at) cell off = refl

pub cursor_shows : CursorShows
unfolding cell_row covered cursor_sets
cursor_shows shapes rec mem cell =
    let same = eq-eqb cell cell refl in
    record {
      underlined = λ on c lit row last. simp (on, same, c, eq-eqb _ _ last);
      blinking = λ on b row. simp (on, same, b, or_true);
      higher = λ lit b row h. simp (b, ne_eqb (row + 1) (height rec.function) (λ e. omega arith), and_false);
      without = λ lit b c row. simp (b, c, and_false);
      elsewhere = λ lit off row. simp (is_off rec.counter cell off, and_false);
    }

-- F is read nowhere.
shown_without_f : (shapes : List ℕ) (rec : Record) (f : Bool) (mem : List ℕ) (lit : Bool) (row : ℕ) (shown : Option ℕ) → shown_row shapes (with_function rec.wide (record { n = rec.function.n; f = f }) rec) mem lit row shown ≡ shown_row shapes rec mem lit row shown
unfolding shown_row cell_row covered height
shown_without_f shapes rec f mem lit row (Some cell) = refl
shown_without_f shapes rec f mem lit row None = refl

byte_without_f : (rec : Record) (f : Bool) (mem : List ℕ) (lit : Bool) (profile : Profile) (at : ℕ) → picture_byte font (with_function rec.wide (record { n = rec.function.n; f = f }) rec) mem lit profile at ≡ picture_byte font rec mem lit profile at
unfolding picture_byte dots_at height
byte_without_f rec f mem lit profile at = rw (shown_without_f font rec f mem lit) refl

pub f_alters_nothing : FAltersNothing
unfolding answer_for output sound height
f_alters_nothing rec f mem profile lit out =
    (refl, ap (λ (g : ℕ → ℕ). output_left (answered rec mem profile (length out)) g (picture_length rec.function profile) out) (fun_ext (byte_without_f rec f mem lit profile)))

plain_fails : (size : Size) → Fails (fits_plain size) (OffGlass (Plain size))
unfolding fits_plain OffGlass
plain_fails size =
    fails_and _ _ (fails_le 1 size.columns)
    (fails_and _ _ (fails_le size.columns 40) (fails_and _ _ (fails_le 1 size.lines) (fails_le size.lines 2)))

glass_fails : (profile : Profile) → Fails (fits_glass profile) (OffGlass profile)
unfolding fits_glass OffGlass
glass_fails (Plain size) = plain_fails size
glass_fails FourRows = record { yes = true≢false; no = λ e none. none }
glass_fails Divided = record { yes = true≢false; no = λ e none. none }
glass_fails Unknown = record { yes = λ e. tt; no = λ e off. false≢true e }

-- The number of such a call's answer is that of the first row that applies.
pub answers_given : (rec : Record) (mem : List ℕ) (profile : Profile) (bytes room : ℕ)
    → Tells (number_of (answer_for rec mem profile bytes room)) (rows_for rec mem profile bytes room)
unfolding answer_for rows_for
answers_given rec mem profile bytes room =
    let test : number_of (answer_for rec mem profile bytes room)
    ≡ cond (not (sound rec)) 1 (cond (not (whole mem)) 2 (cond (not (fits_glass profile)) 10 (cond (ltb room bytes) 11 0))) = simp (of_either number_of) in
    tells_as _ _ _ test
    (row_applies _ _ _ _ (sound_tests rec)
    (λ _. row_applies _ _ _ _ (whole_tests mem)
    (λ _. row_applies _ _ _ _ (tests_fails (fits_glass profile) (glass_fails profile))
    (λ _. row_applies _ _ _ _ (tests_lt room bytes)
    (λ _. none_applies)))))

pub picture_answers : PictureAnswers
unfolding height size_of picture_bytes
picture_answers rec mem (Plain size) room = answers_given rec mem (Plain size) _ room
picture_answers rec mem FourRows room = answers_given rec mem FourRows _ room
picture_answers rec mem Divided room = answers_given rec mem Divided _ room
picture_answers rec mem Unknown room = answers_given rec mem Unknown _ room

pub picture_refusals : PictureRefusals
unfolding output
picture_refusals rec mem profile lit out e = rw e refl

pub one_picture : OnePicture
one_picture = record {
  result = λ rec mem profile lit before a b x y p q. (p.told ∙ sym q.told, p.pictured.out ∙ sym q.pictured.out);
  answer = λ rec mem profile lit before a b x y p q. (p.told ∙ sym q.told, p.out ∙ sym q.out);
}
