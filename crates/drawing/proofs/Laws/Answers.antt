-- The answers of a drawing: those of the picture beneath, which always has room, and then 11.
-- Assumes nothing.
use mathlib.Core.Bool.{Bool, true, false, cond, not}
use mathlib.Core.List.{List}
use mathlib.Core.Path.{◌≡◌, refl, sym, ap, ◌∙◌}
use Prim.Native.Nat.{ℕ}
use lib.Dec.{ltb}
use lib.ListN.{length}
use Rattle.std.specs.Prelude.{Result, Ok, Err, ⊤}
use Rattle.controller.specs.declared.answers.Answer.{Answer}
use Rattle.controller.specs.declared.answers.Answer.TheVariants.{Done, Unsound, NotWhole, BadSize, OutputShort}
use Rattle.controller.specs.declared.«record».Record.{Record}
use Rattle.controller.specs.Bus.{whole}
use Rattle.controller.specs.Answers.{is_done, is_refusal, number_of}
use Rattle.controller.specs.Record.{sound}
use Rattle.controller.proofs.Laws.Answers.{done_is}
use Rattle.dots.specs.declared.panel.Profile.{Profile}
use Rattle.dots.specs.Geometry.{picture_length, picture_room}
use Rattle.dots.specs.Panel.{fits_glass}
use Rattle.dots.specs.Picture.{answer_for, answer_of, answered, output_left, result_of as picture_result}
use Rattle.dots.proofs.Answers.{Passed, not_done, passed, refused_alike, room_is, told_back}
use Rattle.dots.proofs.Panels.{panel_columns, panel_lines, picture_fits}
use Rattle.dots.proofs.Places.{height_most}
use Rattle.drawing.specs.declared.drawing.Form.{Form}
use Rattle.drawing.specs.Grid.{Small}
use Rattle.drawing.specs.Drawing.{DrawReturns, DrawnTaken, Written, answering, dots_of, drawn_byte, drawn_length, grid_for, result_of, telling, written_in}

-- What a picture that was taken shows.
abbrev Seen : Record → List ℕ → Profile → Type 0
Seen rec mem profile = Passed rec mem profile (picture_length rec.function profile) picture_room

pub seen : (rec : Record) (mem : List ℕ) (profile : Profile) → is_done (answered rec mem profile picture_room) ≡ true → Seen rec mem profile
unfolding is_refusal
seen rec mem profile done = passed rec mem profile _ _ (ap is_refusal (done_is (answered rec mem profile picture_room) done))

-- such a panel is small
pub seen_small : (rec : Record) (mem : List ℕ) (profile : Profile) → Seen rec mem profile → Small (grid_for rec profile)
seen_small rec mem profile s =
    record { columns = panel_columns profile s.fits; lines = panel_lines profile s.fits; rows = height_most rec.function }

-- a picture that is told to be refused, or to be drawn
pub told_refused : {told : Result ⊤ Answer} (answer refusal : Answer) → told ≡ Err refusal → told ≡ picture_result answer
    → (answer ≡ refusal) × (is_done answer ≡ false)
told_refused {told} answer refusal is promised =
    let same : answer ≡ refusal = sym (told_back answer) ∙ ap answer_of (sym promised ∙ is) in
    (same, rw same (not_done answer refusal (sym is ∙ promised)))

pub told_drawn : {told : Result ⊤ Answer} (answer : Answer) (nothing : ⊤) → told ≡ Ok nothing → told ≡ picture_result answer → is_done answer ≡ true
told_drawn {told} answer nothing is promised =
    let same : answer ≡ Done = sym (told_back answer) ∙ ap answer_of (sym promised ∙ is) in
    rw same refl

-- a result tells again what a drawing came to
told_again : (sound whole fits short : Bool) (long : ℕ)
    → let w = telling (cond (not sound) Unsound (cond (not whole) NotWhole (cond (not fits) BadSize (cond short OutputShort Done)))) long in
    written_in (result_of w) ≡ w
unfolding is_refusal
told_again true true true true long = refl
told_again true true true false long = refl
told_again true true false short long = refl
told_again true false fits short long = refl
told_again false whole fits short long = refl

told_drawing : (form : Form) (rec : Record) (mem : List ℕ) (profile : Profile) (room : ℕ)
    → let w = telling (answering form rec mem profile room) (drawn_length form rec profile) in written_in (result_of w) ≡ w
unfolding answer_for
told_drawing form rec mem profile room =
    told_again (sound rec) (whole mem) (fits_glass profile) (ltb room (drawn_length form rec profile)) (drawn_length form rec profile)

module _ (form : Form) (rec : Record) (mem : List ℕ) (profile : Profile) (lit : Bool) (before : List ℕ) where
  -- a picture that is refused: so is the drawing, with the same answer
  pub refused_drawn : is_done (answered rec mem profile picture_room) ≡ false
      → DrawReturns form rec mem profile lit before (Err (answered rec mem profile picture_room)) before
  refused_drawn not_done =
      let refusal = refused_alike rec mem profile _ picture_room (picture_fits rec.function profile) not_done in
      let same = refusal.1 (drawn_length form rec profile) (length before) in
      record {
        told = simp (same, not_done);
        drawn = record { told = simp (same, refusal.0); number = simp same; out = simp (same, refusal.0) };
      }

  -- a picture that was taken: 11 is left to be given
  pub taken_drawn : {returned : Result ℕ Answer} {after : List ℕ} → Seen rec mem profile
      → DrawnTaken form (dots_of rec mem profile lit) mem rec (grid_for rec profile) before returned after
      → DrawReturns form rec mem profile lit before returned after
  taken_drawn {returned} {after} s taken =
      let same = room_is rec mem profile (drawn_length form rec profile) (length before) s.sound s.whole s.fits in
      let w = telling (answering form rec mem profile (length before)) (drawn_length form rec profile) in
      let promised : returned ≡ result_of w = simp same taken.told in
      let told : written_in returned ≡ w = ap written_in promised ∙ told_drawing form rec mem profile (length before) in
      record {
        told = promised;
        drawn = record { told = told; number = ap (λ (w : Written). number_of w.answer) told; out = simp same taken.out };
      }

  -- and that is what is promised
  pub returned : DrawReturns form rec mem profile lit before
      (result_of (telling (answering form rec mem profile (length before)) (drawn_length form rec profile)))
      (output_left (answering form rec mem profile (length before)) (drawn_byte form (dots_of rec mem profile lit) mem rec (grid_for rec profile))
      (drawn_length form rec profile) before)
  returned =
      let again = told_drawing form rec mem profile (length before) in
      record { told = refl; drawn = record { told = again; number = ap (λ (w : Written). number_of w.answer) again; out = refl } }
