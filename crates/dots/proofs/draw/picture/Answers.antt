-- `dots::draw::picture` meets its contract: each test that was passed or not says which answer `answer_for` gives, and the output
-- is untouched, or painted by `draw`.
-- Assumes nothing.
use mathlib.Core.Path.{refl, sym, ◌∙◌}
use borrow.Author.Tests.{lt-ltb, le-ltb}
use Rattle.controller.specs.Answers.{is_refusal}
use Rattle.dots.proofs.Answers.{bad_size_is, drawn, not_whole_is, refused, room_is, sound_shift, unsound_is, whole_length}
use Rattle.dots.proofs.draw.picture.Goals as goal

pub returns-then-not-is_sound : goal.returns-then-not-is_sound
unfolding is_refusal
returns-then-not-is_sound c = refused _ _ _ _ _ _ (unsound_is _ _ _ _ _ (sym c.is_sound.ensures ∙ c.if-not-is_sound.true)) refl refl

pub returns-then-not-is_whole : goal.returns-then-not-is_whole
unfolding is_refusal
returns-then-not-is_whole c =
    let sound = sym c.is_sound.ensures ∙ c.if-not-is_sound.false in
    refused _ _ _ _ _ _ (not_whole_is _ _ _ _ _ sound (sym c.is_whole.ensures ∙ c.if-not-is_whole.true)) refl refl

pub returns-then-not-fits_glass : goal.returns-then-not-fits_glass
unfolding is_refusal
returns-then-not-fits_glass c =
    let sound = sym c.is_sound.ensures ∙ c.if-not-is_sound.false in
    let whole = sym c.is_whole.ensures ∙ c.if-not-is_whole.false in
    refused _ _ _ _ _ _ (bad_size_is _ _ _ _ _ sound whole (sym c.fits_glass.ensures ∙ c.if-not-fits_glass.true)) refl refl

pub returns-then-out-picture_length : goal.returns-then-out-picture_length
unfolding is_refusal
returns-then-out-picture_length c =
    let sound = sym c.is_sound.ensures ∙ c.if-not-is_sound.false in
    let whole = sym c.is_whole.ensures ∙ c.if-not-is_whole.false in
    let fits = sym c.fits_glass.ensures ∙ c.if-not-fits_glass.false in
    refused _ _ _ _ _ _ (room_is _ _ _ _ _ sound whole fits ∙ simp (lt-ltb _ _ (rw c.picture_length.ensures at c.if-out-picture_length.true))) refl refl

pub invariant_of-draw : goal.invariant_of-draw
invariant_of-draw c =
    record {
      shift = sound_shift _ (sym c.is_sound.ensures ∙ c.if-not-is_sound.false);
      whole = whole_length _ (sym c.is_whole.ensures ∙ c.if-not-is_whole.false);
    }

pub draw-requires : goal.draw-requires
draw-requires c =
    let long = c in
    let fits = sym c.fits_glass.ensures ∙ c.if-not-fits_glass.false in
    (fits, rw long.picture_length.ensures at long.if-out-picture_length.false)

pub returns : goal.returns
returns c =
    let long = c in
    let sound = sym c.is_sound.ensures ∙ c.if-not-is_sound.false in
    let whole = sym c.is_whole.ensures ∙ c.if-not-is_whole.false in
    let fits = sym c.fits_glass.ensures ∙ c.if-not-fits_glass.false in
    drawn _ _ _ _ _ _
    (room_is _ _ _ _ _ sound whole fits ∙ simp (le-ltb _ _ (rw long.picture_length.ensures at long.if-out-picture_length.false)))
    c.draw.ensures
