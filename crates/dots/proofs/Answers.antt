-- What `picture` promises, refusal by refusal and when it draws, and what drawing may lean on after the tests.
-- Assumes nothing.
use mathlib.Core.Bool.{Bool, true, false, cond, not, true≢false}
use mathlib.Core.List.{List}
use mathlib.Core.Path.{◌≡◌, refl, sym, ap, ◌∙◌}
use Prim.Native.Nat.{ℕ, ◌≤◌, ◌<◌}
use borrow.Author.Tests.{eqb-true, le-ltb, ltb-false, ltb-true}
use lib.Dec.{ltb}
use lib.ListN.{length}
use Rattle.std.specs.Prelude.{Ok, Err}
use Rattle.controller.specs.declared.answers.Answer.{Answer}
use Rattle.controller.specs.declared.answers.Answer.TheVariants.{Done, Unsound, NotWhole, BadSize, OutputShort}
use Rattle.controller.specs.declared.«record».Record.{Record}
use Rattle.controller.specs.Bus.{whole}
use Rattle.controller.specs.Answers.{is_done, is_refusal, number_of}
use Rattle.controller.specs.Record.{sound}
use Rattle.controller.proofs.Laws.Choice.{and_left}
use Rattle.dots.specs.declared.panel.Profile.{Profile}
use Rattle.dots.specs.Font.{font}
use Rattle.dots.specs.Geometry.{picture_length}
use Rattle.dots.specs.Panel.{fits_glass}
use Rattle.dots.specs.Picture.{PictureReturns, answer_for, answer_of, answered, picture_byte, output, painted, result_of}

-- What a scene asks for, of a sound record and of a whole memory.
pub sound_shift : (rec : Record) → sound rec ≡ true → rec.shift < 80
unfolding sound
sound_shift rec s = ltb-true rec.shift 80 (and_left _ _ s)

pub whole_length : (mem : List ℕ) → whole mem ≡ true → length mem ≡ 144
unfolding whole
whole_length mem w = eqb-true (length mem) 144 w

-- What the answer is where the tests before it were passed.
module _ (rec : Record) (mem : List ℕ) (profile : Profile) (bytes room : ℕ) where
  pub unsound_is : sound rec ≡ false → answer_for rec mem profile bytes room ≡ Unsound
  unfolding answer_for
  unsound_is s = simp s

  pub not_whole_is : sound rec ≡ true → whole mem ≡ false → answer_for rec mem profile bytes room ≡ NotWhole
  unfolding answer_for
  not_whole_is s w = simp (s, w)

  pub bad_size_is : sound rec ≡ true → whole mem ≡ true → fits_glass profile ≡ false → answer_for rec mem profile bytes room ≡ BadSize
  unfolding answer_for
  bad_size_is s w g = simp (s, w, g)

  pub room_is : sound rec ≡ true → whole mem ≡ true → fits_glass profile ≡ true → answer_for rec mem profile bytes room ≡ cond (ltb room bytes) OutputShort Done
  unfolding answer_for
  room_is s w g = simp (s, w, g)

-- What an answer that is no refusal tells: all four tests were passed.
pub record Passed (rec : Record) (mem : List ℕ) (profile : Profile) (bytes space : ℕ) : Type 0 where
  pub sound : sound rec ≡ true
  pub whole : whole mem ≡ true
  pub fits : fits_glass profile ≡ true
  pub room : bytes ≤ space

abbrev chosen : Bool → Bool → Bool → Bool → Answer
chosen s w g r = cond (not s) Unsound (cond (not w) NotWhole (cond (not g) BadSize (cond r OutputShort Done)))

module _ (rec : Record) (mem : List ℕ) (profile : Profile) (bytes room : ℕ) where
  pub passed : is_refusal (answer_for rec mem profile bytes room) ≡ false → Passed rec mem profile bytes room
  unfolding answer_for is_refusal
  passed = go (sound rec) (whole mem) (fits_glass profile) (ltb room bytes) refl refl refl refl
    where
      go : (s w g r : Bool) → sound rec ≡ s → whole mem ≡ w → fits_glass profile ≡ g → ltb room bytes ≡ r
          → is_refusal (chosen s w g r) ≡ false → Passed rec mem profile bytes room
      go true true true true s w g r e = absurd (true≢false e)
      go true true true false s w g r e = record { sound = s; whole = w; fits = g; room = ltb-false room bytes r }
      go true true false _ s w g r e = absurd (true≢false e)
      go true false _ _ s w g r e = absurd (true≢false e)
      go false _ _ _ s w g r e = absurd (true≢false e)

  -- Where there is room, other bytes and another room alter nothing of a refusal.
  pub refused_alike : (fits_glass profile ≡ true → bytes ≤ room) → is_done (answer_for rec mem profile bytes room) ≡ false
      → (is_refusal (answer_for rec mem profile bytes room) ≡ true)
      × ((other space : ℕ) → answer_for rec mem profile other space ≡ answer_for rec mem profile bytes room)
  unfolding answer_for is_refusal
  refused_alike roomy = go (sound rec) (whole mem) (fits_glass profile) (ltb room bytes) (λ g. le-ltb room bytes (roomy g))
    where
      go : (s w g r : Bool) → (g ≡ true → r ≡ false) → is_done (chosen s w g r) ≡ false
          → (is_refusal (chosen s w g r) ≡ true) × ((other space : ℕ) → chosen s w g (ltb space other) ≡ chosen s w g r)
      go true true true r none e = let z = rw (none refl) at e in absurd (true≢false z)
      go true true false _ none e = (refl, λ other space. refl)
      go true false _ _ none e = (refl, λ other space. refl)
      go false _ _ _ none e = (refl, λ other space. refl)

-- A result and the answer that it tells say the same, and no refusal is told by 0.
pub told_back : (answer : Answer) → answer_of (result_of answer) ≡ answer
told_back Done = refl
told_back refusal = refl

pub not_done : (answer refusal : Answer) → Err refusal ≡ result_of answer → is_done refusal ≡ false
not_done Done refusal told = cc
not_done answer refusal told =
    let same : refusal ≡ answer = cc in
    rw same refl

-- What the picture returns and leaves, by its answer.
module _ (rec : Record) (mem : List ℕ) (profile : Profile) (lit : Bool) (out : List ℕ) where
  pub refused : (answer : Answer) → answered rec mem profile (length out) ≡ answer → is_refusal answer ≡ true → result_of answer ≡ Err answer
      → PictureReturns rec mem profile lit out (Err answer) out
  unfolding output
  refused answer is r told =
      record { told = sym (simp is told); pictured = record { told = sym is; number = simp is; out = simp (is, r) } }

  pub drawn : (after : List ℕ) → answered rec mem profile (length out) ≡ Done
      → after ≡ painted (picture_byte font rec mem lit profile) 0 (picture_length rec.function profile) out → PictureReturns rec mem profile lit out (Ok tt) after
  unfolding output is_refusal
  drawn after is painting =
      record { told = sym (simp is); pictured = record { told = sym is; number = simp is; out = painting ∙ simp is } }

  -- And that is what is promised.
  pub returned : PictureReturns rec mem profile lit out (result_of (answered rec mem profile (length out))) (output rec mem profile lit out)
  returned =
      let back = told_back (answered rec mem profile (length out)) in
      record { told = refl; pictured = record { told = back; number = ap number_of back; out = refl } }
