-- One general law: what is promised by an equation is one result, and no second. Each public function is an instance.
-- Assumes nothing.
use mathlib.Core.List.{List}
use mathlib.Core.Path.{◌≡◌, refl, ap}
use Prim.Native.Nat.{ℕ}
use Rattle.controller.specs.Answers.{number_of}
use Rattle.dots.proofs.Answers.{returned as picture_returned}
use Rattle.drawing.proofs.Laws.Answers.{returned as draw_returned}
use Rattle.lines.specs.Text.{Put, put}
use Rattle.planner.proofs.Laws.Reply.{returned as plan_returned}
use Rattle.lines.proofs.Laws.Told.{answer_told}
use Rattle.promises.specs.Determined.{ExactlyOne, EachDetermined}

-- a value that is promised
one : {A : Type 0} (promised : A) → ExactlyOne (λ (a : A). a ≡ promised)
one promised = (promised, refl, λ b is. is)

-- a value and a list that are promised, by a promise that says no more and no less
two : {A : Type 0} (Fits : A → List ℕ → Type 0) (promised : A) (left : List ℕ) → Fits promised left
    → ((a : A) (l : List ℕ) → Fits a l → (a ≡ promised) × (l ≡ left)) → ExactlyOne (λ (x : A × List ℕ). Fits x.0 x.1)
two Fits promised left fits only = ((promised, left), fits, λ x is i. ((only x.0 x.1 is).0 i, (only x.0 x.1 is).1 i))

-- the same of a lent value beside
three : {A B : Type 0} (Fits : A → B → List ℕ → Type 0) (promised : A) (lent : B) (left : List ℕ) → Fits promised lent left
    → ((a : A) (b : B) (l : List ℕ) → Fits a b l → (a ≡ promised) × (b ≡ lent) × (l ≡ left))
    → ExactlyOne (λ (x : A × B × List ℕ). Fits x.0 x.1 x.2)
three Fits promised lent left fits only = (
  (promised, lent, left),
  fits,
  λ x is i. ((only x.0 x.1 x.2 is).0 i, (only x.0 x.1 x.2 is).1 i, (only x.0 x.1 x.2 is).2 i),
)

-- a place and a buffer that are promised
placed : (promised : Put) → ExactlyOne (λ (x : ℕ × List ℕ). put x.0 x.1 ≡ promised)
placed promised =
    two (λ at out. put at out ≡ promised) promised.at promised.out refl
    (λ at out is. (ap (λ (p : Put). p.at) is, ap (λ (p : Put). p.out) is))

pub each_determined : EachDetermined
each_determined =
    record {
      transfer = λ rec mem kind byte wait. two _ _ _ (record { told = refl; number = refl; memory = refl }) (λ a l is. (is.told, is.memory));
      transfer_in = λ rec mem kind byte wait.
          three _ _ _ _ (record { told = refl; number = refl; left = refl; memory = refl }) (λ a b l is. (is.told, is.left, is.memory));
      reset = λ rec mem. two _ _ _ (record { told = refl; number = refl; memory = refl }) (λ a l is. (is.told, is.memory));
      is_sound = λ rec. one _;
      number = λ answer. one _;
      is_whole = λ mem. one _;
      is_bad = λ kind byte. one _;
      is_done = λ answer. one _;
      is_refusal = λ answer. one _;
      after_reset = λ frequency. one _;
      cell_of = λ counter. one _;
      little_endian = λ number. one _;
      number_from = λ first second third fourth. one _;
      six_bytes = λ sent. one _;
      address_set = λ n counter. one _;
      line_length = λ n. one _;
      is_in_range = λ frequency. one _;
      short_time = λ frequency. one _;
      long_time = λ frequency. one _;
      picture = λ rec mem profile lit out. two _ _ _ (picture_returned rec mem profile lit out) (λ a l is. (is.told, is.pictured.out));
      rows_of = λ function. one _;
      is_shown = λ n shift profile cell. one _;
      shown_at = λ n shift profile line column. one _;
      size_of = λ profile. one _;
      plan = λ wish marks values out. two _ _ _ (plan_returned wish marks values out) (λ a l is. (is.told, is.buffer));
      hex_digit = λ number. one _;
      worth_of = λ byte. one _;
      three_digits = λ word. one _;
      put_byte = λ out at byte. placed _;
      put_text = λ out at text. placed _;
      put_number = λ out at number. placed _;
      put_hex = λ out at byte. placed _;
      put_answer = λ out at answer. placed _;
      words_of = λ answer. one _;
      first = λ bytes count. one _;
      read_line = λ text. one _;
      write_line = λ kind byte wait out. two _ _ _ (record { told = refl; number = ap number_of (answer_told _); buffer = refl }) (λ a l is. (is.told, is.buffer));
      write_row = λ number answer byte busy out. two _ _ _ (record { told = refl; number = ap number_of (answer_told _); buffer = refl }) (λ a l is. (is.told, is.buffer));
      write_header = λ out. two _ _ _ (record { told = refl; number = ap number_of (answer_told _); buffer = refl }) (λ a l is. (is.told, is.buffer));
      play = λ text frequency out. two _ _ _ (record { told = refl; number = ap number_of (answer_told _); buffer = refl }) (λ a l is. (is.told, is.buffer));
      play_through = λ text frequency most. one _;
      import = λ capture out. two _ _ _ (record { told = refl; number = ap number_of (answer_told _); buffer = refl }) (λ a l is. (is.told, is.buffer));
      capture = λ session out.
          two _ _ _ (record { told = refl; number = ap number_of (answer_told _); buffer = refl }) (λ a l is. (is.told, is.buffer));
      wrong_word = λ capture. one _;
      lacks_signal = λ capture line. one _;
      unknown_fall = λ capture. one _;
      draw = λ form rec mem profile lit out. two _ _ _ (draw_returned form rec mem profile lit out) (λ a l is. (is.told, is.drawn.out));
      yaropesk_reset = λ bytes mem.
          three _ _ _ _ (record { told = refl; rec = refl; memory = refl }) (λ a b l is. (is.told, is.rec, is.memory));
      yaropesk_transfer = λ bytes mem kind byte wait.
          three _ _ _ _ (record { told = refl; rec = refl; memory = refl }) (λ a b l is. (is.told, is.rec, is.memory));
      yaropesk_picture = λ bytes mem profile columns lines lit out. two _ _ _ (record { told = refl; buffer = refl }) (λ a l is. (is.told, is.buffer));
      yaropesk_plan = λ wish marks values out. two _ _ _ (record { told = refl; buffer = refl }) (λ a l is. (is.told, is.buffer));
      yaropesk_write_line = λ kind byte wait out. two _ _ _ (record { told = refl; buffer = refl }) (λ a l is. (is.told, is.buffer));
      yaropesk_read_line = λ text out. two _ _ _ (record { told = refl; buffer = refl }) (λ a l is. (is.told, is.buffer));
      yaropesk_import = λ capture out. two _ _ _ (record { told = refl; buffer = refl }) (λ a l is. (is.told, is.buffer));
    }
