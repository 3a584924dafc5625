-- The rules of halves: what a first half leaves, what a second returns, and who decides where the two differ in kind.
-- Assumes nothing.
use mathlib.Core.Bool.{true, false, cond, true≢false}
use mathlib.Core.List.{List}
use mathlib.Core.Path.{◌≡◌, refl, sym, ap, subst, ◌∙◌}
use Prim.Native.Nat.{ℕ, ◌+◌, ◌-◌, ◌/◌}
use lib.Dec.{ltb}
use borrow.Author.Tests.{ne_eqb}
use Rattle.controller.proofs.Laws.Rows.{bad_tests, early_tests, half_after, wide_after}
use Rattle.controller.proofs.Laws.Taken.{accepted_narrow, taken}
use Rattle.controller.proofs.Laws.Tests.{tests_false}
use Rattle.controller.proofs.Theorems.Halves.{Good, executed_byte, good_is, instruction, reading, status, writing}
use Rattle.controller.proofs.Theorems.Rules.{addresses_is, status_byte, waits_busy, waits_control, waits_entry, waits_frequency, waits_function, waits_place}
use Rattle.controller.specs.declared.answers.Answer.{Answer}
use Rattle.controller.specs.declared.answers.Answer.TheVariants.{FirstHalf}
use Rattle.controller.specs.declared.decision.Decision.{Decision}
use Rattle.controller.specs.declared.decision.Effect.TheVariants.{Keep}
use Rattle.controller.specs.declared.execute.Transfer.{Transfer}
use Rattle.controller.specs.declared.execute.Transfer.TheVariants.{Instruct, Write, Status, Read}
use Rattle.controller.specs.declared.«record».Half.{Half}
use Rattle.controller.specs.declared.«record».Half.TheVariants.{Empty, InstructionWrite, DataWrite, StatusRead, DataRead}
use Rattle.controller.specs.declared.«record».Record.{Record}
use Rattle.controller.specs.Answers.{number_of}
use Rattle.controller.specs.Bus.{bad_transfer, decided, must_wait, no_half}
use Rattle.controller.specs.Decision.{performed}
use Rattle.controller.specs.Execute.{completed, status_of, written, read_out}
use Rattle.controller.specs.HalfRules.{Crosses, EndsStatus, HalfRules, IsOf, Narrow, Stored, TakesFirst, taken_byte}
use Rattle.controller.specs.Halves.{begun, crossed, first_half, high_half, low_half, narrow, second_half, whole_byte}
use Rattle.controller.specs.Record.{waited, with_half}
use Rattle.controller.specs.Rows.{NoTransfer, TooEarly}
use Rattle.controller.specs.Rules.{Addresses, SameControl, SameEntry, SameFunction, SamePlace}

-- after the wait, with this half or none, all else is as it was
module _ (wait : ℕ) (rec : Record) (half : Half) where
  function_kept : SameFunction rec (with_half half (waited wait rec))
  function_kept = let s = waits_function wait rec in record { wide = s.wide; n = s.n; f = s.f }

  control_kept : SameControl rec (with_half half (waited wait rec))
  control_kept = let s = waits_control wait rec in record { d = s.d; c = s.c; b = s.b }

  entry_kept : SameEntry rec (with_half half (waited wait rec))
  entry_kept = let s = waits_entry wait rec in record { id = s.id; s = s.s }

  place_kept : SamePlace rec (with_half half (waited wait rec))
  place_kept = let s = waits_place wait rec in record { shift = s.shift; counter = s.counter; reg = s.reg; fresh = s.fresh }

-- a half that is not refused is taken, the wait off busy
module _ (rec : Record) (mem : List ℕ) (kind byte wait : ℕ) (n : Narrow rec mem) (good : bad_transfer kind byte ≡ false) where
  taken_half : (half : Half) → rec.half ≡ half → must_wait kind (waited wait rec) ≡ false
      → decided rec mem kind byte wait ≡ narrow mem kind byte half (waited wait rec)
  taken_half half is may =
      taken rec mem kind byte wait n.sound n.whole good may
      ∙ accepted_narrow mem kind byte half (waited wait rec) (wide_after wait rec ∙ n.narrow) (half_after wait rec ∙ is)

  -- a second half never has to wait
  taken_second : (half : Half) → rec.half ≡ half → no_half half ≡ false → decided rec mem kind byte wait ≡ narrow mem kind byte half (waited wait rec)
  unfolding must_wait
  taken_second half is some = taken_half half is (rw (half_after wait rec, is, some) refl)

-- the byte of a status read taken after the wait
status_taken : (rec : Record) (wait address : ℕ) → Addresses rec.function.n rec.counter address
    → status_of (waited wait rec) ≡ cond (ltb 0 (rec.busy - wait)) 0x80 0 + address
status_taken rec wait address names =
    status_byte rec.function.n rec.counter (waited wait rec) (rec.busy - wait) address (waits_function wait rec).n
    (waits_place wait rec).counter (waits_busy wait rec) (addresses_is rec.function.n rec.counter address names)

module _ (rec : Record) (mem : List ℕ) (wait : ℕ) where
  -- a half that is stored so, and returns this
  stores : (kind byte : ℕ) (half : Half) → Stored rec kind byte wait half → narrow mem kind byte Empty (waited wait rec)
      ≡ record { answer = FirstHalf; byte = high_half (taken_byte half); rec = with_half half (waited wait rec); effect = Keep }
      → TakesFirst rec mem kind byte wait (narrow mem kind byte Empty (waited wait rec))
  unfolding performed
  stores kind byte half is told =
      rw told
      (record {
        answer = refl;
        half = is;
        returned = refl;
        busy = waits_busy wait rec;
        frequency = waits_frequency wait rec;
        function = function_kept wait rec half;
        control = control_kept wait rec half;
        entry = entry_kept wait rec half;
        place = place_kept wait rec half;
        cells = λ _ _. refl;
      })

  takes_first : {kind byte : ℕ} → Good kind byte → TakesFirst rec mem kind byte wait (narrow mem kind byte Empty (waited wait rec))
  unfolding narrow begun first_half
  takes_first (instruction byte) = stores 0 byte (InstructionWrite (byte / 16)) (refl, refl) refl
  takes_first (writing byte) = stores 1 byte (DataWrite (byte / 16)) (refl, refl) refl
  takes_first status = stores 2 0 (StatusRead (status_of (waited wait rec))) (refl, status_taken rec wait) refl
  takes_first reading = stores 3 0 (DataRead (waited wait rec).reg) (refl, (waits_place wait rec).reg) refl

first_rule : (rec : Record) (mem : List ℕ) (kind byte wait : ℕ) → Narrow rec mem → rec.half ≡ Empty → (NoTransfer kind byte → ⊥)
    → (TooEarly kind wait rec → ⊥) → TakesFirst rec mem kind byte wait (decided rec mem kind byte wait)
first_rule rec mem kind byte wait n none good now =
    let fine = tests_false (bad_tests kind byte) good in
    subst (TakesFirst rec mem kind byte wait)
    (sym (taken_half rec mem kind byte wait n fine Empty none (tests_false (early_tests kind wait rec) now)))
    (takes_first rec mem wait (good_is kind byte fine))

-- what a second half returns
second_byte : (mem : List ℕ) (kind byte : ℕ) (half : Half) (rec : Record) → no_half half ≡ false
    → (narrow mem kind byte half rec).byte ≡ low_half (taken_byte half)
unfolding narrow second_half completed written read_out
second_byte mem kind byte Empty rec some = absurd (true≢false some)
second_byte mem kind byte (InstructionWrite high) rec some = ap low_half (executed_byte mem (whole_byte high byte) (with_half Empty rec))
second_byte mem kind byte (DataWrite high) rec some = refl
second_byte mem kind byte (StatusRead taken) rec some = refl
second_byte mem kind byte (DataRead taken) rec some = refl

some_waits : (first : ℕ) (half : Half) → IsOf first half → no_half half ≡ false
some_waits first Empty never = absurd never
some_waits first (InstructionWrite high) is = refl
some_waits first (DataWrite high) is = refl
some_waits first (StatusRead taken) is = refl
some_waits first (DataRead taken) is = refl

second_rule : (rec : Record) (mem : List ℕ) (kind first byte wait : ℕ) → Narrow rec mem → IsOf first rec.half → (NoTransfer kind byte → ⊥)
    → (decided rec mem kind byte wait).byte ≡ low_half (taken_byte rec.half)
second_rule rec mem kind first byte wait n is good =
    let some = some_waits first rec.half is in
    ap (λ (d : Decision). d.byte) (taken_second rec mem kind byte wait n (tests_false (bad_tests kind byte) good) rec.half refl some)
    ∙ second_byte mem kind byte rec.half (waited wait rec) some

-- an answer where the kinds differ
crossed_eight : (a : Answer) → number_of a ≡ 0 → number_of (crossed true a) ≡ 8
unfolding crossed
crossed_eight a none = rw none refl

crossed_stays : (a : Answer) → (number_of a ≡ 0 → ⊥) → crossed true a ≡ a
unfolding crossed
crossed_stays a some = rw (ne_eqb (number_of a) 0 some) refl

-- the same transfer, once by a second half of its kind and once by another
crossing : (mem : List ℕ) (t : Transfer) (rec : Record) → Crosses (second_half mem false t rec) (second_half mem true t rec)
unfolding second_half crossed
crossing mem t rec =
    let a = (completed mem t (with_half Empty rec)).answer in
    record { effect = refl; rec = refl; byte = refl; eight = crossed_eight a; stays = crossed_stays a }

crossed_rule : (rec : Record) (mem : List ℕ) (kind byte wait : ℕ) → Narrow rec mem → bad_transfer kind byte ≡ false
    → (half : Half) (first : ℕ) → rec.half ≡ half → IsOf first half → (kind ≡ first → ⊥)
    → Crosses (decided rec mem first (cond (ltb first 2) byte 0x00) wait) (decided rec mem kind byte wait)
unfolding narrow bad_transfer
crossed_rule rec mem kind byte wait n good half first is of other =
    go half is first of other
  where
    -- both halves taken, with what they complete
    both : (k b : ℕ) (half : Half) (t : Transfer) → rec.half ≡ half → no_half half ≡ false → bad_transfer k b ≡ false
        → narrow mem k b half (waited wait rec) ≡ second_half mem false t (waited wait rec)
        → narrow mem kind byte half (waited wait rec) ≡ second_half mem true t (waited wait rec)
        → Crosses (decided rec mem k b wait) (decided rec mem kind byte wait)
    both k b half t is some fine own crossed =
        rw (taken_second rec mem k b wait n fine half is some ∙ own, taken_second rec mem kind byte wait n good half is some ∙ crossed)
        (crossing mem t (waited wait rec))

    go : (half : Half) → rec.half ≡ half → (first : ℕ) → IsOf first half → (kind ≡ first → ⊥)
        → Crosses (decided rec mem first (cond (ltb first 2) byte 0x00) wait) (decided rec mem kind byte wait)
    go Empty is first never other = absurd never
    go (InstructionWrite high) is first of other = let apart = ne_eqb kind 0 (λ e. other (e ∙ sym of)) in rw of (both 0 byte (InstructionWrite high) (Instruct (whole_byte high byte)) is refl refl refl (rw apart))
    go (DataWrite high) is first of other = let apart = ne_eqb kind 1 (λ e. other (e ∙ sym of)) in rw of (both 1 byte (DataWrite high) (Write (whole_byte high byte)) is refl refl refl (rw apart))
    go (StatusRead taken) is first of other = let apart = ne_eqb kind 2 (λ e. other (e ∙ sym of)) in rw of (both 2 0 (StatusRead taken) (Status taken) is refl refl refl (rw apart))
    go (DataRead taken) is first of other = let apart = ne_eqb kind 3 (λ e. other (e ∙ sym of)) in rw of (both 3 0 (DataRead taken) (Read taken) is refl refl refl (rw apart))

status_rule : (rec : Record) (mem : List ℕ) (taken wait : ℕ) → Narrow rec mem → rec.half ≡ StatusRead taken
    → EndsStatus rec mem taken wait (decided rec mem 2 0x00 wait)
unfolding narrow second_half completed crossed bad_transfer performed
status_rule rec mem taken wait n is =
    subst (EndsStatus rec mem taken wait) (sym (taken_second rec mem 2 0x00 wait n refl (StatusRead taken) is refl))
    (record {
      comes = record { answer = refl; byte = refl; busy = waits_busy wait rec; frequency = waits_frequency wait rec; half = refl };
      function = function_kept wait rec Empty;
      control = control_kept wait rec Empty;
      entry = entry_kept wait rec Empty;
      place = place_kept wait rec Empty;
      cells = λ _ _. refl;
    })

pub half_rules : HalfRules
half_rules =
    record {
      first = first_rule;
      second = second_rule;
      crossed = λ rec mem kind first byte wait n is good other.
          crossed_rule rec mem kind byte wait n (tests_false (bad_tests kind byte) good) rec.half first refl is other;
      status = status_rule;
    }
