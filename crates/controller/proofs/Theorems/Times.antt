-- The theorems of the oscillator: its times, and what reset and the transfers leave of the frequency.
-- Assumes nothing.
use mathlib.Core.Bool.{not}
use mathlib.Core.List.{List}
use mathlib.Core.Path.{◌≡◌, refl, sym, ap, subst, ◌∙◌}
use Prim.Native.Nat.{ℕ, ◌*◌, ◌≤◌}
use native.Mathlib.Nat.{le_trans, lt_of_not-le, mul-le-mul_left, not-le_of_lt}
use native.Mathlib.Omega.{arith}
use lib.ListN.{length}
use borrow.Author.Tests.{eq-eqb}
use Rattle.controller.proofs.Laws.Choice.{cond-elim}
use Rattle.controller.proofs.Laws.Completed.{completed_carried}
use Rattle.controller.proofs.Laws.Oscillator.{fitted_in, fitted_out, time_least, time_reaches}
use Rattle.controller.proofs.Theorems.Rules.{waits_frequency}
use Rattle.controller.specs.declared.decision.Decision.{Decision}
use Rattle.controller.specs.declared.execute.Transfer.{Transfer}
use Rattle.controller.specs.declared.execute.Transfer.TheVariants.{Instruct, Write, Status, Read}
use Rattle.controller.specs.declared.oscillator.Frequency.{Frequency}
use Rattle.controller.specs.declared.«record».Half.{Half}
use Rattle.controller.specs.declared.«record».Half.TheVariants.{Empty, InstructionWrite, DataWrite, StatusRead, DataRead}
use Rattle.controller.specs.declared.«record».Record.{Record}
use Rattle.controller.specs.Bus.{bad_transfer, decided, must_wait, ordered, reset_decided, whole}
use Rattle.controller.specs.Cells.{on_cell}
use Rattle.controller.specs.Execute.{completed}
use Rattle.controller.specs.Halves.{accepted, begun, first_half, narrow, second_half}
use Rattle.controller.specs.Oscillator.{fitted, in_range, time_at}
use Rattle.controller.specs.Record.{reset_record, sound, waited, with_half}
use Rattle.controller.specs.Times.{WithinRange, LeastTime, TimeAt250, TimesAt270, TimeFalls, TimeOutside, ResetFrequency, TransferKeepsFrequency, OscillatorRules}

module _ (time : ℕ) (frequency : Frequency) (is : WithinRange frequency) where
  -- the laws of a time, in range
  reaches : time * 250 ≤ time_at time frequency * frequency.khz
  reaches = subst (λ (f : Frequency). time * 250 ≤ time_at time frequency * f.khz) (fitted_in frequency is) (time_reaches time frequency)

  least : (other : ℕ) → time * 250 ≤ other * frequency.khz → time_at time frequency ≤ other
  least other enough = time_least time frequency other (subst (λ (f : Frequency). time * 250 ≤ other * f.khz) (sym (fitted_in frequency is)) enough)

pub least_time : LeastTime
least_time time frequency is =
    (reaches time frequency is, λ less under. lt_of_not-le (λ enough. not-le_of_lt under (least time frequency is less enough)))

pub time_at_250 : TimeAt250
unfolding time_at fitted in_range
time_at_250 time = omega arith

pub times_at_270 : TimesAt270
unfolding time_at fitted in_range
times_at_270 = (refl, refl)

pub time_falls : TimeFalls
time_falls time slow fast slow-is fast-is rises =
    least time fast fast-is (time_at time slow) (le_trans (reaches time slow slow-is) (mul-le-mul_left (time_at time slow) rises))

pub time_outside : TimeOutside
unfolding time_at
time_outside time frequency out = rw (fitted_out frequency out) (omega arith)

pub reset_frequency : (rec : Record) (mem : List ℕ) → length mem ≡ 144 → ResetFrequency rec mem
unfolding reset_decided reset_record whole
reset_frequency rec mem long =
    record {
      kept = λ is. rw (eq-eqb (length mem) 144 long) (fitted_in rec.frequency is);
      put = λ out. rw (eq-eqb (length mem) 144 long) (ap (λ (f : Frequency). f.khz) (fitted_out rec.frequency out));
    }

-- a first half leaves the frequency, and a second what it completes
first_leaves : (t : Transfer) (rec : Record) → (first_half t rec).rec.frequency ≡ rec.frequency
unfolding first_half
first_leaves (Instruct byte) rec = refl
first_leaves (Write byte) rec = refl
first_leaves (Status byte) rec = refl
first_leaves (Read byte) rec = refl

narrow_leaves : (mem : List ℕ) (kind byte : ℕ) (half : Half) (rec : Record) → (narrow mem kind byte half rec).rec.frequency ≡ rec.frequency
unfolding narrow second_half
narrow_leaves mem kind byte Empty rec = first_leaves (begun kind byte rec) rec
narrow_leaves mem kind byte (InstructionWrite high) rec = (completed_carried mem _ (with_half Empty rec)).frequency
narrow_leaves mem kind byte (DataWrite high) rec = (completed_carried mem _ (with_half Empty rec)).frequency
narrow_leaves mem kind byte (StatusRead taken) rec = (completed_carried mem _ (with_half Empty rec)).frequency
narrow_leaves mem kind byte (DataRead taken) rec = (completed_carried mem _ (with_half Empty rec)).frequency

accepted_leaves : (mem : List ℕ) (kind byte : ℕ) (rec : Record) → (accepted mem kind byte rec).rec.frequency ≡ rec.frequency
unfolding accepted
accepted_leaves mem kind byte rec =
    cond-elim (λ (d : Decision). d.rec.frequency ≡ rec.frequency) rec.wide (completed mem (begun kind byte rec) rec) (narrow mem kind byte rec.half rec)
    (λ _. (completed_carried mem (begun kind byte rec) rec).frequency) (λ _. narrow_leaves mem kind byte rec.half rec)

pub transfer_keeps_frequency : TransferKeepsFrequency
unfolding decided ordered
transfer_keeps_frequency rec mem kind byte wait =
    let P : Decision → Type 0 = λ d. d.rec.frequency ≡ rec.frequency in
    cond-elim P (not (sound rec)) _ _ (λ _. refl)
    (λ _. cond-elim P (not (whole mem)) _ _ (λ _. refl)
    (λ _. cond-elim P (bad_transfer kind byte) _ _ (λ _. refl)
    (λ _. cond-elim P (must_wait kind (waited wait rec)) _ _ (λ _. waits_frequency wait rec)
    (λ _. cond-elim P (not (on_cell rec.counter)) _ _ (λ _. refl)
    (λ _. accepted_leaves mem kind byte (waited wait rec) ∙ waits_frequency wait rec)))))

pub oscillator_rules : OscillatorRules
oscillator_rules =
    record {
      least = least_time;
      at_250 = time_at_250;
      at_270 = times_at_270;
      falls = time_falls;
      outside = time_outside;
      reset = reset_frequency;
      transfer = transfer_keeps_frequency;
    }
