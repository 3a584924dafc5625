-- A sound record stays sound and no effect leaves the memory, whatever is sent: halves, refusals and reset.
-- Assumes nothing.
use mathlib.Core.Bool.{Bool, true, false, not, ◌&&◌, and-true, false≢true}
use mathlib.Core.List.{List}
use mathlib.Core.Path.{◌≡◌, refl}
use Prim.Native.Nat.{ℕ, ◌/◌, ◌<◌}
use native.Mathlib.Omega.{arith}
use lib.Dec.{eqb, ltb}
use lib.ListN.{length}
use borrow.Author.Tests.{lt-ltb, ltb-false, eqb-true, eqb-false, ne_eqb, not-false}
use Rattle.controller.proofs.Laws.Choice.{cond-elim}
use Rattle.controller.proofs.Laws.Completed.{Kept, Idle, completed_carried}
use Rattle.controller.proofs.Laws.Record.{sound_shift, sound_counter, sound_busy, sound_frequency, sound_half, sound_of, waited_sound, whole_length}
use Rattle.controller.specs.declared.decision.Decision.{Decision}
use Rattle.controller.specs.declared.execute.Transfer.{Transfer}
use Rattle.controller.specs.declared.execute.Transfer.TheVariants.{Instruct, Write, Status, Read}
use Rattle.controller.specs.declared.«record».Half.{Half}
use Rattle.controller.specs.declared.«record».Half.TheVariants.{Empty, InstructionWrite, DataWrite, StatusRead, DataRead}
use Rattle.controller.specs.declared.«record».Record.{Record}
use Rattle.controller.specs.Bus.{decided, ordered, reset_decided, whole, bad_transfer, must_wait, no_half}
use Rattle.controller.specs.Cells.{on_cell}
use Rattle.controller.specs.Decision.{Fits}
use Rattle.controller.specs.Execute.{completed, status_of}
use Rattle.controller.specs.Halves.{accepted, narrow, begun, first_half, second_half}
use Rattle.controller.specs.Record.{half_sound, sound, waited, with_half}

-- a second half ends as what it completes
second_kept : (mem : List ℕ) (same : Bool) (transfer : Transfer) (rec : Record) → length mem ≡ 144 → sound rec ≡ true
    → Kept mem (second_half mem same transfer rec)
unfolding second_half
second_kept mem same transfer rec long s =
    let idle : Idle (with_half Empty rec) = record { shift = sound_shift rec s; counter = sound_counter rec s; frequency = sound_frequency rec s; half = refl } in
    let kept = (completed_carried mem transfer (with_half Empty rec)).kept long (sound_busy rec s) idle in
    record { sound = kept.sound; fits = kept.fits }

-- a record that holds a half as it may wait
holding_sound : (half : Half) (rec : Record) → sound rec ≡ true → half_sound rec.wide rec.busy half ≡ true → sound (with_half half rec) ≡ true
holding_sound half rec s holds =
    sound_of (with_half half rec) (sound_shift rec s) (sound_counter rec s) (sound_busy rec s) (sound_frequency rec s) holds

-- a write's half, stored at width 4 with busy 0
write_holds : (wide : Bool) (busy byte : ℕ) → wide ≡ false → busy ≡ 0 → byte < 256 → (not wide && (ltb (byte / 16) 16 && eqb busy 0)) ≡ true
write_holds wide busy byte narrow zero below = simp (narrow, zero, lt-ltb (byte / 16) 16 (omega arith))

-- what does not have to wait and is no status read comes with busy 0
pub free : (kind : ℕ) (rec : Record) → no_half rec.half ≡ true → must_wait kind rec ≡ false → (kind ≡ 2 → ⊥) → rec.busy ≡ 0
unfolding must_wait
free kind rec none may other =
    let idle : ltb 0 rec.busy ≡ false = simp (none, ne_eqb kind 2 other, and-true) at may in
    omega (arith, ltb-false 0 rec.busy idle)

first_kept : (mem : List ℕ) (kind byte : ℕ) (rec : Record) → byte < 256 → rec.wide ≡ false → no_half rec.half ≡ true → sound rec ≡ true
    → must_wait kind rec ≡ false → Kept mem (first_half (begun kind byte rec) rec)
unfolding begun first_half half_sound
first_kept mem kind byte rec below narrow none s may =
    let P : Transfer → Type 0 = λ transfer. Kept mem (first_half transfer rec) in
    cond-elim P (eqb kind 0) (Instruct byte) _
    (λ is. record { sound = holding_sound (InstructionWrite (byte / 16)) rec s (write_holds rec.wide rec.busy byte narrow (free kind rec none may (λ k. omega (arith, eqb-true kind 0 is))) below); fits = tt })
    (λ _. cond-elim P (eqb kind 1) (Write byte) _
    (λ is. record { sound = holding_sound (DataWrite (byte / 16)) rec s (write_holds rec.wide rec.busy byte narrow (free kind rec none may (λ k. omega (arith, eqb-true kind 1 is))) below); fits = tt })
    (λ _. cond-elim P (eqb kind 2) (Status (status_of rec)) (Read rec.reg)
    (λ _. record { sound = holding_sound (StatusRead (status_of rec)) rec s (simp narrow); fits = tt })
    (λ other. record { sound = holding_sound (DataRead rec.reg) rec s (simp (narrow, free kind rec none may (eqb-false kind 2 other))); fits = tt })))

-- at width 8 no half waits
pub wide_none : (wide : Bool) (busy : ℕ) (half : Half) → wide ≡ true → half_sound wide busy half ≡ true → half ≡ Empty
unfolding half_sound
wide_none wide busy Empty w s = refl
wide_none wide busy (InstructionWrite high) w s = absurd (false≢true (simp w at s))
wide_none wide busy (DataWrite high) w s = absurd (false≢true (simp w at s))
wide_none wide busy (StatusRead byte) w s = absurd (false≢true (simp w at s))
wide_none wide busy (DataRead byte) w s = absurd (false≢true (simp w at s))

narrow_kept : (mem : List ℕ) (kind byte : ℕ) (half : Half) (rec : Record) → rec.half ≡ half → byte < 256 → rec.wide ≡ false → length mem ≡ 144
    → sound rec ≡ true → must_wait kind rec ≡ false → Kept mem (narrow mem kind byte half rec)
unfolding narrow
narrow_kept mem kind byte Empty rec e below thin long s may = first_kept mem kind byte rec below thin (rw e) s may
narrow_kept mem kind byte (InstructionWrite high) rec e below thin long s may = second_kept mem _ _ rec long s
narrow_kept mem kind byte (DataWrite high) rec e below thin long s may = second_kept mem _ _ rec long s
narrow_kept mem kind byte (StatusRead taken) rec e below thin long s may = second_kept mem _ _ rec long s
narrow_kept mem kind byte (DataRead taken) rec e below thin long s may = second_kept mem _ _ rec long s

accepted_kept : (mem : List ℕ) (kind byte : ℕ) (rec : Record) → byte < 256 → length mem ≡ 144 → sound rec ≡ true → must_wait kind rec ≡ false
    → Kept mem (accepted mem kind byte rec)
unfolding accepted
accepted_kept mem kind byte rec below long s may =
    cond-elim (Kept mem) rec.wide (completed mem (begun kind byte rec) rec) (narrow mem kind byte rec.half rec)
    (λ wide. (completed_carried mem _ rec).kept long (sound_busy rec s)
    (record {
      shift = sound_shift rec s;
      counter = sound_counter rec s;
      frequency = sound_frequency rec s;
      half = wide_none rec.wide rec.busy rec.half wide (sound_half rec s);
    }))
    (λ thin. narrow_kept mem kind byte rec.half rec refl below thin long s may)

pub decided_kept : (rec : Record) (mem : List ℕ) (kind byte wait : ℕ) → byte < 256 → sound rec ≡ true → Kept mem (decided rec mem kind byte wait)
unfolding decided ordered
decided_kept rec mem kind byte wait below s =
    let left : sound (waited wait rec) ≡ true = waited_sound wait rec s in
    let P : Decision → Type 0 = Kept mem in
    cond-elim P (not (sound rec)) _ _ (λ _. record { sound = s; fits = tt })
    (λ _. cond-elim P (not (whole mem)) _ _ (λ _. record { sound = s; fits = tt })
    (λ w. cond-elim P (bad_transfer kind byte) _ _ (λ _. record { sound = s; fits = tt })
    (λ _. cond-elim P (must_wait kind (waited wait rec)) _ _ (λ _. record { sound = left; fits = tt })
    (λ may. cond-elim P (not (on_cell rec.counter)) _ _ (λ _. record { sound = s; fits = tt })
    (λ _. accepted_kept mem kind byte (waited wait rec) below (whole_length mem (not-false _ w)) left may)))))

unsound_keeps : (rec : Record) (mem : List ℕ) (kind byte wait : ℕ) → sound rec ≡ false → Fits (decided rec mem kind byte wait).effect mem
unfolding decided
unsound_keeps rec mem kind byte wait s = rw s tt

-- no effect leaves the memory, whatever the record
pub decided_fits : (rec : Record) (mem : List ℕ) (kind byte wait : ℕ) → byte < 256 → Fits (decided rec mem kind byte wait).effect mem
decided_fits rec mem kind byte wait below = go (sound rec) refl
  where
    go : (s : Bool) → sound rec ≡ s → Fits (decided rec mem kind byte wait).effect mem
    go true s = (decided_kept rec mem kind byte wait below s).fits
    go false s = unsound_keeps rec mem kind byte wait s

pub reset_fits : (rec : Record) (mem : List ℕ) → Fits (reset_decided rec mem).effect mem
unfolding reset_decided
reset_fits rec mem =
    cond-elim (λ (d : Decision). Fits d.effect mem) (whole mem) _ _ (λ w. omega (arith, whole_length mem w)) (λ _. tt)
