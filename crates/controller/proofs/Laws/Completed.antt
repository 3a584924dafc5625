-- One walk through what a complete transfer does: the half it leaves, the time it takes, the record it keeps sound, the memory it
-- stays within, and the one refusal there is.
-- Assumes nothing.
use Rattle.std.specs.Prelude.{Option, Some, None}
use mathlib.Core.Bool.{Bool, true, false, cond, not, false≢true}
use mathlib.Core.List.{List}
use mathlib.Core.Path.{◌≡◌, refl, sym, ap, ◌∙◌}
use Prim.Native.Nat.{ℕ, ◌≤◌, ◌<◌}
use native.Mathlib.Nat.{le_refl, le_trans}
use native.Mathlib.Omega.{arith}
use lib.ListN.{length}
use Rattle.controller.proofs.Laws.Cells.{stepped_on, wrapped_below, acg_on, display_on, named_within, place_below}
use Rattle.controller.proofs.Laws.Choice.{cond-elim}
use Rattle.controller.proofs.Laws.Instruction.{decoded_elim}
use Rattle.controller.proofs.Laws.Oscillator.{time_bound, time_grows}
use Rattle.controller.proofs.Laws.Record.{sound_of}
use Rattle.controller.specs.declared.answers.Answer.TheVariants.{Done, NoCell, StaleRead}
use Rattle.controller.specs.declared.cells.Counter.{Counter}
use Rattle.controller.specs.declared.cells.Counter.TheVariants.{Display, Pattern}
use Rattle.controller.specs.declared.decision.Decision.{Decision}
use Rattle.controller.specs.declared.decision.Effect.{Effect}
use Rattle.controller.specs.declared.decision.Effect.TheVariants.{Keep, Blank}
use Rattle.controller.specs.declared.execute.Transfer.{Transfer}
use Rattle.controller.specs.declared.execute.Transfer.TheVariants.{Instruct, Write, Status, Read}
use Rattle.controller.specs.declared.instruction.Instruction.{Instruction}
use Rattle.controller.specs.declared.instruction.Instruction.TheVariants.{Nothing, Clear, Home, SetEntry, SetControl, MoveCursor, ShiftDisplay, SetFunction, PatternAddress, DisplayAddress}
use Rattle.controller.specs.declared.oscillator.Frequency.{Frequency}
use Rattle.controller.specs.declared.«record».Half.{Half}
use Rattle.controller.specs.declared.«record».Half.TheVariants.{Empty}
use Rattle.controller.specs.declared.«record».Record.{Record}
use Rattle.controller.specs.Answers.{is_refusal}
use Rattle.controller.specs.Cells.{on_cell, stepped, cell_of_add, cell_of_acg, Within}
use Rattle.controller.specs.Decision.{done, refused, Fits}
use Rattle.controller.specs.Execute.{short_time, long_time, changed, placed, moved_on, homed, cleared, cursor_at, shifted, addressed, executed, carried, written, read_out, completed}
use Rattle.controller.specs.Instruction.{decoded}
use Rattle.controller.specs.Oscillator.{in_range}
use Rattle.controller.specs.Record.{reset_time, half_sound, sound, with_function, with_control, with_entry, with_shift, with_register}

-- the short time is the shorter
pub short_long : (frequency : Frequency) → short_time frequency ≤ long_time frequency
unfolding short_time long_time
short_long frequency = time_grows 40 1640 frequency (omega arith)

-- at every frequency the times have a bound
pub short_bound : (frequency : Frequency) → short_time frequency ≤ 100
unfolding short_time
short_bound frequency = time_bound 40 frequency 100 (omega arith)

pub long_bound : (frequency : Frequency) → long_time frequency ≤ 4100
unfolding long_time
long_bound frequency = time_bound 1640 frequency 4100 (omega arith)

long_within : (frequency : Frequency) → long_time frequency ≤ reset_time
unfolding reset_time
long_within frequency = omega (arith, long_bound frequency)

-- the record left is sound, and the effect is within the memory
pub record Kept (mem : List ℕ) (d : Decision) : Type 0 where
  pub sound : sound d.rec ≡ true
  pub fits : Fits d.effect mem

-- what a complete transfer starts from and leaves: no half, the shift, the counter and the frequency in their ranges
pub record Idle (rec : Record) : Type 0 where
  pub shift : rec.shift < 80
  pub counter : on_cell rec.counter ≡ true
  pub frequency : in_range rec.frequency ≡ true
  pub half : rec.half ≡ Empty

empty_sound : (wide : Bool) (busy : ℕ) (half : Half) → half ≡ Empty → half_sound wide busy half ≡ true
unfolding half_sound
empty_sound wide busy half e = rw e

pub idle_sound : (rec : Record) → Idle rec → rec.busy ≤ reset_time → sound rec ≡ true
idle_sound rec idle busy =
    sound_of rec idle.shift idle.counter busy idle.frequency (empty_sound rec.wide rec.busy rec.half idle.half)

-- what is known of every complete transfer
pub record Carried (mem : List ℕ) (rec : Record) (d : Decision) : Type 0 where
  pub half : d.rec.half ≡ rec.half
  pub busy : rec.busy ≤ long_time rec.frequency → d.rec.busy ≤ long_time rec.frequency
  pub frequency : d.rec.frequency ≡ rec.frequency
  pub kept : length mem ≡ 144 → rec.busy ≤ reset_time → Idle rec → Kept mem d
  pub only : is_refusal d.answer ≡ true → d ≡ refused NoCell rec

module _ (mem : List ℕ) (rec : Record) where
  -- done in this time, with this effect, and this record left
  done_carried : (time : ℕ) (effect : Effect) (next : Record) → time ≤ long_time rec.frequency → next.half ≡ rec.half
      → next.frequency ≡ rec.frequency → (Idle rec → Idle next) → (length mem ≡ 144 → Idle rec → Fits effect mem)
      → Carried mem rec (done time effect next)
  unfolding is_refusal
  done_carried time effect next within half same idle fits =
      record {
        half = half;
        busy = λ _. within;
        frequency = same;
        kept = λ long _ was.
            let still = idle was in
            record {
              sound =
                  idle_sound _ (record { shift = still.shift; counter = still.counter; frequency = still.frequency; half = still.half })
                  (le_trans within (long_within rec.frequency));
              fits = fits long was;
            };
        only = λ r. absurd (false≢true r);
      }

  -- done in the short time, the memory as it was
  changed_carried : (next : Record) → next.half ≡ rec.half → next.frequency ≡ rec.frequency → (Idle rec → Idle next)
      → Carried mem rec (changed next)
  changed_carried next half same idle =
      done_carried (short_time next.frequency) Keep next (rw same (short_long rec.frequency)) half same idle (λ _ _. tt)

  -- bits set, and the rest as it was
  set_carried : (next : Record) → next.half ≡ rec.half → next.frequency ≡ rec.frequency → next.shift ≡ rec.shift → next.counter ≡ rec.counter
      → Carried mem rec (changed next)
  set_carried next half same shift counter =
      changed_carried next half same
      (λ idle. record {
        shift = rw shift idle.shift;
        counter = ap on_cell counter ∙ idle.counter;
        frequency = ap in_range same ∙ idle.frequency;
        half = half ∙ idle.half;
      })

  -- the counter placed on a cell, or moved on to the next
  placed_idle : (counter : Counter) → on_cell counter ≡ true → Idle rec → Idle (placed counter rec)
  placed_idle counter on idle = record { shift = idle.shift; counter = on; frequency = idle.frequency; half = idle.half }

  moved_idle : Idle rec → Idle (moved_on rec)
  moved_idle idle = placed_idle (stepped rec.entry.id rec.counter) (stepped_on rec.entry.id rec.counter) idle

  -- the register loaded or not
  loaded_idle : {next : Record} {reg : ℕ} {fresh : Bool} → Idle next → Idle (with_register reg fresh next)
  loaded_idle idle = record { shift = idle.shift; counter = idle.counter; frequency = idle.frequency; half = idle.half }

  homed_idle : Idle rec → Idle (homed rec)
  homed_idle idle = record { shift = omega arith; counter = display_on 0 (omega arith); frequency = idle.frequency; half = idle.half }

  cleared_idle : Idle rec → Idle (cleared rec)
  cleared_idle idle =
      let home = homed_idle idle in
      record { shift = home.shift; counter = home.counter; frequency = home.frequency; half = home.half }

  shifted_idle : (up : Bool) → Idle rec → Idle (shifted up rec)
  shifted_idle up idle =
      record {
        shift = wrapped_below 80 up rec.shift (omega arith);
        counter = idle.counter;
        frequency = idle.frequency;
        half = idle.half;
      }

  cursor_carried : (counter : Counter) → on_cell counter ≡ true → Carried mem rec (changed (cursor_at mem counter rec))
  unfolding cursor_at
  cursor_carried (Display cell) on = changed_carried _ refl refl (λ idle. loaded_idle (placed_idle (Display cell) on idle))
  cursor_carried (Pattern cell) on = changed_carried _ refl refl (λ idle. loaded_idle (placed_idle (Pattern cell) on idle))

  addressed_carried : (named : Option ℕ) → Within named → Carried mem rec (addressed mem named rec)
  unfolding addressed
  addressed_carried (Some cell) within =
      changed_carried _ refl refl (λ idle. loaded_idle (placed_idle (Display cell) (display_on cell within) idle))
  addressed_carried None within =
      record {
        half = refl;
        busy = λ still. still;
        frequency = refl;
        kept = λ _ busy idle. record { sound = idle_sound rec idle busy; fits = tt };
        only = λ _. refl;
      }

  executed_carried : (i : Instruction) → Carried mem rec (executed mem i rec)
  unfolding executed
  executed_carried Nothing = changed_carried rec refl refl (λ idle. idle)
  executed_carried Clear = done_carried _ Blank _ (le_refl (long_time rec.frequency)) refl refl cleared_idle (λ long _. omega arith)
  executed_carried Home = done_carried _ Keep _ (le_refl (long_time rec.frequency)) refl refl homed_idle (λ _ _. tt)
  executed_carried (SetEntry entry) = set_carried (with_entry entry rec) refl refl refl refl
  executed_carried (SetControl control) = set_carried (with_control control rec) refl refl refl refl
  executed_carried (MoveCursor right) = cursor_carried (stepped right rec.counter) (stepped_on right rec.counter)
  executed_carried (ShiftDisplay right) = changed_carried _ refl refl (shifted_idle (not right))
  executed_carried (SetFunction wide function) = set_carried (with_function wide function rec) refl refl refl refl
  executed_carried (PatternAddress acg) =
      changed_carried _ refl refl (λ idle. loaded_idle (placed_idle (Pattern (cell_of_acg acg)) (acg_on acg) idle))
  executed_carried (DisplayAddress add) = addressed_carried (cell_of_add rec.function.n add) (named_within rec.function.n add)

-- what no shift alters is as it was after the display has followed
pub carried_keeps : {A : Type 0} (f : Record → A) (counter : Counter) (rec : Record) → ((shift : ℕ) → f (with_shift shift rec) ≡ f rec)
    → f (carried counter rec) ≡ f rec
unfolding carried
carried_keeps f (Display cell) rec same = cond-elim (λ (r : Record). f r ≡ f rec) rec.entry.s _ _ (λ _. same _) (λ _. refl)
carried_keeps f (Pattern cell) rec same = refl

carried_idle : (mem : List ℕ) (counter : Counter) (rec : Record) → Idle rec → Idle (carried counter rec)
unfolding carried
carried_idle mem (Display cell) rec idle =
    cond-elim Idle rec.entry.s _ _ (λ _. shifted_idle mem rec rec.entry.id idle) (λ _. idle)
carried_idle mem (Pattern cell) rec idle = idle

written_carried : (mem : List ℕ) (byte : ℕ) (rec : Record) → Carried mem rec (written byte rec)
unfolding written
written_carried mem byte rec =
    done_carried mem rec _ _ _ (short_long rec.frequency) (carried_keeps (λ r. r.half) rec.counter (moved_on rec) (λ _. refl))
    (carried_keeps (λ r. r.frequency) rec.counter (moved_on rec) (λ _. refl))
    (λ idle. loaded_idle mem rec (carried_idle mem rec.counter (moved_on rec) (moved_idle mem rec idle)))
    (λ long idle. omega (arith, place_below rec.counter idle.counter))

-- no read is refused
read_never : (fresh : Bool) → is_refusal (cond fresh Done StaleRead) ≡ false
unfolding is_refusal
read_never true = refl
read_never false = refl

read_carried : (mem : List ℕ) (byte : ℕ) (rec : Record) → Carried mem rec (read_out mem byte rec)
unfolding read_out
read_carried mem byte rec =
    record {
      half = refl;
      busy = λ _. short_long rec.frequency;
      frequency = refl;
      kept = λ _ _ idle.
          let moved = moved_idle mem rec idle in
          record {
            sound =
                idle_sound _ (record { shift = moved.shift; counter = moved.counter; frequency = moved.frequency; half = moved.half })
                (le_trans (short_long rec.frequency) (long_within rec.frequency));
            fits = tt;
          };
      only = λ r. absurd (false≢true (sym (read_never rec.fresh) ∙ r));
    }

pub completed_carried : (mem : List ℕ) (t : Transfer) (rec : Record) → Carried mem rec (completed mem t rec)
unfolding completed is_refusal
completed_carried mem (Instruct byte) rec = executed_carried mem rec (decoded byte)
completed_carried mem (Write byte) rec = written_carried mem byte rec
completed_carried mem (Status byte) rec =
    record {
      half = refl;
      busy = λ still. still;
      frequency = refl;
      kept = λ _ busy idle. record { sound = idle_sound rec idle busy; fits = tt };
      only = λ r. absurd (false≢true r);
    }
completed_carried mem (Read byte) rec = read_carried mem byte rec

addressed_keeps : (mem : List ℕ) (named : Option ℕ) (rec : Record) → (addressed mem named rec).effect ≡ Keep
unfolding addressed
addressed_keeps mem (Some cell) rec = refl
addressed_keeps mem None rec = refl

-- every instruction byte but 01h keeps the memory
pub instruct_keeps : (mem : List ℕ) (byte : ℕ) (rec : Record) → (byte ≡ 1 → ⊥) → (executed mem (decoded byte) rec).effect ≡ Keep
unfolding executed
instruct_keeps mem byte rec other =
    decoded_elim (λ (i : Instruction). (executed mem i rec).effect ≡ Keep) byte (λ _. addressed_keeps mem _ rec) (λ _. refl) (λ _ _. refl)
    (λ _. refl) (λ _. refl) (λ _. refl) (λ _. refl) refl (λ one. absurd (other one)) refl
