-- The public calls: transfer and reset, with their refusals in order (document 01, "One transfer", "What each number says").
-- Assumes nothing.
use Rattle.std.specs.Prelude.{Bool, true, false, cond, not, ◌&&◌, ◌||◌, List, ◌≡◌, ℕ, ltb, leb, eqb, length}
use Rattle.controller.specs.declared.answers.Answer.TheVariants.{Done, Unsound, NotWhole, BadTransfer, Busy, CounterOff}
use Rattle.controller.specs.declared.decision.Decision.{Decision}
use Rattle.controller.specs.declared.decision.Effect.TheVariants.{Blank}
use Rattle.controller.specs.declared.decision.Outcome.{Outcome}
use Rattle.controller.specs.declared.loan.Told.{Told}
use Rattle.controller.specs.declared.«record».Half.{Half}
use Rattle.controller.specs.declared.«record».Half.TheVariants.{Empty, InstructionWrite, DataWrite, StatusRead, DataRead}
use Rattle.controller.specs.declared.«record».Record.{Record}
use Rattle.controller.specs.Cells.{on_cell}
use Rattle.controller.specs.Answers.{number_of}
use Rattle.controller.specs.Decision.{refused, performed, outcome_of}
use Rattle.controller.specs.Halves.{accepted}
use Rattle.controller.specs.Record.{sound, reset_record, waited}

-- The lent memory is 144 bytes.
unfoldable pub whole : List ℕ → Bool
whole mem = eqb (length mem) 144

-- A kind above 3, or a read with a byte.
unfoldable pub bad_transfer : ℕ → ℕ → Bool
bad_transfer kind byte = ltb 3 kind || (leb 2 kind && ltb 0 byte)

-- No half is waiting.
abbrev pub no_half : Half → Bool
no_half Empty = true
no_half (InstructionWrite high) = false
no_half (DataWrite high) = false
no_half (StatusRead taken) = false
no_half (DataRead taken) = false

-- With no half waiting and busy above 0, anything but a status read is answered 4.
unfoldable pub must_wait : ℕ → Record → Bool
must_wait kind rec = no_half rec.half && (ltb 0 rec.busy && not (eqb kind 2))

-- After the wait: 4, then 9, then what is accepted. `rec` is the record as found, `later` the same after the wait.
unfoldable pub ordered : List ℕ → ℕ → ℕ → Record → Record → Decision
ordered mem kind byte rec later =
    cond (must_wait kind later) (refused Busy later)
    (cond (not (on_cell rec.counter)) (refused CounterOff rec)
    (accepted mem kind byte later))

-- What a transfer comes to, the refusals in their order: 1, 2, 3, then the wait, 4, 9, and 6, 7, 8 in what is accepted.
unfoldable pub decided : Record → List ℕ → ℕ → ℕ → ℕ → Decision
decided rec mem kind byte wait =
    cond (not (sound rec)) (refused Unsound rec)
    (cond (not (whole mem)) (refused NotWhole rec)
    (cond (bad_transfer kind byte) (refused BadTransfer rec)
    (ordered mem kind byte rec (waited wait rec))))

-- What reset comes to: display cells 20h and the record that it leaves, or 2 and the record it was given.
unfoldable pub reset_decided : Record → List ℕ → Decision
reset_decided rec mem =
    cond (whole mem)
    (record { answer = Done; byte = 0; rec = reset_record rec.frequency; effect = Blank })
    (refused NotWhole rec)

-- What `transfer` and `reset` promise of a decision: what is returned, its number in the table, and every byte of the memory.
pub record Performs (d : Decision) (before : List ℕ) (returned : Outcome) (after : List ℕ) : Type 0 where
  pub told : returned ≡ outcome_of d
  pub number : number_of returned.answer ≡ number_of d.answer
  pub memory : after ≡ performed d.effect before

-- What `transfer_in` promises of a decision: what is told, its number in the table, the record left in the loan, and every byte
-- of the memory.
pub record PerformsIn (d : Decision) (before : List ℕ) (returned : Told) (lent : Record) (after : List ℕ) : Type 0 where
  pub told : returned ≡ record { answer = d.answer; byte = d.byte }
  pub number : number_of returned.answer ≡ number_of d.answer
  pub left : lent ≡ d.rec
  pub memory : after ≡ performed d.effect before
