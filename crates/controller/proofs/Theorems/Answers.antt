-- Each number is given exactly where its row applies: the answer is the number of the first row that does.
-- Assumes nothing.
use Rattle.std.specs.Prelude.{Option, Some, None}
use mathlib.Core.Bool.{Bool, true, false, cond, not, ◌&&◌, false≢true}
use mathlib.Core.List.{List}
use mathlib.Core.Path.{◌≡◌, refl, sym, ◌∙◌}
use Prim.Native.Nat.{ℕ}
use native.Mathlib.Omega.{arith}
use lib.Dec.{leb}
use borrow.Author.Tests.{leb-true}
use Rattle.controller.proofs.Laws.Choice.{cond-elim, cond_map}
use Rattle.controller.specs.declared.answers.Answer.{Answer}
use Rattle.controller.specs.declared.decision.Decision.{Decision}
use Rattle.controller.specs.declared.execute.Transfer.{Transfer}
use Rattle.controller.specs.declared.execute.Transfer.TheVariants.{Instruct, Write, Status, Read}
use Rattle.controller.specs.declared.instruction.Instruction.{Instruction}
use Rattle.controller.specs.declared.answers.Answer.TheVariants.{Done, NotWhole, StaleRead}
use Rattle.controller.specs.declared.decision.Effect.TheVariants.{Blank}
use Rattle.controller.proofs.Laws.Instruction.{decoded_display, decoded_elim}
use Rattle.controller.proofs.Laws.Answers.{none_applies, row_applies, tells_as}
use Rattle.controller.proofs.Laws.Rows.{bad_tests, early_tests, first_tests, off_tests, sound_tests, whole_tests}
use Rattle.controller.proofs.Laws.Tests.{tests_itself}
use Rattle.controller.specs.declared.«record».Half.{Half}
use Rattle.controller.specs.declared.«record».Half.TheVariants.{Empty, InstructionWrite, DataWrite, StatusRead, DataRead}
use Rattle.controller.specs.declared.«record».Record.{Record}
use Rattle.controller.specs.Bus.{decided, ordered, reset_decided, no_half, whole, bad_transfer, must_wait}
use Rattle.controller.specs.Cells.{on_cell}
use Rattle.controller.specs.Answers.{number_of}
use Rattle.controller.specs.Decision.{refused}
use Rattle.controller.specs.Execute.{completed, executed, addressed, written, read_out}
use Rattle.controller.specs.Halves.{accepted, narrow, begun, first_half, second_half, crossed}
use Rattle.controller.specs.Instruction.{decoded}
use Rattle.controller.specs.Record.{reset_record, sound, waited, with_half}
use Rattle.controller.specs.Rows.{second_is, complete_is, is_outside, lacks_cell, reads_stale, other_kind, is_crossed, transfer_rows, reset_rows}
use Rattle.controller.specs.Theorems.{TransferAnswers, LoanAnswers, ResetAnswers}

abbrev numbered : Decision → ℕ
numbered d = number_of d.answer

addressed_number : (mem : List ℕ) (named : Option ℕ) (rec : Record) → numbered (addressed mem named rec) ≡ cond (is_outside named) 6 0
unfolding addressed is_outside
addressed_number mem (Some cell) rec = refl
addressed_number mem None rec = refl

-- of all instructions only a display address can be answered 6
instruct_number : (mem : List ℕ) (byte : ℕ) (rec : Record) → numbered (executed mem (decoded byte) rec) ≡ cond (lacks_cell rec (Instruct byte)) 6 0
unfolding lacks_cell executed
instruct_number mem byte rec = go (leb 0x80 byte) refl
  where
    go : (t : Bool) → leb 0x80 byte ≡ t → numbered (executed mem (decoded byte) rec) ≡ cond (lacks_cell rec (Instruct byte)) 6 0
    go true high = rw (high, decoded_display byte (leb-true 0x80 byte high)) (addressed_number mem _ rec)
    go false low =
        rw low
        (decoded_elim (λ (i : Instruction). numbered (executed mem i rec) ≡ 0) byte (λ high. absurd (false≢true (sym low ∙ high))) (λ _. refl)
        (λ _ _. refl) (λ _. refl) (λ _. refl) (λ _. refl) (λ _. refl) refl (λ _. refl) refl)

read_number : (fresh : Bool) → number_of (cond fresh Done StaleRead) ≡ cond (not fresh) 7 0
read_number true = refl
read_number false = refl

completed_number : (mem : List ℕ) (t : Transfer) (rec : Record)
    → numbered (completed mem t rec) ≡ cond (lacks_cell rec t) 6 (cond (reads_stale rec t) 7 0)
unfolding completed lacks_cell reads_stale written read_out
completed_number mem (Instruct byte) rec = instruct_number mem byte rec
completed_number mem (Write byte) rec = refl
completed_number mem (Status byte) rec = refl
completed_number mem (Read byte) rec = read_number rec.fresh

-- 6 and 7 win over 8
crossed_number : (other : Bool) (answer : Answer) (lacks stale : Bool) → number_of answer ≡ cond lacks 6 (cond stale 7 0)
    → number_of (crossed other answer) ≡ cond lacks 6 (cond stale 7 (cond other 8 0))
unfolding crossed
crossed_number false answer true stale e = e
crossed_number false answer false true e = e
crossed_number false answer false false e = e
crossed_number true answer true stale e = rw e e
crossed_number true answer false true e = rw e e
crossed_number true answer false false e = rw e

without_half : (t : Transfer) (rec : Record) → (lacks_cell (with_half Empty rec) t ≡ lacks_cell rec t) × (reads_stale (with_half Empty rec) t ≡ reads_stale rec t)
unfolding lacks_cell reads_stale
without_half (Instruct byte) rec = (refl, refl)
without_half (Write byte) rec = (refl, refl)
without_half (Status byte) rec = (refl, refl)
without_half (Read byte) rec = (refl, refl)

second_number : (mem : List ℕ) (other : Bool) (t : Transfer) (rec : Record)
    → numbered (second_half mem other t rec) ≡ cond (lacks_cell rec t) 6 (cond (reads_stale rec t) 7 (cond other 8 0))
unfolding second_half
second_number mem other t rec =
    crossed_number other (completed mem t (with_half Empty rec)).answer (lacks_cell rec t) (reads_stale rec t)
    (completed_number mem t (with_half Empty rec) ∙ simp ((without_half t rec).0, (without_half t rec).1))

first_number : (t : Transfer) (rec : Record) → numbered (first_half t rec) ≡ 5
unfolding first_half
first_number (Instruct byte) rec = refl
first_number (Write byte) rec = refl
first_number (Status byte) rec = refl
first_number (Read byte) rec = refl

-- a first half, as the definition tests it
abbrev is_first : Record → Bool
is_first rec = not rec.wide && no_half rec.half

accepted_number : (mem : List ℕ) (kind byte : ℕ) (rec : Record)
    → numbered (accepted mem kind byte rec)
    ≡ cond (is_first rec) 5 (cond (complete_is lacks_cell kind byte rec) 6 (cond (complete_is reads_stale kind byte rec) 7 (cond (is_crossed kind rec) 8 0)))
unfolding accepted narrow complete_is is_crossed second_is other_kind
accepted_number mem kind byte rec = go rec.wide rec.half
  where
    go : (wide : Bool) (half : Half)
        → numbered (cond wide (completed mem (begun kind byte rec) rec) (narrow mem kind byte half rec))
        ≡ cond (not wide && no_half half) 5
        (cond (cond wide (lacks_cell rec (begun kind byte rec)) (second_is (lacks_cell rec) byte half)) 6
        (cond (cond wide (reads_stale rec (begun kind byte rec)) (second_is (reads_stale rec) byte half)) 7
        (cond (not wide && other_kind kind half) 8 0)))
    go true half = completed_number mem (begun kind byte rec) rec
    go false Empty = first_number (begun kind byte rec) rec
    go false (InstructionWrite high) = second_number mem _ _ rec
    go false (DataWrite high) = second_number mem _ _ rec
    go false (StatusRead taken) = second_number mem _ _ rec
    go false (DataRead taken) = second_number mem _ _ rec

decided_number : (rec : Record) (mem : List ℕ) (kind byte wait : ℕ)
    → let later = waited wait rec in
    numbered (decided rec mem kind byte wait)
    ≡ cond (not (sound rec)) 1 (cond (not (whole mem)) 2 (cond (bad_transfer kind byte) 3 (cond (must_wait kind later) 4 (cond (not (on_cell rec.counter)) 9
    (cond (is_first later) 5 (cond (complete_is lacks_cell kind byte later) 6 (cond (complete_is reads_stale kind byte later) 7 (cond (is_crossed kind later) 8 0))))))))
unfolding decided ordered
decided_number rec mem kind byte wait =
    cond_map numbered (not (sound rec)) _ _ 1 _ (λ _. refl)
    (λ _. cond_map numbered (not (whole mem)) _ _ 2 _ (λ _. refl)
    (λ _. cond_map numbered (bad_transfer kind byte) _ _ 3 _ (λ _. refl)
    (λ _. cond_map numbered (must_wait kind (waited wait rec)) _ _ 4 _ (λ _. refl)
    (λ _. cond_map numbered (not (on_cell rec.counter)) _ _ 9 _ (λ _. refl)
    (λ _. accepted_number mem kind byte (waited wait rec))))))

pub transfer_answers : TransferAnswers
unfolding transfer_rows
transfer_answers rec mem kind byte wait =
    tells_as _ _ _ (decided_number rec mem kind byte wait)
    (row_applies _ _ _ _ (sound_tests rec)
    (λ _. row_applies _ _ _ _ (whole_tests mem)
    (λ _. row_applies _ _ _ _ (bad_tests kind byte)
    (λ _. row_applies _ _ _ _ (early_tests kind wait rec)
    (λ _. row_applies _ _ _ _ (off_tests rec.counter)
    (λ _. row_applies _ _ _ _ (first_tests wait rec)
    (λ _. row_applies _ _ _ _ (tests_itself _)
    (λ _. row_applies _ _ _ _ (tests_itself _)
    (λ _. row_applies _ _ _ _ (tests_itself _)
    (λ _. none_applies))))))))))

pub loan_answers : LoanAnswers
loan_answers rec mem kind byte wait told lent after meets = tells_as _ _ _ meets.number (transfer_answers rec mem kind byte wait)

-- no first half and no complete transfer is answered 4
never_four : (first lacks stale other : Bool) → ◌≡◌ {A = ℕ} (cond first 5 (cond lacks 6 (cond stale 7 (cond other 8 0)))) 4 → ⊥
never_four true lacks stale other e = omega arith
never_four false true stale other e = omega arith
never_four false false true other e = omega arith
never_four false false false true e = omega arith
never_four false false false false e = omega arith

accepted_never : (mem : List ℕ) (kind byte : ℕ) (rec : Record) → numbered (accepted mem kind byte rec) ≡ 4 → ⊥
accepted_never mem kind byte rec e =
    never_four (is_first rec) (complete_is lacks_cell kind byte rec) (complete_is reads_stale kind byte rec) (is_crossed kind rec)
    (sym (accepted_number mem kind byte rec) ∙ e)

-- 4 is given only where the transfer must wait
pub four_waits : (rec : Record) (mem : List ℕ) (kind byte wait : ℕ) → numbered (decided rec mem kind byte wait) ≡ 4
    → must_wait kind (waited wait rec) ≡ true
unfolding decided ordered
four_waits rec mem kind byte wait =
    let P : Decision → Type 0 = λ d. numbered d ≡ 4 → must_wait kind (waited wait rec) ≡ true in
    cond-elim P (not (sound rec)) _ _ (λ _ e. absurd (omega arith))
    (λ _. cond-elim P (not (whole mem)) _ _ (λ _ e. absurd (omega arith))
    (λ _. cond-elim P (bad_transfer kind byte) _ _ (λ _ e. absurd (omega arith))
    (λ _. cond-elim P (must_wait kind (waited wait rec)) _ _ (λ waits _. waits)
    (λ _. cond-elim P (not (on_cell rec.counter)) _ _ (λ _ e. absurd (omega arith))
    (λ _ e. absurd (accepted_never mem kind byte (waited wait rec) e))))))

reset_number : (rec : Record) (mem : List ℕ) → numbered (reset_decided rec mem) ≡ cond (not (whole mem)) 2 0
unfolding reset_decided
reset_number rec mem = go (whole mem)
  where
    go : (w : Bool) → numbered (cond w (record { answer = Done; byte = 0; rec = reset_record rec.frequency; effect = Blank }) (refused NotWhole rec)) ≡ cond (not w) 2 0
    go true = refl
    go false = refl

pub reset_answers : ResetAnswers
unfolding reset_rows
reset_answers rec mem = tells_as _ _ _ (reset_number rec mem) (row_applies _ _ _ _ (whole_tests mem) (λ _. none_applies))
