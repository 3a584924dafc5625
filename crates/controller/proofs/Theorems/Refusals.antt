-- What a refusal leaves: byte 00h, the memory as found, and the record as its row says.
-- Assumes nothing.
use mathlib.Core.Bool.{Bool, true, false, not, ◌&&◌, false≢true}
use mathlib.Core.List.{List}
use mathlib.Core.Path.{◌≡◌, refl, sym, ap, ◌∙◌}
use Prim.Native.Nat.{ℕ}
use borrow.Author.Tests.{not-false}
use Rattle.controller.proofs.Laws.Choice.{cond-elim}
use Rattle.controller.proofs.Laws.Completed.{completed_carried}
use Rattle.controller.proofs.Laws.Kept.{wide_none}
use Rattle.controller.proofs.Laws.Record.{sound_half, waited_sound}
use Rattle.controller.specs.declared.answers.Answer.{Answer}
use Rattle.controller.specs.declared.answers.Answer.TheVariants.{NotWhole, NoCell}
use Rattle.controller.specs.declared.decision.Decision.{Decision}
use Rattle.controller.specs.declared.decision.Effect.TheVariants.{Keep}
use Rattle.controller.specs.declared.execute.Transfer.{Transfer}
use Rattle.controller.specs.declared.loan.Told.{Told}
use Rattle.controller.specs.declared.execute.Transfer.TheVariants.{Instruct, Write, Status, Read}
use Rattle.controller.specs.declared.«record».Half.{Half}
use Rattle.controller.specs.declared.«record».Half.TheVariants.{Empty, InstructionWrite, DataWrite, StatusRead, DataRead}
use Rattle.controller.specs.declared.«record».Record.{Record}
use Rattle.controller.specs.Bus.{decided, ordered, reset_decided, whole, bad_transfer, must_wait}
use Rattle.controller.specs.Cells.{on_cell}
use Rattle.controller.specs.Answers.{is_done, is_refusal}
use Rattle.controller.specs.Decision.{refused, performed}
use Rattle.controller.specs.Execute.{completed}
use Rattle.controller.specs.Halves.{accepted, narrow, begun, first_half, second_half, crossed, ended}
use Rattle.controller.specs.Record.{sound, waited, with_half}
use Rattle.controller.specs.Theorems.{left, LeavesAsSaid, TransferRefusals, LoanRefusals, ResetRefusals}

-- this decision, if it refuses, is a 6 that leaves this record
abbrev OnlySix : Record → Decision → Type 0
OnlySix rec d = is_refusal d.answer ≡ true → d ≡ refused NoCell rec

-- crossing makes no refusal
crossed_refusal : (other : Bool) (answer : Answer) → is_refusal (crossed other answer) ≡ true → is_refusal answer ≡ true
unfolding crossed is_refusal
crossed_refusal other answer =
    cond-elim (λ (a : Answer). is_refusal a ≡ true → is_refusal answer ≡ true) (other && is_done answer) _ _ (λ _ r. absurd (false≢true r)) (λ _ r. r)

-- a 6 stays a 6
ended_six : (other : Bool) (rec : Record) → ended other (refused NoCell rec) ≡ refused NoCell rec
unfolding crossed
ended_six true rec = refl
ended_six false rec = refl

second_only : (mem : List ℕ) (other : Bool) (t : Transfer) (rec : Record) → OnlySix (with_half Empty rec) (second_half mem other t rec)
unfolding second_half
second_only mem other t rec r =
    let d = completed mem t (with_half Empty rec) in
    ap (ended other) ((completed_carried mem t (with_half Empty rec)).only (crossed_refusal other d.answer r)) ∙ ended_six other (with_half Empty rec)

first_never : (t : Transfer) (rec : Record) → is_refusal (first_half t rec).answer ≡ false
unfolding first_half is_refusal
first_never (Instruct byte) rec = refl
first_never (Write byte) rec = refl
first_never (Status byte) rec = refl
first_never (Read byte) rec = refl

narrow_only : (mem : List ℕ) (kind byte : ℕ) (half : Half) (rec : Record) → OnlySix (with_half Empty rec) (narrow mem kind byte half rec)
unfolding narrow
narrow_only mem kind byte Empty rec r = absurd (false≢true (sym (first_never (begun kind byte rec) rec) ∙ r))
narrow_only mem kind byte (InstructionWrite high) rec r = second_only mem _ _ rec r
narrow_only mem kind byte (DataWrite high) rec r = second_only mem _ _ rec r
narrow_only mem kind byte (StatusRead taken) rec r = second_only mem _ _ rec r
narrow_only mem kind byte (DataRead taken) rec r = second_only mem _ _ rec r

-- at width 8 there is no half to lose
no_half_lem : (rec : Record) → sound rec ≡ true → rec.wide ≡ true → rec ≡ with_half Empty rec
no_half_lem rec s wide = ap (λ (half : Half). with_half half rec) (wide_none rec.wide rec.busy rec.half wide (sound_half rec s))

accepted_only : (mem : List ℕ) (kind byte : ℕ) (rec : Record) → sound rec ≡ true → OnlySix (with_half Empty rec) (accepted mem kind byte rec)
unfolding accepted
accepted_only mem kind byte rec s =
    cond-elim (OnlySix (with_half Empty rec)) rec.wide _ _
    (λ wide r. (completed_carried mem (begun kind byte rec) rec).only r ∙ ap (refused NoCell) (no_half_lem rec s wide))
    (λ _. narrow_only mem kind byte rec.half rec)

-- a 6 leaves what its row says
six_leaves : (wait : ℕ) (rec : Record) (d : Decision) → OnlySix (with_half Empty (waited wait rec)) d → LeavesAsSaid wait rec d
unfolding left
six_leaves wait rec d only r = rw (only r) refl

pub transfer_refusals : TransferRefusals
unfolding decided ordered left
transfer_refusals rec mem kind byte wait =
    let P : Decision → Type 0 = LeavesAsSaid wait rec in
    cond-elim P (not (sound rec)) _ _ (λ _ _. refl)
    (λ s. cond-elim P (not (whole mem)) _ _ (λ _ _. refl)
    (λ _. cond-elim P (bad_transfer kind byte) _ _ (λ _ _. refl)
    (λ _. cond-elim P (must_wait kind (waited wait rec)) _ _ (λ _ _. refl)
    (λ _. cond-elim P (not (on_cell rec.counter)) _ _ (λ _ _. refl)
    (λ _. six_leaves wait rec (accepted mem kind byte (waited wait rec))
    (accepted_only mem kind byte (waited wait rec) (waited_sound wait rec (not-false _ s))))))))

kept_is : (mem : List ℕ) → performed Keep mem ≡ mem
unfolding performed
kept_is mem = refl

pub loan_refusals : LoanRefusals
loan_refusals rec mem kind byte wait told lent after meets refusal =
    let d = decided rec mem kind byte wait in
    let same : told.answer ≡ d.answer = ap (λ (t : Told). t.answer) meets.told in
    let leaves = transfer_refusals rec mem kind byte wait (ap is_refusal (sym same) ∙ refusal) in (
      ap (λ (t : Told). t.byte) meets.told ∙ ap (λ (e : Decision). e.byte) leaves,
      meets.left ∙ ap (λ (e : Decision). e.rec) leaves ∙ ap (λ (a : Answer). left a wait rec) (sym same),
      meets.memory ∙ ap (λ (e : Decision). performed e.effect mem) leaves ∙ kept_is mem,
    )

pub reset_refusals : ResetRefusals
unfolding reset_decided is_refusal
reset_refusals rec mem =
    cond-elim (λ (d : Decision). is_refusal d.answer ≡ true → d ≡ refused NotWhole rec) (whole mem) _ _ (λ _ r. absurd (false≢true r)) (λ _ _. refl)
