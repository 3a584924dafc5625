-- What is proved of the definitions: each theorem is a type here, and its proof stands in proofs/Theorems.
-- Assumes nothing.
use Rattle.std.specs.Prelude.{Bool, true, false, cond, List, ◌≡◌, ℕ, ◌+◌, ◌-◌, ◌<◌, eqb, Some}
use Rattle.controller.specs.declared.cells.Add.{Add}
use Rattle.controller.specs.declared.answers.Answer.{Answer}
use Rattle.controller.specs.declared.answers.Answer.TheVariants.{NotWhole}
use Rattle.controller.specs.declared.decision.Decision.{Decision}
use Rattle.controller.specs.declared.decision.Outcome.{Outcome}
use Rattle.controller.specs.declared.loan.Told.{Told}
use Rattle.controller.specs.declared.oscillator.Frequency.{Frequency}
use Rattle.controller.specs.declared.«record».Half.TheVariants.{Empty}
use Rattle.controller.specs.declared.«record».Record.{Record}
use Rattle.controller.specs.Bus.{whole, decided, reset_decided, Performs, PerformsIn}
use Rattle.controller.specs.Cells.{wrapped, line_length, cell_of_add, add_of_cell}
use Rattle.controller.specs.Answers.{number_of, is_refusal, Tells}
use Rattle.controller.specs.Decision.{refused, Fits}
use Rattle.controller.specs.Execute.{short_time, long_time}
use Rattle.controller.specs.Record.{sound, waited, with_half}
use Rattle.controller.specs.Rows.{transfer_rows, reset_rows}

-- Wrapping, once over the size: the last cell is followed by the first, and the first preceded by the last.
abbrev pub Wraps : Type 0
Wraps =
    (size cell : ℕ) → cell < size
    → (wrapped size true cell ≡ cond (eqb (cell + 1) size) 0 (cell + 1))
    × (wrapped size false cell ≡ cond (eqb cell 0) (size - 1) (cell - 1))

-- A display cell's address names that cell, and no address names a cell that is at another.
abbrev pub AddressesMatch : Type 0
AddressesMatch =
    (n : Bool)
    → ((cell : ℕ) → cell < 80 → cell_of_add n (add_of_cell n cell) ≡ Some cell)
    × ((add : Add) (cell : ℕ) → cell_of_add n add ≡ Some cell → add_of_cell n cell ≡ add)

-- A transfer keeps a sound record sound.
abbrev pub TransferKeepsSound : Type 0
TransferKeepsSound =
    (rec : Record) (mem : List ℕ) (kind byte wait : ℕ) → byte < 256 → sound rec ≡ true
    → sound (decided rec mem kind byte wait).rec ≡ true

-- Reset makes a record sound.
abbrev pub ResetMakesSound : Type 0
ResetMakesSound = (rec : Record) (mem : List ℕ) → whole mem ≡ true → sound (reset_decided rec mem).rec ≡ true

-- Whatever the record and the memory, no effect is outside the memory.
abbrev pub EffectsFit : Type 0
EffectsFit =
    (rec : Record) (mem : List ℕ)
    → ((kind byte wait : ℕ) → byte < 256 → Fits (decided rec mem kind byte wait).effect mem)
    × Fits (reset_decided rec mem).effect mem

-- What a refusal leaves of the record. 4: only busy reduced. 6: wait counted, half gone, rest as found. The others: all as found.
unfoldable pub left : Answer → ℕ → Record → Record
left answer wait rec =
    cond (eqb (number_of answer) 4) (waited wait rec) (cond (eqb (number_of answer) 6) (with_half Empty (waited wait rec)) rec)

-- A decision that refuses returns byte 00h, leaves the memory as found, and leaves the record as its row says.
abbrev pub LeavesAsSaid : ℕ → Record → Decision → Type 0
LeavesAsSaid wait rec d = is_refusal d.answer ≡ true → d ≡ refused d.answer (left d.answer wait rec)

-- Every transfer that is refused leaves the controller so.
abbrev pub TransferRefusals : Type 0
TransferRefusals = (rec : Record) (mem : List ℕ) (kind byte wait : ℕ) → LeavesAsSaid wait rec (decided rec mem kind byte wait)

-- A refused loan call tells byte 00h, leaves in the loan what its row says of the record, and the memory as found.
abbrev pub LoanRefusals : Type 0
LoanRefusals =
    (rec : Record) (mem : List ℕ) (kind byte wait : ℕ) (told : Told) (lent : Record) (after : List ℕ)
    → PerformsIn (decided rec mem kind byte wait) mem told lent after → is_refusal told.answer ≡ true
    → (told.byte ≡ 0x00) × (lent ≡ left told.answer wait rec) × (after ≡ mem)

-- A refused reset returns the record it was given and leaves the memory as found.
abbrev pub ResetRefusals : Type 0
ResetRefusals =
    (rec : Record) (mem : List ℕ) → is_refusal (reset_decided rec mem).answer ≡ true
    → reset_decided rec mem ≡ refused NotWhole rec

-- Transfer gives each number exactly where its row applies and none before it in the order.
abbrev pub TransferAnswers : Type 0
TransferAnswers =
    (rec : Record) (mem : List ℕ) (kind byte wait : ℕ)
    → Tells (number_of (decided rec mem kind byte wait).answer) (transfer_rows rec mem kind byte wait)

-- So does the loan call, by the same rows.
abbrev pub LoanAnswers : Type 0
LoanAnswers =
    (rec : Record) (mem : List ℕ) (kind byte wait : ℕ) (told : Told) (lent : Record) (after : List ℕ)
    → PerformsIn (decided rec mem kind byte wait) mem told lent after
    → Tells (number_of told.answer) (transfer_rows rec mem kind byte wait)

-- Reset gives each number exactly where its row applies.
abbrev pub ResetAnswers : Type 0
ResetAnswers = (rec : Record) (mem : List ℕ) → Tells (number_of (reset_decided rec mem).answer) (reset_rows mem)

-- No second answer fits a transfer: two outcomes that both meet the promise are one, and so are the memories.
abbrev pub OneTransfer : Type 0
OneTransfer =
    (rec : Record) (mem : List ℕ) (kind byte wait : ℕ) (a b : Outcome) (x y : List ℕ)
    → Performs (decided rec mem kind byte wait) mem a x → Performs (decided rec mem kind byte wait) mem b y → (a ≡ b) × (x ≡ y)

-- No second answer fits a reset.
abbrev pub OneReset : Type 0
OneReset =
    (rec : Record) (mem : List ℕ) (a b : Outcome) (x y : List ℕ)
    → Performs (reset_decided rec mem) mem a x → Performs (reset_decided rec mem) mem b y → (a ≡ b) × (x ≡ y)

-- The same of a loan: what is told, the record left in it, and the memory.
abbrev pub OneTransferIn : Type 0
OneTransferIn =
    (rec : Record) (mem : List ℕ) (kind byte wait : ℕ) (a b : Told) (u v : Record) (x y : List ℕ)
    → PerformsIn (decided rec mem kind byte wait) mem a u x → PerformsIn (decided rec mem kind byte wait) mem b v y
    → (a ≡ b) × (u ≡ v) × (x ≡ y)

-- No second answer of `is_sound` fits: two values that are both what was promised are one.
abbrev pub OneSoundness : Type 0
OneSoundness = (rec : Record) (a b : Bool) → a ≡ sound rec → b ≡ sound rec → a ≡ b

-- An answer has one number.
abbrev pub OneNumber : Type 0
OneNumber = (answer : Answer) (a b : ℕ) → a ≡ number_of answer → b ≡ number_of answer → a ≡ b

-- A line has one length.
abbrev pub OneLineLength : Type 0
OneLineLength = (n : Bool) (a b : ℕ) → a ≡ line_length n → b ≡ line_length n → a ≡ b

-- There is one short time at a frequency.
abbrev pub OneShortTime : Type 0
OneShortTime = (frequency : Frequency) (a b : ℕ) → a ≡ short_time frequency → b ≡ short_time frequency → a ≡ b

-- There is one long time.
abbrev pub OneLongTime : Type 0
OneLongTime = (frequency : Frequency) (a b : ℕ) → a ≡ long_time frequency → b ≡ long_time frequency → a ≡ b
