-- The rules of width 4 said a second time: what a first half leaves, what a second returns, and who decides where the two differ
-- in kind (document 01, "One transfer"). What two halves of one kind do together is `HalvesMakeWhole`.
-- Assumes nothing.
use Rattle.std.specs.Prelude.{true, false, cond, List, ◌≡◌, ℕ, ◌+◌, ◌-◌, ◌/◌, ltb, length}
use Rattle.controller.specs.declared.decision.Decision.{Decision}
use Rattle.controller.specs.declared.«record».Half.{Half}
use Rattle.controller.specs.declared.«record».Half.TheVariants.{Empty, InstructionWrite, DataWrite, StatusRead, DataRead}
use Rattle.controller.specs.declared.«record».Record.{Record}
use Rattle.controller.specs.Answers.{number_of}
use Rattle.controller.specs.Bus.{decided}
use Rattle.controller.specs.Halves.{high_half, low_half}
use Rattle.controller.specs.Record.{sound}
use Rattle.controller.specs.Rows.{NoTransfer, TooEarly}
use Rattle.controller.specs.Rules.{Addresses, Comes, SameCells, SameControl, SameEntry, SameFunction, SamePlace}

-- A sound controller at width 4 with its memory whole.
pub record Narrow (rec : Record) (mem : List ℕ) : Type 0 where
  pub sound : sound rec ≡ true
  pub whole : length mem ≡ 144
  pub narrow : rec.wide ≡ false

-- What waits after a first half of this kind: a write's high four bits, or a read's whole byte as it is now. That of a status
-- read has bit 7 where busy is above 0 after the wait, and below it the counter's address.
abbrev pub Stored : Record → ℕ → ℕ → ℕ → Half → Type 0
Stored rec kind byte wait Empty = ⊥
Stored rec kind byte wait (InstructionWrite high) = (kind ≡ 0) × (high ≡ byte / 16)
Stored rec kind byte wait (DataWrite high) = (kind ≡ 1) × (high ≡ byte / 16)
Stored rec kind byte wait (StatusRead taken) =
    (kind ≡ 2)
    × ((address : ℕ) → Addresses rec.function.n rec.counter address
    → taken ≡ cond (ltb 0 (rec.busy - wait)) 0x80 0 + address)
Stored rec kind byte wait (DataRead taken) = (kind ≡ 3) × (taken ≡ rec.reg)

-- The byte that a half returns in two parts: of a read the one that was taken, of a write 00h.
abbrev pub taken_byte : Half → ℕ
taken_byte Empty = 0x00
taken_byte (InstructionWrite high) = 0x00
taken_byte (DataWrite high) = 0x00
taken_byte (StatusRead taken) = taken
taken_byte (DataRead taken) = taken

-- The first half is answered 5 and returns the high half of a read's byte. The half waits, the wait has come off busy, and all
-- else is as it was.
pub record TakesFirst (rec : Record) (mem : List ℕ) (kind byte wait : ℕ) (d : Decision) : Type 0 where
  pub answer : number_of d.answer ≡ 5
  pub half : Stored rec kind byte wait d.rec.half
  pub returned : d.byte ≡ high_half (taken_byte d.rec.half)
  pub busy : d.rec.busy ≡ rec.busy - wait
  pub frequency : d.rec.frequency ≡ rec.frequency
  pub function : SameFunction rec d.rec
  pub control : SameControl rec d.rec
  pub entry : SameEntry rec d.rec
  pub place : SamePlace rec d.rec
  pub cells : SameCells mem d

-- The half that waits is of this kind.
abbrev pub IsOf : ℕ → Half → Type 0
IsOf kind Empty = ⊥
IsOf kind (InstructionWrite high) = kind ≡ 0
IsOf kind (DataWrite high) = kind ≡ 1
IsOf kind (StatusRead taken) = kind ≡ 2
IsOf kind (DataRead taken) = kind ≡ 3

-- Crossed, it does what the first one's kind would, and the answer is 8 in place of 0; 6 and 7 stay.
pub record Crosses (own d : Decision) : Type 0 where
  pub effect : d.effect ≡ own.effect
  pub rec : d.rec ≡ own.rec
  pub byte : d.byte ≡ own.byte
  pub eight : number_of own.answer ≡ 0 → number_of d.answer ≡ 8
  pub stays : (number_of own.answer ≡ 0 → ⊥) → d.answer ≡ own.answer

-- The second half of a status read: the low half of what was taken, and the wait has come off busy once more.
pub record EndsStatus (rec : Record) (mem : List ℕ) (taken wait : ℕ) (d : Decision) : Type 0 where
  pub comes : Comes rec d 0 (low_half taken) (rec.busy - wait)
  pub function : SameFunction rec d.rec
  pub control : SameControl rec d.rec
  pub entry : SameEntry rec d.rec
  pub place : SamePlace rec d.rec
  pub cells : SameCells mem d

-- The rules of halves. A second half of another kind counts as one of the first one's kind with the same upper four bits, which a
-- read has not.
pub record HalfRules : Type 0 where
  pub first : (rec : Record) (mem : List ℕ) (kind byte wait : ℕ) → Narrow rec mem → rec.half ≡ Empty
      → (NoTransfer kind byte → ⊥) → (TooEarly kind wait rec → ⊥)
      → TakesFirst rec mem kind byte wait (decided rec mem kind byte wait)
  pub second : (rec : Record) (mem : List ℕ) (kind first byte wait : ℕ) → Narrow rec mem → IsOf first rec.half
      → (NoTransfer kind byte → ⊥) → (decided rec mem kind byte wait).byte ≡ low_half (taken_byte rec.half)
  pub crossed : (rec : Record) (mem : List ℕ) (kind first byte wait : ℕ) → Narrow rec mem → IsOf first rec.half
      → (NoTransfer kind byte → ⊥) → (kind ≡ first → ⊥)
      → Crosses (decided rec mem first (cond (ltb first 2) byte 0x00) wait) (decided rec mem kind byte wait)
  pub status : (rec : Record) (mem : List ℕ) (taken wait : ℕ) → Narrow rec mem → rec.half ≡ StatusRead taken
      → EndsStatus rec mem taken wait (decided rec mem 2 0x00 wait)
