-- One piece at width 8, two halves at width 4 (document 01, "One transfer").
-- Assumes nothing.
use Rattle.std.specs.Prelude.{Bool, cond, not, ◌&&◌, List, ℕ, ◌+◌, ◌*◌, ◌/◌, ◌%◌, eqb}
use Rattle.controller.specs.declared.answers.Answer.{Answer}
use Rattle.controller.specs.declared.answers.Answer.TheVariants.{FirstHalf, CrossedHalves}
use Rattle.controller.specs.declared.decision.Decision.{Decision}
use Rattle.controller.specs.declared.decision.Effect.TheVariants.{Keep}
use Rattle.controller.specs.declared.execute.Transfer.{Transfer}
use Rattle.controller.specs.declared.execute.Transfer.TheVariants.{Instruct, Write, Status, Read}
use Rattle.controller.specs.declared.«record».Half.{Half}
use Rattle.controller.specs.declared.«record».Half.TheVariants.{Empty, InstructionWrite, DataWrite, StatusRead, DataRead}
use Rattle.controller.specs.declared.«record».Record.{Record}
use Rattle.controller.specs.Answers.{is_done}
use Rattle.controller.specs.Execute.{completed, status_of}
use Rattle.controller.specs.Record.{with_half}

-- A transfer's kind: 0 instruction write, 1 data write, 2 status read, 3 data read. A read's byte is taken as it begins.
unfoldable pub begun : ℕ → ℕ → Record → Transfer
begun kind byte rec =
    cond (eqb kind 0) (Instruct byte)
    (cond (eqb kind 1) (Write byte)
    (cond (eqb kind 2) (Status (status_of rec))
    (Read rec.reg)))

-- Bits 7 to 4 with zeros below.
abbrev pub high_half : ℕ → ℕ
high_half byte = byte / 16 * 16

-- Bits 3 to 0 in bits 7 to 4.
abbrev pub low_half : ℕ → ℕ
low_half byte = byte % 16 * 16

-- The byte of two halves: the high four bits that waited, and the upper four bits of the second transfer's byte below them.
abbrev pub whole_byte : ℕ → ℕ → ℕ
whole_byte high byte = high * 16 + byte / 16

-- The first half is answered 5 and stored.
abbrev pub first_told : ℕ → Half → Record → Decision
first_told byte half rec = record { answer = FirstHalf; byte = byte; rec = with_half half rec; effect = Keep }

-- A write stores its high four bits, a read its whole byte, and a read returns the high half.
unfoldable pub first_half : Transfer → Record → Decision
first_half (Instruct byte) rec = first_told 0 (InstructionWrite (byte / 16)) rec
first_half (Write byte) rec = first_told 0 (DataWrite (byte / 16)) rec
first_half (Status byte) rec = first_told (high_half byte) (StatusRead byte) rec
first_half (Read byte) rec = first_told (high_half byte) (DataRead byte) rec

-- A second half of another kind turns 0 into 8; 6 and 7 stay.
unfoldable pub crossed : Bool → Answer → Answer
crossed other answer = cond (other && is_done answer) CrossedHalves answer

-- The second half returns the low half.
abbrev pub ended : Bool → Decision → Decision
ended other d = record { answer = crossed other d.answer; byte = low_half d.byte; rec = d.rec; effect = d.effect }

-- The second half completes the first one's transfer, whatever its own kind.
unfoldable pub second_half : List ℕ → Bool → Transfer → Record → Decision
second_half mem other transfer rec = ended other (completed mem transfer (with_half Empty rec))

-- Width 4: the second half's upper four bits are the low half of what the first one began.
unfoldable pub narrow : List ℕ → ℕ → ℕ → Half → Record → Decision
narrow mem kind byte Empty rec = first_half (begun kind byte rec) rec
narrow mem kind byte (InstructionWrite high) rec = second_half mem (not (eqb kind 0)) (Instruct (whole_byte high byte)) rec
narrow mem kind byte (DataWrite high) rec = second_half mem (not (eqb kind 1)) (Write (whole_byte high byte)) rec
narrow mem kind byte (StatusRead taken) rec = second_half mem (not (eqb kind 2)) (Status taken) rec
narrow mem kind byte (DataRead taken) rec = second_half mem (not (eqb kind 3)) (Read taken) rec

-- Width 8: the transfer is complete at once. Width 4: it is taken as a half.
unfoldable pub accepted : List ℕ → ℕ → ℕ → Record → Decision
accepted mem kind byte rec = cond rec.wide (completed mem (begun kind byte rec) rec) (narrow mem kind byte rec.half rec)
