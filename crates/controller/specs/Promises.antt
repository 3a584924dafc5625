-- What each public function promises: the one predicate that its contract cites.
-- Assumes nothing.
use Rattle.std.specs.Prelude.{Bool, List, ◌≡◌, ℕ}
use Rattle.controller.specs.declared.answers.Answer.{Answer}
use Rattle.controller.specs.declared.cells.Counter.{Counter}
use Rattle.controller.specs.declared.decision.Outcome.{Outcome}
use Rattle.controller.specs.declared.loan.Told.{Told}
use Rattle.controller.specs.declared.oscillator.Frequency.{Frequency}
use Rattle.controller.specs.declared.sent.Sent.{Sent}
use Rattle.controller.specs.declared.«record».Record.{Record}
use Rattle.controller.specs.Answers.{number_of, is_done, is_refusal}
use Rattle.controller.specs.Bus.{Performs, PerformsIn, bad_transfer, decided, reset_decided, whole}
use Rattle.controller.specs.Cells.{address_set, cell_of, line_length}
use Rattle.controller.specs.Execute.{short_time, long_time}
use Rattle.controller.specs.Oscillator.{in_range}
use Rattle.controller.specs.Record.{sound, reset_record}
use Rattle.controller.specs.Sent.{little_endian, number_from, six_bytes}

-- `transfer`: what is returned and every byte of the memory, by what the transfer comes to.
abbrev pub TransferPromise : Record → List ℕ → ℕ → ℕ → ℕ → Outcome → List ℕ → Type 0
TransferPromise rec mem kind byte wait returned after = Performs (decided rec mem kind byte wait) mem returned after

-- `transfer_in`: what is told, the record left in the loan and every byte of the memory, by what the transfer comes to.
abbrev pub TransferInPromise : Record → List ℕ → ℕ → ℕ → ℕ → Told → Record → List ℕ → Type 0
TransferInPromise rec mem kind byte wait returned left after = PerformsIn (decided rec mem kind byte wait) mem returned left after

-- `reset`: what is returned and every byte of the memory, by what reset comes to.
abbrev pub ResetPromise : Record → List ℕ → Outcome → List ℕ → Type 0
ResetPromise rec mem returned after = Performs (reset_decided rec mem) mem returned after

-- `is_sound`: whether the record is one that a controller can have.
abbrev pub IsSoundPromise : Record → Bool → Type 0
IsSoundPromise rec returned = returned ≡ sound rec

-- `number`: the answer's number in document 01's table.
abbrev pub NumberPromise : Answer → ℕ → Type 0
NumberPromise answer returned = returned ≡ number_of answer

-- `is_whole`: whether the memory is 144 bytes.
abbrev pub IsWholePromise : List ℕ → Bool → Type 0
IsWholePromise mem returned = returned ≡ whole mem

-- `is_bad`: whether the kind is above 3, or it is a read with a byte.
abbrev pub IsBadPromise : ℕ → ℕ → Bool → Type 0
IsBadPromise kind byte returned = returned ≡ bad_transfer kind byte

-- `is_done`: whether the answer is 0.
abbrev pub IsDonePromise : Answer → Bool → Type 0
IsDonePromise answer returned = returned ≡ is_done answer

-- `is_refusal`: whether the answer is none of 0, 5, 7 and 8.
abbrev pub IsRefusalPromise : Answer → Bool → Type 0
IsRefusalPromise answer returned = returned ≡ is_refusal answer

-- `after_reset`: the record that reset leaves where this oscillator is fitted.
abbrev pub AfterResetPromise : Frequency → Record → Type 0
AfterResetPromise frequency returned = returned ≡ reset_record frequency

-- `is_in_range`: whether a module may have this frequency.
abbrev pub IsInRangePromise : Frequency → Bool → Type 0
IsInRangePromise frequency returned = returned ≡ in_range frequency

-- `address_set`: the instruction that sets the counter to this cell.
abbrev pub AddressSetPromise : Bool → Counter → ℕ → Type 0
AddressSetPromise n counter returned = returned ≡ address_set n counter

-- `cell_of`: the counter's cell, in whichever memory.
abbrev pub CellOfPromise : Counter → ℕ → Type 0
CellOfPromise counter returned = returned ≡ cell_of counter

-- `little_endian`: the number's four bytes, the lowest first.
abbrev pub LittleEndianPromise : ℕ → List ℕ → Type 0
LittleEndianPromise number returned = returned ≡ little_endian number

-- `number_from`: the number of four bytes, the lowest first.
abbrev pub NumberFromPromise : ℕ → ℕ → ℕ → ℕ → ℕ → Type 0
NumberFromPromise first second third fourth returned = returned ≡ number_from first second third fourth

-- `six_bytes`: the transfer as a plan's record has it.
abbrev pub SixBytesPromise : Sent → List ℕ → Type 0
SixBytesPromise sent returned = returned ≡ six_bytes sent

-- `line_length`: a line's length, L.
abbrev pub LineLengthPromise : Bool → ℕ → Type 0
LineLengthPromise n returned = returned ≡ line_length n

-- `short_time`: how long all takes that takes time, but for Clear and Home.
abbrev pub ShortTimePromise : Frequency → ℕ → Type 0
ShortTimePromise frequency returned = returned ≡ short_time frequency

-- `long_time`: how long Clear and Home take.
abbrev pub LongTimePromise : Frequency → ℕ → Type 0
LongTimePromise frequency returned = returned ≡ long_time frequency
