-- "Each is given exactly where its row applies, in order": the rows of transfer and reset, each with its condition in the table's
-- own words (document 01, "What each number says").
-- Assumes nothing.
use Rattle.std.specs.Prelude.{Bool, true, false, cond, not, ◌&&◌, List, [], ◌∷◌, ◌⊎◌, ◌≡◌, ℕ, ◌-◌, ◌≤◌, ◌<◌, leb, eqb, length}
use Rattle.std.specs.Prelude.{Option, Some, None}
use Rattle.controller.specs.declared.cells.Counter.{Counter}
use Rattle.controller.specs.declared.cells.Counter.TheVariants.{Display, Pattern}
use Rattle.controller.specs.declared.execute.Transfer.{Transfer}
use Rattle.controller.specs.declared.execute.Transfer.TheVariants.{Instruct, Write, Status, Read}
use Rattle.controller.specs.declared.oscillator.Frequency.{Frequency}
use Rattle.controller.specs.declared.«record».Half.{Half}
use Rattle.controller.specs.declared.«record».Half.TheVariants.{Empty, InstructionWrite, DataWrite, StatusRead, DataRead}
use Rattle.controller.specs.declared.«record».Record.{Record}
use Rattle.controller.specs.Answers.{Row}
use Rattle.controller.specs.Cells.{cell_of_add}
use Rattle.controller.specs.Halves.{begun, whole_byte}
use Rattle.controller.specs.Record.{waited}

-- The counter is past the last cell of its memory: 80 display cells, 64 pattern cells.
abbrev pub OffCells : Counter → Type 0
OffCells (Display cell) = 80 ≤ cell
OffCells (Pattern cell) = 64 ≤ cell

-- A half that may not wait: any at width 8; any but a status read's with busy above 0; a write's of more than four bits.
abbrev pub HalfBreaks : Bool → ℕ → Half → Type 0
HalfBreaks wide busy Empty = ⊥
HalfBreaks wide busy (InstructionWrite high) = (wide ≡ true) ⊎ ((16 ≤ high) ⊎ (0 < busy))
HalfBreaks wide busy (DataWrite high) = (wide ≡ true) ⊎ ((16 ≤ high) ⊎ (0 < busy))
HalfBreaks wide busy (StatusRead taken) = wide ≡ true
HalfBreaks wide busy (DataRead taken) = (wide ≡ true) ⊎ (0 < busy)

-- A frequency below 190 kHz or above 350.
abbrev pub OutOfRange : Frequency → Type 0
OutOfRange frequency = (frequency.khz < 190) ⊎ (350 < frequency.khz)

-- Row 1: a shift of 80 or more, a counter on no cell, a busy time above 10,000, a frequency out of range, or a half that may not
-- wait.
abbrev pub Breaks : Record → Type 0
Breaks rec =
    (80 ≤ rec.shift)
    ⊎ (OffCells rec.counter
    ⊎ ((10000 < rec.busy) ⊎ (OutOfRange rec.frequency ⊎ HalfBreaks rec.wide rec.busy rec.half)))

-- Row 2: not 144 long.
abbrev pub NotLong : List ℕ → Type 0
NotLong bytes = length bytes ≡ 144 → ⊥

-- Row 3: a kind above 3, or a read, which is a kind 2 or 3, with a byte.
abbrev pub NoTransfer : ℕ → ℕ → Type 0
NoTransfer kind byte = (3 < kind) ⊎ ((2 ≤ kind) × (0 < byte))

-- Row 4: no half waits, more busy is left than was waited, and it is no status read.
abbrev pub TooEarly : ℕ → ℕ → Record → Type 0
TooEarly kind wait rec = (rec.half ≡ Empty) × ((wait < rec.busy) × (kind ≡ 2 → ⊥))

-- Row 5: a first half, at width 4.
abbrev pub IsFirst : Record → Type 0
IsFirst rec = (rec.wide ≡ false) × (rec.half ≡ Empty)

-- The half that waits, completed by this byte, passes this test; where none waits none passes.
unfoldable pub second_is : (Transfer → Bool) → ℕ → Half → Bool
second_is test byte Empty = false
second_is test byte (InstructionWrite high) = test (Instruct (whole_byte high byte))
second_is test byte (DataWrite high) = test (Write (whole_byte high byte))
second_is test byte (StatusRead taken) = test (Status taken)
second_is test byte (DataRead taken) = test (Read taken)

-- The transfer that is complete now, if one is, passes this test: at width 8 its own, at width 4 the one that waited.
unfoldable pub complete_is : (Record → Transfer → Bool) → ℕ → ℕ → Record → Bool
complete_is test kind byte rec = cond rec.wide (test rec (begun kind byte rec)) (second_is (test rec) byte rec.half)

-- The address names no cell.
unfoldable pub is_outside : Option ℕ → Bool
is_outside (Some cell) = false
is_outside None = true

-- Row 6: a display address without a cell.
unfoldable pub lacks_cell : Record → Transfer → Bool
lacks_cell rec (Instruct byte) = leb 0x80 byte && is_outside (cell_of_add rec.function.n (record { 0 = byte - 0x80 }))
lacks_cell rec (Write byte) = false
lacks_cell rec (Status byte) = false
lacks_cell rec (Read byte) = false

-- Row 7: a data read of a stale register.
unfoldable pub reads_stale : Record → Transfer → Bool
reads_stale rec (Instruct byte) = false
reads_stale rec (Write byte) = false
reads_stale rec (Status byte) = false
reads_stale rec (Read byte) = not rec.fresh

-- The half that waits is of another kind than this transfer.
unfoldable pub other_kind : ℕ → Half → Bool
other_kind kind Empty = false
other_kind kind (InstructionWrite high) = not (eqb kind 0)
other_kind kind (DataWrite high) = not (eqb kind 1)
other_kind kind (StatusRead taken) = not (eqb kind 2)
other_kind kind (DataRead taken) = not (eqb kind 3)

-- Row 8: at width 4, a second half of another kind than the first.
unfoldable pub is_crossed : ℕ → Record → Bool
is_crossed kind rec = not rec.wide && other_kind kind rec.half

-- The rows of transfer in their order; 5, which is no refusal, stands after the busy and counter rows.
unfoldable pub transfer_rows : Record → List ℕ → ℕ → ℕ → ℕ → List Row
transfer_rows rec mem kind byte wait =
    record { number = 1; applies = Breaks rec }
    ∷ record { number = 2; applies = NotLong mem }
    ∷ record { number = 3; applies = NoTransfer kind byte }
    ∷ record { number = 4; applies = TooEarly kind wait rec }
    ∷ record { number = 9; applies = OffCells rec.counter }
    ∷ record { number = 5; applies = IsFirst rec }
    ∷ record { number = 6; applies = complete_is lacks_cell kind byte (waited wait rec) ≡ true }
    ∷ record { number = 7; applies = complete_is reads_stale kind byte (waited wait rec) ≡ true }
    ∷ record { number = 8; applies = is_crossed kind (waited wait rec) ≡ true }
    ∷ []

-- The rows of reset.
unfoldable pub reset_rows : List ℕ → List Row
reset_rows mem = record { number = 2; applies = NotLong mem } ∷ []
