-- A controller's record as 24 bytes, and the record that bytes say.
-- Assumes nothing.
use Rattle.std.specs.Prelude.{Bool, true, false, cond, ◌&&◌, List, [], ◌∷◌, ◌++◌, ℕ, ◌+◌, ◌*◌, ◌/◌, ◌%◌, eqb, length, get_or}
use Rattle.std.specs.Prelude.{Option, Some, None}
use Rattle.controller.specs.declared.cells.Counter.{Counter}
use Rattle.controller.specs.declared.cells.Counter.TheVariants.{Display, Pattern}
use Rattle.controller.specs.declared.oscillator.Frequency.{Frequency}
use Rattle.controller.specs.declared.«record».Half.{Half}
use Rattle.controller.specs.declared.«record».Half.TheVariants.{Empty, InstructionWrite, DataWrite, StatusRead, DataRead}
use Rattle.controller.specs.declared.«record».Record.{Record}
use Rattle.controller.specs.Cells.{cell_of}
use Rattle.controller.specs.Sent.{little_endian, number_from}

-- The width, 8 or 4.
abbrev pub width_byte : Bool → ℕ
width_byte wide = cond wide 8 4

-- A bit, 1 or 0.
abbrev pub bit_byte : Bool → ℕ
bit_byte bit = cond bit 1 0

-- The counter's memory: 0 display, 1 pattern.
abbrev pub memory_byte : Counter → ℕ
memory_byte (Display cell) = 0
memory_byte (Pattern cell) = 1

-- The half: 0 none, 1 instruction write, 2 data write, 3 status read, 4 data read.
abbrev pub half_byte : Half → ℕ
half_byte Empty = 0
half_byte (InstructionWrite high) = 1
half_byte (DataWrite high) = 2
half_byte (StatusRead byte) = 3
half_byte (DataRead byte) = 4

-- The half's value, 0 where there is none.
abbrev pub value_byte : Half → ℕ
value_byte Empty = 0
value_byte (InstructionWrite high) = high
value_byte (DataWrite high) = high
value_byte (StatusRead byte) = byte
value_byte (DataRead byte) = byte

-- A frequency in kHz as two bytes, little-endian: the lower,
abbrev pub low_byte : Frequency → ℕ
low_byte frequency = frequency.khz % 256

-- and the higher.
abbrev pub high_byte : Frequency → ℕ
high_byte frequency = frequency.khz / 256

-- The 24 bytes of a record: width, N, F, D, C, B, I/D, S, shift, the counter's memory and cell, register, fresh, the half and its
-- value, a zero, busy little-endian, the frequency little-endian, and two zeros.
unfoldable pub record_bytes : Record → List ℕ
record_bytes rec =
    width_byte rec.wide
    ∷ bit_byte rec.function.n ∷ bit_byte rec.function.f
    ∷ bit_byte rec.control.d ∷ bit_byte rec.control.c ∷ bit_byte rec.control.b
    ∷ bit_byte rec.entry.id ∷ bit_byte rec.entry.s
    ∷ rec.shift
    ∷ memory_byte rec.counter ∷ cell_of rec.counter
    ∷ rec.reg ∷ bit_byte rec.fresh
    ∷ half_byte rec.half ∷ value_byte rec.half
    ∷ 0
    ∷ (little_endian rec.busy ++ (low_byte rec.frequency ∷ high_byte rec.frequency ∷ 0 ∷ 0 ∷ []))

-- The counter of these two bytes.
abbrev pub counter_from : ℕ → ℕ → Counter
counter_from memory cell = cond (eqb memory 1) (Pattern cell) (Display cell)

-- The frequency of these two bytes.
abbrev pub frequency_from : ℕ → ℕ → Frequency
frequency_from low high = record { khz = low + 256 * high }

-- The half of these two bytes.
abbrev pub half_from : ℕ → ℕ → Half
half_from half value =
    cond (eqb half 1) (InstructionWrite value)
    (cond (eqb half 2) (DataWrite value)
    (cond (eqb half 3) (StatusRead value)
    (cond (eqb half 4) (DataRead value)
    Empty)))

-- The record that 24 bytes say if they say one: a byte that a record cannot have is read as one that it can.
unfoldable pub record_from : List ℕ → Record
record_from bytes =
    record {
      wide = eqb (get_or bytes 0 0) 8;
      function = record { n = eqb (get_or bytes 1 0) 1; f = eqb (get_or bytes 2 0) 1 };
      control = record { d = eqb (get_or bytes 3 0) 1; c = eqb (get_or bytes 4 0) 1; b = eqb (get_or bytes 5 0) 1 };
      entry = record { id = eqb (get_or bytes 6 0) 1; s = eqb (get_or bytes 7 0) 1 };
      shift = get_or bytes 8 0;
      counter = counter_from (get_or bytes 9 0) (get_or bytes 10 0);
      reg = get_or bytes 11 0;
      fresh = eqb (get_or bytes 12 0) 1;
      busy = number_from (get_or bytes 16 0) (get_or bytes 17 0) (get_or bytes 18 0) (get_or bytes 19 0);
      frequency = frequency_from (get_or bytes 20 0) (get_or bytes 21 0);
      half = half_from (get_or bytes 13 0) (get_or bytes 14 0);
    }

-- The same bytes, one by one.
unfoldable pub same_bytes : List ℕ → List ℕ → Bool
same_bytes [] [] = true
same_bytes [] (y ∷ ys) = false
same_bytes (x ∷ xs) [] = false
same_bytes (x ∷ xs) (y ∷ ys) = eqb x y && same_bytes xs ys

-- The record if these bytes are its own.
unfoldable pub record_as : Record → List ℕ → Option Record
record_as rec bytes = cond (same_bytes bytes (record_bytes rec)) (Some rec) None

-- The bytes are as many as a record has.
abbrev pub is_record_long : List ℕ → Bool
is_record_long bytes = eqb (length bytes) 24

-- What bytes say: the one record whose 24 bytes they are. Any other length or value is none.
unfoldable pub record_in : List ℕ → Option Record
record_in bytes = cond (is_record_long bytes) (record_as (record_from bytes) bytes) None
