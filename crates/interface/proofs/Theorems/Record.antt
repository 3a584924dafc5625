-- The bytes of a record say it, and bytes that say a record are its bytes.
-- Assumes nothing.
use mathlib.Core.Bool.{Bool, true, false}
use mathlib.Core.Path.{◌≡◌, refl, ap}
use Prim.Native.Nat.{ℕ, ◌<◌}
use native.Mathlib.Nat.{mod-add-div}
use native.Mathlib.Omega.{arith}
use lib.Dec.{eqb}
use Rattle.controller.specs.declared.cells.Counter.{Counter}
use Rattle.controller.specs.declared.cells.Counter.TheVariants.{Display, Pattern}
use Rattle.controller.specs.declared.oscillator.Frequency.{Frequency}
use Rattle.controller.specs.declared.«record».Half.{Half}
use Rattle.controller.specs.declared.«record».Half.TheVariants.{Empty, InstructionWrite, DataWrite, StatusRead, DataRead}
use Rattle.controller.specs.declared.«record».Record.{Record}
use Rattle.controller.specs.Cells.{cell_of}
use Rattle.controller.specs.Record.{reset_time}
use Rattle.controller.proofs.Laws.Record.{sound_busy}
use Rattle.controller.proofs.Laws.Sent.{four_bytes}
use Rattle.interface.specs.RecordBytes.{width_byte, bit_byte, memory_byte, half_byte, value_byte, low_byte, high_byte, counter_from, frequency_from, half_from, record_bytes, record_from, record_in, record_as}
use Rattle.interface.specs.Theorems.{RecordReadsBack, RecordWritesBack}
use Rattle.interface.proofs.Laws.Same.{same_refl, bytes_length}
use Rattle.interface.proofs.Laws.Read.{read_own}

width_back : (wide : Bool) → eqb (width_byte wide) 8 ≡ wide
width_back true = refl
width_back false = refl

-- a bit is read back
pub bit_back : (bit : Bool) → eqb (bit_byte bit) 1 ≡ bit
bit_back true = refl
bit_back false = refl

counter_back : (counter : Counter) → counter_from (memory_byte counter) (cell_of counter) ≡ counter
counter_back (Display cell) = refl
counter_back (Pattern cell) = refl

half_back : (half : Half) → half_from (half_byte half) (value_byte half) ≡ half
half_back Empty = refl
half_back (InstructionWrite high) = refl
half_back (DataWrite high) = refl
half_back (StatusRead byte) = refl
half_back (DataRead byte) = refl

-- a frequency is read back
pub frequency_back : (frequency : Frequency) → frequency_from (low_byte frequency) (high_byte frequency) ≡ frequency
frequency_back frequency = ap (λ (n : ℕ). record { khz = n }) (mod-add-div frequency.khz 256)

from_back : (rec : Record) → rec.busy < 4294967296 → record_from (record_bytes rec) ≡ rec
unfolding record_from record_bytes
from_back rec below =
    let n = four_bytes rec.busy below in
    simp (width_back, bit_back, counter_back, frequency_back, half_back, n)

pub record_reads_back : RecordReadsBack
unfolding record_in record_as reset_time
record_reads_back rec is =
    let limit = sound_busy rec is in
    let below : rec.busy < 4294967296 = omega arith in
    simp (bytes_length rec, from_back rec below, same_refl)

pub record_writes_back : RecordWritesBack
record_writes_back = read_own
