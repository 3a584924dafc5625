-- What the controller's record holds and when it is sound (document 01, "The controller's record and memory").
-- Assumes nothing.
use Rattle.std.specs.Prelude.{Bool, true, false, cond, not, ◌&&◌, ◌≡◌, ℕ, ◌-◌, ◌<◌, ltb, leb, eqb}
use Rattle.controller.specs.declared.cells.Counter.{Counter}
use Rattle.controller.specs.declared.cells.Counter.TheVariants.{Display}
use Rattle.controller.specs.declared.«record».Control.{Control}
use Rattle.controller.specs.declared.«record».Entry.{Entry}
use Rattle.controller.specs.declared.«record».Function.{Function}
use Rattle.controller.specs.declared.«record».Half.{Half}
use Rattle.controller.specs.declared.«record».Half.TheVariants.{Empty, InstructionWrite, DataWrite, StatusRead, DataRead}
use Rattle.controller.specs.declared.«record».Record.{Record}
use Rattle.controller.specs.declared.oscillator.Frequency.{Frequency}
use Rattle.controller.specs.Cells.{on_cell}
use Rattle.controller.specs.Oscillator.{in_range, fitted}

-- The time that reset takes, and the most that busy can be.
unfoldable pub reset_time : ℕ
reset_time = 10000

-- A half waits only at width 4; unless it is a status read, busy is 0. A write's half is four bits.
unfoldable pub half_sound : Bool → ℕ → Half → Bool
half_sound wide busy Empty = true
half_sound wide busy (InstructionWrite high) = not wide && (ltb high 16 && eqb busy 0)
half_sound wide busy (DataWrite high) = not wide && (ltb high 16 && eqb busy 0)
half_sound wide busy (StatusRead byte) = not wide
half_sound wide busy (DataRead byte) = not wide && eqb busy 0

-- Shift 0 to 79, the counter on a cell, busy 0 to 10,000, the frequency in range, and the half as it may wait.
unfoldable pub sound : Record → Bool
sound rec =
    ltb rec.shift 80
    && (on_cell rec.counter
    && (leb rec.busy reset_time && (in_range rec.frequency && half_sound rec.wide rec.busy rec.half)))

-- The record that reset leaves: width 8, N=F=D=C=B=S=0, I/D=1, shift 0, counter display cell 0, register 00h stale, no half,
-- busy 10,000; a frequency in range is kept, and 250 put for any other.
unfoldable pub reset_record : Frequency → Record
reset_record frequency =
    record {
      wide = true;
      function = record { n = false; f = false };
      control = record { d = false; c = false; b = false };
      entry = record { id = true; s = false };
      shift = 0;
      counter = Display 0;
      reg = 0;
      fresh = false;
      busy = reset_time;
      frequency = fitted frequency;
      half = Empty;
    }

-- The record with this width, N and F, and all else as it was. So with those below: each changes what it names and nothing else.
abbrev pub with_function : Bool → Function → Record → Record
with_function wide function r =
    record {
      wide = wide;
      function = function;
      control = r.control;
      entry = r.entry;
      shift = r.shift;
      counter = r.counter;
      reg = r.reg;
      fresh = r.fresh;
      busy = r.busy;
      frequency = r.frequency;
      half = r.half;
    }

-- With these D, C and B.
abbrev pub with_control : Control → Record → Record
with_control control r =
    record {
      wide = r.wide;
      function = r.function;
      control = control;
      entry = r.entry;
      shift = r.shift;
      counter = r.counter;
      reg = r.reg;
      fresh = r.fresh;
      busy = r.busy;
      frequency = r.frequency;
      half = r.half;
    }

-- With these I/D and S.
abbrev pub with_entry : Entry → Record → Record
with_entry entry r =
    record {
      wide = r.wide;
      function = r.function;
      control = r.control;
      entry = entry;
      shift = r.shift;
      counter = r.counter;
      reg = r.reg;
      fresh = r.fresh;
      busy = r.busy;
      frequency = r.frequency;
      half = r.half;
    }

-- With this shift.
abbrev pub with_shift : ℕ → Record → Record
with_shift shift r =
    record {
      wide = r.wide;
      function = r.function;
      control = r.control;
      entry = r.entry;
      shift = shift;
      counter = r.counter;
      reg = r.reg;
      fresh = r.fresh;
      busy = r.busy;
      frequency = r.frequency;
      half = r.half;
    }

-- With the counter on this cell.
abbrev pub with_counter : Counter → Record → Record
with_counter counter r =
    record {
      wide = r.wide;
      function = r.function;
      control = r.control;
      entry = r.entry;
      shift = r.shift;
      counter = counter;
      reg = r.reg;
      fresh = r.fresh;
      busy = r.busy;
      frequency = r.frequency;
      half = r.half;
    }

-- With this byte in the data register, fresh or stale.
abbrev pub with_register : ℕ → Bool → Record → Record
with_register reg fresh r =
    record {
      wide = r.wide;
      function = r.function;
      control = r.control;
      entry = r.entry;
      shift = r.shift;
      counter = r.counter;
      reg = reg;
      fresh = fresh;
      busy = r.busy;
      frequency = r.frequency;
      half = r.half;
    }

-- With this busy time left.
abbrev pub with_busy : ℕ → Record → Record
with_busy busy r =
    record {
      wide = r.wide;
      function = r.function;
      control = r.control;
      entry = r.entry;
      shift = r.shift;
      counter = r.counter;
      reg = r.reg;
      fresh = r.fresh;
      busy = busy;
      frequency = r.frequency;
      half = r.half;
    }

-- With this half waiting.
abbrev pub with_half : Half → Record → Record
with_half half r =
    record {
      wide = r.wide;
      function = r.function;
      control = r.control;
      entry = r.entry;
      shift = r.shift;
      counter = r.counter;
      reg = r.reg;
      fresh = r.fresh;
      busy = r.busy;
      frequency = r.frequency;
      half = half;
    }

-- Busy is over.
abbrev pub busy_over : Record → Record
busy_over rec = with_busy 0 rec

-- First the wait comes off busy, not below 0: as long as busy or longer, it ends it.
unfoldable pub waited : ℕ → Record → Record
waited wait rec = cond (leb rec.busy wait) (busy_over rec) (with_busy (rec.busy - wait) rec)

-- A write's half is four bits.
abbrev pub FourBits : Half → Type 0
FourBits Empty = Unit {0}
FourBits (InstructionWrite high) = high < 16
FourBits (DataWrite high) = high < 16
FourBits (StatusRead byte) = Unit {0}
FourBits (DataRead byte) = Unit {0}

-- What the rules of one transfer lean on: of a sound record the counter, the shift and the half. The memory, its length in its
-- type, stays beside the record: each step makes a new record and none a new memory, so a struct of both would be no plainer.
pub record Ready (rec : Record) : Type 0 where
  pub counter : on_cell rec.counter ≡ true
  pub shift : rec.shift < 80
  pub half : FourBits rec.half
