-- What a complete transfer does (document 01, "One transfer", from the instructions to the status byte).
-- Assumes nothing.
use Rattle.std.specs.Prelude.{Bool, true, false, cond, not, List, ℕ, ◌+◌, ltb, Option, Some, None}
use Rattle.controller.specs.declared.cells.Counter.{Counter}
use Rattle.controller.specs.declared.cells.Counter.TheVariants.{Display, Pattern}
use Rattle.controller.specs.declared.answers.Answer.TheVariants.{Done, NoCell, StaleRead}
use Rattle.controller.specs.declared.decision.Decision.{Decision}
use Rattle.controller.specs.declared.decision.Effect.TheVariants.{Keep, Store, Blank}
use Rattle.controller.specs.declared.execute.Transfer.{Transfer}
use Rattle.controller.specs.declared.execute.Transfer.TheVariants.{Instruct, Write, Status, Read}
use Rattle.controller.specs.declared.instruction.Instruction.{Instruction}
use Rattle.controller.specs.declared.instruction.Instruction.TheVariants.{Nothing, Clear, Home, SetEntry, SetControl}
use Rattle.controller.specs.declared.instruction.Instruction.TheVariants.{MoveCursor, ShiftDisplay, SetFunction}
use Rattle.controller.specs.declared.instruction.Instruction.TheVariants.{PatternAddress, DisplayAddress}
use Rattle.controller.specs.declared.oscillator.Frequency.{Frequency}
use Rattle.controller.specs.declared.«record».Record.{Record}
use Rattle.controller.specs.Cells.{byte_under, place_of, wrapped, stepped, cell_of_add, cell_of_acg, address_of}
use Rattle.controller.specs.Decision.{done, refused}
use Rattle.controller.specs.Instruction.{decoded}
use Rattle.controller.specs.Oscillator.{time_at}
use Rattle.controller.specs.Record.{with_function, with_control, with_entry, with_shift, with_counter, with_register, with_busy}

-- The time of all instructions but Clear and Home, of data writes and of data reads: 40 at 250 kHz (document 002).
unfoldable pub short_time : Frequency → ℕ
short_time frequency = time_at 40 frequency

-- The time of Clear and Home: 1,640 at 250 kHz.
unfoldable pub long_time : Frequency → ℕ
long_time frequency = time_at 1640 frequency

-- Done in the short time, the memory as it was.
abbrev pub changed : Record → Decision
changed rec = done (short_time rec.frequency) Keep rec

-- The counter placed on this cell, by an instruction.
abbrev pub placed : Counter → Record → Record
placed counter rec = with_counter counter rec

-- The counter one cell on, +1 or -1 by I/D, by a data write or a data read.
abbrev pub moved_on : Record → Record
moved_on rec = with_counter (stepped rec.entry.id rec.counter) rec

-- The register loaded from the counter's cell, fresh.
abbrev pub loaded : List ℕ → Record → Record
loaded mem rec = with_register (byte_under mem rec.counter) true rec

-- The register stale.
abbrev pub unloaded : Record → Record
unloaded rec = with_register rec.reg false rec

-- Counter cell 0, shift 0, register stale.
abbrev pub homed : Record → Record
homed rec = unloaded (placed (Display 0) (with_shift 0 rec))

-- Clear does this to the record as Home does, and sets I/D=1; S stays.
abbrev pub cleared : Record → Record
cleared rec = with_entry (record { id = true; s = rec.entry.s }) (homed rec)

-- A cursor move loads the register, fresh, in display memory; in pattern memory the register turns stale.
unfoldable pub cursor_at : List ℕ → Counter → Record → Record
cursor_at mem (Display cell) rec = loaded mem (placed (Display cell) rec)
cursor_at mem (Pattern cell) rec = unloaded (placed (Pattern cell) rec)

-- The shift moved by one, modulo 80.
abbrev pub shifted : Bool → Record → Record
shifted up rec = with_shift (wrapped 80 up rec.shift) rec

-- A display address with a cell loads the register, fresh; one without is refused.
unfoldable pub addressed : List ℕ → Option ℕ → Record → Decision
addressed mem (Some cell) rec = changed (loaded mem (placed (Display cell) rec))
addressed mem None rec = refused NoCell rec

-- What each instruction does.
unfoldable pub executed : List ℕ → Instruction → Record → Decision
executed mem Nothing rec = changed rec
executed mem Clear rec = done (long_time rec.frequency) Blank (cleared rec)
executed mem Home rec = done (long_time rec.frequency) Keep (homed rec)
executed mem (SetEntry entry) rec = changed (with_entry entry rec)
executed mem (SetControl control) rec = changed (with_control control rec)
executed mem (MoveCursor right) rec = changed (cursor_at mem (stepped right rec.counter) rec)
executed mem (ShiftDisplay right) rec = changed (shifted (not right) rec)
executed mem (SetFunction wide function) rec = changed (with_function wide function rec)
executed mem (PatternAddress acg) rec = changed (loaded mem (placed (Pattern (cell_of_acg acg)) rec))
executed mem (DisplayAddress add) rec = addressed mem (cell_of_add rec.function.n add) rec

-- The record with the shift that a data write leaves: in display memory with S=1 it moves, +1 if I/D=1, else -1.
unfoldable pub carried : Counter → Record → Record
carried (Display cell) rec = cond rec.entry.s (shifted rec.entry.id rec) rec
carried (Pattern cell) rec = rec

-- Data write: byte into the counter's cell, register holds the byte, stale; counter +1 or -1 by I/D, and the shift with it.
unfoldable pub written : ℕ → Record → Decision
written byte rec =
    done (short_time rec.frequency) (Store (place_of rec.counter) byte)
    (with_register byte false (carried rec.counter (moved_on rec)))

-- Data read: returns the byte, moves the counter, loads the register from the new cell, fresh; never shifts. A stale one is
-- answered 7.
unfoldable pub read_out : List ℕ → ℕ → Record → Decision
read_out mem byte rec =
    record {
      answer = cond rec.fresh Done StaleRead;
      byte = byte;
      rec = with_busy (short_time rec.frequency) (loaded mem (moved_on rec));
      effect = Keep;
    }

-- Status: bit 7 busy above 0, bits 6 to 0 the counter's address.
unfoldable pub status_of : Record → ℕ
status_of rec = cond (ltb 0 rec.busy) 0x80 0 + address_of rec.function.n rec.counter

-- What a complete transfer does. A status read takes no time and alters nothing.
unfoldable pub completed : List ℕ → Transfer → Record → Decision
completed mem (Instruct byte) rec = executed mem (decoded byte) rec
completed mem (Write byte) rec = written byte rec
completed mem (Status byte) rec = record { answer = Done; byte = byte; rec = rec; effect = Keep }
completed mem (Read byte) rec = read_out mem byte rec
