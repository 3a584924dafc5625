-- The instruction table of document 002: an instruction by its leading zero bits (document 02, f), and so by its highest set bit
-- (document 01, "One transfer").
-- Assumes nothing.
use Rattle.std.specs.Prelude.{Bool, cond, ℕ, ◌-◌, ◌/◌, ◌%◌, eqb}
use Rattle.std.specs.Int.Count.{count_leading_zeros}
use Rattle.controller.specs.declared.instruction.Instruction.{Instruction}
use Rattle.controller.specs.declared.instruction.Instruction.TheVariants.{Nothing, Clear, Home, SetEntry, SetControl}
use Rattle.controller.specs.declared.instruction.Instruction.TheVariants.{MoveCursor, ShiftDisplay, SetFunction}
use Rattle.controller.specs.declared.instruction.Instruction.TheVariants.{PatternAddress, DisplayAddress}

-- The bit that is worth this much: 80h for bit 7, 01h for bit 0.
unfoldable pub bit : ℕ → ℕ → Bool
bit worth byte = eqb (byte / worth % 2) 1

-- Cursor or display shift: S/C is bit 3, R/L bit 2.
abbrev pub shift_of : ℕ → Instruction
shift_of byte = cond (bit 0x08 byte) (ShiftDisplay (bit 0x04 byte)) (MoveCursor (bit 0x04 byte))

-- The table, row by row and in its order: a row by the number of zeros that lead the byte, and the bits below the highest set one
-- are the row's own. 00h, which has eight zeros, is not in the table.
unfoldable pub row : ℕ → ℕ → Instruction
row zeros byte =
    cond (eqb zeros 7) Clear
    (cond (eqb zeros 6) Home
    (cond (eqb zeros 5) (SetEntry (record { id = bit 0x02 byte; s = bit 0x01 byte }))
    (cond (eqb zeros 4) (SetControl (record { d = bit 0x04 byte; c = bit 0x02 byte; b = bit 0x01 byte }))
    (cond (eqb zeros 3) (shift_of byte)
    (cond (eqb zeros 2) (SetFunction (bit 0x10 byte) (record { n = bit 0x08 byte; f = bit 0x04 byte }))
    (cond (eqb zeros 1) (PatternAddress (record { 0 = byte - 0x40 }))
    (cond (eqb zeros 0) (DisplayAddress (record { 0 = byte - 0x80 }))
    Nothing)))))))

-- A byte's instruction. `count_leading_zeros 8` counts the zeros above the highest set one of eight bits.
unfoldable pub decoded : ℕ → Instruction
unfolding row count_leading_zeros
decoded byte = row (count_leading_zeros 8 byte) byte
