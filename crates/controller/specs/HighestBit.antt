-- The instruction table read a second way: by the highest set bit, from the last row to the first (document 01, "Instructions, by
-- highest set bit"). The highest set bit is told by the least byte that has it, so that no zeros are counted here.
-- Assumes nothing.
use Rattle.std.specs.Prelude.{cond, ◌≡◌, ℕ, ◌-◌, leb}
use Rattle.controller.specs.declared.instruction.Instruction.{Instruction}
use Rattle.controller.specs.declared.instruction.Instruction.TheVariants.{Nothing, Clear, Home, SetEntry, SetControl}
use Rattle.controller.specs.declared.instruction.Instruction.TheVariants.{MoveCursor, ShiftDisplay, SetFunction}
use Rattle.controller.specs.declared.instruction.Instruction.TheVariants.{PatternAddress, DisplayAddress}
use Rattle.controller.specs.Instruction.{bit, decoded}

-- The table, from its last row to its first; the bits below the highest are the row's own.
unfoldable pub by_highest_bit : ℕ → Instruction
by_highest_bit byte =
    cond (leb 0x80 byte) (DisplayAddress (record { 0 = byte - 0x80 }))
    (cond (leb 0x40 byte) (PatternAddress (record { 0 = byte - 0x40 }))
    (cond (leb 0x20 byte) (SetFunction (bit 0x10 byte) (record { n = bit 0x08 byte; f = bit 0x04 byte }))
    (cond (leb 0x10 byte) (cond (bit 0x08 byte) (ShiftDisplay (bit 0x04 byte)) (MoveCursor (bit 0x04 byte)))
    (cond (leb 0x08 byte) (SetControl (record { d = bit 0x04 byte; c = bit 0x02 byte; b = bit 0x01 byte }))
    (cond (leb 0x04 byte) (SetEntry (record { id = bit 0x02 byte; s = bit 0x01 byte }))
    (cond (leb 0x02 byte) Home
    (cond (leb 0x01 byte) Clear
    Nothing)))))))

-- Both readings are one, at every byte.
abbrev pub DecodesByHighestBit : Type 0
DecodesByHighestBit = (byte : ℕ) → decoded byte ≡ by_highest_bit byte
