-- Two lines with the state that a repairer asks for, in fields of fixed places: the settings, and what moves.
-- Assumes nothing.
use Rattle.std.specs.Prelude.{Bool, true, false, cond, List, [], ◌∷◌, ◌++◌, ℕ, ◌/◌, ◌%◌, get_or}
use Prim.Native.Char.{code}
use Rattle.controller.specs.declared.cells.Counter.{Counter}
use Rattle.controller.specs.declared.cells.Counter.TheVariants.{Display, Pattern}
use Rattle.controller.specs.declared.«record».Control.{Control}
use Rattle.controller.specs.declared.«record».Entry.{Entry}
use Rattle.controller.specs.declared.«record».Half.{Half}
use Rattle.controller.specs.declared.«record».Half.TheVariants.{Empty, InstructionWrite, DataWrite, StatusRead, DataRead}
use Rattle.controller.specs.declared.«record».Record.{Record}
use Rattle.controller.specs.declared.oscillator.Frequency.{Frequency}
use Rattle.controller.specs.Cells.{address_set, cell_of}
use Rattle.lines.specs.Digits.{digit, newline}
use Rattle.lines.specs.Line.{letter_of}
use Rattle.lines.specs.Text.{bytes_of}
use Rattle.drawing.specs.Numbers.{two_wide, three_wide, five_wide}

-- A setting of one bit: `1` or `0`.
abbrev pub bit_shown : Bool → ℕ
bit_shown bit = cond bit (code "1") (code "0")

-- The width: `8` or `4`.
abbrev pub width_shown : Bool → ℕ
width_shown wide = cond wide (code "8") (code "4")

-- The lines that N drives: `2` or `1`.
abbrev pub lines_shown : Bool → ℕ
lines_shown n = cond n (code "2") (code "1")

-- The display: `on` or `off`.
abbrev pub on_off : Bool → List ℕ
on_off true = bytes_of "on "
on_off false = bytes_of "off"

-- The counter's memory: `display` or `pattern`.
abbrev pub memory_shown : Counter → List ℕ
memory_shown (Display cell) = bytes_of "display"
memory_shown (Pattern cell) = bytes_of "pattern"

-- A write's half: the letter of its kind, and its high four bits as they came over the bus, with 0h below.
abbrev pub write_shown : ℕ → ℕ → List ℕ
write_shown letter high = letter ∷ code " " ∷ digit (high % 16) ∷ code "0" ∷ []

-- A read's half: the letter of its kind, and its whole byte.
abbrev pub read_shown : ℕ → ℕ → List ℕ
read_shown letter byte = letter ∷ code " " ∷ digit (byte / 16) ∷ digit (byte % 16) ∷ []

-- The half that waits: `none`, or the letter that session lines have for its kind, and what it holds.
abbrev pub half_shown : Half → List ℕ
half_shown Empty = bytes_of "none"
half_shown (InstructionWrite high) = write_shown (letter_of 0) high
half_shown (DataWrite high) = write_shown (letter_of 1) high
half_shown (StatusRead byte) = read_shown (letter_of 2) byte
half_shown (DataRead byte) = read_shown (letter_of 3) byte

-- What Function Set sets: the width, N as the lines that it drives, and F.
abbrev pub function_fields : Record → List ℕ
function_fields rec =
    bytes_of "width " ++ (width_shown rec.wide
    ∷ (bytes_of "  lines " ++ (lines_shown rec.function.n
    ∷ (bytes_of "  F " ++ (bit_shown rec.function.f ∷ [])))))

-- D: the display.
abbrev pub display_field : Bool → List ℕ
display_field d = bytes_of "  display " ++ on_off d

-- C and B, which Display Control sets with D, and I/D and S of Entry Mode.
abbrev pub bit_fields : Control → Entry → List ℕ
bit_fields control entry =
    bytes_of "  C " ++ (bit_shown control.c
    ∷ (bytes_of "  B " ++ (bit_shown control.b
    ∷ (bytes_of "  I/D " ++ (bit_shown entry.id
    ∷ (bytes_of "  S " ++ (bit_shown entry.s ∷ [])))))))

-- The oscillator that is fitted.
abbrev pub frequency_field : Frequency → List ℕ
frequency_field frequency = bytes_of "  " ++ (three_wide frequency.khz ++ bytes_of " kHz\n")

-- The first line: the settings, and the oscillator.
abbrev pub settings_line : Record → List ℕ
settings_line rec =
    function_fields rec
    ++ (display_field rec.control.d ++ (bit_fields rec.control rec.entry ++ frequency_field rec.frequency))

-- The counter's address as the manuals write it: what its address set has below the bit that names the memory, 80h or 40h.
unfoldable pub address_shown : Bool → Counter → ℕ
address_shown n (Display cell) = address_set n (Display cell) % 0x80
address_shown n (Pattern cell) = address_set n (Pattern cell) % 0x40

-- An address: two hex digits and `h`.
abbrev pub hex_shown : ℕ → List ℕ
hex_shown address = digit (address / 16) ∷ digit (address % 16) ∷ code "h" ∷ []

-- The counter: its memory, its cell, and the cell's address.
abbrev pub counter_field : Bool → Counter → List ℕ
counter_field n counter =
    bytes_of "counter " ++ (memory_shown counter
    ++ (bytes_of " cell " ++ (two_wide (cell_of counter)
    ++ (bytes_of ", address " ++ hex_shown (address_shown n counter)))))

-- The shift, the busy time and the half that waits.
abbrev pub last_fields : Record → List ℕ
last_fields rec =
    bytes_of "  shift " ++ (two_wide rec.shift
    ++ (bytes_of "  busy " ++ (five_wide rec.busy
    ++ (bytes_of "  half " ++ (half_shown rec.half ++ (newline ∷ []))))))

-- The second line: what moves.
abbrev pub moving_line : Record → List ℕ
moving_line rec = counter_field rec.function.n rec.counter ++ last_fields rec

-- Both lines.
unfoldable pub state_lines : Record → List ℕ
state_lines rec = settings_line rec ++ moving_line rec

-- Their length.
abbrev pub state_length : ℕ
state_length = 136

-- A byte of them.
abbrev pub state_byte : Record → ℕ → ℕ
state_byte rec place = get_or (state_lines rec) place 0
