-- The rules of one transfer said a second time: each row of document 01's list by its range of bytes, field by field, with every
-- other field as it was (document 01, "One transfer"). A rule that is bent in code and definition alike is caught here. Each time
-- is that of 250 kHz, taken at the record's frequency.
-- Assumes nothing.
use Rattle.std.specs.Prelude.{Bool, true, false, cond, not, ◌&&◌, List, ◌⊎◌, ◌≡◌, ℕ, ◌+◌, ◌-◌, ◌/◌, ◌%◌, ◌≤◌, ◌<◌, ltb, eqb}
use Rattle.std.specs.Prelude.{get_or, length}
use Rattle.controller.specs.declared.cells.Counter.{Counter}
use Rattle.controller.specs.declared.cells.Counter.TheVariants.{Display, Pattern}
use Rattle.controller.specs.declared.decision.Decision.{Decision}
use Rattle.controller.specs.declared.decision.Effect.TheVariants.{Keep}
use Rattle.controller.specs.declared.«record».Half.TheVariants.{Empty}
use Rattle.controller.specs.declared.«record».Record.{Record}
use Rattle.controller.specs.Answers.{number_of}
use Rattle.controller.specs.Bus.{decided}
use Rattle.controller.specs.Cases.{Waits, taking}
use Rattle.controller.specs.Cells.{address_set, on_cell, place_of}
use Rattle.controller.specs.Decision.{performed}
use Rattle.controller.specs.Halves.{high_half, low_half}
use Rattle.controller.specs.Oscillator.{time_at}
use Rattle.controller.specs.Record.{sound, with_function}
use Rattle.controller.specs.Rows.{NoTransfer}

-- Width, N and F as they were.
pub record SameFunction (old new : Record) : Type 0 where
  pub wide : new.wide ≡ old.wide
  pub n : new.function.n ≡ old.function.n
  pub f : new.function.f ≡ old.function.f

-- D, C and B as they were.
pub record SameControl (old new : Record) : Type 0 where
  pub d : new.control.d ≡ old.control.d
  pub c : new.control.c ≡ old.control.c
  pub b : new.control.b ≡ old.control.b

-- I/D and S as they were.
pub record SameEntry (old new : Record) : Type 0 where
  pub id : new.entry.id ≡ old.entry.id
  pub s : new.entry.s ≡ old.entry.s

-- Shift, counter and register as they were.
pub record SamePlace (old new : Record) : Type 0 where
  pub shift : new.shift ≡ old.shift
  pub counter : new.counter ≡ old.counter
  pub reg : new.reg ≡ old.reg
  pub fresh : new.fresh ≡ old.fresh

-- The answer's number, the byte returned, the busy time that is set, the frequency as it was, and no half waiting.
pub record Comes (rec : Record) (d : Decision) (number returned time : ℕ) : Type 0 where
  pub answer : number_of d.answer ≡ number
  pub byte : d.byte ≡ returned
  pub busy : d.rec.busy ≡ time
  pub frequency : d.rec.frequency ≡ rec.frequency
  pub half : d.rec.half ≡ Empty

-- Each memory cell after it.
abbrev pub Cells : List ℕ → Decision → (ℕ → ℕ) → Type 0
Cells mem d byte = (place : ℕ) → place < 144 → get_or (performed d.effect mem) place 0 ≡ byte place

-- Each memory cell as it was.
abbrev pub SameCells : List ℕ → Decision → Type 0
SameCells mem d = Cells mem d (λ place. get_or mem place 0)

-- The bit that is worth this much is 1 in this byte.
abbrev pub is_set : ℕ → ℕ → Bool
is_set worth byte = eqb (byte / worth % 2) 1

-- 00h: nothing, in 40.
pub record DoesNothing (rec : Record) (mem : List ℕ) (byte : ℕ) (d : Decision) : Type 0 where
  pub comes : Comes rec d 0 0x00 (time_at 40 rec.frequency)
  pub function : SameFunction rec d.rec
  pub control : SameControl rec d.rec
  pub entry : SameEntry rec d.rec
  pub place : SamePlace rec d.rec
  pub cells : SameCells mem d

-- What Clear and Home share: counter cell 0, shift 0, register stale; width, N, F, D, C and B stay. In 1,640.
pub record Homes (rec : Record) (d : Decision) : Type 0 where
  pub comes : Comes rec d 0 0x00 (time_at 1640 rec.frequency)
  pub function : SameFunction rec d.rec
  pub control : SameControl rec d.rec
  pub shift : d.rec.shift ≡ 0
  pub counter : d.rec.counter ≡ Display 0
  pub reg : d.rec.reg ≡ rec.reg
  pub fresh : d.rec.fresh ≡ false

-- 01h Clear: display cells 20h, pattern cells untouched; counter, shift and register as for Home; I/D is 1, and S stays.
pub record Clears (rec : Record) (mem : List ℕ) (byte : ℕ) (d : Decision) : Type 0 where
  pub homes : Homes rec d
  pub id : d.rec.entry.id ≡ true
  pub s : d.rec.entry.s ≡ rec.entry.s
  pub cells : Cells mem d (λ place. cond (ltb place 80) 0x20 (get_or mem place 0))

-- 02h-03h Home: I/D, S and the memory as they were.
pub record GoesHome (rec : Record) (mem : List ℕ) (byte : ℕ) (d : Decision) : Type 0 where
  pub homes : Homes rec d
  pub entry : SameEntry rec d.rec
  pub cells : SameCells mem d

-- 04h-07h: I/D is bit 1, S bit 0.
pub record SetsEntry (rec : Record) (mem : List ℕ) (byte : ℕ) (d : Decision) : Type 0 where
  pub comes : Comes rec d 0 0x00 (time_at 40 rec.frequency)
  pub function : SameFunction rec d.rec
  pub control : SameControl rec d.rec
  pub id : d.rec.entry.id ≡ is_set 0x02 byte
  pub s : d.rec.entry.s ≡ is_set 0x01 byte
  pub place : SamePlace rec d.rec
  pub cells : SameCells mem d

-- 08h-0Fh: D is bit 2, C bit 1, B bit 0.
pub record SetsControl (rec : Record) (mem : List ℕ) (byte : ℕ) (d : Decision) : Type 0 where
  pub comes : Comes rec d 0 0x00 (time_at 40 rec.frequency)
  pub function : SameFunction rec d.rec
  pub d_bit : d.rec.control.d ≡ is_set 0x04 byte
  pub c_bit : d.rec.control.c ≡ is_set 0x02 byte
  pub b_bit : d.rec.control.b ≡ is_set 0x01 byte
  pub entry : SameEntry rec d.rec
  pub place : SamePlace rec d.rec
  pub cells : SameCells mem d

-- One cell to the right or left in a ring whose last cell this is: the last is followed by the first, the first preceded by the
-- last.
unfoldable pub neighbour : Bool → ℕ → ℕ → ℕ
neighbour true last cell = cond (eqb cell last) 0 (cell + 1)
neighbour false last cell = cond (eqb cell 0) last (cell - 1)

-- The counter's neighbour, within its memory.
unfoldable pub beside : Bool → Counter → Counter
beside right (Display cell) = Display (neighbour right 79 cell)
beside right (Pattern cell) = Pattern (neighbour right 63 cell)

-- What a cursor move makes of the register: in display memory the byte of the new cell, fresh; in pattern memory stale.
abbrev pub MovedRegister : Record → List ℕ → Record → Counter → Type 0
MovedRegister old mem new (Display cell) = (new.reg ≡ get_or mem cell 0) × (new.fresh ≡ true)
MovedRegister old mem new (Pattern cell) = (new.reg ≡ old.reg) × (new.fresh ≡ false)

-- 10h-17h, S/C=0: the counter one left (R/L=0) or right, bit 2 being R/L.
pub record MovesCounter (rec : Record) (mem : List ℕ) (byte : ℕ) (d : Decision) : Type 0 where
  pub comes : Comes rec d 0 0x00 (time_at 40 rec.frequency)
  pub function : SameFunction rec d.rec
  pub control : SameControl rec d.rec
  pub entry : SameEntry rec d.rec
  pub shift : d.rec.shift ≡ rec.shift
  pub counter : d.rec.counter ≡ beside (is_set 0x04 byte) rec.counter
  pub register : MovedRegister rec mem d.rec d.rec.counter
  pub cells : SameCells mem d

-- 18h-1Fh, S/C=1: left (R/L=0) adds 1 to shift, right takes 1, modulo 80.
pub record ShiftsDisplay (rec : Record) (mem : List ℕ) (byte : ℕ) (d : Decision) : Type 0 where
  pub comes : Comes rec d 0 0x00 (time_at 40 rec.frequency)
  pub function : SameFunction rec d.rec
  pub control : SameControl rec d.rec
  pub entry : SameEntry rec d.rec
  pub shift : d.rec.shift ≡ neighbour (not (is_set 0x04 byte)) 79 rec.shift
  pub counter : d.rec.counter ≡ rec.counter
  pub reg : d.rec.reg ≡ rec.reg
  pub fresh : d.rec.fresh ≡ rec.fresh
  pub cells : SameCells mem d

-- 20h-3Fh: DL is bit 4, N bit 3, F bit 2. Width follows DL at once.
pub record SetsFunction (rec : Record) (mem : List ℕ) (byte : ℕ) (d : Decision) : Type 0 where
  pub comes : Comes rec d 0 0x00 (time_at 40 rec.frequency)
  pub wide : d.rec.wide ≡ is_set 0x10 byte
  pub n : d.rec.function.n ≡ is_set 0x08 byte
  pub f : d.rec.function.f ≡ is_set 0x04 byte
  pub control : SameControl rec d.rec
  pub entry : SameEntry rec d.rec
  pub place : SamePlace rec d.rec
  pub cells : SameCells mem d

-- The counter on this cell and the register loaded from it, fresh: what an address set does. All else as it was.
pub record GoesTo (to : Counter) (place : ℕ) (rec : Record) (mem : List ℕ) (d : Decision) : Type 0 where
  pub comes : Comes rec d 0 0x00 (time_at 40 rec.frequency)
  pub function : SameFunction rec d.rec
  pub control : SameControl rec d.rec
  pub entry : SameEntry rec d.rec
  pub shift : d.rec.shift ≡ rec.shift
  pub counter : d.rec.counter ≡ to
  pub reg : d.rec.reg ≡ get_or mem place 0
  pub fresh : d.rec.fresh ≡ true
  pub cells : SameCells mem d

-- 40h-7Fh: pattern address, the byte's low six bits.
abbrev pub SetsPattern : Record → List ℕ → ℕ → Decision → Type 0
SetsPattern rec mem byte d = GoesTo (Pattern (byte - 0x40)) (80 + (byte - 0x40)) rec mem d

-- This display address is that of this cell. N=0: 00h to 4Fh are cells 0 to 79. N=1: 00h to 27h are cells 0 to 39, and 40h to 67h
-- are cells 40 to 79.
abbrev pub Names : Bool → ℕ → ℕ → Type 0
Names false address cell = (address ≡ cell) × (address ≤ 0x4F)
Names true address cell =
    ((address ≡ cell) × (address ≤ 0x27)) ⊎ ((address ≡ cell + 24) × ((0x40 ≤ address) × (address ≤ 0x67)))

-- Answer 6: byte 00h, busy over, and all else as it was.
pub record LacksCell (rec : Record) (mem : List ℕ) (d : Decision) : Type 0 where
  pub comes : Comes rec d 6 0x00 0
  pub function : SameFunction rec d.rec
  pub control : SameControl rec d.rec
  pub entry : SameEntry rec d.rec
  pub place : SamePlace rec d.rec
  pub cells : SameCells mem d

-- 80h-FFh: display address, the byte's low seven bits. One that is no cell's is answered 6, and only the wait has counted.
pub record SetsDisplay (rec : Record) (mem : List ℕ) (byte : ℕ) (d : Decision) : Type 0 where
  pub named : (cell : ℕ) → Names rec.function.n (byte - 0x80) cell → GoesTo (Display cell) cell rec mem d
  pub unnamed : ((cell : ℕ) → Names rec.function.n (byte - 0x80) cell → ⊥) → LacksCell rec mem d

-- At width 8, with busy over by this wait, an instruction write of a byte from this one to that does this.
abbrev pub Instructs : ℕ → ℕ → (Record → List ℕ → ℕ → Decision → Type 0) → Type 0
Instructs first last Does =
    (rec : Record) (mem : List ℕ) (byte wait : ℕ) → Waits rec mem true Empty wait → first ≤ byte → byte ≤ last
    → Does rec mem byte (decided rec mem 0 byte wait)

-- The instruction list, row by row.
pub record InstructionRules : Type 0 where
  pub nothing : Instructs 0x00 0x00 DoesNothing
  pub clear : Instructs 0x01 0x01 Clears
  pub home : Instructs 0x02 0x03 GoesHome
  pub entry : Instructs 0x04 0x07 SetsEntry
  pub control : Instructs 0x08 0x0F SetsControl
  pub cursor : Instructs 0x10 0x17 MovesCounter
  pub shift : Instructs 0x18 0x1F ShiftsDisplay
  pub function : Instructs 0x20 0x3F SetsFunction
  pub pattern : Instructs 0x40 0x7F SetsPattern
  pub display : Instructs 0x80 0xFF SetsDisplay

-- The counter is in display memory.
abbrev pub in_display : Counter → Bool
in_display (Display cell) = true
in_display (Pattern cell) = false

-- Data write: byte into the counter's cell, register holds the byte, stale; counter +1 or -1 by I/D. In display memory with S=1
-- the shift then moves, +1 if I/D=1, else -1.
pub record WritesData (rec : Record) (mem : List ℕ) (byte : ℕ) (d : Decision) : Type 0 where
  pub comes : Comes rec d 0 0x00 (time_at 40 rec.frequency)
  pub function : SameFunction rec d.rec
  pub control : SameControl rec d.rec
  pub entry : SameEntry rec d.rec
  pub shift :
      d.rec.shift ≡ cond (in_display rec.counter && rec.entry.s) (neighbour rec.entry.id 79 rec.shift) rec.shift
  pub counter : d.rec.counter ≡ beside rec.entry.id rec.counter
  pub reg : d.rec.reg ≡ byte
  pub fresh : d.rec.fresh ≡ false
  pub cells : Cells mem d (λ place. cond (eqb place (place_of rec.counter)) byte (get_or mem place 0))

-- Data read: returns the register, moves the counter, loads the register from the new cell, fresh; a stale one is answered 7. The
-- shift is as it was, whatever S is.
pub record ReadsData (rec : Record) (mem : List ℕ) (d : Decision) : Type 0 where
  pub comes : Comes rec d (cond rec.fresh 0 7) rec.reg (time_at 40 rec.frequency)
  pub function : SameFunction rec d.rec
  pub control : SameControl rec d.rec
  pub entry : SameEntry rec d.rec
  pub shift : d.rec.shift ≡ rec.shift
  pub counter : d.rec.counter ≡ beside rec.entry.id rec.counter
  pub reg : d.rec.reg ≡ get_or mem (place_of d.rec.counter) 0
  pub fresh : d.rec.fresh ≡ true
  pub cells : SameCells mem d

-- This is the counter's address: of a display cell by its range, of a pattern cell its own number.
abbrev pub Addresses : Bool → Counter → ℕ → Type 0
Addresses n (Display cell) address = Names n address cell
Addresses n (Pattern cell) address = address ≡ cell

-- Status: bit 7 busy above 0, bits 6 to 0 the counter's address. It takes no time and alters nothing; the wait has come off busy.
pub record ReadsStatus (rec : Record) (mem : List ℕ) (wait : ℕ) (d : Decision) : Type 0 where
  pub byte : (address : ℕ) → Addresses rec.function.n rec.counter address
      → Comes rec d 0 (cond (ltb 0 (rec.busy - wait)) 0x80 0 + address) (rec.busy - wait)
  pub function : SameFunction rec d.rec
  pub control : SameControl rec d.rec
  pub entry : SameEntry rec d.rec
  pub place : SamePlace rec d.rec
  pub cells : SameCells mem d

-- A sound controller at width 8 with its memory whole.
pub record Wide (rec : Record) (mem : List ℕ) : Type 0 where
  pub sound : sound rec ≡ true
  pub whole : length mem ≡ 144
  pub wide : rec.wide ≡ true

-- Data writes and data reads once busy is over, and status reads at any time.
pub record DataRules : Type 0 where
  pub write : (rec : Record) (mem : List ℕ) (byte wait : ℕ) → Waits rec mem true Empty wait
      → WritesData rec mem byte (decided rec mem 1 byte wait)
  pub read : (rec : Record) (mem : List ℕ) (wait : ℕ) → Waits rec mem true Empty wait
      → ReadsData rec mem (decided rec mem 3 0x00 wait)
  pub status : (rec : Record) (mem : List ℕ) (wait : ℕ) → Wide rec mem → ReadsStatus rec mem wait (decided rec mem 2 0x00 wait)

-- The record at this width, all else as it was.
abbrev pub at_width : Bool → Record → Record
at_width wide rec = with_function wide rec.function rec

-- These two come to the same, the width aside.
pub record Alike (d e : Decision) : Type 0 where
  pub answer : d.answer ≡ e.answer
  pub effect : d.effect ≡ e.effect
  pub rec : at_width true d.rec ≡ at_width true e.rec

-- Of these, the first is a first half that alters no cell, the second leaves the controller as the third does, width aside, and
-- together they return the third's byte, its high half first.
pub record TwoMake (first second whole : Decision) : Type 0 where
  pub begins : number_of first.answer ≡ 5
  pub keeps : first.effect ≡ Keep
  pub high : first.byte ≡ high_half whole.byte
  pub low : second.byte ≡ low_half whole.byte
  pub alike : Alike second whole

-- Width 4: a transfer in two halves of its kind, the second after any wait, is the whole transfer of width 8.
abbrev pub HalvesMakeWhole : Type 0
HalvesMakeWhole =
    (rec : Record) (mem : List ℕ) (kind byte wait later : ℕ) → Waits rec mem false Empty wait → (NoTransfer kind byte → ⊥)
    → byte < 256
    → let first : Decision = decided rec mem kind (high_half byte) wait in
    TwoMake first (decided first.rec mem kind (low_half byte) later) (decided (at_width true rec) mem kind byte wait)

-- A data read never shifts the display, whatever S is.
abbrev pub ReadNeverShifts : Type 0
ReadNeverShifts =
    (rec : Record) (mem : List ℕ) (wait : ℕ) → Waits rec mem true Empty wait
    → (decided rec mem 3 0x00 wait).rec.shift ≡ rec.shift

-- A status read alters nothing: of the record only busy, which the wait has come off, and no cell.
abbrev pub StatusAltersNothing : Type 0
StatusAltersNothing =
    (rec : Record) (mem : List ℕ) (wait : ℕ) → Wide rec mem
    → let d : Decision = decided rec mem 2 0x00 wait in
    SameFunction rec d.rec × SameControl rec d.rec × SameEntry rec d.rec × SamePlace rec d.rec × SameCells mem d

-- Changing N moves nothing: a Function Set leaves the counter, the shift and every cell where they were.
abbrev pub FunctionMovesNothing : Type 0
FunctionMovesNothing =
    (rec : Record) (mem : List ℕ) (byte wait : ℕ) → Waits rec mem true Empty wait → 0x20 ≤ byte → byte ≤ 0x3F
    → let d : Decision = decided rec mem 0 byte wait in
    (d.rec.counter ≡ rec.counter) × (d.rec.shift ≡ rec.shift) × SameCells mem d

-- Clear leaves the rest: width, N, F, D, C, B, S and the pattern cells.
abbrev pub ClearLeavesRest : Type 0
ClearLeavesRest =
    (rec : Record) (mem : List ℕ) (wait : ℕ) → Waits rec mem true Empty wait
    → let d : Decision = decided rec mem 0 0x01 wait in
    SameFunction rec d.rec × SameControl rec d.rec × (d.rec.entry.s ≡ rec.entry.s)
    × ((cell : ℕ) → cell < 64 → get_or (performed d.effect mem) (80 + cell) 0 ≡ get_or mem (80 + cell) 0)

-- After Clear the next message runs rightward: whatever was set before, the data write that follows, at the width that the
-- controller has and once Clear's time is over, moves the counter one to the right.
abbrev pub ClearRunsRight : Type 0
ClearRunsRight =
    (wide : Bool) (rec : Record) (mem : List ℕ) (byte wait later then last : ℕ) → Waits rec mem wide Empty wait → byte < 256
    → time_at 1640 rec.frequency ≤ then
    → let d : Decision = taking wide rec mem 0 0x01 wait later in
    (taking d.rec.wide d.rec (performed d.effect mem) 1 byte then last).rec.counter ≡ Display 1

-- The instruction of `address_set` puts the counter on its cell.
abbrev pub AddressSetGoes : Type 0
AddressSetGoes =
    (rec : Record) (mem : List ℕ) (wait : ℕ) (counter : Counter) → Waits rec mem true Empty wait → on_cell counter ≡ true
    → (decided rec mem 0 (address_set rec.function.n counter) wait).rec.counter ≡ counter
