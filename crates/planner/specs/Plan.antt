-- The plan: the transfers that bring a panel into a wished state (document 01, "The plan").
-- Assumes nothing.
use Rattle.std.specs.Prelude.{Bool, true, false, cond, ◌&&◌, List, [], ◌∷◌, ◌++◌, ℕ, zero, suc, ◌+◌, ◌-◌, ltb, eqb, get_or}
use Rattle.std.specs.Prelude.{replicate}
use Rattle.controller.specs.Cells.{address_set}
use Rattle.controller.specs.Execute.{short_time, long_time}
use Rattle.controller.specs.Halves.{high_half, low_half}
use Rattle.controller.specs.Sent.{six_bytes}
use Rattle.controller.specs.declared.oscillator.Frequency.{Frequency}
use Rattle.controller.specs.declared.sent.Sent.{Sent}
use Rattle.controller.specs.declared.cells.Counter.{Counter}
use Rattle.controller.specs.declared.cells.Counter.TheVariants.{Display, Pattern}
use Rattle.planner.specs.declared.pen.Times.{Times}
use Rattle.planner.specs.declared.wish.Wish.{Wish}
use Rattle.planner.specs.Wish.{marked, follows}

-- An instruction byte as it is sent, alone or as a half.
abbrev pub single : ℕ → ℕ → Sent
single byte wait = record { kind = 0; byte = byte; wait = wait }

-- 1. Instruction bytes 30h, 30h, 30h, 20h, single transfers, waits 15,000, 4,100, 100, 100.
abbrev pub opening : List Sent
opening = single 0x30 15000 ∷ single 0x30 4100 ∷ single 0x30 100 ∷ single 0x20 100 ∷ []

-- 2. What is sent in two halves: an instruction or a data write.
pub record Command : Type 0 where
  pub kind : ℕ
  pub byte : ℕ

-- An instruction write of this byte.
abbrev pub instruction : ℕ → Command
instruction byte = record { kind = 0; byte = byte }

-- A data write of this byte.
abbrev pub write : ℕ → Command
write byte = record { kind = 1; byte = byte }

-- A bit that is worth this much in its byte.
unfoldable pub worth : ℕ → Bool → ℕ
worth value false = 0
worth value true = value

-- Function Set (DL=0, wished N, F), 08h, 06h, 02h.
abbrev pub set_up : Wish → List Command
set_up wish =
    instruction (0x20 + worth 0x08 wish.function.n + worth 0x04 wish.function.f)
    ∷ instruction 0x08
    ∷ instruction 0x06
    ∷ instruction 0x02
    ∷ []

-- The counter on the cell at this place: display cells 0 to 79, then pattern cells 0 to 63.
unfoldable pub counter_at : ℕ → Counter
counter_at place = cond (ltb place 80) (Display place) (Pattern (place - 80))

-- The address set for the cell at this place: 80h and its ADD, or 40h and its ACG.
unfoldable pub address_byte : Bool → ℕ → ℕ
address_byte n place = address_set n (counter_at place)

-- A marked cell is written, an address set first unless the cell before it in the same memory is marked.
unfoldable pub cell : Bool → List ℕ → List ℕ → ℕ → List Command
cell n marks values place =
    cond (marked marks place)
    (cond (follows marks place) (write (get_or values place 0) ∷ [])
    (instruction (address_byte n place) ∷ write (get_or values place 0) ∷ []))
    []

-- The marked cells below this place, rising: display cells, then pattern cells.
unfoldable pub cells_below : Bool → List ℕ → List ℕ → ℕ → List Command
cells_below n marks values zero = []
cells_below n marks values (suc place) = cells_below n marks values place ++ cell n marks values place

-- Entry Mode, the cursor's address, Display Control as wished.
abbrev pub ending : Wish → List Command
ending wish =
    instruction (0x04 + worth 0x02 wish.entry.id + worth 0x01 wish.entry.s)
    ∷ instruction (address_byte wish.function.n wish.cursor)
    ∷ instruction (0x08 + worth 0x04 wish.control.d + worth 0x02 wish.control.c + worth 0x01 wish.control.b)
    ∷ []

-- All that is sent in two halves, in order; 18h as often as the shift.
unfoldable pub commands : Wish → List ℕ → List ℕ → List Command
commands wish marks values =
    set_up wish ++ (replicate wish.shift (instruction 0x18) ++ (cells_below wish.function.n marks values 144 ++ ending wish))

-- The two times that a command can take at a frequency.
abbrev pub times_at : Frequency → Times
times_at frequency = record { short = short_time frequency; long = long_time frequency }

-- The time that a command takes: of those sent in two halves, only 02h is long.
unfoldable pub time_of : Times → Command → ℕ
time_of times command = cond (eqb command.kind 0 && eqb command.byte 0x02) times.long times.short

-- A command's first half, after this wait.
abbrev pub first_sent : ℕ → Command → Sent
first_sent wait command = record { kind = command.kind; byte = high_half command.byte; wait = wait }

-- Its second half, which waits 1.
abbrev pub second_sent : Command → Sent
second_sent command = record { kind = command.kind; byte = low_half command.byte; wait = 1 }

-- First halves wait for the previous instruction's time.
unfoldable pub in_halves : Times → ℕ → List Command → List Sent
in_halves times before [] = []
in_halves times before (command ∷ rest) =
    first_sent before command ∷ second_sent command ∷ in_halves times (time_of times command) rest

-- The plan. The first half after item 1 waits 100. The wish's frequency says how long the commands take, and nothing else goes by
-- it.
unfoldable pub plan_of : Wish → List ℕ → List ℕ → List Sent
plan_of wish marks values = opening ++ in_halves (times_at wish.frequency) 100 (commands wish marks values)

-- The bytes of these records, one after the other.
unfoldable pub encoded : List Sent → List ℕ
encoded [] = []
encoded (t ∷ ts) = six_bytes t ++ encoded ts
