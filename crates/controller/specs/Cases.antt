-- The bench cases of document 01 that are about one controller: P1, P2, P3, P4, P6, P8, P9, P10, and the transfers of P11.
-- What a case leaves open is any: the memory, and of the record all that the case does not name, the width among it.
-- Assumes nothing.
use Rattle.std.specs.Prelude.{Bool, true, false, List, [], ◌∷◌, ◌≡◌, ℕ, ◌<◌, ◌≤◌, length, get_or}
use Rattle.controller.specs.declared.cells.Counter.{Counter}
use Rattle.controller.specs.declared.cells.Counter.TheVariants.{Display, Pattern}
use Rattle.controller.specs.declared.decision.Decision.{Decision}
use Rattle.controller.specs.declared.decision.Effect.TheVariants.{Keep}
use Rattle.controller.specs.declared.«record».Half.{Half}
use Rattle.controller.specs.declared.«record».Half.TheVariants.{Empty, InstructionWrite, DataWrite}
use Rattle.controller.specs.declared.«record».Record.{Record}
use Rattle.controller.specs.Bus.{decided, reset_decided}
use Rattle.controller.specs.Cells.{address_of, place_of}
use Rattle.controller.specs.Answers.{number_of}
use Rattle.controller.specs.Decision.{performed, done}
use Rattle.controller.specs.Execute.{homed, long_time}
use Rattle.controller.specs.Halves.{high_half, low_half}
use Rattle.controller.specs.Oscillator.{fitted, older}
use Rattle.controller.specs.Record.{sound, waited, with_half}
use Rattle.controller.specs.declared.sent.Sent.{Sent}
use Rattle.controller.specs.Runs.{State, decided_of, after, ran, heard}

-- A sound controller with its memory whole, of this width, with this half waiting, whose busy time this wait covers.
pub record Waits (rec : Record) (mem : List ℕ) (wide : Bool) (half : Half) (wait : ℕ) : Type 0 where
  pub sound : sound rec ≡ true
  pub whole : length mem ≡ 144
  pub width : rec.wide ≡ wide
  pub holds : rec.half ≡ half
  pub over : rec.busy ≤ wait

-- A controller after reset.
abbrev pub after_reset : Record → List ℕ → State
after_reset rec mem = after (record { rec = rec; mem = mem }) (reset_decided rec mem)

-- A status read after this wait.
abbrev pub status_read : ℕ → Sent
status_read wait = record { kind = 2; byte = 0x00; wait = wait }

-- This answer and this byte are given.
abbrev pub Gives : Decision → ℕ → ℕ → Type 0
Gives d number byte = (number_of d.answer ≡ number) × (d.byte ≡ byte)

-- P1: reset, status read: wait 9,999 gives 80h, wait 10,000 gives 00h.
abbrev pub P1 : Type 0
P1 =
    (rec : Record) (mem : List ℕ) → length mem ≡ 144
    → Gives (decided_of (after_reset rec mem) (status_read 9999)) 0 0x80
    × Gives (decided_of (after_reset rec mem) (status_read 10000)) 0 0x00

-- A transfer as a controller of this width takes it: whole at width 8, at width 4 in two halves, the second after the later wait.
abbrev pub taking : Bool → Record → List ℕ → ℕ → ℕ → ℕ → ℕ → Decision
taking true rec mem kind byte wait later = decided rec mem kind byte wait
taking false rec mem kind byte wait later =
    decided (decided rec mem kind (high_half byte) wait).rec mem kind (low_half byte) later

-- At either width a data write with I/D=1 leads from this counter, at this address, to that one.
abbrev pub WriteLeads : Bool → Counter → ℕ → Counter → ℕ → Type 0
WriteLeads n counter from next to =
    (wide : Bool) (rec : Record) (mem : List ℕ) (byte wait later : ℕ) → Waits rec mem wide Empty wait → byte < 256
    → rec.function.n ≡ n → rec.entry.id ≡ true → rec.counter ≡ counter
    → (address_of n counter ≡ from) × ((taking wide rec mem 1 byte wait later).rec.counter ≡ next) × (address_of n next ≡ to)

-- P2: N=1, counter 27h, write, I/D=1: counter 40h.
abbrev pub P2 : Type 0
P2 = WriteLeads true (Display 39) 0x27 (Display 40) 0x40

-- P3: the same at 67h gives 00h; N=0 at 4Fh gives 00h.
abbrev pub P3 : Type 0
P3 = WriteLeads true (Display 79) 0x67 (Display 0) 0x00 × WriteLeads false (Display 79) 0x4F (Display 0) 0x00

-- At either width this instruction is answered so, with this N.
abbrev pub Answers : Bool → ℕ → ℕ → Type 0
Answers n byte number =
    (wide : Bool) (rec : Record) (mem : List ℕ) (wait later : ℕ) → Waits rec mem wide Empty wait → rec.function.n ≡ n
    → number_of (taking wide rec mem 0 byte wait later).answer ≡ number

-- P4: N=1: A7h done, A8h and BFh answer 6, E7h done, E8h answers 6. N=0: CFh done, D0h answers 6.
abbrev pub P4 : Type 0
P4 =
    Answers true 0xA7 0 × Answers true 0xA8 6 × Answers true 0xBF 6 × Answers true 0xE7 0 × Answers true 0xE8 6
    × Answers false 0xCF 0 × Answers false 0xD0 6

-- P6: pattern counter 3Fh, write, I/D=1: 00h.
abbrev pub P6 : Type 0
P6 = (n : Bool) → WriteLeads n (Pattern 63) 0x3F (Pattern 0) 0x00

-- A data write after this wait.
abbrev pub data_write : ℕ → ℕ → Sent
data_write byte wait = record { kind = 1; byte = byte; wait = wait }

-- P8: width 4, data halves 40h, 10h: cell gets 41h.
abbrev pub P8 : Type 0
P8 =
    (rec : Record) (mem : List ℕ) (wait later : ℕ) → Waits rec mem false Empty wait
    → let start : State = record { rec = rec; mem = mem } in
    (number_of (decided_of start (data_write 0x40 wait)).answer ≡ 5)
    × (number_of (decided_of (ran start (data_write 0x40 wait ∷ [])) (data_write 0x10 later)).answer ≡ 0)
    × (get_or (ran start (data_write 0x40 wait ∷ data_write 0x10 later ∷ [])).mem (place_of rec.counter) 0 ≡ 0x41)

-- P9: half instruction 0h waiting, then 30h: Home, answer 0.
abbrev pub P9 : Type 0
P9 =
    (rec : Record) (mem : List ℕ) (wait : ℕ) → Waits rec mem false (InstructionWrite 0) wait
    → decided rec mem 0 0x30 wait ≡ done (long_time rec.frequency) Keep (homed (with_half Empty (waited wait rec)))

-- P10: half data write 4h waiting, then instruction 30h: cell gets 43h, answer 8.
abbrev pub P10 : Type 0
P10 =
    (rec : Record) (mem : List ℕ) (wait : ℕ) → Waits rec mem false (DataWrite 4) wait
    → (number_of (decided rec mem 0 0x30 wait).answer ≡ 8)
    × (get_or (performed (decided rec mem 0 0x30 wait).effect mem) (place_of rec.counter) 0 ≡ 0x43)

-- P11: six transfers from reset, where it leaves 250 kHz,
abbrev pub sent_in11 : List Sent
sent_in11 =
    record { kind = 0; byte = 0x38; wait = 15000 }
    ∷ record { kind = 2; byte = 0x00; wait = 0 }
    ∷ record { kind = 1; byte = 0x41; wait = 10 }
    ∷ record { kind = 1; byte = 0x41; wait = 30 }
    ∷ record { kind = 2; byte = 0x00; wait = 40 }
    ∷ record { kind = 3; byte = 0x00; wait = 0 }
    ∷ []

-- and what is told of each.
abbrev pub P11 : Type 0
P11 =
    (rec : Record) (mem : List ℕ) → length mem ≡ 144 → fitted rec.frequency ≡ older
    → heard (after_reset rec mem) sent_in11
    ≡ record { answer = 0; byte = 0x00; busy = 40 }
    ∷ record { answer = 0; byte = 0x80; busy = 40 }
    ∷ record { answer = 4; byte = 0x00; busy = 30 }
    ∷ record { answer = 0; byte = 0x00; busy = 40 }
    ∷ record { answer = 0; byte = 0x01; busy = 0 }
    ∷ record { answer = 7; byte = 0x41; busy = 40 }
    ∷ []
