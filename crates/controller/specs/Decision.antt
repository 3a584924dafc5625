-- What a transfer comes to: the answer and byte told, the record left, and the one thing that happens to memory
-- (document 01, "What each number says").
-- Assumes nothing.
use Rattle.std.specs.Prelude.{List, ◌++◌, ℕ, ◌<◌, ◌≤◌, length, set, drop, replicate}
use Rattle.controller.specs.declared.answers.Answer.{Answer}
use Rattle.controller.specs.declared.answers.Answer.TheVariants.{Done}
use Rattle.controller.specs.declared.decision.Effect.{Effect}
use Rattle.controller.specs.declared.decision.Effect.TheVariants.{Keep, Store, Blank}
use Rattle.controller.specs.declared.decision.Decision.{Decision}
use Rattle.controller.specs.declared.decision.Outcome.{Outcome}
use Rattle.controller.specs.declared.«record».Record.{Record}
use Rattle.controller.specs.Record.{with_busy}

-- Display cells 20h, pattern cells untouched.
unfoldable pub blanked : List ℕ → List ℕ
blanked mem = replicate 80 0x20 ++ drop 80 mem

-- The memory after an effect: as it was, with one byte stored, or with its display cells 20h.
unfoldable pub performed : Effect → List ℕ → List ℕ
performed Keep mem = mem
performed (Store place byte) mem = set mem place byte
performed Blank mem = blanked mem

-- The effect touches no byte outside the memory.
abbrev pub Fits : Effect → List ℕ → Type 0
Fits Keep mem = Unit {0}
Fits (Store place byte) mem = place < length mem
Fits Blank mem = 80 ≤ length mem

-- What the caller is told of a decision and given back.
abbrev pub outcome_of : Decision → Outcome
outcome_of d = record { answer = d.answer; byte = d.byte; rec = d.rec }

-- A refusal: byte 00h, this record, memory as found.
abbrev pub refused : Answer → Record → Decision
refused answer rec = record { answer = answer; byte = 0; rec = rec; effect = Keep }

-- Done: byte 00h, this record busy for this time, and this effect.
abbrev pub done : ℕ → Effect → Record → Decision
done time effect rec = record { answer = Done; byte = 0; rec = with_busy time rec; effect = effect }
