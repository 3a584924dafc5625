-- A controller and the transfers sent to it, one after the other.
-- Assumes nothing.
use Rattle.std.specs.Prelude.{List, [], ◌∷◌, ℕ}
use Rattle.controller.specs.declared.decision.Decision.{Decision}
use Rattle.controller.specs.declared.«record».Record.{Record}
use Rattle.controller.specs.declared.sent.Sent.{Sent}
use Rattle.controller.specs.Bus.{decided}
use Rattle.controller.specs.Answers.{number_of}
use Rattle.controller.specs.Decision.{performed}

-- A controller: its record and its memory.
pub record State : Type 0 where
  pub rec : Record
  pub mem : List ℕ

-- What the sender learns: the answer's number, the byte, and the busy time left.
pub record Heard : Type 0 where
  pub answer : ℕ
  pub byte : ℕ
  pub busy : ℕ

-- What one transfer comes to.
abbrev pub decided_of : State → Sent → Decision
decided_of s t = decided s.rec s.mem t.kind t.byte t.wait

-- The controller after a decision.
abbrev pub after : State → Decision → State
after s d = record { rec = d.rec; mem = performed d.effect s.mem }

-- What is told of a decision.
abbrev pub told_of : Decision → Heard
told_of d = record { answer = number_of d.answer; byte = d.byte; busy = d.rec.busy }

-- The controller after all of these transfers.
unfoldable pub ran : State → List Sent → State
ran s [] = s
ran s (t ∷ ts) = ran (after s (decided_of s t)) ts

-- What is told of each of these transfers.
unfoldable pub heard : State → List Sent → List Heard
heard s [] = []
heard s (t ∷ ts) = told_of (decided_of s t) ∷ heard (after s (decided_of s t)) ts
