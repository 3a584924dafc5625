-- Laws of the calls over a record and a memory.
-- Assumes nothing.
use mathlib.Core.Bool.{true}
use mathlib.Core.List.{List}
use mathlib.Core.Path.{◌≡◌, refl, ap, subst, ◌∙◌}
use Prim.Native.Nat.{ℕ, ◌+◌, ◌*◌}
use Rattle.controller.specs.declared.answers.Answer.TheVariants.{Done}
use Rattle.controller.specs.declared.decision.Decision.{Decision}
use Rattle.controller.specs.declared.decision.Outcome.{Outcome}
use Rattle.controller.specs.declared.«record».Record.{Record}
use Rattle.controller.specs.Bus.{reset_decided, whole}
use Rattle.controller.specs.Bus as Bus
use Rattle.controller.specs.Answers.{number_of}
use Rattle.controller.specs.Decision.{performed, outcome_of}
use Rattle.interface.specs.ControllerCalls.{Left, Leaves, call_of}
use Rattle.interface.specs.RecordBytes.{record_bytes, record_from}

-- an outcome that tells a decision, left in its bytes, and the effect performed
pub left_meets : (d : Decision) (mem : List ℕ) (outcome : Outcome) {returned : ℕ} {bytes after : List ℕ}
    → outcome ≡ outcome_of d → Left outcome returned bytes → after ≡ performed d.effect mem → Leaves (call_of d mem) returned bytes after
left_meets d mem outcome told left done =
    record {
      told = left.told ∙ ap (λ (o : Outcome). number_of o.answer + 256 * o.byte) told;
      rec = left.rec ∙ ap (λ (o : Outcome). record_bytes o.rec) told;
      memory = done;
    }

-- a reset from the record that was taken out of the bytes
pub reset_meets : (bytes mem : List ℕ) (rec : Record) (outcome : Outcome) {returned : ℕ} {left after : List ℕ} → rec ≡ record_from bytes
    → Bus.Performs (reset_decided rec mem) mem outcome after → Left outcome returned left → Leaves (call_of (reset_decided (record_from bytes) mem) mem) returned left after
reset_meets bytes mem rec outcome {returned} {left} {after} is met kept =
    subst (λ (x : Record). Leaves (call_of (reset_decided x mem) mem) returned left after) is (left_meets (reset_decided rec mem) mem outcome met.told kept met.memory)

-- a reset of a whole memory is done
pub reset_done : (rec : Record) (mem : List ℕ) → whole mem ≡ true → (reset_decided rec mem).answer ≡ Done
unfolding reset_decided
reset_done rec mem is = rw is refl
