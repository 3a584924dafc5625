-- Reset and transfer over a record of 24 bytes and a memory of 144: what is returned, and every byte that is lent.
-- Assumes nothing.
use Rattle.std.specs.Prelude.{cond, not, List, ◌≡◌, ℕ, ◌+◌, ◌*◌, Option, Some, None}
use Rattle.controller.specs.declared.answers.Answer.{Answer}
use Rattle.controller.specs.declared.answers.Answer.TheVariants.{Unsound, NotWhole}
use Rattle.controller.specs.declared.decision.Decision.{Decision}
use Rattle.controller.specs.declared.decision.Outcome.{Outcome}
use Rattle.controller.specs.declared.«record».Record.{Record}
use Rattle.controller.specs.Bus.{decided, reset_decided, whole}
use Rattle.controller.specs.Answers.{number_of}
use Rattle.controller.specs.Decision.{performed}
use Rattle.interface.specs.RecordBytes.{record_bytes, record_from, is_record_long, record_in}

-- What a call over a record and a memory comes to: the number returned, the record's bytes and the memory as they are left.
pub record Call : Type 0 where
  pub returned : ℕ
  pub rec : List ℕ
  pub memory : List ℕ

-- The call of a decision: the answer's number and 256 times the byte, the decided record, and the effect performed.
abbrev pub call_of : Decision → List ℕ → Call
call_of d mem =
    record { returned = number_of d.answer + 256 * d.byte; rec = record_bytes d.rec; memory = performed d.effect mem }

-- A refusal before anything is decided: the answer's number, and all as found.
abbrev pub refusal : Answer → List ℕ → List ℕ → Call
refusal answer bytes mem = record { returned = number_of answer; rec = bytes; memory = mem }

-- A transfer from what the record's bytes say: bytes that say none are an unsound record.
unfoldable pub transfer_from : Option Record → List ℕ → List ℕ → ℕ → ℕ → ℕ → Call
transfer_from None bytes mem kind byte wait = refusal Unsound bytes mem
transfer_from (Some rec) bytes mem kind byte wait = call_of (decided rec mem kind byte wait) mem

-- What `yaropesk_transfer` comes to.
abbrev pub transfer_call : List ℕ → List ℕ → ℕ → ℕ → ℕ → Call
transfer_call bytes mem kind byte wait = transfer_from (record_in bytes) bytes mem kind byte wait

-- What `yaropesk_reset` comes to: 1 where there is no place for a record, then 2. Of what the record's bytes say only a frequency
-- in range matters.
unfoldable pub reset_call : List ℕ → List ℕ → Call
reset_call bytes mem =
    cond (not (is_record_long bytes)) (refusal Unsound bytes mem)
    (cond (not (whole mem)) (refusal NotWhole bytes mem)
    (call_of (reset_decided (record_from bytes) mem) mem))

-- What is returned of an outcome, and the record's bytes as they are left.
pub record Left (outcome : Outcome) (returned : ℕ) (bytes : List ℕ) : Type 0 where
  pub told : returned ≡ number_of outcome.answer + 256 * outcome.byte
  pub rec : bytes ≡ record_bytes outcome.rec

-- What a call promises: the number returned, and every byte of the record and of the memory.
pub record Leaves (call : Call) (returned : ℕ) (bytes mem : List ℕ) : Type 0 where
  pub told : returned ≡ call.returned
  pub rec : bytes ≡ call.rec
  pub memory : mem ≡ call.memory
