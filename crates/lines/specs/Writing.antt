-- Calls that write text into a lent buffer: their answer, the length, and every byte of the buffer (document 01, "Session
-- lines", "What each number says").
-- Assumes nothing.
use Rattle.std.specs.Prelude.{cond, List, [], ◌++◌, ◌≡◌, ℕ, ltb, length, drop, Result, Ok, Err}
use Rattle.controller.specs.declared.answers.Answer.{Answer}
use Rattle.controller.specs.declared.answers.Answer.TheVariants.{Done, BadTransfer, OutputShort}
use Rattle.controller.specs.Bus.{bad_transfer}
use Rattle.controller.specs.Answers.{is_done, number_of}
use Rattle.lines.specs.Line.{line}

-- What a call that writes text comes to: its answer, and the text that it puts at the start of the buffer.
pub record Writing : Type 0 where
  pub answer : Answer
  pub text : List ℕ

-- A refusal writes nothing.
abbrev pub refusing : Answer → Writing
refusing answer = record { answer = answer; text = [] }

-- Done, with this text.
abbrev pub writing : List ℕ → Writing
writing text = record { answer = Done; text = text }

-- The buffer with this text at its start; the bytes past it stay.
abbrev pub onto : List ℕ → List ℕ → List ℕ
onto text out = text ++ drop (length text) out

-- What the caller is told: the text's length, or the refusal.
abbrev pub written_of : Writing → Result ℕ Answer
written_of w = cond (is_done w.answer) (Ok (length w.text)) (Err w.answer)

-- The answer that this tells: done, or the refusal.
abbrev pub answer_in : Result ℕ Answer → Answer
answer_in (Ok length) = Done
answer_in (Err answer) = answer

-- The length that it tells: 0 where it is a refusal.
abbrev pub length_in : Result ℕ Answer → ℕ
length_in (Ok length) = length
length_in (Err answer) = 0

-- What a call that writes text promises: what is returned, its number in the table, and every byte of the buffer.
pub record Writes (w : Writing) (before : List ℕ) (returned : Result ℕ Answer) (after : List ℕ) : Type 0 where
  pub told : returned ≡ written_of w
  pub number : number_of (answer_in returned) ≡ number_of w.answer
  pub buffer : after ≡ onto w.text before

-- Writing a text for which the buffer must have this size.
unfoldable pub wanting : ℕ → List ℕ → List ℕ → Writing
wanting size text out = cond (ltb (length out) size) (refusing OutputShort) (writing text)

-- Writing a line, the refusals in their order: 3, then 11. The writer wants 16 bytes.
unfoldable pub line_writing : ℕ → ℕ → ℕ → List ℕ → Writing
line_writing kind byte wait out = cond (bad_transfer kind byte) (refusing BadTransfer) (wanting 16 (line kind byte wait) out)
