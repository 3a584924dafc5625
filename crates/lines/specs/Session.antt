-- A session's text as the transfers that it says (document 01, "Session lines").
-- Assumes nothing.
use Rattle.std.specs.Prelude.{cond, List, [], ◌∷◌, ℕ, zero, suc, length, drop}
use Rattle.controller.specs.declared.answers.Answer.{Answer}
use Rattle.controller.specs.declared.answers.Answer.TheVariants.{Done}
use Rattle.controller.specs.Answers.{is_done}
use Rattle.controller.specs.declared.sent.Sent.{Sent}
use Rattle.lines.specs.Reading.{line_of, sent_of}

-- A session: the transfers before its end or its bad line, and how it ends: done, or the bad line's answer.
pub record Session : Type 0 where
  pub sent : List Sent
  pub end : Answer

-- No transfers, and this end.
abbrev pub ended_by : Answer → Session
ended_by answer = record { sent = []; end = answer }

-- A transfer, and then a session.
abbrev pub following : Sent → Session → Session
following t s = record { sent = t ∷ s.sent; end = s.end }

-- At most so many lines of a text, each where the one before it ended, up to a bad one. What is after them is not looked at.
unfoldable pub read_up_to : ℕ → List ℕ → Session
read_up_to zero text = ended_by Done
read_up_to (suc k) [] = ended_by Done
read_up_to (suc k) (byte ∷ rest) =
    cond (is_done (line_of (byte ∷ rest)).answer)
    (following (sent_of (line_of (byte ∷ rest))) (read_up_to k (drop (line_of (byte ∷ rest)).length (byte ∷ rest))))
    (ended_by (line_of (byte ∷ rest)).answer)

-- A session's text, line by line: every line has some bytes, so there are no more lines than bytes.
unfoldable pub session_of : List ℕ → Session
session_of text = read_up_to (length text) text
