-- How a session's text leaves the bench, and which of its transfers were refused (document 01, "Session lines").
-- Assumes nothing.
use Rattle.std.specs.Prelude.{cond, List, [], ◌∷◌, ℕ, ◌+◌, eqb, length}
use Rattle.controller.specs.declared.answers.Answer.{Answer}
use Rattle.controller.specs.declared.answers.Answer.TheVariants.{Done}
use Rattle.controller.specs.declared.oscillator.Frequency.{Frequency}
use Rattle.controller.specs.declared.sent.Sent.{Sent}
use Rattle.controller.specs.Answers.{is_refusal}
use Rattle.controller.specs.Runs.{State, decided_of, after, ran}
use Rattle.lines.specs.Line.{lines_of}
use Rattle.lines.specs.Session.{Session, read_up_to}
use Rattle.player.specs.declared.tally.Tally.{Tally}
use Rattle.player.specs.declared.through.Standing.{Standing}
use Rattle.player.specs.Report.{start}

-- The answer to each of these transfers: `heard` has their numbers (`AnswersHeard`).
unfoldable pub answers_to : State → List Sent → List Answer
answers_to state [] = []
answers_to state (t ∷ ts) = (decided_of state t).answer ∷ answers_to (after state (decided_of state t)) ts

-- No refusal.
abbrev pub no_refusal : Tally
no_refusal = record { count = 0; first = 0; answer = Done }

-- The refusals so far, with the answer to one line more: a refusal is counted, and the first one's line and answer are kept.
unfoldable pub counting : Tally → ℕ → Answer → Tally
counting tally line answer =
    cond (is_refusal answer)
    (cond (eqb tally.count 0)
    (record { count = 1; first = line; answer = answer })
    (record { count = tally.count + 1; first = tally.first; answer = tally.answer }))
    tally

-- With the answers to lines from this one on.
unfoldable pub counting_all : Tally → ℕ → List Answer → Tally
counting_all tally line [] = tally
counting_all tally line (answer ∷ answers) = counting_all (counting tally line answer) (line + 1) answers

-- A bench that stands so.
abbrev pub stood : Answer → ℕ → ℕ → State → Tally → Standing
stood answer number from state tally =
    record {
      answer = answer;
      number = number;
      from = from;
      rec = state.rec;
      memory = state.mem;
      refusals = tally.count;
      first = tally.first;
      first_answer = tally.answer;
    }

-- How a session leaves this controller: how it ends, its lines and its bytes counted from here on, the controller after its
-- transfers, and the refusals, those before it too.
unfoldable pub leaving : ℕ → ℕ → Tally → State → Session → Standing
leaving number from before state session =
    stood session.end (number + length session.sent) (from + length (lines_of session.sent)) (ran state session.sent)
    (counting_all before number (answers_to state session.sent))

-- How at most so many lines of a text leave the bench: played from the start, the lines counted from 1 and the bytes from 0.
unfoldable pub standing : Frequency → List ℕ → ℕ → Standing
standing frequency text most = leaving 1 0 no_refusal (start frequency) (read_up_to most text)
