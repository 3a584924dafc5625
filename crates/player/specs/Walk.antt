-- The walk through a session's text, with rows or without: what it comes to, and what its parts promise.
-- Assumes nothing.
use Rattle.std.specs.Prelude.{Bool, true, false, cond, List, [], ◌≡◌, ℕ, suc, ◌+◌, ◌-◌, ◌*◌, ◌<◌, ◌≤◌, length, drop}
use Rattle.std.proofs.lemmas.List.Edits.{sets}
use Rattle.controller.specs.declared.answers.Answer.{Answer}
use Rattle.controller.specs.Answers.{is_done}
use Rattle.controller.specs.Runs.{State}
use Rattle.lines.specs.ReportText.{row_size}
use Rattle.lines.specs.Session.{Session, read_up_to}
use Rattle.player.specs.declared.through.Standing.{Standing}
use Rattle.player.specs.declared.walk.Ended.{Ended}
use Rattle.player.specs.declared.walk.Place.{Place}
use Rattle.player.specs.Report.{rows_of}
use Rattle.player.specs.Standing.{leaving, stood}

-- What is written of a report's text: all of it where rows are wanted, and else nothing.
abbrev pub bytes_wanted : Bool → List ℕ → List ℕ
bytes_wanted rows text = cond rows text []

-- The controller at a place.
abbrev pub state_at : Place → List ℕ → State
state_at place mem = record { rec = place.rec; mem = mem }

-- What a walk comes to: how it leaves the bench, and the report's length and buffer.
pub record Walked : Type 0 where
  pub stands : Standing
  pub at : ℕ
  pub out : List ℕ

-- A walk that ends at this place with this answer.
abbrev pub ended_at : Answer → Place → List ℕ → List ℕ → Walked
ended_at answer place mem out =
    record { stands = stood answer place.number place.from (state_at place mem) place.tally; at = place.at; out = out }

-- A session walked from this place on: its transfers run, its lines and refusals counted, and its rows written where they are
-- wanted.
unfoldable pub walked : Bool → Place → List ℕ → List ℕ → Session → Walked
walked rows place mem out session =
    record {
      stands = leaving place.number place.from place.tally (state_at place mem) session;
      at = place.at + length (bytes_wanted rows (rows_of place.number (state_at place mem) session));
      out = sets out place.at (bytes_wanted rows (rows_of place.number (state_at place mem) session));
    }

-- At most so many lines of what is left of a text at this place, walked.
abbrev pub walked_from : Bool → ℕ → List ℕ → Place → List ℕ → List ℕ → Walked
walked_from rows most text place mem out = walked rows place mem out (read_up_to most (drop place.from text))

-- The rows of so many bytes of text, and one row more, take at most this much.
abbrev pub room : Bool → ℕ → ℕ
room rows text = cond rows (6 * text + row_size) 0

-- A place in this text, with room in the buffer for the rows of what is left.
pub record HasRoom (rows : Bool) (text out : List ℕ) (place : Place) : Type 0 where
  pub inside : place.from ≤ length text
  pub counted : place.number ≤ place.from + 1
  pub fewer : place.tally.count < place.number
  pub enough : place.at + room rows (length text - place.from) ≤ length out

-- A row written where rows are wanted.
pub record RowTold (rows : Bool) (text : List ℕ) (at : ℕ) (out : List ℕ) (next : ℕ) (out' : List ℕ) : Type 0 where
  pub after : next ≡ at + length (bytes_wanted rows text)
  pub small : next ≤ at + room rows 0
  pub buffer : out' ≡ sets out at (bytes_wanted rows text)

-- The walk has gone on by a line: what is left comes to the same.
pub record Went (rows : Bool) (text : List ℕ) (place : Place) (mem out : List ℕ) (next : Place) (mem' out' : List ℕ)
    : Type 0 where
  pub further : place.from < next.from
  pub fits : HasRoom rows text out' next
  pub left : (lines : ℕ) → walked_from rows lines text next mem' out' ≡ walked_from rows (suc lines) text place mem out

-- A line played: the walk goes on after it, or it was a bad one and ends the walk.
pub record Played (rows : Bool) (text : List ℕ) (place : Place) (mem out : List ℕ) (ended : Ended) (mem' out' : List ℕ)
    : Type 0 where
  pub goes : is_done ended.answer ≡ true → Went rows text place mem out ended.place mem' out'
  pub stops : is_done ended.answer ≡ false
      → (lines : ℕ) → ended_at ended.answer ended.place mem' out' ≡ walked_from rows (suc lines) text place mem out
