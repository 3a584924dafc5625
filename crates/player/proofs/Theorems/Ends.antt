-- How a text ends: well or with the number of its bad line, which ends the report and leaves the bench as it stood.
-- Assumes nothing.
use mathlib.Core.Bool.{not}
use mathlib.Core.List.{◌++◌}
use mathlib.Core.Logic.{inl, inr}
use mathlib.Core.Path.{ap}
use native.Mathlib.Nat.{zero-add}
use native.Mathlib.Omega.{arith}
use lib.Seq.{drop-append_seam}
use lib.ListN.{length}
use Rattle.controller.proofs.Laws.Answers.{done_is, tells_as}
use Rattle.controller.specs.Answers.{is_done, number_of}
use Rattle.lines.specs.Line.{lines_of}
use Rattle.lines.specs.Reading.{line_of}
use Rattle.lines.specs.Session.{Session, session_of}
use Rattle.lines.proofs.Laws.Digits.{either}
use Rattle.lines.proofs.Theorems.Session.{bad_ends, fault_not_good, no_session, refuses, session_answers, session_faults}
use Rattle.player.specs.Report.{last_row, report, rows_of}
use Rattle.player.specs.Standing.{leaving, standing}
use Rattle.player.specs.Theorems.{BadLineEnds, SessionEnds, ThroughAnswers}
use Rattle.player.proofs.Theorems.Read.{read_reached}

pub bad_line_ends : BadLineEnds
unfolding report rows_of last_row standing leaving
bad_line_ends frequency ts more most can some none few =
    let read = bad_ends ts more can some none in
    let other = fault_not_good (line_of more).answer (refuses more none) in
    let whole = read_reached most (lines_of ts ++ more) (omega (arith, ap (λ (s : Session). length s.sent) read)) in
    record {
      row = simp (read, other);
      stands = simp (whole, read, zero-add);
      there = simp (whole, read, zero-add) (drop-append_seam (lines_of ts) more);
    }

pub session_ends : SessionEnds
session_ends text =
    let tests = no_session text in
    either (is_done (session_of text).end)
    (λ well. inl (tests.no (ap not well), done_is (session_of text).end well))
    (λ bad. inr (tests.yes (ap not bad), session_faults text bad))

pub through_answers : ThroughAnswers
unfolding standing leaving
through_answers frequency text most reaches =
    tells_as _ _ _ (ap (λ (s : Session). number_of s.end) (read_reached most text reaches)) (session_answers text)
