-- The report of a session: what playing it tells, as text (document 01, "Session lines").
-- Assumes nothing.
use Rattle.std.specs.Prelude.{cond, List, [], ◌∷◌, ◌++◌, ℕ, ◌+◌, ◌*◌, length, replicate}
use Rattle.controller.specs.declared.answers.Answer.{Answer}
use Rattle.controller.specs.declared.oscillator.Frequency.{Frequency}
use Rattle.controller.specs.Answers.{is_done, number_of}
use Rattle.controller.specs.Record.{reset_record}
use Rattle.controller.specs.Runs.{State, Heard, heard, ran}
use Rattle.lines.specs.ReportText.{header, row}
use Rattle.lines.specs.Writing.{Writing, wanting}
use Rattle.lines.specs.Session.{Session, session_of}

-- The row of a line: its number, and what its transfer tells.
abbrev pub row_at : ℕ → Heard → List ℕ
row_at number told = row number told.answer told.byte told.busy

-- A row for each transfer, numbered from here on.
unfoldable pub rows_from : ℕ → List Heard → List ℕ
rows_from number [] = []
rows_from number (t ∷ ts) = row_at number t ++ rows_from (number + 1) ts

-- A bad line prints its number, its answer, byte 00 and the busy as it stands; the end of the text prints nothing.
unfoldable pub last_row : Answer → ℕ → ℕ → List ℕ
last_row answer number busy = cond (is_done answer) [] (row number (number_of answer) 0 busy)

-- The rows of a session, played on this controller and numbered from here on.
unfoldable pub rows_of : ℕ → State → Session → List ℕ
rows_of number state session =
    rows_from number (heard state session.sent)
    ++ last_row session.end (number + length session.sent) (ran state session.sent).rec.busy

-- A controller with this oscillator after reset, with pattern cells 00h.
abbrev pub start : Frequency → State
start frequency = record { rec = reset_record frequency; mem = replicate 80 0x20 ++ replicate 64 0x00 }

-- The whole report of a session's text: the header, then the rows, numbered from 1.
unfoldable pub report : Frequency → List ℕ → List ℕ
report frequency text = header ++ rows_of 1 (start frequency) (session_of text)

-- A buffer of this size always serves: six bytes for each byte of the text, and 62 for the header and a last row.
abbrev pub report_size : List ℕ → ℕ
report_size text = 6 * length text + 62

-- Playing a session's text: 11 where the buffer is shorter than that, and else the report.
unfoldable pub playing : Frequency → List ℕ → List ℕ → Writing
playing frequency text out = wanting (report_size text) (report frequency text) out
