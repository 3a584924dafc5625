-- A report fits into six bytes for each byte of its text and 62 more: a line has at least 7 bytes and a row at most 42.
-- Assumes nothing.
use mathlib.Core.Bool.{true}
use mathlib.Core.List.{List, [], ◌∷◌}
use mathlib.Core.Path.{◌≡◌}
use Prim.Native.Nat.{ℕ, zero, suc, ◌+◌, ◌*◌, ◌^◌, ◌<◌, ◌≤◌}
use native.Mathlib.Omega.{arith}
use lib.ListN.{length, drop, length-append, length-drop}
use Rattle.controller.specs.declared.answers.Answer.{Answer}
use Rattle.controller.specs.declared.«record».Record.{Record}
use Rattle.controller.specs.Record.{sound, reset_time}
use Rattle.controller.proofs.Laws.Answers.{number_below}
use Rattle.controller.proofs.Laws.Record.{sound_busy}
use Rattle.controller.specs.Runs.{State, decided_of, after, told_of}
use Rattle.controller.specs.Answers.{is_done, number_of}
use Rattle.lines.specs.Reading.{sent_of, line_of}
use Rattle.lines.specs.ReportText.{header, row, row_size}
use Rattle.lines.specs.Session.{session_of}
use Rattle.lines.proofs.Laws.Lengths.{row_fits}
use Rattle.lines.proofs.Laws.Digits.{either}
use Rattle.lines.proofs.Laws.Session.{line_long, session_none, session_more, session_bad}
use Rattle.player.specs.Report.{row_at, rows_of, start, report}
use Rattle.player.specs.Theorems.{ReportFits}
use Rattle.player.proofs.Laws.Session.{sent_sound, start_sound, header_length, rows_none, rows_last, rows_more}

-- the row of a sound record fits
row_small : (number : ℕ) (answer : Answer) (byte : ℕ) (rec : Record) → number < 10 ^ 20 → sound rec ≡ true
    → length (row number (number_of answer) byte rec.busy) ≤ row_size
unfolding reset_time
row_small number answer byte rec few is =
    row_fits number (number_of answer) byte rec.busy few (omega (arith, number_below answer)) (omega (arith, sound_busy rec is))

rows_fit : (k number : ℕ) (state : State) (text : List ℕ) → length text ≤ k → number + length text < 10 ^ 20 → sound state.rec ≡ true
    → length (rows_of number state (session_of text)) ≤ 6 * length text + 42
rows_fit zero number state [] enough few is = rw (session_none, rows_none number state) (omega arith)
rows_fit zero number state (byte ∷ rest) enough few is = absurd (omega arith)
rows_fit (suc k) number state [] enough few is = rw (session_none, rows_none number state) (omega arith)
rows_fit (suc k) number state (byte ∷ rest) enough few is =
    let text = byte ∷ rest in
    let some : 0 < length text = omega arith in
    either (is_done (line_of text).answer)
    (λ good.
    let l = line_of text in
    let d = decided_of state (sent_of l) in
    let long = line_long text good in
    let less = length-drop l.length text in
    let kept = sent_sound state text good is in
    let own = row_small number d.answer d.byte d.rec (omega arith) kept in
    let later = rows_fit k (number + 1) (after state d) (drop l.length text) (omega arith) (omega arith) kept in
    rw (session_more text some good, rows_more number state (sent_of l) (session_of (drop l.length text)))
    (omega (arith, length-append (row_at number (told_of d)) (rows_of (number + 1) (after state d) (session_of (drop l.length text))))))
    (λ bad.
    rw (session_bad text some bad, rows_last number state (line_of text).answer bad)
    (omega (arith, row_small number (line_of text).answer 0 state.rec (omega arith) is)))

pub report_fits : ReportFits
unfolding report
report_fits frequency text few =
    omega (
      arith,
      length-append header (rows_of 1 (start frequency) (session_of text)),
      header_length,
      rows_fit (length text) 1 (start frequency) text (omega arith) (omega arith) (start_sound frequency),
    )
