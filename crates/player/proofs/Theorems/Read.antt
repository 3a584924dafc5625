-- A session's text is read as the transfers of its lines, to its end or after so many lines.
-- Assumes nothing.
use mathlib.Core.List.{List, [], ◌∷◌, ◌++◌, append_assoc, append-nil}
use mathlib.Core.Path.{◌≡◌, sym, ap, ◌∙◌}
use Prim.Native.Nat.{ℕ, zero, suc, ◌<◌, ◌≤◌}
use native.Mathlib.Omega.{arith}
use lib.ListN.{length, drop, length-append, length-drop}
use lib.Seq.{drop-append_seam}
use Rattle.controller.specs.declared.answers.Answer.TheVariants.{Done}
use Rattle.controller.specs.Answers.{is_done}
use Rattle.controller.specs.declared.sent.Sent.{Sent}
use Rattle.lines.specs.Line.{line, lines_of}
use Rattle.lines.specs.Reading.{Reading, sent_of, line_of}
use Rattle.lines.specs.Theorems.{AllSayable}
use Rattle.lines.specs.Session.{Session, following, read_up_to, session_of}
use Rattle.lines.proofs.Laws.Digits.{either}
use Rattle.lines.proofs.Laws.Lengths.{line_length_lem}
use Rattle.lines.proofs.Theorems.Written.{written_reads_back}
use Rattle.lines.proofs.Theorems.Session.{is_done_lem, lines_read}
use Rattle.lines.proofs.Laws.Session.{line_long, read_none, read_enough, read_more, read_bad, session_none, session_more, session_bad}
use Rattle.player.specs.Report.{last_row, rows_of, start, report}
use Rattle.player.specs.Standing.{leaving, no_refusal, standing}
use Rattle.player.specs.Theorems.{ReportTells, Reaches, LongReaches, MostStops}

pub report_tells : ReportTells
unfolding report rows_of last_row
report_tells frequency ts can = simp (lines_read ts can, append-nil)

-- so many lines reach the end of a text: all of it is read
pub read_reached : (most : ℕ) (text : List ℕ) → Reaches most text → read_up_to most text ≡ session_of text
read_reached zero text few = absurd (omega arith)
read_reached (suc k) [] few = read_none (suc k) ∙ sym session_none
read_reached (suc k) (byte ∷ rest) few =
    let text = byte ∷ rest in
    let some : 0 < length text = omega arith in
    either (is_done (line_of text).answer)
    (λ good.
    let after = drop (line_of text).length text in
    let more = session_more text some good in
    let less : length (session_of after).sent < k = omega (arith, ap (λ (s : Session). length s.sent) more) in
    read_more k text some good ∙ ap (following (sent_of (line_of text))) (read_reached k after less) ∙ sym more)
    (λ bad. read_bad k text some bad ∙ sym (session_bad text some bad))

-- there are no more transfers than bytes
sent_few : (k : ℕ) (text : List ℕ) → length text ≤ k → length (session_of text).sent ≤ length text
sent_few zero [] enough = rw session_none (omega arith)
sent_few zero (byte ∷ rest) enough = absurd (omega arith)
sent_few (suc k) [] enough = rw session_none (omega arith)
sent_few (suc k) (byte ∷ rest) enough =
    let text = byte ∷ rest in
    let some : 0 < length text = omega arith in
    either (is_done (line_of text).answer)
    (λ good.
    let long = (line_long text good).0 in
    let less = length-drop (line_of text).length text in
    let later = sent_few k (drop (line_of text).length text) (omega arith) in
    rw (session_more text some good) (omega arith))
    (λ bad. rw (session_bad text some bad) (omega arith))

pub long_reaches : LongReaches
long_reaches text most long = omega (arith, sent_few (length text) text (omega arith))

-- as many lines as transfers are those transfers, whatever is after them
read_first : (ts : List Sent) (more : List ℕ) → AllSayable ts → read_up_to (length ts) (lines_of ts ++ more) ≡ record { sent = ts; end = Done }
unfolding lines_of AllSayable
read_first [] more can = read_enough more
read_first (t ∷ ts) more can =
    let own = line t.kind t.byte t.wait in
    let rest = lines_of ts ++ more in
    let read = written_reads_back t.kind t.byte t.wait rest can.0 in
    let some : 0 < length (own ++ rest) = omega (arith, length-append own rest, line_length_lem t.kind t.byte t.wait) in
    ap (read_up_to (suc (length ts))) (append_assoc own (lines_of ts) more)
    ∙ read_more (length ts) (own ++ rest) some (ap (λ (l : Reading). is_done l.answer) read ∙ is_done_lem)
    ∙ ap (λ (l : Reading). following (sent_of l) (read_up_to (length ts) (drop l.length (own ++ rest)))) read
    ∙ ap (λ (l : List ℕ). following t (read_up_to (length ts) l)) (drop-append_seam own rest)
    ∙ ap (following t) (read_first ts more can.1)

pub most_stops : MostStops
unfolding standing
most_stops frequency ts more most can reaches =
    ap (leaving 1 0 no_refusal (start frequency)) (read_first ts more can ∙ sym (lines_read ts can) ∙ sym (read_reached most (lines_of ts) reaches))
