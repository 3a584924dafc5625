-- What is written of a session: each number exactly where its row applies, a capture that imports as the session, and its length.
-- Assumes nothing.
use Rattle.std.proofs.Common.{◌≡◌, ℕ, zero, suc, ◌+◌, ◌*◌, ◌<◌, ◌≤◌, Bool, true, false, cond, not, ltb, List, [], ◌∷◌, ◌++◌, length, drop, sym, refl, ap, ◌∙◌, add-zero, arith, length-append, length-drop, le-ltb}
use Rattle.controller.specs.declared.sent.Sent.{Sent}
use Rattle.controller.specs.Answers.{is_done, number_of}
use Rattle.controller.proofs.Laws.Answers.{done_is, none_applies, row_applies, tells_as}
use Rattle.controller.proofs.Laws.Choice.{cond-elim}
use Rattle.controller.proofs.Laws.Tests.{tests_lt}
use Rattle.lines.specs.Line.{lines_of}
use Rattle.lines.specs.Reading.{line_of, sent_of}
use Rattle.lines.specs.Session.{session_of}
use Rattle.lines.specs.Theorems.{AllSayable}
use Rattle.lines.specs.Writing.{Writing, wanting, writing}
use Rattle.lines.proofs.Laws.Digits.{either}
use Rattle.lines.proofs.Laws.Nothing.{WritesNothing, wanting_nothing}
use Rattle.lines.proofs.Laws.Session.{line_long, session_none, session_more, session_bad}
use Rattle.lines.proofs.Theorems.Session.{lines_read, no_session}
use Rattle.captures.specs.Import.{importing}
use Rattle.captures.specs.Made.{made_header, made_lines, made_pulse, made_pulses, capture_of, capture_text, capturing}
use Rattle.captures.specs.Made.{Capturable, CaptureImports, at_once, FirstWaitDropped, CaptureFits}
use Rattle.captures.specs.Theorems.{capture_rows, CaptureAnswers}
use Rattle.captures.proofs.Laws.MadeWalk.{pulse_length}
use Rattle.captures.proofs.Theorems.Made.{made_imports}

-- the number that the chain of choices gives
numbers : (session out : List ℕ) (done short : Bool) → is_done (session_of session).end ≡ done
    → ltb (length out) (length (capture_text session)) ≡ short
    → number_of (capturing session out).answer
    ≡ cond (not (is_done (session_of session).end)) (number_of (session_of session).end)
    (cond (ltb (length out) (length (capture_text session))) 11 0)
unfolding capturing wanting
numbers session out false short d s = simp d
numbers session out true true d s = simp (d, s)
numbers session out true false d s = simp (d, s)

pub capture_answers : CaptureAnswers
unfolding capture_rows
capture_answers session out =
    tells_as _ _ _ (numbers session out _ _ refl refl)
    (row_applies _ _ _ _ (no_session session)
    (λ _. row_applies _ _ _ _ (tests_lt (length out) (length (capture_text session))) (λ _. none_applies)))

-- a refusal writes nothing
pub capture_nothing : (session out : List ℕ) → WritesNothing (capturing session out)
unfolding capturing
capture_nothing session out =
    cond-elim WritesNothing (is_done (session_of session).end) _ _
    (λ _. wanting_nothing (length (capture_text session)) (capture_text session) out) (λ _ _. refl)

-- the capture of the lines of transfers is made from those transfers
captures_lines : (ts : List Sent) (made : List ℕ) → AllSayable ts → length (capture_text (lines_of ts)) ≤ length made
    → capturing (lines_of ts) made ≡ writing (capture_of 1 ts)
unfolding capturing capture_text wanting
captures_lines ts made can room =
    let text : length (capture_of 1 ts) ≤ length made = rw (lines_read ts can) at room in
    simp (lines_read ts can, le-ltb (length made) (length (capture_of 1 ts)) text)

-- a session that a pod can capture can be said
can_say : (ts : List Sent) → Capturable ts → AllSayable ts
unfolding Capturable AllSayable
can_say [] can = tt
can_say (t ∷ later) can = can.2

pub capture_imports : CaptureImports
capture_imports ts made out can room enough =
    let written = captures_lines ts made (can_say ts can) room in (
      ap (λ (w : Writing). w.answer) written,
      ap (λ (w : Writing). importing w.text out) written ∙ made_imports 1 ts out can enough,
    )

-- the first wait stands in the first stamp, which a later beginning gives too
begins_later : (t : Sent) (later : List Sent) → capture_of 1 (t ∷ later) ≡ capture_of (1 + t.wait) (at_once t ∷ later)
unfolding capture_of made_pulses made_pulse made_lines
begins_later t later =
    ap (λ (n : ℕ). made_header ++ (made_pulse n t ++ made_pulses n later)) (sym (add-zero (1 + t.wait)))

pub first_wait_dropped : FirstWaitDropped
unfolding Capturable AllSayable
first_wait_dropped t later made out can waits room enough =
    ap (λ (w : Writing). importing w.text out) (captures_lines (t ∷ later) made can room)
    ∙ ap (λ (l : List ℕ). importing l out) (begins_later t later)
    ∙ made_imports (1 + t.wait) (at_once t ∷ later) out
    (refl, waits, (record { transfer = can.0.transfer; is_byte = can.0.is_byte; is_wait = omega arith }, can.1)) enough

-- seven bytes of lines become at most sixty of pulses
pulses_fit : (k before : ℕ) (session : List ℕ) → length session ≤ k
    → 7 * length (made_pulses before (session_of session).sent) ≤ 60 * length session
unfolding made_pulses
pulses_fit zero before [] enough = rw session_none (omega arith)
pulses_fit zero before (byte ∷ rest) enough = absurd (omega arith)
pulses_fit (suc k) before [] enough = rw session_none (omega arith)
pulses_fit (suc k) before (byte ∷ rest) enough =
    let session = byte ∷ rest in
    let some : 0 < length session = omega arith in
    either (is_done (line_of session).answer)
    (λ good.
    let t = sent_of (line_of session) in
    let after = drop (line_of session).length session in
    let stamp = before + t.wait in
    let long = line_long session good in
    let less = length-drop (line_of session).length session in
    let later = pulses_fit k stamp after (omega arith) in
    let own = pulse_length stamp t in
    rw (session_more session some good)
    (omega (arith, length-append (made_pulse stamp t) (made_pulses stamp (session_of after).sent))))
    (λ bad. rw (session_bad session some bad) (omega arith))

pub capture_fits : CaptureFits
unfolding capture_text capture_of made_header
capture_fits session =
    let pulses = made_pulses 1 (session_of session).sent in
    omega (arith, length-append made_header pulses, pulses_fit (length session) 1 session (omega arith))

-- so in such a buffer a bad line alone is refused
pub capture_ends : (session out : List ℕ) → 9 * length session + 291 ≤ length out
    → (capturing session out).answer ≡ (session_of session).end
unfolding capturing wanting
capture_ends session out enough =
    let fits = capture_fits session in
    either (is_done (session_of session).end)
    (λ good.
    simp (good, le-ltb (length out) (length (capture_text session)) (omega arith))
    (sym (done_is (session_of session).end good)))
    (λ bad. simp bad)
