-- A capture made from a session: one E pulse a transfer, up one microsecond before it falls (request b).
-- Assumes nothing.
use Rattle.std.specs.Prelude.{◌≡◌, ℕ, ◌+◌, ◌*◌, ◌/◌, ◌%◌, ◌≤◌, cond, List, [], ◌∷◌, ◌++◌, length, replicate}
use Prim.Native.Char.{code}
use Rattle.controller.specs.declared.answers.Answer.TheVariants.{Done}
use Rattle.controller.specs.Answers.{is_done}
use Rattle.controller.specs.declared.sent.Sent.{Sent}
use Rattle.lines.specs.Digits.{newline, digit, decimal}
use Rattle.lines.specs.Line.{lines_of}
use Rattle.lines.specs.Session.{session_of}
use Rattle.lines.specs.Text.{bytes_of}
use Rattle.lines.specs.Theorems.{AllSayable}
use Rattle.lines.specs.Writing.{Writing, refusing, wanting, writing}
use Rattle.captures.specs.Import.{importing}

-- The definitions: RS, RW, E and DB0 to DB7 have the codes `a` to `k`.
unfoldable pub made_header : List ℕ
made_header =
    bytes_of "$timescale 1 us $end\n$var wire 1 a RS $end\n$var wire 1 b RW $end\n$var wire 1 c E $end\n"
    ++ (bytes_of "$var wire 1 d DB0 $end\n$var wire 1 e DB1 $end\n$var wire 1 f DB2 $end\n$var wire 1 g DB3 $end\n"
    ++ (bytes_of "$var wire 1 h DB4 $end\n$var wire 1 i DB5 $end\n$var wire 1 j DB6 $end\n$var wire 1 k DB7 $end\n"
    ++ bytes_of "$enddefinitions $end\n"))

-- A stamp, which has 32 bits.
unfoldable pub made_stamp : ℕ → List ℕ
made_stamp stamp = code "#" ∷ (decimal (stamp % 4294967296) ++ (newline ∷ []))

-- A change: the last bit of a number, a code.
unfoldable pub made_change : ℕ → ℕ → List ℕ
made_change value letter = digit (value % 2) ∷ letter ∷ newline ∷ []

-- The other lines of a transfer: RS and RW say the kind, DB0 to DB7 the byte.
unfoldable pub made_lines : Sent → List ℕ
made_lines t =
    made_change t.kind (code "a") ++ (made_change (t.kind / 2) (code "b")
    ++ (made_change t.byte (code "d") ++ (made_change (t.byte / 2) (code "e")
    ++ (made_change (t.byte / 4) (code "f") ++ (made_change (t.byte / 8) (code "g")
    ++ (made_change (t.byte / 16) (code "h") ++ (made_change (t.byte / 32) (code "i")
    ++ (made_change (t.byte / 64) (code "j") ++ made_change (t.byte / 128) (code "k")))))))))

-- The pulse of a transfer whose E falls at this stamp: up one microsecond before.
unfoldable pub made_pulse : ℕ → Sent → List ℕ
made_pulse stamp t =
    made_stamp (stamp + 4294967295) ++ (made_lines t ++ (made_change 1 (code "c")
    ++ (made_stamp stamp ++ made_change 0 (code "c"))))

-- The pulses of a session, the fall before them at this stamp.
unfoldable pub made_pulses : ℕ → List Sent → List ℕ
made_pulses before [] = []
made_pulses before (t ∷ later) = made_pulse (before + t.wait) t ++ made_pulses (before + t.wait) later

-- A capture made from a session: its first fall is this long after its first wait, so at this stamp where that wait is 0.
unfoldable pub capture_of : ℕ → List Sent → List ℕ
capture_of first ts = made_header ++ made_pulses first ts

-- The capture of a session's text, its stamps from 0 on: the first rise is as late as the first wait is long, the fall one
-- microsecond after it.
unfoldable pub capture_text : List ℕ → List ℕ
capture_text session = capture_of 1 (session_of session).sent

-- Capturing a session's text: refused by its bad line's answer, or by 11 where the buffer is shorter than the capture.
unfoldable pub capturing : List ℕ → List ℕ → Writing
capturing session out =
    cond (is_done (session_of session).end) (wanting (length (capture_text session)) (capture_text session) out)
    (refusing (session_of session).end)

-- Each of these waits is 2 or more, so that E is up again at a later stamp than that of the fall before.
unfoldable pub LaterWaits : List Sent → Type 0
LaterWaits [] = Unit {0}
LaterWaits (t ∷ later) = (2 ≤ t.wait) × LaterWaits later

-- A session that a pod can capture: its lines can be said, its first wait is 0, its later waits are 2 or more.
unfoldable pub Capturable : List Sent → Type 0
Capturable [] = Unit {0}
Capturable (t ∷ later) = (t.wait ≡ 0) × LaterWaits later × AllSayable (t ∷ later)

-- A capture made from any such session imports as that session, byte for byte, wherever its stamps begin.
abbrev pub MadeImports : Type 0
MadeImports =
    (first : ℕ) (ts : List Sent) (out : List ℕ) → Capturable ts → length (lines_of ts) ≤ length out
    → importing (capture_of first ts) out ≡ writing (lines_of ts)

-- What capture writes of any such session imports as that session.
abbrev pub CaptureImports : Type 0
CaptureImports =
    (ts : List Sent) (made out : List ℕ) → Capturable ts → length (capture_text (lines_of ts)) ≤ length made
    → length (lines_of ts) ≤ length out
    → ((capturing (lines_of ts) made).answer ≡ Done) × (importing (capturing (lines_of ts) made).text out ≡ writing (lines_of ts))

-- The same transfer, at once.
abbrev pub at_once : Sent → Sent
at_once t = record { kind = t.kind; byte = t.byte; wait = 0 }

-- A first wait that is not 0 is in the capture's first stamp alone: an import gives 0 for it, and every later line as it was.
abbrev pub FirstWaitDropped : Type 0
FirstWaitDropped =
    (t : Sent) (later : List Sent) (made out : List ℕ) → AllSayable (t ∷ later) → LaterWaits later
    → length (capture_text (lines_of (t ∷ later))) ≤ length made → length (lines_of (at_once t ∷ later)) ≤ length out
    → importing (capturing (lines_of (t ∷ later)) made).text out ≡ writing (lines_of (at_once t ∷ later))

-- The definitions have 291 bytes, and a line of at least 7 bytes becomes a pulse of at most 60: so a buffer of nine bytes for
-- each byte of the session, and 291 more, always serves.
abbrev pub CaptureFits : Type 0
CaptureFits = (session : List ℕ) → length (capture_text session) ≤ 9 * length session + 291

-- One line as it is captured: Function Set 38h at once, up at stamp 0 and down at 1.
abbrev pub LineCaptured : Type 0
LineCaptured =
    capture_text (bytes_of "I\t38\t0\n")
    ≡ made_header ++ bytes_of "#0\n0a\n0b\n0d\n0e\n0f\n1g\n1h\n1i\n0j\n0k\n1c\n#1\n0c\n"

-- A session of every kind, with the shortest wait.
abbrev pub some_session : List Sent
some_session =
    record { kind = 0; byte = 0x38; wait = 0 } ∷ record { kind = 1; byte = 0xA5; wait = 2 }
    ∷ record { kind = 2; byte = 0; wait = 40 } ∷ record { kind = 3; byte = 0; wait = 3 } ∷ []

-- A capture made from it imports as that session, byte for byte.
abbrev pub SomeMade : Type 0
SomeMade = importing (capture_of 7 some_session) (replicate 60 0) ≡ writing (lines_of some_session)

-- The same, its stamps starting again from 0 between the second fall, at 4,294,967,292, and the third, at 36.
abbrev pub MadeStartsAgain : Type 0
MadeStartsAgain = importing (capture_of 4294967290 some_session) (replicate 60 0) ≡ writing (lines_of some_session)

-- A session whose second wait is 1.
abbrev pub close_session : List Sent
close_session = record { kind = 0; byte = 0x38; wait = 0 } ∷ record { kind = 1; byte = 0xA5; wait = 1 } ∷ []

-- There E is up again at the stamp at which it fell, so at that stamp's end it has not fallen: the first transfer is lost, and
-- what is imported is not the session. So later waits must be 2 or more.
pub record CloseIsLost : Type 0 where
  pub comes_to : importing (capture_of 7 close_session) (replicate 60 0) ≡ writing (bytes_of "D\tA5\t0\n")
  pub is_other : importing (capture_of 7 close_session) (replicate 60 0) ≡ writing (lines_of close_session) → ⊥
