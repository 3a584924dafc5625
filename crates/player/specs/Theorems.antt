-- What is proved of sessions and their reports: each theorem is a type here, and its proof stands in proofs/Theorems.
-- Assumes nothing.
use Rattle.std.specs.Prelude.{true, false, List, [], ◌∷◌, ◌++◌, map, ◌⊎◌, ◌↔◌, ◌≡◌, ℕ, ◌+◌, ◌*◌, ◌^◌, ◌<◌, ◌≤◌, length, drop}
use Rattle.std.specs.Prelude.{Result}
use Rattle.controller.specs.declared.answers.Answer.{Answer}
use Rattle.controller.specs.declared.answers.Answer.TheVariants.{Done}
use Rattle.controller.specs.Answers.{is_refusal, number_of, Row, Tells}
use Rattle.controller.specs.Record.{sound}
use Rattle.controller.specs.declared.oscillator.Frequency.{Frequency}
use Rattle.controller.specs.declared.sent.Sent.{Sent}
use Rattle.controller.specs.Runs.{State, Heard, decided_of, heard, ran}
use Rattle.controller.specs.Times.{WithinRange}
use Rattle.lines.specs.Line.{lines_of}
use Rattle.lines.specs.ReportText.{header, row}
use Rattle.lines.specs.Theorems.{AllSayable, Starts, NoSession}
use Rattle.lines.specs.Faults.{IsFault, session_rows}
use Rattle.lines.specs.Reading.{line_of}
use Rattle.lines.specs.Writing.{Writes}
use Rattle.lines.specs.Session.{read_up_to, session_of}
use Rattle.player.specs.declared.through.Standing.{Standing}
use Rattle.player.specs.Report.{rows_from, start, report, report_size, playing}
use Rattle.player.specs.Standing.{answers_to, counting_all, no_refusal, standing, stood}

-- The report of the lines of transfers is the header and a row for each, with what a controller tells that starts from reset.
abbrev pub ReportTells : Type 0
ReportTells =
    (frequency : Frequency) (ts : List Sent) → AllSayable ts
    → report frequency (lines_of ts) ≡ header ++ rows_from 1 (heard (start frequency) ts)

-- A session ends with its text; or the text is no session, and it ends at a bad line with one of 16 to 19.
abbrev pub SessionEnds : Type 0
SessionEnds =
    (text : List ℕ)
    → ((NoSession text → ⊥) × ((session_of text).end ≡ Done)) ⊎ (NoSession text × IsFault (session_of text).end)

-- A buffer of six bytes for each byte of the text and 62 more always serves, for any text that a memory can hold.
abbrev pub ReportFits : Type 0
ReportFits =
    (frequency : Frequency) (text : List ℕ) → length text < 2 ^ 63 → length (report frequency text) ≤ report_size text

-- The row of play: 11, where the buffer is shorter than that.
unfoldable pub play_rows : List ℕ → List ℕ → List Row
play_rows text out = record { number = 11; applies = length out < 6 * length text + 62 } ∷ []

-- 11 is given exactly there.
abbrev pub PlayAnswers : Type 0
PlayAnswers =
    (frequency : Frequency) (text out : List ℕ) → Tells (number_of (playing frequency text out).answer) (play_rows text out)

-- So many lines reach the end of the text: it has fewer transfers, and what is after them is looked at too.
abbrev pub Reaches : ℕ → List ℕ → Type 0
Reaches most text = length (session_of text).sent < most

-- A number above the text's length reaches its end.
abbrev pub LongReaches : Type 0
LongReaches = (text : List ℕ) (most : ℕ) → length text < most → Reaches most text

-- Each of 16 to 19 is given exactly where it is the first fault of the text's bad line, if so many lines reach its end.
abbrev pub ThroughAnswers : Type 0
ThroughAnswers =
    (frequency : Frequency) (text : List ℕ) (most : ℕ) → Reaches most text
    → Tells (number_of (standing frequency text most).answer) (session_rows text)

-- Lines of transfers, and as many asked for: they stand as they do alone, whatever is after them, a bad line too.
abbrev pub MostStops : Type 0
MostStops =
    (frequency : Frequency) (ts : List Sent) (more : List ℕ) (most : ℕ) → AllSayable ts → Reaches most (lines_of ts)
    → standing frequency (lines_of ts ++ more) (length ts) ≡ standing frequency (lines_of ts) most

-- Lines of transfers, and then something that no line starts: the bad line. Its row has its number, the reader's answer to it
-- (`ReaderAnswers`), byte 00 and the busy as it stands, and ends the report; the bench stands as the transfers before it
-- leave it, and `from` is where the bad line begins in the text.
pub record BadLineTold (frequency : Frequency) (ts : List Sent) (more : List ℕ) (most : ℕ) : Type 0 where
  pub row : report frequency (lines_of ts ++ more)
      ≡ header
      ++ (rows_from 1 (heard (start frequency) ts)
      ++ row (1 + length ts) (number_of (line_of more).answer) 0x00 (ran (start frequency) ts).rec.busy)
  pub stands : standing frequency (lines_of ts ++ more) most
      ≡ stood (line_of more).answer (1 + length ts) (length (lines_of ts)) (ran (start frequency) ts)
      (counting_all no_refusal 1 (answers_to (start frequency) ts))
  pub there : drop (standing frequency (lines_of ts ++ more) most).from (lines_of ts ++ more) ≡ more

-- So with every bad line, wherever it stands, if so many lines reach it.
abbrev pub BadLineEnds : Type 0
BadLineEnds =
    (frequency : Frequency) (ts : List Sent) (more : List ℕ) (most : ℕ) → AllSayable ts → 0 < length more → (Starts more → ⊥)
    → length ts < most → BadLineTold frequency ts more most

-- No second answer fits.
abbrev pub OnePlay : Type 0
OnePlay =
    (frequency : Frequency) (text out : List ℕ) (a b : Result ℕ Answer) (x y : List ℕ)
    → Writes (playing frequency text out) out a x → Writes (playing frequency text out) out b y → (a ≡ b) × (x ≡ y)

-- And two standings that both are what play_through promises are one.
abbrev pub OneStanding : Type 0
OneStanding =
    (frequency : Frequency) (text : List ℕ) (most : ℕ) (a b : Standing)
    → a ≡ standing frequency text most → b ≡ standing frequency text most → a ≡ b

-- Every text leaves a sound record and a memory of 144 bytes, so that no picture of it and no transfer after it is answered 1
-- or 2.
abbrev pub StandingTold : Type 0
StandingTold =
    (frequency : Frequency) (text : List ℕ) (most : ℕ)
    → (sound (standing frequency text most).rec ≡ true) × (length (standing frequency text most).memory ≡ 144)

-- A frequency in range is the bench's to the end.
abbrev pub FrequencyStays : Type 0
FrequencyStays =
    (frequency : Frequency) (text : List ℕ) (most : ℕ) → WithinRange frequency
    → (standing frequency text most).rec.frequency ≡ frequency

-- The answers among which refusals are counted have the numbers that a report tells.
abbrev pub AnswersHeard : Type 0
AnswersHeard =
    (state : State) (ts : List Sent) → map number_of (answers_to state ts) ≡ map (λ (h : Heard). h.answer) (heard state ts)

-- There are no refusals exactly where the first one's line is 0.
abbrev pub NoneIsFirst : Type 0
NoneIsFirst =
    (frequency : Frequency) (text : List ℕ) (most : ℕ)
    → ((standing frequency text most).refusals ≡ 0) ↔ ((standing frequency text most).first ≡ 0)

-- None of these answers is a refusal.
unfoldable pub NoneRefused : List Answer → Type 0
NoneRefused [] = Unit {0}
NoneRefused (answer ∷ answers) = (is_refusal answer ≡ false) × NoneRefused answers

-- Where transfers that are played are not refused and the next one is, `first` is its line and `first_answer` its answer.
abbrev pub FirstTold : Type 0
FirstTold =
    (frequency : Frequency) (text : List ℕ) (most : ℕ) (before : List Sent) (t : Sent) (later : List Sent)
    → (read_up_to most text).sent ≡ before ++ (t ∷ later)
    → NoneRefused (answers_to (start frequency) before) → is_refusal (decided_of (ran (start frequency) before) t).answer ≡ true
    → ((standing frequency text most).first ≡ 1 + length before)
    × ((standing frequency text most).first_answer ≡ (decided_of (ran (start frequency) before) t).answer)
