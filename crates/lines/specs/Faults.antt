-- The faults of a line, said by the lines that are written and not by the reader: which number is given, and where the first byte
-- is that cannot stand (document 02, c).
-- Assumes nothing.
use Rattle.std.specs.Prelude.{Bool, cond, List, [], ◌∷◌, ◌++◌, ◌⊎◌, ◌≡◌, ℕ, zero, suc, ◌+◌, ◌<◌, ◌≤◌, eqb, length, take}
use Rattle.controller.specs.declared.answers.Answer.{Answer}
use Rattle.controller.specs.declared.answers.Answer.TheVariants.{Done}
use Rattle.controller.specs.Answers.{number_of, Row, Tells}
use Rattle.controller.specs.declared.sent.Sent.{Sent}
use Rattle.lines.specs.Digits.{tab, between, digit, decimal, byte_field}
use Rattle.lines.specs.Line.{kind_field, lines_of}
use Rattle.lines.specs.Reading.{Reading, text_at, line_of, refused_line}
use Rattle.lines.specs.Session.{session_of}
use Rattle.lines.specs.Theorems.{AllSayable, Begins, Starts}

-- The kind and its tab stand at the start of a text.
abbrev pub KindStands : List ℕ → Type 0
KindStands text = Begins (λ kind byte wait. kind_field kind) text

-- And behind them the byte and its tab.
abbrev pub ByteStands : List ℕ → Type 0
ByteStands text = Begins (λ kind byte wait. kind_field kind ++ byte_field byte) text

-- No decimal digit comes first.
abbrev pub NoDigit : List ℕ → Type 0
NoDigit text = (number : ℕ) (more : List ℕ) → number < 10 → text ≡ digit number ∷ more → ⊥

-- And behind them the wait: its digits, and no digit more.
pub record WaitStands (text : List ℕ) : Type 0 where
  pub begins : Begins (λ kind byte wait. kind_field kind ++ (byte_field byte ++ decimal wait)) text
  pub all : NoDigit begins.more

-- The rows of a line's faults in their order, and those after them: 16 kind or its tab, 17 byte or its tab, 18 wait, 19 no
-- newline where one must stand. Each applies where its field, with those before it, is lacking.
unfoldable pub fault_rows : ((List ℕ → Type 0) → Type 0) → List Row → List Row
fault_rows Lacks rows =
    record { number = 16; applies = Lacks KindStands }
    ∷ record { number = 17; applies = Lacks ByteStands }
    ∷ record { number = 18; applies = Lacks WaitStands }
    ∷ record { number = 19; applies = Lacks Starts }
    ∷ rows

-- The rows of the reader: a field is lacking that does not stand at the start of the text.
abbrev pub reader_rows : List ℕ → List Row → List Row
reader_rows text rows = fault_rows (λ (Stands : List ℕ → Type 0). Stands text → ⊥) rows

-- Each of 16 to 19 is given exactly where its row applies and none before it in the order.
abbrev pub ReaderAnswers : Type 0
ReaderAnswers = (text : List ℕ) → Tells (number_of (line_of text).answer) (reader_rows text [])

-- One of these four answers.
pub record IsFault (answer : Answer) : Type 0 where
  pub least : 16 ≤ number_of answer
  pub most : number_of answer ≤ 19

-- A line that is refused: one of the four, and zeros for all but the offset.
pub record Refused (line : Reading) : Type 0 where
  pub fault : IsFault line.answer
  pub zeros : line ≡ refused_line line.answer line.offset

-- A line at the start of a text is read, and any other text is refused so.
abbrev pub ReadOrRefused : Type 0
ReadOrRefused =
    (text : List ℕ)
    → (Starts text × ((line_of text).answer ≡ Done) × ((line_of text).offset ≡ 0)) ⊎ ((Starts text → ⊥) × Refused (line_of text))

-- A text can be completed to one that starts with a line.
pub record Completes (text : List ℕ) : Type 0 where
  pub more : List ℕ
  pub starts : Starts (text ++ more)

-- The offset of the first byte that cannot stand: the bytes before it can be completed to a line; with it, where the text goes
-- on, they cannot; and where the text ends early it can itself be completed.
pub record FirstFault (text : List ℕ) (offset : ℕ) : Type 0 where
  pub inside : offset ≤ length text
  pub before : Completes (take offset text)
  pub there : offset < length text → Completes (take (offset + 1) text) → ⊥
  pub early : offset ≡ length text → Completes text

-- So it is with the offset of every text that is refused.
abbrev pub FirstThatCannotStand : Type 0
FirstThatCannotStand = (text : List ℕ) → ((line_of text).answer ≡ Done → ⊥) → FirstFault text (line_of text).offset

-- And no other number is such an offset of the text.
abbrev pub OneOffset : Type 0
OneOffset = (text : List ℕ) (a b : ℕ) → FirstFault text a → FirstFault text b → a ≡ b

-- How many tabs stand in these bytes.
unfoldable pub tabs_in : List ℕ → ℕ
tabs_in [] = 0
tabs_in (byte ∷ rest) = cond (eqb byte tab) (suc (tabs_in rest)) (tabs_in rest)

-- What stands behind so many tabs.
unfoldable pub behind : ℕ → List ℕ → List ℕ
behind zero bytes = bytes
behind (suc tabs) [] = []
behind (suc tabs) (byte ∷ rest) = cond (eqb byte tab) (behind tabs rest) (behind (suc tabs) rest)

-- The number by what stands before the fault and at it: before the first tab 16; before the second 17; behind it 18 where no byte
-- stands between, and else 18 at a digit and 19 at any other byte or at the end.
unfoldable pub number_by : ℕ → ℕ → Bool → ℕ
number_by zero bytes digit = 16
number_by (suc zero) bytes digit = 17
number_by (suc (suc tabs)) zero digit = 18
number_by (suc (suc tabs)) (suc bytes) digit = cond digit 18 19

-- The number of a fault at this place.
unfoldable pub number_at : List ℕ → ℕ → ℕ
number_at text place =
    number_by (tabs_in (take place text)) (length (behind 2 (take place text))) (between 0x30 0x39 (text_at text place))

-- So it is with the number and the offset of every text that is refused.
abbrev pub NumberByPlace : Type 0
NumberByPlace =
    (text : List ℕ) → ((line_of text).answer ≡ Done → ⊥) → number_of (line_of text).answer ≡ number_at text (line_of text).offset

-- A session's bad line, in which this part of a line is lacking: the lines of transfers stand before it.
pub record BadLineIn (Stands : List ℕ → Type 0) (text : List ℕ) : Type 0 where
  pub sent : List Sent
  pub more : List ℕ
  pub sayable : AllSayable sent
  pub parts : text ≡ lines_of sent ++ more
  pub some : 0 < length more
  pub lacks : Stands more → ⊥

-- The rows of a session's text: those of its bad line.
abbrev pub session_rows : List ℕ → List Row
session_rows text = fault_rows (λ (Stands : List ℕ → Type 0). BadLineIn Stands text) []

-- Each of 16 to 19 ends a session exactly where it is the first fault of its bad line.
abbrev pub SessionAnswers : Type 0
SessionAnswers = (text : List ℕ) → Tells (number_of (session_of text).end) (session_rows text)
