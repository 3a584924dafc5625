-- What is proved of lines and of the calls that read and write them: each theorem is a type here, and its proof stands in
-- proofs/Theorems (document 01, "Session lines", "What each number says").
-- Assumes nothing.
use Rattle.std.specs.Prelude.{true, false, List, [], ◌∷◌, ◌++◌, ◌≡◌, ℕ, ◌<◌, ◌≤◌, length, take, Result, IsOk}
use Rattle.controller.specs.declared.answers.Answer.{Answer}
use Rattle.controller.specs.declared.answers.Answer.TheVariants.{Done}
use Rattle.controller.specs.declared.sent.Sent.{Sent}
use Rattle.controller.specs.Bus.{bad_transfer}
use Rattle.controller.specs.Answers.{number_of, Row, Tells}
use Rattle.controller.specs.Rows.{NoTransfer}
use Rattle.lines.specs.declared.reader.BadLine.{BadLine}
use Rattle.lines.specs.declared.reader.Line.{Line}
use Rattle.lines.specs.Digits.{are_three, decimal, three_digits}
use Rattle.lines.specs.Line.{line, lines_of, wait_limit}
use Rattle.lines.specs.Reading.{Reading, line_of, told_of}
use Rattle.lines.specs.Session.{session_of}
use Rattle.lines.specs.Writing.{Writing, Writes, writing, wanting, line_writing}

-- A transfer that a line can say: a kind 0 to 3, a byte, 00h for a read, and a wait 0 to 4,294,967,295.
pub record Sayable (kind byte wait : ℕ) : Type 0 where
  pub transfer : bad_transfer kind byte ≡ false
  pub is_byte : byte < 256
  pub is_wait : wait ≤ wait_limit

-- Each of these transfers can be said by a line.
unfoldable pub AllSayable : List Sent → Type 0
AllSayable [] = Unit {0}
AllSayable (t ∷ ts) = Sayable t.kind t.byte t.wait × AllSayable ts

-- A text starts with this part of the line of a transfer, and any text is after it.
pub record Begins (part : ℕ → ℕ → ℕ → List ℕ) (text : List ℕ) : Type 0 where
  pub kind : ℕ
  pub byte : ℕ
  pub wait : ℕ
  pub more : List ℕ
  pub sayable : Sayable kind byte wait
  pub stands : text ≡ part kind byte wait ++ more

-- A text starts with the whole line.
abbrev pub Starts : List ℕ → Type 0
Starts text = Begins line text

-- The line of a transfer as it is read.
abbrev pub line_read : ℕ → ℕ → ℕ → Reading
line_read kind byte wait =
    record { answer = Done; kind = kind; byte = byte; wait = wait; length = length (line kind byte wait); offset = 0 }

-- What was written reads back as the same transfer, with any text after it.
abbrev pub WrittenReadsBack : Type 0
WrittenReadsBack =
    (kind byte wait : ℕ) (more : List ℕ) → Sayable kind byte wait
    → line_of (line kind byte wait ++ more) ≡ line_read kind byte wait

-- So a buffer into which a line was written reads back as the same transfer, whatever stands after the line.
abbrev pub BufferReadsBack : Type 0
BufferReadsBack =
    (kind byte wait : ℕ) (out : List ℕ) (told : Result ℕ Answer) (after : List ℕ) → byte < 256 → wait ≤ wait_limit
    → Writes (line_writing kind byte wait out) out told after → IsOk told → line_of after ≡ line_read kind byte wait

-- A line that was read is written out the same, byte for byte, into any buffer of at least 16 bytes.
abbrev pub ReadWritesBack : Type 0
ReadWritesBack =
    (text out : List ℕ) → (line_of text).answer ≡ Done → 16 ≤ length out
    → line_writing (line_of text).kind (line_of text).byte (line_of text).wait out ≡ writing (take (line_of text).length text)

-- No line has two readings, and no line is the start of another.
abbrev pub OneReading : Type 0
OneReading =
    (kind byte wait kind' byte' wait' : ℕ) (more more' : List ℕ) → Sayable kind byte wait → Sayable kind' byte' wait'
    → line kind byte wait ++ more ≡ line kind' byte' wait' ++ more'
    → (kind ≡ kind') × (byte ≡ byte') × (wait ≡ wait') × (more ≡ more')

-- What is read is a transfer that a line can say, and its line has 7 to 16 bytes, all of them in the text.
abbrev pub ReadIsSayable : Type 0
ReadIsSayable =
    (text : List ℕ) → (line_of text).answer ≡ Done
    → Sayable (line_of text).kind (line_of text).byte (line_of text).wait
    × (7 ≤ (line_of text).length) × ((line_of text).length ≤ 16) × ((line_of text).length ≤ length text)

-- The rows of the writer: 3, then 11.
unfoldable pub writer_rows : ℕ → ℕ → List ℕ → List Row
writer_rows kind byte out =
    record { number = 3; applies = NoTransfer kind byte } ∷ record { number = 11; applies = length out < 16 } ∷ []

-- Each number is given exactly where its row applies and none before it in the order.
abbrev pub WriterAnswers : Type 0
WriterAnswers =
    (kind byte wait : ℕ) (out : List ℕ) → Tells (number_of (line_writing kind byte wait out).answer) (writer_rows kind byte out)

-- The row of a call for which the buffer must have this size: 11.
unfoldable pub wanting_rows : ℕ → List ℕ → List Row
wanting_rows size out = record { number = 11; applies = length out < size } ∷ []

-- A call that writes a report's row or header gives 11 exactly where the buffer is shorter than wanted.
abbrev pub TextAnswers : Type 0
TextAnswers = (size : ℕ) (text out : List ℕ) → Tells (number_of (wanting size text out).answer) (wanting_rows size out)

-- A line is at most 16 bytes, so that the buffer that the writer wants takes it.
abbrev pub LinesFit : Type 0
LinesFit = (kind byte wait : ℕ) → wait ≤ wait_limit → length (line kind byte wait) ≤ 16

-- No second answer fits: two outcomes that both meet the promise of a writing call are one, and so are the buffers.
abbrev pub OneWriting : Type 0
OneWriting =
    (w : Writing) (out : List ℕ) (a b : Result ℕ Answer) (x y : List ℕ) → Writes w out a x → Writes w out b y → (a ≡ b) × (x ≡ y)

-- And two lines that both are what the reader promises are one.
abbrev pub OneRead : Type 0
OneRead = (text : List ℕ) (a b : Result Line BadLine) → a ≡ told_of (line_of text) → b ≡ told_of (line_of text) → a ≡ b

-- The lines of transfers are read as those transfers, and then what is after them.
abbrev pub SessionReadsBack : Type 0
SessionReadsBack =
    (ts : List Sent) (more : List ℕ) → AllSayable ts
    → session_of (lines_of ts ++ more) ≡ record { sent = ts ++ (session_of more).sent; end = (session_of more).end }

-- A text is no session: there are no transfers whose lines it is.
abbrev pub NoSession : List ℕ → Type 0
NoSession text = (ts : List Sent) → AllSayable ts → text ≡ lines_of ts → ⊥

-- Words of three digits are the numbers 100 to 999 in decimal: each such number is read back and said to be three
-- digits, and no other word says it.
abbrev pub ThreeDigitsRead : Type 0
ThreeDigitsRead =
    ((number : ℕ) → 100 ≤ number → number < 1000
    → (three_digits (decimal number) ≡ number) × (are_three (decimal number) ≡ true))
    × ((word : List ℕ) → 100 ≤ three_digits word → decimal (three_digits word) ≡ word)
