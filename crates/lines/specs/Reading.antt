-- Reading the line at the start of a text from the left, field by field: kind, byte, wait, ending. The first byte that cannot
-- stand is its fault (document 01, "Session lines"; document 02, c).
-- Assumes nothing.
use Rattle.std.specs.Prelude.{Bool, cond, not, ◌&&◌, ◌||◌, List, [], ◌∷◌, ℕ, ◌+◌, ◌*◌, ltb, leb, eqb, get_or, drop, Result, Ok}
use Rattle.std.specs.Prelude.{Err}
use Rattle.controller.specs.declared.answers.Answer.{Answer}
use Rattle.controller.specs.declared.answers.Answer.TheVariants.{Done, BadKind, BadByte, BadWait, NoNewline}
use Rattle.controller.specs.declared.sent.Sent.{Sent}
use Rattle.controller.specs.Answers.{is_done}
use Rattle.lines.specs.declared.reader.BadLine.{BadLine}
use Rattle.lines.specs.declared.reader.Line.{Line}
use Rattle.lines.specs.Digits.{tab, newline, worth_of}
use Rattle.lines.specs.Line.{kind_of, wait_limit}

-- What reading the start of a text comes to: the answer, the transfer and the line's length. A refusal has zeros for all of that,
-- and the offset of the first byte that cannot stand, or the text's length where it ends early.
pub record Reading : Type 0 where
  pub answer : Answer
  pub kind : ℕ
  pub byte : ℕ
  pub wait : ℕ
  pub length : ℕ
  pub offset : ℕ

-- A fault: the answer, and the place of the first byte that cannot stand.
abbrev pub fault : Answer → ℕ → BadLine
fault answer place = record { answer = answer; offset = place }

-- A wait as it was read, with the length of the line that it ends, or its fault.
abbrev pub WaitRead : Type 0
WaitRead = Result (ℕ × ℕ) BadLine

-- The transfer that a line says.
abbrev pub sent_of : Reading → Sent
sent_of r = record { kind = r.kind; byte = r.byte; wait = r.wait }

-- What the caller is told of a reading: the line, or its fault.
abbrev pub told_of : Reading → Result Line BadLine
told_of r = cond (is_done r.answer) (Ok (record { sent = sent_of r; length = r.length })) (Err (fault r.answer r.offset))

-- The byte at a place of the text. Past the end there is 00h, which can stand nowhere in a line: where a text ends early, its
-- length is the place of the fault.
unfoldable pub text_at : List ℕ → ℕ → ℕ
text_at text place = get_or text place 0

-- The kind: its letter, and its tab. Its faults are 16.
unfoldable pub kind_read : List ℕ → Result ℕ BadLine
kind_read text =
    cond (ltb 3 (kind_of (text_at text 0))) (Err (fault BadKind 0))
    (cond (not (eqb (text_at text 1) tab)) (Err (fault BadKind 1)) (Ok (kind_of (text_at text 0))))

-- A digit of this worth may stand in the byte of this kind: any hex digit, and for `S` and `R` only 0.
unfoldable pub digit_stands : ℕ → ℕ → Bool
digit_stands kind worth = ltb worth 16 && (ltb kind 2 || eqb worth 0)

-- One of the byte's two digits, at its place.
abbrev pub digit_read : ℕ → List ℕ → ℕ → Result ℕ BadLine
digit_read kind text place =
    cond (digit_stands kind (worth_of (text_at text place))) (Ok (worth_of (text_at text place))) (Err (fault BadByte place))

-- The byte: its two digits, and its tab. Its faults are 17.
unfoldable pub byte_read : ℕ → List ℕ → Result ℕ BadLine
byte_read kind text =
    cond (not (digit_stands kind (worth_of (text_at text 2)))) (Err (fault BadByte 2))
    (cond (not (digit_stands kind (worth_of (text_at text 3)))) (Err (fault BadByte 3))
    (cond (not (eqb (text_at text 4) tab)) (Err (fault BadByte 4))
    (Ok (worth_of (text_at text 2) * 16 + worth_of (text_at text 3)))))

-- A digit may follow digits of this value: not after a leading zero, and not past the limit.
unfoldable pub may_follow : ℕ → ℕ → Bool
may_follow value worth = ltb 0 value && leb (value * 10 + worth) wait_limit

-- The rest of a wait whose digits so far have this value; `place` is where the rest stands in the line. A newline ends the line;
-- any other byte that is no digit is 19, and so is the end of the text; a digit that may not follow is 18.
unfoldable pub rest_of : ℕ → ℕ → List ℕ → WaitRead
rest_of place value [] = Err (fault NoNewline place)
rest_of place value (byte ∷ rest) =
    cond (eqb byte newline) (Ok (value, place + 1))
    (cond (ltb 9 (worth_of byte)) (Err (fault NoNewline place))
    (cond (may_follow value (worth_of byte)) (rest_of (place + 1) (value * 10 + worth_of byte) rest) (Err (fault BadWait place))))

-- The wait, with the line's length: a first digit, without which it is 18, and its rest.
unfoldable pub wait_of : List ℕ → WaitRead
wait_of text =
    cond (ltb 9 (worth_of (text_at text 5))) (Err (fault BadWait 5)) (rest_of 6 (worth_of (text_at text 5)) (drop 6 text))

-- A line that is refused: the answer, the place of the fault, and zeros for the rest.
abbrev pub refused_line : Answer → ℕ → Reading
refused_line answer place = record { answer = answer; kind = 0; byte = 0; wait = 0; length = 0; offset = place }

-- A line with this kind and byte, and the wait and the length that were read.
unfoldable pub with_wait : ℕ → ℕ → WaitRead → Reading
with_wait kind byte (Err bad) = refused_line bad.answer bad.offset
with_wait kind byte (Ok (wait, length)) =
    record { answer = Done; kind = kind; byte = byte; wait = wait; length = length; offset = 0 }

-- A line of this kind, with its byte read.
unfoldable pub with_byte : ℕ → Result ℕ BadLine → List ℕ → Reading
with_byte kind (Err bad) text = refused_line bad.answer bad.offset
with_byte kind (Ok byte) text = with_wait kind byte (wait_of text)

-- A line with its kind read.
unfoldable pub with_kind : Result ℕ BadLine → List ℕ → Reading
with_kind (Err bad) text = refused_line bad.answer bad.offset
with_kind (Ok kind) text = with_byte kind (byte_read kind text) text

-- The line at the start of the text, or its first fault from the left.
unfoldable pub line_of : List ℕ → Reading
line_of text = with_kind (kind_read text) text
