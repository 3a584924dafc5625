-- What each public function promises: the one predicate that its contract cites.
-- Assumes nothing.
use Rattle.std.specs.Prelude.{List, [], ◌∷◌, ◌≡◌, ℕ, take, cond, Option, Some, None, Result}
use Rattle.controller.specs.declared.answers.Answer.{Answer}
use Rattle.lines.specs.declared.reader.BadLine.{BadLine}
use Rattle.lines.specs.declared.reader.Line.{Line}
use Rattle.lines.specs.Digits.{decimal, digit, hex_pair, are_three, three_digits, worth_in}
use Rattle.lines.specs.Reading.{line_of, told_of}
use Rattle.lines.specs.ReportText.{header, row, row_size}
use Rattle.lines.specs.Text.{put, putting}
use Rattle.lines.specs.Words.{answer_words}
use Rattle.lines.specs.Writing.{Writes, line_writing, wanting}

-- `read_line`: the line at the start of the text, or its fault.
abbrev pub ReadLinePromise : List ℕ → Result Line BadLine → Type 0
ReadLinePromise text returned = returned ≡ told_of (line_of text)

-- `write_line`: the line's length or the refusal, and every byte of the buffer.
abbrev pub WriteLinePromise : ℕ → ℕ → ℕ → List ℕ → Result ℕ Answer → List ℕ → Type 0
WriteLinePromise kind byte wait out returned after = Writes (line_writing kind byte wait out) out returned after

-- `write_row`: the row's length or the refusal, and every byte of the buffer, which must have 42.
abbrev pub WriteRowPromise : ℕ → ℕ → ℕ → ℕ → List ℕ → Result ℕ Answer → List ℕ → Type 0
WriteRowPromise number answer byte busy out returned after =
    Writes (wanting row_size (row number answer byte busy) out) out returned after

-- `write_header`: the header's length or the refusal, and every byte of the buffer, which must have 20.
abbrev pub WriteHeaderPromise : List ℕ → Result ℕ Answer → List ℕ → Type 0
WriteHeaderPromise out returned after = Writes (wanting 20 header out) out returned after

-- `hex_digit`: the last hex digit of the number.
abbrev pub HexDigitPromise : ℕ → ℕ → Type 0
HexDigitPromise number returned = returned ≡ digit number

-- `worth_of`: what the byte is worth as an upper-case hex digit, and nothing where it is none.
abbrev pub WorthOfPromise : ℕ → Option ℕ → Type 0
WorthOfPromise byte returned = returned ≡ worth_in byte

-- `three_digits`: the number that the word's three decimal digits say, and nothing for any other word.
abbrev pub ThreeDigitsPromise : List ℕ → Option ℕ → Type 0
ThreeDigitsPromise word returned = returned ≡ cond (are_three word) (Some (three_digits word)) None

-- `put_text`: what of the text fits stands from the place on, every other byte is as it was, and the place after it is returned.
abbrev pub PutTextPromise : List ℕ → ℕ → List ℕ → ℕ → List ℕ → Type 0
PutTextPromise out at text returned after = put returned after ≡ putting (put at out) text

-- `put_byte`: as `put_text`, of one byte.
abbrev pub PutBytePromise : List ℕ → ℕ → ℕ → ℕ → List ℕ → Type 0
PutBytePromise out at byte returned after = put returned after ≡ putting (put at out) (byte ∷ [])

-- `put_number`: as `put_text`, of the number in decimal.
abbrev pub PutNumberPromise : List ℕ → ℕ → ℕ → ℕ → List ℕ → Type 0
PutNumberPromise out at number returned after = put returned after ≡ putting (put at out) (decimal number)

-- `put_hex`: as `put_text`, of the byte as two hex digits.
abbrev pub PutHexPromise : List ℕ → ℕ → ℕ → ℕ → List ℕ → Type 0
PutHexPromise out at byte returned after = put returned after ≡ putting (put at out) (hex_pair byte)

-- `put_answer`: as `put_text`, of the answer's words.
abbrev pub PutAnswerPromise : List ℕ → ℕ → Answer → ℕ → List ℕ → Type 0
PutAnswerPromise out at answer returned after = put returned after ≡ putting (put at out) (answer_words answer)

-- `first`: the first bytes, so many, or all where there are fewer.
abbrev pub FirstPromise : List ℕ → ℕ → List ℕ → Type 0
FirstPromise bytes count returned = returned ≡ take count bytes

-- `words_of`: the answer's words.
abbrev pub WordsOfPromise : Answer → List ℕ → Type 0
WordsOfPromise answer returned = returned ≡ answer_words answer
