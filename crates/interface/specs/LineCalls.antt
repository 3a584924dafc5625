-- Session lines for C: the answer's number, 256 times the line's length, 65,536 times the offset of a line's fault, and every
-- byte of the buffer.
-- Assumes nothing.
use Rattle.std.specs.Prelude.{cond, not, List, ℕ, ◌+◌, ◌*◌, ltb, length}
use Rattle.controller.specs.declared.answers.Answer.TheVariants.{OutputShort}
use Rattle.controller.specs.Answers.{is_done, number_of}
use Rattle.lines.specs.declared.reader.Line.{Line}
use Rattle.lines.specs.Reading.{Reading, line_of, sent_of}
use Rattle.lines.specs.Writing.{Writing, line_writing, onto}
use Rattle.controller.specs.Sent.{six_bytes}
use Rattle.interface.specs.Filling.{Filling, declined}

-- The call of a text that is written.
abbrev pub filling_of : Writing → List ℕ → Filling
filling_of w out = record { returned = number_of w.answer + 256 * length w.text; buffer = onto w.text out }

-- What `yaropesk_write_line` comes to.
abbrev pub write_call : ℕ → ℕ → ℕ → List ℕ → Filling
write_call kind byte wait out = filling_of (line_writing kind byte wait out) out

-- The transfer of a line as six bytes: kind, byte, wait little-endian.
abbrev pub six_of : Reading → List ℕ
six_of line = six_bytes (sent_of line)

-- What is told of a line: the answer's number, 256 times its length, 0 where it is refused, and 65,536 times the offset of its
-- fault, 0 where it is read.
abbrev pub line_told : Reading → ℕ
line_told line = number_of line.answer + 256 * line.length + 65536 * line.offset

-- A line that was read, the refusals in their order: the reader's own, then 11. Six bytes are wanted.
unfoldable pub stored : Reading → List ℕ → Filling
stored line out =
    cond (not (is_done line.answer)) (record { returned = line_told line; buffer = out })
    (cond (ltb (length out) 6) (declined OutputShort out) (record { returned = line_told line; buffer = onto (six_of line) out }))

-- What `yaropesk_read_line` comes to.
abbrev pub read_call : List ℕ → List ℕ → Filling
read_call text out = stored (line_of text) out

-- What storing a line comes to: 11, or its length and its six bytes.
unfoldable pub stored_line : Line → List ℕ → Filling
stored_line line out =
    cond (ltb (length out) 6) (declined OutputShort out)
    (record { returned = 256 * line.length; buffer = onto (six_bytes line.sent) out })
