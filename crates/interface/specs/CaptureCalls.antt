-- Captures for C: the answer's number, 256 times the length of the session's text, and every byte of the buffer (request b).
-- Assumes nothing.
use Rattle.std.specs.Prelude.{List, ℕ, ◌+◌, ◌*◌, ◌%◌, length}
use Rattle.controller.specs.Answers.{number_of}
use Rattle.lines.specs.Writing.{Writing, onto}
use Rattle.captures.specs.Import.{importing}
use Rattle.interface.specs.Filling.{Filling}

-- What is told of a text that is written: its length modulo 2^56, which is the length itself in any buffer that a machine has.
abbrev pub far_filling_of : Writing → List ℕ → Filling
far_filling_of w out =
    record { returned = number_of w.answer + 256 * (length w.text % 72057594037927936); buffer = onto w.text out }

-- What `yaropesk_import` comes to.
abbrev pub import_call : List ℕ → List ℕ → Filling
import_call capture out = far_filling_of (importing capture out) out
