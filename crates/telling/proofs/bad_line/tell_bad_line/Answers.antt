-- `telling::bad_line::tell_bad_line`: an offset is at most 15, so that its column can be told. Assumes nothing.
use Rattle.std.proofs.Common.{◌≡◌, ℕ, ◌≤◌, List, Err, refl, sym, ◌∙◌, arith}
use Rattle.lines.specs.declared.reader.BadLine.{BadLine}
use Rattle.lines.specs.Reading.{line_of, told_of}
use Rattle.lines.proofs.Laws.Told.{told_fault}
use Rattle.lines.proofs.Theorems.Read.{offset_told}
use Rattle.telling.proofs.bad_line.tell_bad_line.Goals as goal

few : (bad : BadLine) (text : List ℕ) → Err bad ≡ told_of (line_of text) → bad.offset ≤ 15
few bad text told = omega (arith, (told_fault (line_of text) told).2, offset_told (line_of text) text refl)

pub overflow_add-column : goal.overflow_add-column
overflow_add-column g c = omega (arith, few c.in-Err.bad _ (sym c.in-Err.is ∙ c.read_line.ensures))
