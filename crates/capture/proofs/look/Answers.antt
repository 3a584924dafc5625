-- `capture::look`: a line that stands has at least 7 bytes, all of them in the text. Assumes nothing.
use Rattle.std.proofs.Common.{◌≡◌, ◌≤◌, List, ℕ, Ok, length, sym, ◌∙◌, arith}
use Rattle.lines.specs.declared.reader.Line.{Line}
use Rattle.lines.specs.Reading.{line_of, told_of}
use Rattle.lines.proofs.Laws.Session.{line_long}
use Rattle.lines.proofs.Laws.Told.{told_line}
use Rattle.capture.proofs.look.Goals as goal

-- the bytes of a line that was read
inside : (text : List ℕ) (line : Line) → Ok line ≡ told_of (line_of text) → (7 ≤ line.length) × (line.length ≤ length text)
inside text line read =
    let told = told_line (line_of text) read in
    let long = line_long text told.0 in
    (omega (arith, told.2, long.0), omega (arith, told.2, long.1))

pub overflow_add-from : goal.overflow_add-from
overflow_add-from c =
    let bytes = inside _ _ (sym c.in-Ok.is ∙ c.read_line.ensures) in
    omega (arith, bytes, c.loop-line.invariant)

pub loop-line-smaller : goal.loop-line-smaller
loop-line-smaller c =
    let bytes = inside _ _ (sym c.in-Ok.is ∙ c.read_line.ensures) in
    omega (arith, bytes, c.loop-line.invariant)

pub loop-line-preserved : goal.loop-line-preserved
loop-line-preserved c =
    let bytes = inside _ _ (sym c.in-Ok.is ∙ c.read_line.ensures) in
    (omega arith, c.counted-close.ensures, omega (arith, bytes, c.loop-line.invariant), omega (arith, bytes, c.loop-line.invariant), omega (arith, c.loop-line.invariant))
