-- `lines::writer::write_line` meets its contract: the refusals come in the order of `line_writing`, and a line fits into 16 bytes.
-- Assumes nothing.
use native.Mathlib.Omega.{arith}
use Rattle.lines.specs.Line.{line}
use Rattle.lines.specs.Writing.{line_writing, wanting}
use Rattle.lines.proofs.Laws.Buffer.{sets_onto}
use Rattle.lines.proofs.Laws.Lengths.{line_fits}
use borrow.Author.Tests.{lt-ltb, le-ltb}
use mathlib.Core.Path.{refl, sym, ◌∙◌}
use borrow.Author.Rules.{rules}
use Rattle.lines.proofs.writer.write_line.Goals as goal

pub returns-then-is_bad : goal.returns-then-is_bad
unfolding line_writing
returns-then-is_bad c = simp (sym c.is_bad.ensures ∙ c.if-is_bad.true) (search rules)

pub returns-then-out-lt16 : goal.returns-then-out-lt16
unfolding line_writing wanting
returns-then-out-lt16 c = simp (lt-ltb _ _ c.if-out-lt16.true, sym c.is_bad.ensures ∙ c.if-is_bad.false) (search rules)

pub returns : goal.returns
unfolding line_writing wanting
returns c =
    let put = c in
    let long = put in
    let start = long in
    let fits = line_fits start.args.kind start.args.byte start.args.wait (omega arith) in
    simp (le-ltb _ _ long.if-out-lt16.false, sym long.is_bad.ensures ∙ long.if-is_bad.false)
    (record {
      told = simp put.put_line.ensures.0;
      number = refl;
      buffer = put.put_line.ensures.1 ∙ sets_onto (line start.args.kind start.args.byte start.args.wait) start.args.out.now (omega arith);
    })
