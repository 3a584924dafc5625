-- `lines::writer::write_row` meets its contract: a buffer of 42 bytes takes any row.
-- Assumes nothing.
use Rattle.lines.specs.Writing.{wanting}
use Rattle.lines.specs.ReportText.{row}
use mathlib.Core.Path.{refl, ◌∙◌}
use native.Mathlib.Omega.{arith}
use Rattle.lines.proofs.Laws.Buffer.{sets_onto}
use Rattle.lines.proofs.Laws.Lengths.{row_fits}
use borrow.Author.Tests.{lt-ltb, le-ltb}
use borrow.Author.Rules.{rules}
use Rattle.lines.proofs.writer.write_row.Goals as goal

pub returns-then-out-lt42 : goal.returns-then-out-lt42
unfolding wanting
returns-then-out-lt42 c = simp (lt-ltb _ _ c.if-out-lt42.true) (search rules)

pub returns : goal.returns
unfolding wanting
returns c =
    let put = c in
    let long = put in
    let start = long in
    let fits = row_fits start.args.number start.args.answer start.args.byte start.args.busy (omega arith) (omega arith) (omega arith) in
    simp (le-ltb _ _ long.if-out-lt42.false)
    (record {
      told = simp put.put_row.ensures.0;
      number = refl;
      buffer =
          put.put_row.ensures.1
          ∙ sets_onto (row start.args.number start.args.answer start.args.byte start.args.busy) start.args.out.now (omega arith);
    })
