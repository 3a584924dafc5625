-- `lines::writer::write_header` meets its contract: a buffer of 20 bytes takes the header's text whole.
-- Assumes nothing.
use mathlib.Core.Path.{refl, ap, ◌∙◌}
use native.Mathlib.Omega.{arith}
use Rattle.std.specs.Prelude.{Ok}
use Rattle.lines.specs.Text.{Put}
use Rattle.lines.proofs.Laws.Buffer.{put_whole, sets_onto}
use Rattle.lines.specs.Writing.{wanting}
use Rattle.lines.specs.ReportText.{header}
use borrow.Author.Tests.{lt-ltb, le-ltb}
use borrow.Author.Rules.{rules}
use Rattle.lines.proofs.writer.write_header.Goals as goal

pub returns-then-out-lt20 : goal.returns-then-out-lt20
unfolding wanting
returns-then-out-lt20 c = simp (lt-ltb _ _ c.if-out-lt20.true) (search rules)

pub returns : goal.returns
unfolding wanting header
returns c =
    let call = c in
    let asked = call in
    let out = asked.args.out.now in
    let enough = asked.if-out-lt20.false in
    let done = call.put_text.ensures ∙ put_whole 0 out header (omega arith) in
    simp (le-ltb _ _ enough)
    (record {
      told = ap (λ (p : Put). Ok p.at) done;
      number = refl;
      buffer = ap (λ (p : Put). p.out) done ∙ sets_onto header out (omega arith);
    })
