-- `captures::made::walk` meets its contract: a bad line, one that stands, and the end of the text. Assumes nothing.
use Rattle.std.proofs.Common.{◌≡◌, ◌<◌, ℕ, Result, Ok, Err, length, length-drop, sym, refl, ap, ◌∙◌, subst, rules, arith, eqb-true}
use Rattle.controller.specs.declared.answers.Answer.{Answer}
use Rattle.lines.specs.declared.reader.BadLine.{BadLine}
use Rattle.captures.specs.MadeWalk.{Captured}
use Rattle.captures.proofs.Laws.MadeWalk.{captured, line_goes, line_stops, line_within, text_over}
use Rattle.captures.proofs.made.walk.Goals as goal

pub returns-in_err-line : goal.returns-in_err-line
returns-in_err-line c =
    let loop = c.loop-rest in
    let some : 0 < length loop.rest.now = search rules in
    let bad : (b : BadLine) × (c.read_line.result ≡ Err b) × (c.in_err-line.field-0.0 ≡ b.answer) = search rules in
    let stops = line_stops _ _ _ _ _ loop.invariant.1 some (sym bad.1 ∙ c.read_line.ensures) in
    let gone : c.from_residual.result ≡ Err c.in_err-line.field-0.0 = search rules in
    subst (λ (r : Result ℕ Answer). Captured c.args.session.now c.args.out.now r loop.out) (sym (gone ∙ ap Err bad.2)) stops

pub loop-rest-smaller : goal.loop-rest-smaller
loop-rest-smaller c =
    let loop = c.loop-rest in
    let some : 0 < length loop.rest.now = search rules in
    let good : c.read_line.result ≡ Ok c.in_ok-line.line = search rules in
    let within = line_within _ _ _ _ _ loop.invariant.1 some (sym good ∙ c.read_line.ensures) in
    rw c.behind-rest.ensures (omega (arith, length-drop c.in_ok-line.line.length loop.rest.now, within.0, within.1))

pub loop-rest-preserved : goal.loop-rest-preserved
loop-rest-preserved c =
    let loop = c.loop-rest in
    let some : 0 < length loop.rest.now = search rules in
    let good : c.read_line.result ≡ Ok c.in_ok-line.line = search rules in
    let pulse = c.put_pulse.ensures in (
      c.put_pulse.auto.out ∙ loop.invariant.0,
      rw c.behind-rest.ensures
          (line_goes _ _ _ _ _ loop.invariant.1 some (sym good ∙ c.read_line.ensures) refl pulse.0 pulse.2 c.add_up-length.ensures),
    )

pub returns : goal.returns
returns c =
    let loop = c.loop-rest in
    let head = c.put_header-length.ensures in
    let over = text_over loop.invariant.1 (eqb-true _ _ (sym c.is_empty.ensures ∙ c.loop-rest-test.false)) in
    (over.0, captured c.args.session.now c.args.out.now head.0 head.1 over.1)
