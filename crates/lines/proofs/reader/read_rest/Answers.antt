-- `lines::reader::read_rest`: each byte is what `rest_of` has for it, and behind the last one no newline stands.
-- Assumes nothing.
use mathlib.Core.Path.{◌≡◌, sym, ap, ◌∙◌}
use Prim.Native.Nat.{ℕ}
use native.Mathlib.Omega.{arith}
use Rattle.std.specs.Prelude.{Err}
use Rattle.controller.specs.declared.answers.Answer.TheVariants.{NoNewline}
use Rattle.controller.specs.Answers.{is_done}
use Rattle.lines.specs.declared.reader.BadLine.{BadLine}
use Rattle.lines.specs.Reading.{fault}
use Rattle.lines.proofs.Laws.Steps.{follow_digit, is_decimal, no_decimal, rest_none, rest_ends, rest_other, rest_more, rest_stops}
use Rattle.lines.proofs.reader.read_rest.Goals as goal

pub returns-then-byte-eq10 : goal.returns-then-byte-eq10
returns-then-byte-eq10 c =
    let loop = c in
    record {
      rest = sym (rest_ends loop.args.text.now c.loop-place.place c.loop-place.value c.loop-place-test.true c.if-byte-eq10.true)
          ∙ loop.loop-place.invariant.2;
      fault = tt;
    }

pub returns-in_default : goal.returns-in_default
returns-in_default c =
    let loop = c in
    let large = no_decimal _ (sym c.in_default.is ∙ c.decimal_worth.ensures) in
    record {
      rest = ap (λ (b : BadLine). Err b) c.fault.ensures
          ∙ sym
          (rest_other loop.args.text.now c.loop-place.place c.loop-place.value c.loop-place-test.true loop.if-byte-eq10.false large)
          ∙ loop.loop-place.invariant.2;
      fault = ap (λ (b : BadLine). is_done b.answer) c.fault.ensures;
    }

pub returns-then-not-may_follow : goal.returns-then-not-may_follow
returns-then-not-may_follow c =
    let loop = c in
    let digit = is_decimal _ (sym c.in-Some.is ∙ c.decimal_worth.ensures) in
    let stops = sym c.may_follow.ensures ∙ c.if-not-may_follow.true in
    record {
      rest = ap (λ (b : BadLine). Err b) c.fault-then-not-may_follow.ensures
          ∙ sym
          (rest_stops loop.args.text.now c.loop-place.place c.loop-place.value c.loop-place-test.true loop.if-byte-eq10.false
          digit.1 (rw (sym digit.0) at stops))
          ∙ loop.loop-place.invariant.2;
      fault = ap (λ (b : BadLine). is_done b.answer) c.fault-then-not-may_follow.ensures;
    }

pub loop-place-preserved : goal.loop-place-preserved
loop-place-preserved c =
    let loop = c in
    let text = loop.args.text.now in
    let digit = is_decimal _ (sym c.in-Some.is ∙ c.decimal_worth.ensures) in
    let may = rw (sym digit.0) at (sym c.may_follow.ensures ∙ c.if-not-may_follow.false) in (
      omega arith,
      rw (sym digit.0) (follow_digit _ _ may).1,
      rw (sym digit.0) (sym (rest_more text c.loop-place.place c.loop-place.value c.loop-place-test.true loop.if-byte-eq10.false digit.1 may) ∙ loop.loop-place.invariant.2),
    )

pub returns : goal.returns
returns c =
    let loop = c in
    let ends : c.loop-place.place ≡ c.max.result = omega (arith, c.loop-place.invariant.0, c.max.ensures) in
    record {
      rest = ap (λ (b : BadLine). Err b) c.fault-2.ensures
          ∙ ap (λ (place : ℕ). Err (fault NoNewline place)) (sym ends)
          ∙ sym (rest_none loop.args.text.now c.loop-place.place c.loop-place.value c.loop-place-test.false) ∙ loop.loop-place.invariant.2;
      fault = ap (λ (b : BadLine). is_done b.answer) c.fault-2.ensures;
    }
