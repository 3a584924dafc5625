-- `captures::form::number_of` meets its contract: a digit that ends the number, one that does not, and no more digits. Assumes nothing.
use Rattle.std.proofs.Common.{sym, ◌∙◌}
use Rattle.captures.proofs.Laws.Form.{number_all, number_next, number_none}
use Rattle.captures.proofs.form.number_of.Goals as goal

pub returns-in_err-value : goal.returns-in_err-value
returns-in_err-value c =
    c.from_residual.ensures ∙ number_none c.args.digits.now _ _ c.loop-byte-test.true (sym c.in_err-value.was ∙ c.with_digit.ensures) c.loop-byte.invariant.1

pub loop-byte-preserved : goal.loop-byte-preserved
loop-byte-preserved c =
    number_next c.args.digits.now _ _ _ c.loop-byte-test.true (sym c.in_ok-value.was ∙ c.with_digit.ensures) c.loop-byte.invariant.1

pub returns : goal.returns
returns c = number_all c.args.digits.now _ _ c.loop-byte-test.false c.loop-byte.invariant.0 c.loop-byte.invariant.1
