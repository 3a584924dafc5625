-- `captures::form::stamp_of` meets its contract: an empty word says none. Assumes nothing.
use Rattle.std.proofs.Common.{◌∙◌}
use Rattle.captures.proofs.Laws.Form.{stamp_none}
use Rattle.captures.proofs.form.stamp_of.Goals as goal

pub returns-in_err-first : goal.returns-in_err-first
returns-in_err-first c = c.from_residual.ensures ∙ stamp_none c.args.word.now c.in_err-first.ensures.cases
