-- `captures::form::pass_stamp` meets its contract: where stamps come, one leaves us in the phase. Assumes nothing.
use Rattle.std.proofs.Common.{sym, ◌∙◌, ap, eqb-true}
use Rattle.std.specs.Option.{is_some}
use Rattle.captures.specs.Form.{asked}
use Rattle.captures.proofs.Laws.Form.{past_stamp, stamp_some}
use Rattle.captures.proofs.form.pass_stamp.Goals as goal

pub returns-then-is_whole : goal.returns-then-is_whole
returns-then-is_whole c =
    past_stamp c.args.phase c.args.word.now (eqb-true (asked c.args.phase) 3 (sym c.is_whole.ensures ∙ c.if-is_whole.true))
    (stamp_some c.args.word.now (sym (ap is_some c.requires) ∙ sym c.is_some.ensures ∙ c.if-is_some.true))
