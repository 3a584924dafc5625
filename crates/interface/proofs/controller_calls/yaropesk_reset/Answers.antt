-- `interface::controller_calls::yaropesk_reset` meets its contract: a record of another length is told 1, then a memory of
-- another length 2; else 24 bytes are reset.
-- Assumes nothing.
use Rattle.interface.specs.ControllerCalls.{reset_call}
use borrow.Author.Tests.{eqb-true}
use mathlib.Core.Path.{sym, ◌∙◌}
use borrow.Author.Rules.{rules}
use Rattle.interface.proofs.controller_calls.yaropesk_reset.Goals as goal

pub returns-then-not-is_record_long : goal.returns-then-not-is_record_long
unfolding reset_call
returns-then-not-is_record_long c = simp (c.refused.ensures, sym c.is_record_long.ensures ∙ c.if-not-is_record_long.true) (search rules)

pub returns-then-not-is_whole : goal.returns-then-not-is_whole
unfolding reset_call
returns-then-not-is_whole c = simp (c.refused-then-not-is_whole.ensures, sym c.is_whole.ensures ∙ c.if-not-is_whole.true, sym c.is_record_long.ensures ∙ c.if-not-is_record_long.false) (search rules)

pub reset_from-requires : goal.reset_from-requires
reset_from-requires c = eqb-true _ 24 (sym c.is_record_long.ensures ∙ c.if-not-is_record_long.false)

pub returns : goal.returns
unfolding reset_call
returns c = simp (sym c.is_whole.ensures ∙ c.if-not-is_whole.false, sym c.is_record_long.ensures ∙ c.if-not-is_record_long.false) (search rules)
