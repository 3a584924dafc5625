-- `interface::plan_calls::refuse_wish` meets its contract: the marks are asked for their length, then the values; else there is
-- no wish.
-- Assumes nothing.
use Rattle.interface.specs.PlanCalls.{wishless}
use mathlib.Core.Path.{sym, ◌∙◌}
use Rattle.interface.proofs.plan_calls.refuse_wish.Goals as goal

pub returns-then-not-is_whole : goal.returns-then-not-is_whole
unfolding wishless
returns-then-not-is_whole c = simp (c.refused.ensures, sym c.is_whole.ensures ∙ c.if-not-is_whole.true)

pub returns-then-not-is_whole-2 : goal.returns-then-not-is_whole-2
unfolding wishless
returns-then-not-is_whole-2 c = simp (c.refused-then-not-is_whole-2.ensures, sym c.is_whole-2.ensures ∙ c.if-not-is_whole-2.true, sym c.is_whole.ensures ∙ c.if-not-is_whole.false)

pub returns : goal.returns
unfolding wishless
returns c = simp (c.refused-2.ensures, sym c.is_whole-2.ensures ∙ c.if-not-is_whole-2.false, sym c.is_whole.ensures ∙ c.if-not-is_whole.false)
