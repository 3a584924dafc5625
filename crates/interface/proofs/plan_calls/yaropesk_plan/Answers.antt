-- `interface::plan_calls::yaropesk_plan` meets its contract: bytes that say no wish are refused, and else the plan is for the wish
-- that they say.
-- Assumes nothing.
use Rattle.interface.proofs.Laws.Plans.{wishless_fills, wished_fills}
use mathlib.Core.Path.{sym, ◌∙◌}
use Rattle.interface.proofs.plan_calls.yaropesk_plan.Goals as goal

pub returns-in-None : goal.returns-in-None
returns-in-None c = wishless_fills _ _ _ _ (sym c.read_wish.ensures ∙ c.in-None.is) c.refuse_wish.ensures

pub returns-in-Some : goal.returns-in-Some
returns-in-Some c =
    let read = c in
    wished_fills _ _ _ _ _ (sym read.read_wish.ensures ∙ read.in-Some.is) c.plan_for.ensures
