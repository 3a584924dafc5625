-- `interface::plan_calls::plan_for` meets its contract: a plan is at most 468 records, so that their count can be told.
-- Assumes nothing.
use Rattle.interface.proofs.Laws.Plans.{count_bound, planned_fills}
use Rattle.interface.proofs.plan_calls.plan_for.Goals as goal

pub counted-requires : goal.counted-requires
counted-requires c = count_bound _ _ _ _ _ c.plan.ensures

pub returns : goal.returns
returns c = planned_fills _ _ _ _ _ c.plan.ensures c.counted.ensures
