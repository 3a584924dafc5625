-- `planner::call::plan` meets its contract: the refusals come in the order of `reply_to`, and the part of the buffer that is
-- written is its start.
-- Assumes nothing.
use Rattle.controller.specs.Bus.{whole}
use Rattle.planner.specs.Call.{reply_to, laid_out, wanted}
use Rattle.planner.specs.Plan.{encoded}
use borrow.Author.Rules.{rules}
use mathlib.Core.Path.{sym, ◌∙◌}
use Rattle.planner.proofs.Laws.Reply.{returns_plan}
use Rattle.planner.proofs.call.plan.Goals as goal

pub returns-in_default : goal.returns-in_default
unfolding reply_to whole laid_out encoded
returns-in_default c = record { told = search rules; buffer = search rules; plans = record { told = search rules; number = search rules; buffer = search rules } }

pub returns-in_default-try_from : goal.returns-in_default-try_from
unfolding reply_to whole laid_out encoded
returns-in_default-try_from c = record { told = search rules; buffer = search rules; plans = record { told = search rules; number = search rules; buffer = search rules } }

pub returns-then-not-is_wish : goal.returns-then-not-is_wish
unfolding reply_to whole laid_out encoded
returns-then-not-is_wish c = record { told = search rules; buffer = search rules; plans = record { told = search rules; number = search rules; buffer = search rules } }

pub returns-in_default-first_chunk_mut : goal.returns-in_default-first_chunk_mut
unfolding reply_to whole laid_out encoded wanted
returns-in_default-first_chunk_mut c = record { told = search rules; buffer = search rules; plans = record { told = search rules; number = search rules; buffer = search rules } }

pub returns : goal.returns
returns c =
    let wished = sym c.is_wish.ensures ∙ c.if-not-is_wish.false in
    returns_plan c.args.wish c.args.marks.now c.args.values.now c.args.out.now
    (rw c.in-Ok.is at c.try_from.ensures).1 (rw c.in-Ok-try_from.is at c.try_from-2.ensures).1 wished
    (rw c.in-Some.is at c.first_chunk_mut.ensures.cases) (simp c.write_plan.ensures.0) c.write_plan.ensures.1
