-- `planner::commands::shift_left` meets its contract: the loop has written as many commands as it counted.
-- Assumes nothing.
use Rattle.planner.proofs.Laws.Written.{wrote_none, wrote_append}
use Rattle.planner.specs.Plan.{instruction}
use native.Mathlib.Omega.{arith}
use lib.ListN.{length-replicate, replicate-append-replicate}
use mathlib.Core.Path.{◌≡◌}
use Rattle.planner.proofs.commands.shift_left.Goals as goal

pub loop-init : goal.loop-init
loop-init c = wrote_none _ _

pub send-requires : goal.send-requires
send-requires c = omega (arith, c.loop.invariant.at, length-replicate c.loop.counter (instruction 0x18))

pub loop-preserved : goal.loop-preserved
loop-preserved c =
    rw (← (replicate-append-replicate c.loop.counter 1 (instruction 0x18))) (wrote_append c.loop.invariant c.send.ensures)

pub returns : goal.returns
returns c =
    let all : c.loop.counter ≡ c.args.shift = omega arith in
    rw (← all) c.loop.invariant
