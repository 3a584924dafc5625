-- `player::walk::tell` meets its contract: without rows nothing is written; with them the row is, which fits since its
-- number, its answer and its busy time are machine numbers. Assumes nothing.
use native.Mathlib.Omega.{arith}
use Rattle.player.proofs.Laws.Walk.{tells_nothing, tells_row}
use Rattle.player.proofs.walk.tell.Goals as goal

pub returns-then-not-rows : goal.returns-then-not-rows
returns-then-not-rows c = tells_nothing (c.if-not-rows.true)

pub overflow_add-result : goal.overflow_add-result
overflow_add-result c =
    let write = c in
    let begin = write in
    let told =
    tells_row {rows = begin.args.rows} {out = begin.args.out.now} begin.args.answer begin.args.byte (omega arith) (omega arith)
    (write.if-not-rows.false) write.number.ensures begin.requires write.write_row.ensures in
    omega (arith, told.small, begin.requires)

pub returns : goal.returns
returns c =
    rw c.unwrap_or.ensures
    (tells_row c.args.answer c.args.byte (omega arith) (omega arith) c.if-not-rows.false c.number.ensures c.requires c.write_row.ensures)
