-- `interface::record_bytes::are_same`: the test of each byte tells whether all are the same.
-- Assumes nothing.
use Rattle.std.proofs.Common.{refl, sym, ◌∙◌, add-one, arith}
use Rattle.interface.proofs.Laws.Same.{same_next, same_not, same_end}
use Rattle.interface.proofs.record_bytes.are_same.Goals as goal

pub loop-at-init : goal.loop-at-init
loop-at-init g c = refl

pub returns-then-bytes-at : goal.returns-then-bytes-at
returns-then-bytes-at g c =
    let bytes = c.args.bytes.now in
    let own = c.args.own.now in
    let at = c.loop-at.at in
    sym (sym c.loop-at.invariant ∙ same_not bytes own at (omega (arith, c.told-bytes, c.loop-at-test.true)) (omega (arith, c.told-own, c.loop-at-test.true)) c.if-bytes-at.true)

pub loop-at-preserved : goal.loop-at-preserved
loop-at-preserved g c =
    let bytes = c.args.bytes.now in
    let own = c.args.own.now in
    let at = c.loop-at.at in
    rw add-one (same_next bytes own at (omega (arith, c.told-bytes, c.loop-at-test.true)) (omega (arith, c.told-own, c.loop-at-test.true)) c.if-bytes-at.false ∙ c.loop-at.invariant)

pub returns : goal.returns
returns g c =
    let bytes = c.args.bytes.now in
    let own = c.args.own.now in
    sym (sym c.loop-at.invariant ∙ same_end bytes own c.loop-at.at (omega (arith, c.told-bytes, c.loop-at-test.false)) (omega (arith, c.told-own, c.loop-at-test.false)))
