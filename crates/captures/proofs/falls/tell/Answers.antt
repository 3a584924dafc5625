-- `captures::falls::tell` meets its contract: a fall is never a bad transfer, and is told from its parts. Assumes nothing.
use Rattle.std.proofs.Common.{◌≡◌, ◌||◌}
use Rattle.captures.specs.Form.{numbers_of}
use Rattle.captures.specs.Import.{unknown_at}
use Rattle.captures.specs.Walk.{tally_in}
use Rattle.captures.proofs.Laws.Tally.{fall_good, tell_is}
use Rattle.captures.proofs.falls.tell.Goals as goal
use Rattle.captures.proofs.falls.tell.Goals.{then-tally, else-tally}

pub put_line-length-requires : goal.put_line-length-requires
put_line-length-requires c = rw (c.kind_of.ensures, c.byte_of.ensures) (fall_good (numbers_of c.args.levels.now))

pub returns : goal.returns
returns c =
    let unknown : c.if-tally.result ≡ c.args.tally.unknown || unknown_at (numbers_of c.args.levels.now) =
    elim c.if-tally.branch [
      | then-tally w ↦ simp (w.result-is, w.if-tally.true)
      | else-tally w ↦ simp (w.result-is, w.if-tally.false, w.unknown_at.ensures)
    ] in
    let line = c.put_line-length.ensures in
    tell_is c.args.stamp _ (tally_in c.args.tally) c.args.out.now _ _ _ _ _ _ _ c.kind_of.ensures c.byte_of.ensures c.wait_of.ensures line.0 line.2 unknown c.add_up.ensures
