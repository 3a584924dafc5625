-- `interface::line_calls::yaropesk_write_line` meets its contract: a line is at most 16 bytes, so that its length can be told.
-- Assumes nothing.
use Rattle.interface.proofs.Laws.Fillings.{told_short, written_fills}
use Rattle.lines.specs.Line.{wait_limit}
use Rattle.lines.proofs.Laws.Nothing.{writer_nothing}
use native.Mathlib.Omega.{arith}
use Prim.Native.Nat.{◌≤◌}
use Rattle.interface.proofs.line_calls.yaropesk_write_line.Goals as goal

pub counted-requires : goal.counted-requires
counted-requires c =
    let start = c in
    let limit : start.args.wait ≤ wait_limit = omega (arith, start.ranges.wait.fits) in
    told_short _ _ _ _ _ limit c.write_line.ensures

pub returns : goal.returns
returns c = written_fills _ _ _ (writer_nothing c.args.kind c.args.byte c.args.wait c.args.out.now) c.write_line.ensures c.counted.ensures
