-- `session::write_report` meets its contract: a buffer of that size is never too short. Assumes nothing.
use mathlib.Core.Path.{refl}
use Prim.Native.Nat.{◌+◌, ◌*◌}
use lib.ListN.{length}
use borrow.Author.Tests.{le-ltb}
use Rattle.lines.specs.Writing.{wanting}
use Rattle.player.specs.Report.{playing}
use Rattle.session.proofs.write_report.Goals as goal

pub returns : goal.returns
unfolding playing wanting
returns c =
    rw (c.play.ensures.told, le-ltb (length c.args.out.now) (6 * length c.args.text.now + 62) c.requires) refl
