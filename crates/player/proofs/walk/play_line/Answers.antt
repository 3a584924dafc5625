-- `player::walk::play_line`: a bad line ends the walk with its row, and one that stands carries it on, its transfer sent and its row
-- written; its bytes lie in the text, so neither place nor number can wrap. Assumes nothing.
use mathlib.Core.Path.{sym, ◌∙◌}
use Prim.Native.Nat.{◌^◌, ◌<◌}
use lib.ListN.{length}
use native.Mathlib.Omega.{arith}
use Rattle.lines.proofs.Laws.Session.{line_inside}
use Rattle.player.proofs.Laws.Walk.{room_row, line_stops, line_goes}
use Rattle.player.proofs.walk.play_line.Goals as goal

pub tell-at-requires : goal.tell-at-requires
tell-at-requires c = room_row c.args.rows c.args.place.at _ c.requires.0.enough

pub returns-in-Err : goal.returns-in-Err
returns-in-Err c = line_stops c.requires.0 c.requires.1 (sym c.in-Err.is ∙ c.read_line.ensures) c.tell-at.ensures

pub tell-at-requires-2 : goal.tell-at-requires-2
tell-at-requires-2 c = room_row c.args.rows c.args.place.at _ c.requires.0.enough

pub overflow_add-result : goal.overflow_add-result
overflow_add-result c =
    let inside = (line_inside c.args.text.now c.args.place.from c.requires.1 (sym c.in-Ok.is ∙ c.read_line.ensures)).1 in
    let few : length c.args.text.now < 2 ^ 64 = omega arith in
    omega arith

pub overflow_add-result-2 : goal.overflow_add-result-2
overflow_add-result-2 c =
    let few : length c.args.text.now < 2 ^ 63 = omega arith in
    omega (arith, c.requires.0.counted, c.requires.1)

pub returns : goal.returns
returns c = line_goes c.requires.0 c.requires.1 (sym c.in-Ok.is ∙ c.read_line.ensures) c.transfer-told.ensures c.tell-at-2.ensures c.counted.ensures
