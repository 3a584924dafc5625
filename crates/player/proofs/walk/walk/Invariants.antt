-- `player::walk::walk`: the place fits the text and the buffer, the memory keeps its length, and so many lines as are left, walked from
-- here, come to what the whole comes to.
-- Assumes nothing.
use mathlib.Core.Path.{◌≡◌}
use Prim.Native.Nat.{◌-◌}
use Rattle.player.specs.Walk.{HasRoom, walked_from}
use Rattle.player.proofs.walk.walk.Given as goal

abbrev pub invariant-loop-played : goal.invariant-loop-played
invariant-loop-played l =
    HasRoom l.rows l.text l.out l.place
    × (walked_from l.rows (l.fn.most - l._played) l.text l.place l.memory l.out ≡ walked_from l.rows l.fn.most l.text l.fn.start l.fn.memory l.fn.out)
