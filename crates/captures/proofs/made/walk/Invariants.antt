-- `captures::made::walk` meets its contract. The invariant: the buffer keeps its length, and the lines that are left, captured
-- from here, come to what the whole session comes to. The measure is what is left of the text. Assumes nothing.
use Rattle.std.proofs.Common.{◌≡◌, length}
use Rattle.lines.specs.Session.{session_of}
use Rattle.captures.specs.MadeWalk.{making, adding_pulses}
use Rattle.captures.proofs.Laws.MadeWalk.{Left}
use Rattle.captures.proofs.made.walk.Given as goal

abbrev pub invariant-loop-rest : goal.invariant-loop-rest
invariant-loop-rest l =
    (length l.out ≡ length l.initial.out)
    × Left l.session (adding_pulses (making l.initial.length l.initial.out) 1 (session_of l.session).sent) l.rest l.stamp (making l.length l.out)

abbrev pub decreases-loop-rest : goal.decreases-loop-rest
decreases-loop-rest l = length l.rest
