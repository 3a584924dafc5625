-- `player::walk::walk`: a line played leaves one fewer, and a bad line, the end of the text or of the lines is the end of the walk.
-- Assumes nothing.
use mathlib.Core.Path.{◌≡◌, sym, ◌∙◌}
use Prim.Native.Nat.{◌+◌, ◌-◌}
use native.Mathlib.Omega.{arith}
use Rattle.player.proofs.Laws.Walk.{walk_goes, walk_stops, text_over, lines_over}
use Rattle.player.proofs.walk.walk.Goals as goal

pub returns-then-not-is_done : goal.returns-then-not-is_done
returns-then-not-is_done c =
    walk_stops (c.args.most - c.loop-played._played) (omega arith) c.play_line-ended.ensures (sym c.is_done.ensures ∙ c.if-not-is_done.true)
    ∙ c.loop-played.invariant.1

pub loop-played-preserved : goal.loop-played-preserved
loop-played-preserved c =
    let went = c.play_line-ended.ensures.goes (sym c.is_done.ensures ∙ c.if-not-is_done.false) in
    let left : c.args.most - (c.loop-played._played + 1) ≡ c.args.most - c.loop-played._played - 1 = omega arith in
    (went.fits, rw left (walk_goes (c.args.most - c.loop-played._played) (omega arith) went) ∙ c.loop-played.invariant.1)

pub returns-then-text-place : goal.returns-then-text-place
returns-then-text-place c =
    let own = c.loop-played in
    text_over _ (c.args.most - own._played) _ own.place own.memory own.out c.if-text-place.true ∙ own.invariant.1

pub returns-after-loop-played : goal.returns-after-loop-played
returns-after-loop-played c =
    let own = c.loop-played in
    lines_over _ (c.args.most - own._played) _ own.place own.memory own.out (omega (arith, c.loop-played-test.false)) ∙ own.invariant.1
