-- `captures::falls::tell_end` meets its contract: a fall at a stamp's end is told, and where none is, or no stamp ends, nothing is.
-- Assumes nothing.
use Rattle.std.proofs.Common.{ℕ, ap, ◌∙◌}
use Rattle.captures.specs.Walk.{fall_with, scan_in, tally_in, telling_one, told}
use Rattle.captures.proofs.Laws.Tally.{and_second, end_none, end_one}
use Rattle.captures.proofs.falls.tell_end.Goals as goal

pub returns-in-Some : goal.returns-in-Some
returns-in-Some c =
    let before = told (tally_in c.args.tally) c.args.out.now in
    let scan = scan_in c.args.scan.now in
    c.tell.ensures ∙ ap (λ (n : ℕ). telling_one before (fall_with n scan.levels)) c.in-Some.ensures.1
    ∙ end_one before scan _ (simp (c.if-ended.true, c.in-Some.ensures.0))

pub returns-in_default : goal.returns-in_default
returns-in_default c = end_none (told (tally_in c.args.tally) c.args.out.now) (scan_in c.args.scan.now) _ (simp c.if-ended.false)

pub returns-in_default-2 : goal.returns-in_default-2
returns-in_default-2 c =
    end_none (told (tally_in c.args.tally) c.args.out.now) (scan_in c.args.scan.now) _ (and_second _ _ c.in_default.ensures)
