-- `drawing::drawing::draw` meets its contract: what the picture refuses is refused, and of a picture that was taken 11 is left to be
-- given.
-- Assumes nothing.
use Rattle.std.proofs.lemmas.Result.{err_from_is_err_and}
use Rattle.drawing.proofs.Laws.Answers.{refused_drawn, seen, seen_small, taken_drawn, told_drawn, told_refused}
use Rattle.drawing.proofs.drawing.draw.Goals as goal

pub returns-in_err-picture : goal.returns-in_err-picture
returns-in_err-picture c =
    let p = err_from_is_err_and c.from_residual.result c.from_residual.ensures.1 in
    let refused = told_refused _ _ c.in_err-picture.was c.picture.ensures.told in
    rw (p.1, p.2) (rw refused.0 at (refused_drawn c.args.form c.args.rec c.args.memory.now c.args.profile c.args.lit c.args.out.now refused.1))

pub invariant_of-glass : goal.invariant_of-glass
invariant_of-glass c =
    let shown = seen _ _ _ (told_drawn _ _ c.in_ok-picture.was c.picture.ensures.told) in
    record { small = rw (c.rows_of.ensures, c.size_of.ensures) (seen_small _ _ _ shown) }

pub returns : goal.returns
returns c =
    let shown = seen c.args.rec c.args.memory.now c.args.profile (told_drawn _ _ c.in_ok-picture.was c.picture.ensures.told) in
    taken_drawn _ _ _ _ _ _ shown (rw (c.rows_of.ensures, c.size_of.ensures, c.picture.ensures.pictured.out) at c.draw.ensures)
