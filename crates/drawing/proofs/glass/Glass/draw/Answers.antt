-- `drawing::glass::Glass::draw` meets its contract: 11 where the output is short, else the drawing.
-- Assumes nothing.
use Rattle.controller.specs.Answers.{is_refusal}
use borrow.Author.Tests.{lt-ltb, le-ltb}
use Rattle.dots.proofs.Painting.{painted_front}
use Rattle.drawing.proofs.glass.Glass.draw.Goals as goal

pub returns-then-out-length : goal.returns-then-out-length
unfolding is_refusal
returns-then-out-length c =
    let short = lt-ltb _ _ (rw c.length_of-length.ensures at c.if-out-length.true) in
    record { told = simp short; out = simp short }

pub returns : goal.returns
unfolding is_refusal
returns c =
    let long = c.length_of-length.ensures in
    let room = le-ltb _ _ (rw long at c.if-out-length.false) in
    let fits = rw long at c.if-out-length.false in
    record { told = simp (room, long); out = simp (room, c.fill.ensures, long) (painted_front _ _ _ fits) }
