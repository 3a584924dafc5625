-- `lines::reader::may_follow` meets its contract: the tests are those of `may_follow`; a value within the limit, times ten, fits.
-- Assumes nothing.
use Rattle.lines.specs.Reading.{may_follow}
use borrow.Author.Tests.{lt-ltb, le-ltb}
use Rattle.lines.proofs.reader.may_follow.Goals as goal

pub returns-then-value-gt0 : goal.returns-then-value-gt0
unfolding may_follow
returns-then-value-gt0 c = simp (lt-ltb _ _ c.if-value-gt0.true)

pub returns-else-value-gt0 : goal.returns-else-value-gt0
unfolding may_follow
returns-else-value-gt0 c = simp (le-ltb _ _ c.if-value-gt0.false)
