-- `captures::made::put_stamp` meets its contract: a stamp is its sign, its number and its end, put one after the other.
-- Assumes nothing.
use Rattle.captures.proofs.Laws.MadeWalk.{stamp_put}
use Rattle.std.proofs.Common.{rules}
use Rattle.captures.proofs.made.put_stamp.Goals as goal

pub returns : goal.returns
returns c =
    let third = c in
    let second = third in
    let first = second in
    stamp_put _ _ (search rules) first.put_byte-number.ensures second.put_number-end.ensures third.put_byte.ensures
