-- `captures::made::put_change` meets its contract: a change is its bit, its code and its end, put one after the other.
-- Assumes nothing.
use Rattle.captures.proofs.Laws.MadeWalk.{change_put}
use Rattle.captures.proofs.made.put_change.Goals as goal

pub returns : goal.returns
returns c =
    let third = c in
    let second = third in
    let first = second in
    change_put _ _ _ first.hex_digit.ensures first.put_byte-letter.ensures second.put_byte-end.ensures
    third.put_byte.ensures
