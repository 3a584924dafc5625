-- `captures::made::put_lines` meets its contract: ten changes, put one after the other, are the lines of the transfer.
-- Assumes nothing.
use Rattle.std.proofs.Common.{◌∙◌}
use Rattle.lines.proofs.Laws.Buffer.{put_next}
use Rattle.captures.specs.Made.{made_lines}
use Rattle.captures.proofs.made.put_lines.Goals as goal

pub shape_of-out : goal.shape_of-out
shape_of-out c =
    let tenth = c in
    let ninth = tenth in
    let eighth = ninth in
    let seventh = eighth in
    let sixth = seventh in
    let fifth = sixth in
    let fourth = fifth in
    let third = fourth in
    let second = third in
    let first = second in
    tenth.put_change.auto.out ∙ ninth.put_change-db7.auto.out ∙ eighth.put_change-db6.auto.out
    ∙ seventh.put_change-db5.auto.out ∙ sixth.put_change-db4.auto.out ∙ fifth.put_change-db3.auto.out
    ∙ fourth.put_change-db2.auto.out ∙ third.put_change-db1.auto.out ∙ second.put_change-db0.auto.out
    ∙ first.put_change-rw.auto.out

pub returns : goal.returns
unfolding made_lines
returns c =
    let tenth = c in
    let ninth = tenth in
    let eighth = ninth in
    let seventh = eighth in
    let sixth = seventh in
    let fifth = sixth in
    let fourth = fifth in
    let third = fourth in
    let second = third in
    let first = second in
    put_next _ _ _ first.put_change-rw.ensures
    (put_next _ _ _ second.put_change-db0.ensures
    (put_next _ _ _ third.put_change-db1.ensures
    (put_next _ _ _ fourth.put_change-db2.ensures
    (put_next _ _ _ fifth.put_change-db3.ensures
    (put_next _ _ _ sixth.put_change-db4.ensures
    (put_next _ _ _ seventh.put_change-db5.ensures
    (put_next _ _ _ eighth.put_change-db6.ensures
    (put_next _ _ _ ninth.put_change-db7.ensures
    tenth.put_change.ensures))))))))
