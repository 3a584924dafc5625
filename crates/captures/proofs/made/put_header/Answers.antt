-- `captures::made::put_header` meets its contract: the four parts, put one after the other, are the definitions. Assumes nothing.
use Rattle.std.proofs.Common.{refl, ap}
use Rattle.lines.specs.Text.{Put}
use Rattle.lines.proofs.Laws.Buffer.{put_next}
use Rattle.captures.specs.Made.{made_header}
use Rattle.captures.proofs.made.put_header.Goals as goal

pub returns : goal.returns
unfolding made_header
returns c =
    let fourth = c in
    let third = fourth in
    let second = third in
    let first = second in (
      refl,
      ap (λ (p : Put). p.out)
          (put_next _ _ _ first.put_text-first.ensures
          (put_next _ _ _ second.put_text-second.ensures (put_next _ _ _ third.put_text-third.ensures
          fourth.put_text.ensures))),
    )
