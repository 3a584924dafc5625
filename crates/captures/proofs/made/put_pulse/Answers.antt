-- `captures::made::put_pulse` meets its contract: the pulse is put together in a buffer of its own, which it fits, and put from
-- there. Assumes nothing.
use Rattle.std.proofs.Common.{ℕ, List, ap, ◌∙◌, rules, arith}
use Rattle.lines.specs.Text.{Put, put, putting}
use Rattle.captures.proofs.Laws.MadeWalk.{pulse_put}
use Rattle.captures.proofs.made.put_pulse.Goals as goal

pub returns : goal.returns
returns c =
    let text = c in
    let fifth = text in
    let fourth = fifth in
    let third = fourth in
    let second = third in
    let first = second in
    let wraps = first in
    let args = wraps.args in
    let pulse = pulse_put args.stamp _ args.sent (search rules) (search rules) (omega arith)
    first.put_stamp-lines.ensures second.put_lines-up.ensures third.put_change-fall.ensures fourth.put_stamp-down.ensures
    fifth.put_change-length.ensures in (
      pulse.long,
      pulse.fits,
      ap (λ (p : Put). p.out) text.put_text.ensures
          ∙ ap (λ (l : List ℕ). (putting (put args.at args.out.now) l).out) (text.first.ensures ∙ pulse.bytes),
    )
