-- `player::through::play_through` meets its contract: a walk without rows from the controller that reset makes. Assumes nothing.
use mathlib.Core.Path.{ap, ◌∙◌}
use Rattle.controller.specs.Runs.{State}
use native.Mathlib.Omega.{arith}
use Rattle.player.specs.declared.tally.Tally.{Tally}
use Rattle.player.specs.Report.{start}
use Rattle.lines.specs.Session.{read_up_to}
use Rattle.player.specs.Standing.{leaving, standing}
use Rattle.player.specs.Walk.{Walked, walked}
use Rattle.player.proofs.Laws.Session.{reset_starts}
use borrow.Author.Rules.{rules}
use Rattle.player.proofs.through.play_through.Goals as goal

pub walk-ended-requires : goal.walk-ended-requires
walk-ended-requires c =
    record {
      inside = search rules;
      counted = search rules;
      fewer = rw c.no_refusal.ensures (omega arith);
      enough = search rules;
    }

pub returns : goal.returns
unfolding standing walked
returns c =
    let set = c in
    let begin = set in
    let played = read_up_to begin.args.most begin.args.text.now in
    let none = c.no_refusal in
    let begins = reset_starts begin.args.frequency set.after_reset.result set.after_reset.ensures set.reset-begun.ensures in
    ap (λ (w : Walked). w.stands) c.walk-ended.ensures
    ∙ ap (λ (s : State). leaving 1 0 none.result s played) begins
    ∙ ap (λ (tally : Tally). leaving 1 0 tally (start begin.args.frequency) played) none.ensures
