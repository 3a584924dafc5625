-- `planner::wish::marks_fit` meets its contract: each mark is tested.
-- Assumes nothing.
use Rattle.std.proofs.Common.{sym, ◌∙◌, ℕ, rules, tests}
use Rattle.std.proofs.lemmas.Iterator.{YieldsList-from_slice}
use Rattle.std.proofs.lemmas.Iterator.Search.{all_from_yields_List}
use lib.Dec.{leb}
use Rattle.planner.proofs.Laws.Wish.{all_fit}
use Rattle.planner.proofs.wish.marks_fit.Goals as goal

pub returns : goal.returns
returns c =
    all_from_yields_List (λ (mark : ℕ). leb mark 1) _ _ _ c.all.ensures.ran (YieldsList-from_slice c.args.marks.now cc) (λ x b q k. search (rules, tests))
    ∙ sym (all_fit c.args.marks.now)
