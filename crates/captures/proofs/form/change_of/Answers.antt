-- `captures::form::change_of` meets its contract: an empty word says none, and a level and a code say one. Assumes nothing.
use Rattle.std.proofs.Common.{◌≡◌, ◌∷◌, subst, sym, ◌∙◌, rules}
use Rattle.std.proofs.lemmas.Bool.{eqb-false}
use Rattle.captures.specs.Words.{Word}
use Rattle.captures.specs.Form.{Says}
use Rattle.captures.proofs.Laws.Form.{change_none, change_says}
use Rattle.captures.proofs.form.change_of.Goals as goal

pub returns-in_err-first : goal.returns-in_err-first
returns-in_err-first c = rw c.from_residual.ensures (change_none c.args.word.now c.in_err-first.ensures.cases)

pub returns-else-is_empty : goal.returns-else-is_empty
returns-else-is_empty c =
    let word : c.args.word.now ≡ c.in_ok-first.first.now ∷ c.in_ok-first.code.now = search rules in
    subst (λ (w : Word). Says w c.in_ok-level.level c.in_ok-first.code.now) (sym word)
    (change_says _ _ _ (eqb-false _ _ (sym c.is_empty.ensures ∙ c.if-is_empty.false)) c.in_ok-level.ensures)
