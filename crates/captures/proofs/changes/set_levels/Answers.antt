-- `captures::changes::set_levels` meets its contract: a line more has the code or has not. Assumes nothing.
use Rattle.std.proofs.Common.{◌≡◌, ℕ, [], get_or, sym, refl, ap, ◌∙◌, arith}
use Rattle.std.proofs.lemmas.List.{map-set}
use Rattle.captures.specs.Falls.{changed}
use Rattle.captures.specs.Form.{number_of_level, numbers_of}
use Rattle.captures.specs.Walk.{codes_in}
use Rattle.captures.proofs.Laws.Definitions.{code_at}
use Rattle.captures.proofs.Laws.Falls.{changed_here, changed_not}
use Rattle.captures.proofs.Laws.Words.{same_pointwise}
use Rattle.captures.proofs.changes.set_levels.Goals as goal
use Rattle.captures.proofs.changes.set_levels.Goals.{then-eq, else-eq}

pub loop-line-init : goal.loop-line-init
unfolding changed
loop-line-init c = refl

pub loop-line-preserved : goal.loop-line-preserved
loop-line-preserved c =
    let loop = c.loop-line in
    let own = sym (code_at c.args.codes.now loop.line) in
    let by = c.eq.ensures ∙ same_pointwise (get_or c.args.codes.now loop.line (record { ref_ptr = (0, 0); now = [] })).now c.args.change.code.now in
    elim c.if-eq.branch [
      | then-eq w ↦
          ap numbers_of w.levels-is ∙ map-set number_of_level loop.levels loop.line c.args.change.level
          ∙ changed_here loop.line (codes_in c.args.codes.now) _ _ _ _ _ loop.invariant own (sym w.if-eq.true ∙ by)
      | else-eq w ↦ ap numbers_of w.levels-is ∙ changed_not loop.line (codes_in c.args.codes.now) _ _ _ _ _ loop.invariant own (sym w.if-eq.false ∙ by)
    ]

pub returns : goal.returns
returns c =
    let loop = c.loop-line in
    let eleven : loop.line ≡ 11 = omega arith in
    loop.invariant
    ∙ ap (λ (n : ℕ). changed n (codes_in c.args.codes.now) c.args.change.code.now (number_of_level c.args.change.level) (numbers_of c.args.levels.now)) eleven
