-- `captures::faults::find_wrong` meets its contract: a word at fault, one that is not, and no more words. Assumes nothing.
use Rattle.std.proofs.Common.{◌≡◌, sym, refl, ◌∙◌, rules, arith}
use Rattle.captures.specs.Words.{words}
use Rattle.captures.specs.Walk.{head_in}
use Rattle.captures.proofs.Laws.Faults.{fault_is, fault_none, fault_some, wrong_end, wrong_here, wrong_next}
use Rattle.captures.proofs.Laws.Words.{total_step, total_words}
use Rattle.captures.proofs.faults.find_wrong.Goals as goal

pub loop-word-init : goal.loop-word-init
loop-word-init c =
    let text = c.args.capture.now.text.now in
    let rest : c.into_iter-word-iterator.result.rest.now ≡ text = search rules in
    (tt, tt, rw (rest, c.new-head.ensures) refl, rw rest (omega (arith, total_words text)), omega arith)

pub returns-in-Some-fault_of : goal.returns-in-Some-fault_of
returns-in-Some-fault_of c =
    let all = words c.args.capture.now.text.now in
    let loop = c.loop-word in
    let head = head_in loop.head in
    let by = fault_is all head _ _ _ _ _ _ c.define.ensures refl c.is_wrong.ensures c.is_undeclared-undeclared.ensures refl in
    let some = fault_some _ _ (sym c.in-Some-fault_of.is ∙ c.fault_of.ensures) in
    (λ i. record { fault = some.1 i; place = loop.place })
    ∙ wrong_here all head _ loop.place _ _ _ c.in-Some.ensures.steps c.define.ensures _ by some.0
    ∙ loop.invariant.2

pub overflow_add-place-in-loop-word : goal.overflow_add-place-in-loop-word
overflow_add-place-in-loop-word c =
    let loop = c.loop-word in
    omega (arith, total_step _ _ _ c.in-Some.ensures.steps, loop.invariant.3, loop.invariant.4)

pub loop-word-preserved : goal.loop-word-preserved
loop-word-preserved c =
    let all = words c.args.capture.now.text.now in
    let loop = c.loop-word in
    let head = head_in loop.head in
    let by = fault_is all head _ _ _ _ _ _ c.define.ensures refl c.is_wrong.ensures c.is_undeclared-undeclared.ensures refl in
    let none = fault_none _ (sym c.in_default.is ∙ c.fault_of.ensures) in (
      tt,
      tt,
      wrong_next all head _ loop.place _ _ _ c.in-Some.ensures.steps c.define.ensures _ by _ none (omega arith) ∙ loop.invariant.2,
      omega (arith, total_step _ _ _ c.in-Some.ensures.steps, loop.invariant.3),
      loop.invariant.4,
    )

pub returns : goal.returns
returns c = wrong_end _ _ _ _ c.in-None.ensures.steps.0 ∙ c.loop-word.invariant.2
