-- `captures::changes::is_declared` meets its contract: the definitions end, the code is found, a word more, and no more words. Assumes nothing.
use Rattle.std.proofs.Common.{◌≡◌, false, ◌&&◌, sym, refl, ◌∙◌, leb-true}
use Rattle.captures.specs.Words.{same}
use Rattle.captures.specs.Form.{code_comes}
use Rattle.captures.proofs.Laws.Words.{same_pointwise}
use Rattle.captures.proofs.Laws.Falls.{declares_here, declares_next, declares_none, declares_over}
use Rattle.captures.proofs.changes.is_declared.Goals as goal
use Rattle.captures.proofs.changes.is_declared.Goals.{else-code_comes-via-then-code_comes+else-eq, else-code_comes-via-else-code_comes}

pub returns-then-changes_come : goal.returns-then-changes_come
returns-then-changes_come c = declares_over _ _ _ (leb-true 3 _ (sym c.changes_come.ensures ∙ c.if-changes_come.true)) ∙ c.loop-word.invariant.2

pub returns-then-eq : goal.returns-then-eq
returns-then-eq c =
    declares_here _ _ _ _ _ _ c.in-Some.ensures.steps refl
    (simp (sym c.code_comes.ensures ∙ c.if-code_comes.true, sym (same_pointwise c.in-Some.word.now c.args.code.now) ∙ sym c.eq.ensures ∙ c.if-eq.true))
    ∙ c.loop-word.invariant.2

pub loop-word-preserved : goal.loop-word-preserved
loop-word-preserved c =
    let here : code_comes c.loop-word.phase && same c.in-Some.word.now c.args.code.now ≡ false =
    elim c.else-code_comes.branch [
      | else-code_comes-via-then-code_comes+else-eq w ↦
          simp (sym c.code_comes.ensures ∙ w.if-code_comes.true, sym (same_pointwise c.in-Some.word.now c.args.code.now) ∙ sym w.eq.ensures ∙ w.if-eq.false)
      | else-code_comes-via-else-code_comes w ↦ simp (sym c.code_comes.ensures ∙ w.if-code_comes.false)
    ] in
    (tt, tt, declares_next _ _ _ _ _ _ _ c.in-Some.ensures.steps refl here c.pass-phase.ensures ∙ c.loop-word.invariant.2)

pub returns : goal.returns
returns c = declares_none _ _ _ c.in-None.ensures.steps.0 ∙ c.loop-word.invariant.2
