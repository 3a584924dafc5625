-- `captures::session::read_sections` meets its contract: a word more, no more words, and the end of the definitions. Assumes nothing.
use Rattle.std.proofs.Common.{sym, refl, ap, ◌∙◌, leb-true}
use Rattle.captures.specs.Definitions.{Head}
use Rattle.captures.specs.Walk.{head_in}
use Rattle.captures.proofs.Laws.Over.{over_asked}
use Rattle.captures.proofs.Laws.Falls.{declares_later}
use Rattle.captures.proofs.Laws.Table.{table_word}
use Rattle.captures.proofs.Laws.Session.{defined_step, defined_end, defined_over, defined_phase}
use Rattle.captures.proofs.session.read_sections.Goals as goal

pub loop-word-preserved : goal.loop-word-preserved
loop-word-preserved c =
    let left = c.in-Some.ensures.steps in
    let loop = c.loop-word in
    let leads = ap (λ (h : Head). h.phase) c.define.ensures ∙ defined_phase (head_in loop.head) _ in (
      tt,
      tt,
      rw c.note.ensures (table_word _ _ _ _ _ _ _ _ loop.invariant.2 loop.invariant.3 left refl),
      (λ code is. loop.invariant.3 code (declares_later _ _ _ _ _ code left leads is)),
      defined_step _ _ _ _ _ left c.define.ensures ∙ loop.invariant.4,
    )

pub returns-in-None : goal.returns-in-None
returns-in-None c =
    let inv = c.loop-word.invariant in
    let whole = defined_end _ _ c.in-None.ensures.steps.0 ∙ inv.4 in
    (record { codes = ap (λ (h : Head). h.codes) whole; twice = ap (λ (h : Head). h.twice) whole }, inv.2)

pub returns-then-changes_come : goal.returns-then-changes_come
returns-then-changes_come c =
    let inv = c.loop-word.invariant in
    let kept = defined_over (head_in c.loop-word.head) _ (over_asked _ (leb-true 3 _ (sym c.changes_come.ensures ∙ c.if-changes_come.true))) in
    (record { codes = kept.0 ∙ ap (λ (h : Head). h.codes) inv.4; twice = kept.1 ∙ ap (λ (h : Head). h.twice) inv.4 }, inv.2)
