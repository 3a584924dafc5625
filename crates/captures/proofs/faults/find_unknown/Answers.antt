-- `captures::faults::find_unknown` meets its contract: a fall that is unknown, a word that ends none, and no more words. Assumes nothing.
use Rattle.std.proofs.Common.{◌≡◌, Bool, cond, ◌&&◌, sym, refl, ap, ◌∙◌, rules, arith}
use Rattle.std.specs.Option.{is_some}
use Rattle.captures.specs.Words.{words}
use Rattle.captures.specs.Form.{changes_come, is_stamp}
use Rattle.captures.specs.Faults.{falls_unknown, unknown_of, unknown_told}
use Rattle.captures.specs.Walk.{codes_in, ends_at, scan_in}
use Rattle.captures.proofs.Laws.Faults.{said_is_stamp, unknown_end, unknown_here, unknown_next}
use Rattle.captures.proofs.Laws.Session.{ends_said}
use Rattle.captures.proofs.Laws.Words.{total_step, total_words}
use Rattle.captures.proofs.faults.find_unknown.Goals as goal
use Rattle.captures.proofs.faults.find_unknown.Goals.{then-changes_come+then-is_some, else-changes_come, else-changes_come-via-then-changes_come+else-is_some, else-changes_come-via-else-changes_come}

pub loop-word-init : goal.loop-word-init
loop-word-init c =
    let text = c.args.capture.now.text.now in
    let rest : c.into_iter-word-iterator.result.rest.now ≡ text = search rules in
    (tt, tt, rw (rest, c.new-scan.ensures) refl, rw rest (omega (arith, total_words text)), omega arith)

pub returns-in-Some-fall_unknown : goal.returns-in-Some-fall_unknown
returns-in-Some-fall_unknown c =
    let all = words c.args.capture.now.text.now in
    let codes = codes_in c.args.capture.now.codes in
    let loop = c.loop-word in
    let scan = scan_in loop.scan in
    let ended = c.ends_at.ensures ∙ ap (ends_at scan) c.stamp_of-stamp.ensures ∙ ends_said scan c.in-Some.word.now in
    unknown_here all codes scan loop.at loop.place _ _ _ c.in-Some.ensures.steps _
    (sym c.in-Some-fall_unknown.is ∙ c.fall_unknown.ensures ∙ ap (λ (b : Bool). unknown_told (unknown_of (b && falls_unknown scan) scan loop.at)) ended)
    ∙ ap unknown_told loop.invariant.2

pub overflow_add-place-in-loop-word : goal.overflow_add-place-in-loop-word
overflow_add-place-in-loop-word c =
    let loop = c.loop-word in
    omega (arith, total_step _ _ _ c.in-Some.ensures.steps, loop.invariant.3, loop.invariant.4)

pub loop-word-preserved : goal.loop-word-preserved
loop-word-preserved c =
    let all = words c.args.capture.now.text.now in
    let codes = codes_in c.args.capture.now.codes in
    let loop = c.loop-word in
    let scan = scan_in loop.scan in
    let word = c.in-Some.word.now in
    let ended = c.ends_at.ensures ∙ ap (ends_at scan) c.stamp_of-stamp.ensures ∙ ends_said scan word in
    let stamp = sym (said_is_stamp word) ∙ ap is_some (sym c.stamp_of-stamp.ensures) in
    let holds : c.if-changes_come.at ≡ cond (changes_come scan.phase && is_stamp word) loop.place loop.at =
    elim c.if-changes_come.branch [
      | then-changes_come+then-is_some w ↦
          w.at-is ∙ sym (simp (sym c.changes_come.ensures ∙ w.if-changes_come.true, stamp ∙ sym w.is_some.ensures ∙ w.if-is_some.true))
      | else-changes_come w ↦
          w.at-is ∙ elim w.else-changes_come.branch [
            | else-changes_come-via-then-changes_come+else-is_some v ↦
                sym (simp (sym c.changes_come.ensures ∙ v.if-changes_come.true, stamp ∙ sym v.is_some.ensures ∙ v.if-is_some.false))
            | else-changes_come-via-else-changes_come v ↦ sym (simp (sym c.changes_come.ensures ∙ v.if-changes_come.false))
          ]
    ] in
    let none = sym c.in_default.is ∙ c.fall_unknown.ensures ∙ ap (λ (b : Bool). unknown_told (unknown_of (b && falls_unknown scan) scan loop.at)) ended in (
      tt,
      tt,
      unknown_next all codes scan loop.at loop.place _ _ _ c.in-Some.ensures.steps _ _ _ none c.scan_word-scan.ensures holds (omega arith) ∙ loop.invariant.2,
      omega (arith, total_step _ _ _ c.in-Some.ensures.steps, loop.invariant.3),
      loop.invariant.4,
    )

pub returns : goal.returns
returns c =
    let scan = scan_in c.loop-word.scan in
    c.fall_unknown-2.ensures ∙ ap unknown_told (unknown_end _ _ scan _ _ _ c.in-None.ensures.steps.0 ∙ c.loop-word.invariant.2)
