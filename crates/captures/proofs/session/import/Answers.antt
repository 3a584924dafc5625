-- `captures::session::import` meets its contract: the first walk, into no buffer, judges the capture and measures its session's text; the
-- second writes it. Assumes nothing.
use Rattle.std.proofs.Common.{◌≡◌, ◌<◌, ◌≤◌, Err, Result, ℕ, length, sym, refl, ap, ◌∙◌, subst, ⊎_elim, rules, arith}
use Rattle.lines.specs.Writing.{Writes}
use Rattle.controller.specs.declared.answers.Answer.{Answer}
use Rattle.captures.specs.Import.{importing, session_text}
use Rattle.captures.proofs.Laws.Import.{judged_is, length_is, out_is, refused, too_short_lem, imported, verdict_done, verdict_refused}
use Rattle.captures.proofs.session.import.Goals as goal

pub read_head-twice-requires : goal.read_head-twice-requires
read_head-twice-requires c = c.blank_table-table.ensures _ _

pub returns-in_err-judge : goal.returns-in_err-judge
returns-in_err-judge c =
    let args = c.args in
    let is = judged_is args.capture.now c.read_head-twice.result c.read_head-twice.ensures.0 _ _ _ _ c.walk.ensures _ _ _ c.is_inside-inside.ensures c.lacks_code.ensures refl in
    let verdict = verdict_refused _ (sym c.in_err-judge.was ∙ c.judge.ensures) in
    let gone : c.from_residual.result ≡ Err c.in_err-judge.field-0.0 = search rules in
    subst (λ (r : Result ℕ Answer). Writes (importing args.capture.now args.out.now) args.out.now r args.out.now) (sym (gone ∙ ap Err verdict.1))
    (refused args.capture.now args.out.now _ is verdict.0)

pub returns-then-out-tally : goal.returns-then-out-tally
returns-then-out-tally c =
    let args = c.args in
    let is = judged_is args.capture.now c.read_head-twice.result c.read_head-twice.ensures.0 _ _ _ _ c.walk.ensures _ _ _ c.is_inside-inside.ensures c.lacks_code.ensures refl in
    let done = verdict_done _ (sym c.in_ok-judge.was ∙ c.judge.ensures) in
    let long = length_is args.capture.now c.read_head-twice.result c.read_head-twice.ensures.0 _ _ _ _ c.walk.ensures in
    let small : length args.out.now < 9223372036854775808 = omega arith in
    too_short_lem args.capture.now args.out.now _ is done
    (⊎_elim (λ same. omega (arith, same, c.if-out-tally.true)) (λ big. omega (arith, big.1, small)) long)

pub returns : goal.returns
returns c =
    let args = c.args in
    let is = judged_is args.capture.now c.read_head-twice.result c.read_head-twice.ensures.0 _ _ _ _ c.walk.ensures _ _ _ c.is_inside-inside.ensures c.lacks_code.ensures refl in
    let done = verdict_done _ (sym c.in_ok-judge.was ∙ c.judge.ensures) in
    let long = length_is args.capture.now c.read_head-twice.result c.read_head-twice.ensures.0 _ _ _ _ c.walk.ensures in
    let small : length args.out.now < 9223372036854775808 = omega arith in
    let same : c.walk.result.tally.length ≡ length (session_text args.capture.now) =
    ⊎_elim (λ same. same) (λ big. absurd (omega (arith, big.0, small, c.if-out-tally.false))) long in
    let fits : length (session_text args.capture.now) ≤ length args.out.now = omega (arith, same, c.if-out-tally.false) in
    imported args.capture.now args.out.now _ is _ _ done fits same
    (out_is args.capture.now c.read_head-twice.result c.read_head-twice.ensures.0 _ _ _ _ c.walk-2.ensures fits small)
