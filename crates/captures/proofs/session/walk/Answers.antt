-- `captures::session::walk` meets its contract: a change that the table tells, which ends no stamp; any other word; and no more words.
-- Assumes nothing.
use Rattle.std.proofs.Common.{false, sym, refl, ap, ◌∙◌}
use Rattle.captures.specs.Words.{words}
use Rattle.captures.specs.Falls.{falls_from, scanned_by}
use Rattle.captures.specs.Walk.{codes_in, ends_at, scan_in, tally_in, told, telling}
use Rattle.captures.proofs.Laws.Session.{ends_said, scanned_step, scanned_end, told_step, told_end}
use Rattle.captures.proofs.Laws.Tally.{end_none}
use Rattle.captures.proofs.session.walk.Goals as goal

pub loop-word-preserved-then-change_short : goal.loop-word-preserved-then-change_short
loop-word-preserved-then-change_short c =
    let all = words c.args.capture.now.text.now in
    let codes = codes_in c.args.capture.now.codes in
    let loop = c.loop-word in
    let t = told (tally_in loop.tally) loop.out in
    let goes = c.if-change_short.ensures.1 in
    let left = c.in-Some.ensures.steps in (
      tt,
      tt,
      scanned_step all codes (scan_in loop.scan) _ _ _ _ _ left refl goes.0 ∙ loop.invariant.2,
      told_step all codes (scan_in loop.scan) _ t t false _ _ _ _ left refl goes.0 (sym goes.1) (end_none t (scan_in loop.scan) false refl) ∙ loop.invariant.3,
    )

pub loop-word-preserved : goal.loop-word-preserved
loop-word-preserved c =
    let all = words c.args.capture.now.text.now in
    let codes = codes_in c.args.capture.now.codes in
    let loop = c.loop-word in
    let scan = scan_in c.change_short.new.scan in
    let same = ap scan_in c.if-change_short.ensures.1 in
    let left = c.in-Some.ensures.steps in
    let goes = c.scan_word-scan.ensures in
    let t = told (tally_in loop.tally) loop.out in
    let ended = c.ends_at.ensures ∙ ap (ends_at scan) c.stamp_of-stamp.ensures ∙ ends_said scan c.in-Some.word.now in (
      tt,
      tt,
      scanned_step all codes scan _ _ _ _ _ left refl goes ∙ ap (λ s. scanned_by all codes s (words loop.word-iterator.rest.now)) same ∙ loop.invariant.2,
      told_step all codes scan _ t _ _ _ _ _ _ left refl goes ended c.tell_end-tally.ensures
          ∙ ap (λ s. telling t (falls_from all codes s (words loop.word-iterator.rest.now))) same
          ∙ loop.invariant.3,
    )

pub returns : goal.returns
returns c =
    let all = words c.args.capture.now.text.now in
    let codes = codes_in c.args.capture.now.codes in
    let loop = c.loop-word in
    let none = c.in-None.ensures.steps.0 in
    record {
      seen = scanned_end all codes (scan_in loop.scan) _ none ∙ loop.invariant.2;
      heard = told_end all codes (scan_in loop.scan) (told (tally_in loop.tally) loop.out) _ _ none c.tell_end-tally-2.ensures ∙ loop.invariant.3;
    }
