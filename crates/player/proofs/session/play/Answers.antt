-- `player::session::play` meets its contract: the header, and after it the rows of a walk from the controller that reset makes, are the
-- report, which the buffer takes. Assumes nothing.
use mathlib.Core.Path.{refl, sym, ap, ◌∙◌}
use Prim.Native.Nat.{ℕ, ◌+◌, ◌*◌, ◌^◌, ◌<◌}
use native.Mathlib.Omega.{arith}
use lib.ListN.{length}
use borrow.Author.Tests.{ltb-false}
use Rattle.std.specs.Prelude.{Ok}
use Rattle.lines.specs.ReportText.{header}
use Rattle.lines.specs.Writing.{wanting}
use Rattle.player.specs.Report.{playing}
use Rattle.player.proofs.Laws.Session.{reset_starts}
use Rattle.player.proofs.Laws.Walk.{takes, report_begins, report_done}
use borrow.Author.Rules.{rules}
use Rattle.player.proofs.session.play.Goals as goal

pub returns-then-is_short : goal.returns-then-is_short
unfolding playing wanting
returns-then-is_short c = simp (sym c.is_short.ensures ∙ c.if-is_short.true) (search rules)

pub returns-in_err-at : goal.returns-in_err-at
returns-in_err-at c =
    let long = ltb-false (length c.args.out.now) (6 * length c.args.text.now + 62) (sym c.is_short.ensures ∙ c.if-is_short.false) in
    absurd (takes 20 header c.args.out.now (omega arith) (c.in_err-at.ensures))

pub walk-ended-requires : goal.walk-ended-requires
walk-ended-requires c =
    let long = ltb-false (length c.args.out.now) (6 * length c.args.text.now + 62) (sym c.is_short.ensures ∙ c.if-is_short.false) in
    report_begins c.args.text.now _ long c.write_header.auto.out (c.in_ok-at.ensures) c.no_refusal.ensures

pub returns : goal.returns
unfolding playing wanting
returns c =
    let enough = sym c.is_short.ensures ∙ c.if-is_short.false in
    let begins = reset_starts c.args.frequency c.after_reset.result c.after_reset.ensures c.reset-begun.ensures in
    let long = ltb-false (length c.args.out.now) (6 * length c.args.text.now + 62) enough in
    let few : length c.args.out.now < 2 ^ 64 = omega arith in
    let done = report_done c.args.frequency c.args.text.now 18446744073709551615 c.no_refusal.result c.walk-ended.result long (omega arith) (omega arith) (c.in_ok-at.ensures) begins c.walk-ended.ensures in
    simp enough (record { told = ap (λ (n : ℕ). Ok n) done.0; number = refl; buffer = done.1 })
