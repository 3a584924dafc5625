-- `captures::made::capture` meets its contract: the first walk, into no buffer, says how the session ends and measures its
-- capture; the second writes it. Assumes nothing.
use Rattle.std.proofs.Common.{◌≡◌, ◌<◌, ◌≤◌, ℕ, Result, Err, [], length, sym, subst, ⊎_elim, rules, arith}
use Rattle.controller.specs.declared.answers.Answer.{Answer}
use Rattle.lines.specs.Writing.{Writes}
use Rattle.captures.specs.Made.{capture_text, capturing}
use Rattle.captures.specs.MadeWalk.{Captured}
use Rattle.captures.proofs.Laws.MadeWalk.{size_is, refused, too_short_lem, written}
use Rattle.captures.proofs.made.capture.Goals as goal

pub returns-in_err-length : goal.returns-in_err-length
returns-in_err-length c =
    let made = subst (λ (r : Result ℕ Answer). Captured c.args.session.now [] r c.walk.new.out) c.in_err-length.was c.walk.ensures in
    let gone : c.from_residual.result ≡ Err c.in_err-length.field-0.0 = search rules in
    subst (λ (r : Result ℕ Answer). Writes (capturing c.args.session.now c.args.out.now) c.args.out.now r c.args.out.now) (sym gone)
    (refused c.args.session.now c.args.out.now made.0 made.1)

pub returns-then-out-length : goal.returns-then-out-length
returns-then-out-length c =
    let made = subst (λ (r : Result ℕ Answer). Captured c.args.session.now [] r c.walk.new.out) c.in_ok-length.was c.walk.ensures in
    let small : length c.args.out.now < 9223372036854775808 = omega arith in
    too_short_lem c.args.session.now c.args.out.now made.0
    (⊎_elim (λ same. omega (arith, same, c.if-out-length.true)) (λ big. omega (arith, big.1, small)) (size_is c.args.session.now [] made.1))

pub returns : goal.returns
returns c =
    let session = c.args.session.now in
    let made = subst (λ (r : Result ℕ Answer). Captured session [] r c.walk.new.out) c.in_ok-length.was c.walk.ensures in
    let small : length c.args.out.now < 9223372036854775808 = omega arith in
    let fits : length (capture_text session) ≤ length c.args.out.now =
    ⊎_elim (λ same. omega (arith, same, c.if-out-length.false)) (λ big. absurd (omega (arith, big.0, small, c.if-out-length.false)))
    (size_is session [] made.1) in
    written session c.args.out.now c.walk-2.ensures made.0 fits small
