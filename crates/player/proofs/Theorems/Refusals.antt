-- The refusals of a text: none exactly where the first one's line is 0, and the first is the earliest.
-- Assumes nothing.
use mathlib.Core.Bool.{true, false}
use mathlib.Core.List.{List, [], ◌∷◌, ◌++◌}
use mathlib.Core.Path.{◌≡◌, refl, ap, ◌∙◌}
use Prim.Native.Nat.{ℕ, ◌+◌, ◌<◌}
use native.Mathlib.Omega.{arith}
use lib.Dec.{eqb}
use lib.ListN.{length}
use borrow.Author.Tests.{eqb-true, eqb-false}
use Rattle.controller.specs.declared.answers.Answer.{Answer}
use Rattle.controller.specs.declared.sent.Sent.{Sent}
use Rattle.controller.specs.Answers.{is_refusal, number_of}
use Rattle.controller.specs.Runs.{State, decided_of, after, heard, ran}
use Rattle.lines.specs.Session.{read_up_to}
use Rattle.lines.proofs.Laws.Digits.{either}
use Rattle.player.specs.declared.tally.Tally.{Tally}
use Rattle.player.specs.Report.{start}
use Rattle.player.specs.Standing.{answers_to, counting, counting_all, leaving, no_refusal, standing}
use Rattle.player.specs.Theorems.{AnswersHeard, NoneIsFirst, NoneRefused, FirstTold}

pub answers_heard : AnswersHeard
unfolding answers_to heard
answers_heard state [] = refl
answers_heard state (t ∷ ts) = ap (λ (l : List ℕ). number_of (decided_of state t).answer ∷ l) (answers_heard (after state (decided_of state t)) ts)

-- a tally with a first line exactly where something is counted
abbrev Fit : Tally → Type 0
Fit tally = (tally.count ≡ 0 → tally.first ≡ 0) × (tally.first ≡ 0 → tally.count ≡ 0)

one_fits : (tally : Tally) (line : ℕ) (answer : Answer) → 0 < line → Fit tally → Fit (counting tally line answer)
unfolding counting
one_fits tally line answer some fit =
    either (is_refusal answer)
    (λ refused.
    either (eqb tally.count 0)
    (λ e. simp (refused, e) (λ z. absurd (omega arith), λ z. absurd (omega arith)))
    (λ e. simp (refused, e) (λ z. absurd (omega arith), λ z. absurd (eqb-false tally.count 0 e (fit.1 z)))))
    (λ taken. simp taken fit)

all_fit : (tally : Tally) (line : ℕ) (answers : List Answer) → 0 < line → Fit tally → Fit (counting_all tally line answers)
unfolding counting_all
all_fit tally line [] some fit = fit
all_fit tally line (answer ∷ answers) some fit =
    all_fit (counting tally line answer) (line + 1) answers (omega arith) (one_fits tally line answer some fit)

pub none_is_first : NoneIsFirst
unfolding standing leaving
none_is_first frequency text most =
    all_fit no_refusal 1 (answers_to (start frequency) (read_up_to most text).sent) (omega arith) (λ z. refl, λ z. refl)

-- once something is counted, the first stays
first_stays : (tally : Tally) (line : ℕ) (answers : List Answer) → 0 < tally.count
    → ((counting_all tally line answers).first ≡ tally.first) × ((counting_all tally line answers).answer ≡ tally.answer)
unfolding counting_all counting
first_stays tally line [] some = (refl, refl)
first_stays tally line (answer ∷ answers) some =
    either (is_refusal answer)
    (λ refused.
    either (eqb tally.count 0)
    (λ e. absurd (omega (arith, eqb-true tally.count 0 e)))
    (λ e.
    let next : Tally = record { count = tally.count + 1; first = tally.first; answer = tally.answer } in
    simp (refused, e) (first_stays next (line + 1) answers (omega arith))))
    (λ taken. simp taken (first_stays tally (line + 1) answers some))

-- an answer that is no refusal leaves the tally as it is, and the first that is one is told
none_counted : (tally : Tally) (line : ℕ) (answer : Answer) → is_refusal answer ≡ false → counting tally line answer ≡ tally
unfolding counting
none_counted tally line answer taken = simp taken

first_counted : (line : ℕ) (answer : Answer) → is_refusal answer ≡ true
    → counting no_refusal line answer ≡ record { count = 1; first = line; answer = answer }
unfolding counting
first_counted line answer refused = simp refused

first_is : (line : ℕ) (state : State) (before : List Sent) (t : Sent) (later : List Sent) → NoneRefused (answers_to state before)
    → is_refusal (decided_of (ran state before) t).answer ≡ true
    → ((counting_all no_refusal line (answers_to state (before ++ (t ∷ later)))).first ≡ line + length before)
    × ((counting_all no_refusal line (answers_to state (before ++ (t ∷ later)))).answer ≡ (decided_of (ran state before) t).answer)
unfolding answers_to ran counting_all NoneRefused
first_is line state [] t later none refused =
    let d = decided_of state t in
    let rest = answers_to (after state d) later in
    let one = first_counted line d.answer refused in
    let stays = first_stays (record { count = 1; first = line; answer = d.answer }) (line + 1) rest (omega arith) in (
      ap (λ (tally : Tally). (counting_all tally (line + 1) rest).first) one ∙ stays.0 ∙ omega arith,
      ap (λ (tally : Tally). (counting_all tally (line + 1) rest).answer) one ∙ stays.1,
    )
first_is line state (u ∷ before) t later none refused =
    let d = decided_of state u in
    let rest = answers_to (after state d) (before ++ (t ∷ later)) in
    let same = none_counted no_refusal line d.answer none.0 in
    let more = first_is (line + 1) (after state d) before t later none.1 refused in (
      ap (λ (tally : Tally). (counting_all tally (line + 1) rest).first) same ∙ more.0 ∙ omega arith,
      ap (λ (tally : Tally). (counting_all tally (line + 1) rest).answer) same ∙ more.1,
    )

pub first_told_lem : FirstTold
unfolding standing leaving
first_told_lem frequency text most before t later is none refused = rw is (first_is 1 (start frequency) before t later none refused)
