-- When a wish is accepted.
-- Assumes nothing.
use mathlib.Core.Bool.{Bool, true, false, cond, not}
use mathlib.Core.List.{List, ◌++◌}
use mathlib.Core.Path.{◌≡◌, refl, sym, ap, ◌∙◌}
use Prim.Native.Nat.{ℕ, ◌≤◌}
use native.Mathlib.Omega.{arith}
use lib.ListN.{length, take, drop}
use borrow.Author.Tests.{eq-eqb, le-ltb, not-false}
use lib.Dec.{ltb}
use Rattle.controller.proofs.Laws.Choice.{cond-elim}
use Rattle.std.specs.Array.{IsFirstChunk, IsWholeChunk}
use Rattle.std.specs.Prelude.{Ok, Err}
use Rattle.std.proofs.lemmas.List.{append_assoc, drop-append-le, length-take-le, take-append-drop}
use Rattle.controller.proofs.Laws.Answers.{done_is}
use Rattle.planner.proofs.Laws.Count.{plan_bound}
use Rattle.planner.proofs.Laws.Written.{length_encoded}
use Rattle.controller.specs.Answers.{is_done, number_of}
use Rattle.controller.specs.declared.answers.Answer.{Answer}
use Rattle.controller.specs.declared.sent.Sent.{Sent}
use Rattle.controller.specs.Bus.{whole}
use Rattle.controller.specs.declared.answers.Answer.TheVariants.{Done, NotWhole, NotWish, OutputShort}
use Rattle.planner.specs.declared.wish.Wish.{Wish}
use Rattle.planner.specs.Call.{Planned, Reply, Returns, laid_out, planned_in, reply_to, result_of, told_of, turned_down, wanted}
use Rattle.planner.specs.Plan.{encoded, plan_of}
use Rattle.planner.specs.Wish.{is_wish}

pub reply_done : (wish : Wish) (marks values out : List ℕ) → whole marks ≡ true → whole values ≡ true → is_wish wish marks ≡ true → wanted ≤ length out
    → reply_to wish marks values out ≡ record { answer = Done; plan = plan_of wish marks values }
unfolding reply_to
reply_done wish marks values out m v is room = simp (m, v, is, le-ltb (length out) wanted room)

-- a plan at the start of a part of the buffer is one at the start of the buffer
laid_within : (plan : List Sent) (part : ℕ) (out : List ℕ) → length (encoded plan) ≤ part → part ≤ length out
    → laid_out plan (take part out) ++ drop part out ≡ laid_out plan out
unfolding laid_out
laid_within plan part out few room =
    let own = encoded plan in
    let left = length own in
    append_assoc own (drop left (take part out)) (drop part out)
    ∙ ap (λ (rest : List ℕ). own ++ rest)
    (sym (drop-append-le left (take part out) (drop part out) (rw (length-take-le part out room) few)) ∙ ap (drop left) (take-append-drop part out))

-- what is returned of a plan that was made
returns_done : (plan : List Sent) {out after : List ℕ} {count : ℕ} → Ok count ≡ result_of (told_of (record { answer = Done; plan = plan }))
    → after ≡ laid_out plan out → Returns (record { answer = Done; plan = plan }) out (Ok count) after
returns_done plan {count = count} told laid =
    let same : count ≡ length plan = cc in
    record {
      told = told;
      buffer = laid;
      plans = record { told = ap (λ (n : ℕ). record { answer = Done; count = n }) same; number = refl; buffer = laid };
    }

-- what holds of each refusal and of the plan of a wish holds of a reply
pub reply_cases : (P : Reply → Type 0) (wish : Wish) (marks values out : List ℕ) → P (turned_down NotWhole) → P (turned_down NotWish) → P (turned_down OutputShort)
    → (is_wish wish marks ≡ true → P (record { answer = Done; plan = plan_of wish marks values })) → P (reply_to wish marks values out)
unfolding reply_to
reply_cases P wish marks values out lengths wished short made =
    let plan : Reply = record { answer = Done; plan = plan_of wish marks values } in
    let last : Reply = cond (ltb (length out) wanted) (turned_down OutputShort) plan in
    let third : Reply = cond (not (is_wish wish marks)) (turned_down NotWish) last in
    let second : Reply = cond (not (whole values)) (turned_down NotWhole) third in
    cond-elim P (not (whole marks)) (turned_down NotWhole) second (λ _. lengths)
    (λ _. cond-elim P (not (whole values)) (turned_down NotWhole) third (λ _. lengths)
    (λ _. cond-elim P (not (is_wish wish marks)) (turned_down NotWish) last (λ _. wished)
    (λ is. cond-elim P (ltb (length out) wanted) (turned_down OutputShort) plan (λ _. short) (λ _. made (not-false (is_wish wish marks) is)))))

-- what a reply's result tells is the reply
pub told_back : (wish : Wish) (marks values out : List ℕ)
    → planned_in (result_of (told_of (reply_to wish marks values out))) ≡ told_of (reply_to wish marks values out)
told_back wish marks values out =
    reply_cases (λ (r : Reply). planned_in (result_of (told_of r)) ≡ told_of r) wish marks values out refl refl refl (λ _. refl)

-- and that is what is promised
pub returned : (wish : Wish) (marks values out : List ℕ)
    → Returns (reply_to wish marks values out) out (result_of (told_of (reply_to wish marks values out))) (laid_out (reply_to wish marks values out).plan out)
returned wish marks values out =
    let again = told_back wish marks values out in
    record { told = refl; buffer = refl; plans = record { told = again; number = ap (λ (p : Planned). number_of p.answer) again; buffer = refl } }

-- what an accepted call returns
pub returns_plan : (wish : Wish) (marks values out : List ℕ) {m v first now : List ℕ} {count : ℕ}
    → IsWholeChunk marks m 144 → IsWholeChunk values v 144 → is_wish wish m ≡ true → IsFirstChunk out first 2808
    → Ok count ≡ result_of (told_of (record { answer = Done; plan = plan_of wish m v })) → now ≡ laid_out (plan_of wish m v) first
    → Returns (reply_to wish marks values out) out (Ok count) (now ++ drop 2808 out)
unfolding wanted whole
returns_plan wish marks values out {m} {v} {first} {now} {count} own given is part counted laid =
    let wished : is_wish wish marks ≡ true = ap (is_wish wish) (sym own.same) ∙ is in
    let plan : plan_of wish m v ≡ plan_of wish marks values = ap (λ (l : List ℕ). plan_of wish l v) own.same ∙ ap (plan_of wish marks) given.same in
    rw (reply_done wish marks values out (eq-eqb (length marks) 144 own.long) (eq-eqb (length values) 144 given.long) wished part.enough)
    (returns_done (plan_of wish marks values) (counted ∙ ap (λ (p : List Sent). result_of (told_of (record { answer = Done; plan = p }))) plan)
    (ap (λ (l : List ℕ). l ++ drop 2808 out)
    (laid ∙ ap (λ (p : List Sent). laid_out p first) plan ∙ ap (laid_out (plan_of wish marks values)) part.same)
    ∙ laid_within (plan_of wish marks values) 2808 out (omega (arith, length_encoded (plan_of wish marks values), plan_bound wish marks values wished)) part.enough))

-- a count that is returned is one of an accepted call
pub result_done : (planned : Planned) (count : ℕ) → Ok count ≡ result_of planned → (planned.answer ≡ Done) × (planned.count ≡ count)
result_done planned count is = go (is_done planned.answer) refl is
  where
    go : (t : Bool) → is_done planned.answer ≡ t → Ok count ≡ cond t (Ok planned.count) (Err planned.answer) → (planned.answer ≡ Done) × (planned.count ≡ count)
    go true done told = (done_is planned.answer done, cc)
    go false other told = cc

-- and an answer that is returned is a refusal
pub result_refused : (planned : Planned) (answer : Answer) → Err answer ≡ result_of planned → (planned.answer ≡ answer) × (is_done answer ≡ false)
result_refused planned answer is = go (is_done planned.answer) refl is
  where
    go : (t : Bool) → is_done planned.answer ≡ t → Err answer ≡ cond t (Ok planned.count) (Err planned.answer)
        → (planned.answer ≡ answer) × (is_done answer ≡ false)
    go true done told = cc
    go false other told = let same : planned.answer ≡ answer = cc in (same, ap is_done (sym same) ∙ other)
