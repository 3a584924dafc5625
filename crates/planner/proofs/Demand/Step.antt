-- One transfer of a plan: once its wait covers the busy time it is taken, whatever the wait, and what it does is known.
-- Assumes nothing.
use mathlib.Core.Bool.{Bool, true, false, false≢true}
use mathlib.Core.List.{List, ◌∷◌}
use mathlib.Core.Path.{◌≡◌, refl, sym, ap, subst, ◌∙◌}
use Prim.Native.Nat.{ℕ, ◌+◌, ◌*◌, ◌≤◌, ◌<◌}
use native.Mathlib.Nat.{le_refl, le_trans}
use native.Mathlib.Omega.{arith}
use lib.Dec.{eqb}
use lib.ListN.{get_or, set}
use lib.Seq.{get_or-set_same, get_or-set_other}
use borrow.Author.Tests.{eqb-true, eqb-false}
use Rattle.controller.proofs.Laws.Memory.{performed_length}
use Rattle.controller.proofs.Laws.Record.{waited_over}
use Rattle.controller.proofs.Laws.Taken.{covered, taken}
use Rattle.controller.proofs.Theorems.Answers.{four_waits}
use Rattle.controller.proofs.Theorems.Sound.{transfer_keeps_sound}
use Rattle.controller.proofs.Theorems.Times.{transfer_keeps_frequency}
use Rattle.controller.specs.Bus.{bad_transfer}
use Rattle.controller.specs.Cells.{place_of}
use Rattle.controller.specs.Decision.{performed}
use Rattle.controller.specs.Halves.{accepted}
use Rattle.controller.specs.Record.{sound, busy_over}
use Rattle.controller.specs.declared.sent.Sent.{Sent}
use Rattle.controller.specs.Runs.{State, decided_of, after}
use Rattle.controller.specs.declared.decision.Decision.{Decision}
use Rattle.controller.specs.declared.decision.Effect.{Effect}
use Rattle.controller.specs.declared.decision.Effect.TheVariants.{Keep, Store}
use Rattle.controller.specs.declared.«record».Half.TheVariants.{DataWrite}
use Rattle.planner.proofs.Demand.Safe.{Scene, Holds, Inv, Safe, safe_more}
use Rattle.planner.specs.Demand.{AsAsked, excepted}

-- what a planned transfer comes to
unfoldable pub comes_to : State → Sent → Decision
comes_to s asked = accepted s.mem asked.kind asked.byte (busy_over s.rec)

as_planned : (k : Scene) (s : State) (asked t : Sent) → Inv k s → bad_transfer asked.kind asked.byte ≡ false → s.rec.busy ≤ asked.wait
    → AsAsked asked t → decided_of s t ≡ comes_to s asked
unfolding comes_to
as_planned k s asked t inv good over sent =
    let long : s.rec.busy ≤ t.wait = le_trans over sent.wait in
    let fits : bad_transfer t.kind t.byte ≡ false = rw (sent.kind, sent.byte) good in
    taken s.rec s.mem t.kind t.byte t.wait inv.sound inv.whole fits (covered t.kind t.wait s.rec long)
    ∙ ap (accepted s.mem t.kind t.byte) (waited_over t.wait s.rec long)
    ∙ ap (λ (x : ℕ). accepted s.mem x t.byte (busy_over s.rec)) sent.kind
    ∙ ap (λ (x : ℕ). accepted s.mem asked.kind x (busy_over s.rec)) sent.byte

-- an effect that leaves in each cell a byte that it may hold
pub data Mild (k : Scene) : Effect → Type 0 where
  keeps : Mild k Keep
  stores : (place byte : ℕ) → (excepted k.start.rec place ≡ false → Holds k place byte) → Mild k (Store place byte)

-- a decision after which the invariant holds again
pub record Harmless (k : Scene) (d : Decision) : Type 0 where
  pub effect : Mild k d.effect
  pub half : (high : ℕ) → d.rec.half ≡ DataWrite high → excepted k.start.rec (place_of d.rec.counter) ≡ false
      → Holds k (place_of d.rec.counter) (high * 16 + 3)

mild_cells : (k : Scene) (s : State) (effect : Effect) → Inv k s → Mild k effect
    → (place : ℕ) → place < 144 → excepted k.start.rec place ≡ false → Holds k place (get_or (performed effect s.mem) place 0)
unfolding performed
mild_cells k s effect inv keeps place below free = inv.cells place below free
mild_cells k s effect inv (stores at byte may) place below free = go (eqb place at) refl
  where
    go : (t : Bool) → eqb place at ≡ t → Holds k place (get_or (set s.mem at byte) place 0)
    go true t =
        let here : place ≡ at = eqb-true place at t in
        rw (here, get_or-set_same s.mem at byte 0 (omega (arith, inv.whole))) (may (rw here at free))
    go false t = rw (get_or-set_other s.mem at place byte 0 (eqb-false place at t)) (inv.cells place below free)

inv_after : (k : Scene) (s : State) (d : Decision) → Inv k s → sound d.rec ≡ true → d.rec.frequency ≡ s.rec.frequency → Harmless k d
    → Inv k (after s d)
inv_after k s d inv still same harmless =
    record {
      sound = still;
      frequency = same ∙ inv.frequency;
      whole = performed_length d.effect s.mem inv.whole;
      cells = mild_cells k s d.effect inv harmless.effect;
      half = harmless.half;
    }

-- one transfer that does no harm, and then the rest
pub step : (k : Scene) (Q : State → Type 0) (s : State) (asked : Sent) (plan : List Sent) → Inv k s
    → bad_transfer asked.kind asked.byte ≡ false → asked.byte < 256 → s.rec.busy ≤ asked.wait → Harmless k (comes_to s asked)
    → (Inv k (after s (comes_to s asked)) → Safe k Q (after s (comes_to s asked)) plan) → Safe k Q s (asked ∷ plan)
step k Q s asked plan inv good byte over harmless rest =
    let itself : AsAsked asked asked = record { kind = refl; byte = refl; wait = le_refl asked.wait } in
    let planned = as_planned k s asked asked inv good over itself in
    let same : (comes_to s asked).rec.frequency ≡ s.rec.frequency =
    sym (ap (λ (d : Decision). d.rec.frequency) planned)
    ∙ transfer_keeps_frequency s.rec s.mem asked.kind asked.byte asked.wait in
    let still : sound (comes_to s asked).rec ≡ true =
    sym (ap (λ (d : Decision). sound d.rec) planned)
    ∙ transfer_keeps_sound s.rec s.mem asked.kind asked.byte asked.wait byte inv.sound in
    let next : Inv k (after s (comes_to s asked)) = inv_after k s (comes_to s asked) inv still same harmless in
    safe_more k Q s asked plan
    (λ t sent.
    let is : decided_of s t ≡ comes_to s asked = as_planned k s asked t inv good over sent in (
      record {
        free = λ four. false≢true (sym (covered t.kind t.wait s.rec (le_trans over sent.wait)) ∙ four_waits s.rec s.mem t.kind t.byte t.wait four);
        inv = subst (λ (d : Decision). Inv k (after s d)) (sym is) next;
      },
      subst (λ (d : Decision). Safe k Q (after s d) plan) (sym is) (rest next),
    ))
