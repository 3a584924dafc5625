-- A command in two halves, at width 4 with no half waiting, is one operation of its whole byte.
-- Assumes nothing.
use mathlib.Core.Bool.{true, false}
use mathlib.Core.List.{List, ◌∷◌}
use mathlib.Core.Logic.{inl, inr}
use mathlib.Core.Path.{◌≡◌, refl, sym, ap, subst, ◌∙◌}
use Prim.Native.Nat.{ℕ, ◌+◌, ◌*◌, ◌/◌, ◌≤◌, ◌<◌, zero-le}
use native.Mathlib.Omega.{arith}
use lib.ListN.{get_or}
use Rattle.controller.proofs.Laws.Halves.{high_of, whole_of, without}
use Rattle.controller.proofs.Laws.Taken.{accepted_narrow}
use Rattle.controller.specs.Bus.{bad_transfer}
use Rattle.controller.specs.Cells.{place_of}
use Rattle.controller.specs.Decision.{performed}
use Rattle.controller.specs.Execute.{completed, executed, written}
use Rattle.controller.specs.Halves.{high_half, low_half, begun, whole_byte, first_told, first_half, ended, second_half, narrow}
use Rattle.controller.specs.Instruction.{decoded}
use Rattle.controller.specs.Record.{busy_over, with_half}
use Rattle.controller.specs.declared.sent.Sent.{Sent}
use Rattle.controller.specs.Runs.{State, after}
use Rattle.controller.specs.declared.decision.Decision.{Decision}
use Rattle.controller.specs.declared.decision.Effect.TheVariants.{Keep, Store}
use Rattle.controller.specs.declared.execute.Transfer.{Transfer}
use Rattle.controller.specs.declared.execute.Transfer.TheVariants.{Instruct, Write}
use Rattle.controller.specs.declared.«record».Half.{Half}
use Rattle.controller.specs.declared.«record».Half.TheVariants.{Empty, InstructionWrite, DataWrite}
use Rattle.controller.specs.declared.«record».Record.{Record}
use Rattle.planner.proofs.Demand.Opening.{Steady, quiet}
use Rattle.planner.proofs.Demand.Safe.{Scene, Inv, Safe}
use Rattle.planner.proofs.Demand.Step.{comes_to, Mild, Harmless, step}
use Rattle.planner.specs.Demand.{half_write}
use Rattle.planner.specs.Plan.{Command, instruction, write, first_sent, second_sent, time_of, in_halves}
use Rattle.planner.specs.Wish.{marked}

-- one transfer whose decision is known, and then the rest
step_to : (k : Scene) (Q : State → Type 0) (s : State) (asked : Sent) (plan : List Sent) (d : Decision) → comes_to s asked ≡ d → Inv k s
    → bad_transfer asked.kind asked.byte ≡ false → asked.byte < 256 → s.rec.busy ≤ asked.wait → Harmless k d
    → (Inv k (after s d) → Safe k Q (after s d) plan) → Safe k Q s (asked ∷ plan)
step_to k Q s asked plan d is inv good byte over harmless rest =
    step k Q s asked plan inv good byte over (subst (Harmless k) (sym is) harmless)
    (λ next. subst (λ (x : Decision). Safe k Q (after s x) plan) (sym is) (rest (subst (λ (x : Decision). Inv k (after s x)) is next)))

-- a kind of write: the command of a byte, how its high half waits, and what the whole byte completes
record Way : Type 0 where
  kind : ℕ
  waits : ℕ → Half
  makes : ℕ → Transfer
  good : (byte : ℕ) → bad_transfer kind byte ≡ false
  first : (mem : List ℕ) (byte : ℕ) (rec : Record) → narrow mem kind byte Empty rec ≡ first_told 0 (waits (byte / 16)) rec
  second : (mem : List ℕ) (high byte : ℕ) (rec : Record) → narrow mem kind byte (waits high) rec ≡ second_half mem false (makes (whole_byte high byte)) rec

abbrev instructing : Way
unfolding bad_transfer narrow begun first_half
instructing =
    record {
      kind = 0;
      waits = InstructionWrite;
      makes = Instruct;
      good = λ byte. refl;
      first = λ mem byte rec. refl;
      second = λ mem high byte rec. refl;
    }

abbrev writing : Way
unfolding bad_transfer narrow begun first_half
writing =
    record {
      kind = 1;
      waits = DataWrite;
      makes = Write;
      good = λ byte. refl;
      first = λ mem byte rec. refl;
      second = λ mem high byte rec. refl;
    }

module _ (w : Way) (s : State) (byte : ℕ) where
  abbrev command : Command
  command = record { kind = w.kind; byte = byte }

  -- after the first half
  abbrev one : Decision
  one = first_told 0 (w.waits (byte / 16)) (busy_over s.rec)

  first_sent_lem : (wait : ℕ) → Steady wait s.rec → comes_to s (first_sent wait command) ≡ one
  unfolding comes_to
  first_sent_lem wait steady =
      accepted_narrow s.mem w.kind (high_half byte) Empty (busy_over s.rec) steady.narrow steady.half
      ∙ w.first s.mem (high_half byte) (busy_over s.rec)
      ∙ ap (λ (high : ℕ). first_told 0 (w.waits high) (busy_over s.rec)) (high_of byte)

  second_sent_lem : s.rec.wide ≡ false → s.rec.half ≡ Empty
      → comes_to (after s one) (second_sent command) ≡ ended false (completed s.mem (w.makes byte) (busy_over s.rec))
  unfolding comes_to second_half performed
  second_sent_lem thin none =
      accepted_narrow s.mem w.kind (low_half byte) (w.waits (byte / 16)) one.rec thin refl
      ∙ w.second s.mem (byte / 16) (low_half byte) one.rec
      ∙ ap (λ (b : ℕ). ended false (completed s.mem (w.makes b) (with_half Empty (busy_over s.rec)))) (whole_of byte)
      ∙ ap (λ (r : Record). ended false (completed s.mem (w.makes byte) r)) (without (busy_over s.rec) none)

  -- both halves, neither of which does harm, and then the rest
  in_two : (k : Scene) (Q : State → Type 0) (wait time : ℕ) (cs : List Command) (d : Decision) → byte < 256
      → completed s.mem (w.makes byte) (busy_over s.rec) ≡ d → Harmless k one → Harmless k (ended false d)
      → time_of k.times command ≡ time → Inv k s → Steady wait s.rec
      → (Inv k (after s d) → Safe k Q (after s d) (in_halves k.times time cs)) → Safe k Q s (in_halves k.times wait (command ∷ cs))
  unfolding in_halves performed
  in_two k Q wait time cs d below does harmless-one harmless takes inv steady rest =
      step_to k Q s (first_sent wait command) _ one (first_sent_lem wait steady) inv (w.good (high_half byte)) (omega arith) steady.busy harmless-one
      (λ next. step_to k Q (after s one) (second_sent command) _ (ended false d)
      (second_sent_lem steady.narrow steady.half ∙ ap (ended false) does) next (w.good (low_half byte)) (omega arith) zero-le harmless
      (λ last. subst (λ (t : ℕ). Safe k Q (after s d) (in_halves k.times t cs)) (sym takes) (rest last)))

-- an instruction that keeps the memory, and then the rest
pub instruct : (k : Scene) (Q : State → Type 0) (s : State) (byte wait time : ℕ) (cs : List Command) (d : Decision) → byte < 256
    → executed s.mem (decoded byte) (busy_over s.rec) ≡ d → d.effect ≡ Keep → half_write d.rec.half ≡ false
    → time_of k.times (instruction byte) ≡ time → Inv k s → Steady wait s.rec
    → (Inv k (after s d) → Safe k Q (after s d) (in_halves k.times time cs)) → Safe k Q s (in_halves k.times wait (instruction byte ∷ cs))
unfolding completed half_write bad_transfer narrow begun first_half
instruct k Q s byte wait time cs d below does keep none =
    in_two instructing s byte k Q wait time cs d below does (quiet k (one instructing s byte) refl refl) (quiet k (ended false d) keep none)

-- the wished byte of a named cell at the counter, and then the rest
pub write_wished : (k : Scene) (Q : State → Type 0) (s : State) (byte wait time : ℕ) (cs : List Command) (d : Decision)
    → marked k.marks (place_of s.rec.counter) ≡ true → byte ≡ get_or k.values (place_of s.rec.counter) 0
    → written byte (busy_over s.rec) ≡ d → d.effect ≡ Store (place_of s.rec.counter) byte → d.rec.half ≡ Empty
    → time_of k.times (write byte) ≡ time → Inv k s → Steady wait s.rec
    → (Inv k (after s d) → Safe k Q (after s d) (in_halves k.times time cs)) → Safe k Q s (in_halves k.times wait (write byte ∷ cs))
unfolding completed bad_transfer narrow begun first_half
write_wished k Q s byte wait time cs d mark wished does stores none =
    in_two writing s byte k Q wait time cs d (subst (λ (b : ℕ). b < 256) (sym wished) (k.bytes (place_of s.rec.counter) mark)) does
    (record { effect = Mild.keeps; half = λ high is _. inr (mark, inr (half_wished high is)) })
    (record {
      effect = subst (Mild k) (sym stores) (Mild.stores (place_of s.rec.counter) byte (λ _. inr (mark, inl wished)));
      half = λ high is _. absurd (never_writes high (sym none ∙ is));
    })
  where
    half_wished : (high : ℕ) → DataWrite (byte / 16) ≡ DataWrite high → high * 16 + 3 ≡ high_half (get_or k.values (place_of s.rec.counter) 0) + 3
    half_wished high is =
        let same : byte / 16 ≡ high = cc in
        omega (arith, same, wished)

    never_writes : (high : ℕ) → Empty ≡ DataWrite high → ⊥
    never_writes high is = let zero : ◌≡◌ {A = ℕ} 0 1 = cc in omega arith
