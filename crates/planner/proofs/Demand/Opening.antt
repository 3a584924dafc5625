-- The opening: from whatever state, four single transfers lead to width 4 with no half waiting.
-- Assumes nothing.
use mathlib.Core.Bool.{Bool, true, false, false≢true}
use mathlib.Core.List.{List, ◌∷◌, ◌++◌}
use mathlib.Core.Logic.{◌⊎◌, inl, inr, ⊎_elim}
use mathlib.Core.Path.{◌≡◌, refl, sym, ap, subst, ◌∙◌}
use Prim.Native.Nat.{ℕ, ◌+◌, ◌*◌, ◌≤◌, zero-le}
use native.Mathlib.Nat.{le_refl, le_trans}
use native.Mathlib.Omega.{arith}
use Rattle.controller.proofs.Laws.Completed.{short_long, short_bound, long_bound, completed_carried, instruct_keeps}
use Rattle.controller.proofs.Laws.Kept.{wide_none}
use Rattle.controller.proofs.Laws.Record.{sound_half, sound_busy}
use Rattle.controller.proofs.Laws.Taken.{accepted_wide, accepted_narrow}
use Rattle.controller.specs.Bus.{bad_transfer}
use Rattle.controller.specs.Cells.{place_of}
use Rattle.controller.specs.Execute.{short_time, long_time, completed, executed, written, read_out}
use Rattle.controller.specs.Halves.{narrow, begun, first_half, second_half}
use Rattle.controller.specs.Instruction.{decoded, bit}
use Rattle.controller.specs.Record.{reset_time, busy_over, with_half}
use Rattle.controller.specs.declared.sent.Sent.{Sent}
use Rattle.controller.specs.Runs.{State, after}
use Rattle.controller.specs.declared.decision.Decision.{Decision}
use Rattle.controller.specs.declared.decision.Effect.TheVariants.{Keep}
use Rattle.controller.specs.declared.execute.Transfer.{Transfer}
use Rattle.controller.specs.declared.execute.Transfer.TheVariants.{Instruct, Write, Status, Read}
use Rattle.controller.specs.declared.oscillator.Frequency.{Frequency}
use Rattle.controller.specs.declared.«record».Half.{Half}
use Rattle.controller.specs.declared.«record».Half.TheVariants.{Empty, InstructionWrite, DataWrite, StatusRead, DataRead}
use Rattle.controller.specs.declared.«record».Record.{Record}
use Rattle.planner.proofs.Demand.Safe.{Scene, Inv, Safe}
use Rattle.planner.proofs.Demand.Step.{comes_to, Mild, Harmless, step}
use Rattle.planner.specs.Demand.{half_write}
use Rattle.planner.specs.Plan.{single, opening}

-- no data write waits in such a half
no_write : (half : Half) → half_write half ≡ false → (high : ℕ) → half ≡ DataWrite high → ⊥
unfolding half_write
no_write half quiet high is = false≢true (sym quiet ∙ ap half_write is)

-- a decision that keeps the memory and leaves no data write waiting does no harm
pub quiet : (k : Scene) (d : Decision) → d.effect ≡ Keep → half_write d.rec.half ≡ false → Harmless k d
quiet k d keep none =
    record {
      effect = subst (Mild k) (sym keep) Mild.keeps;
      half = λ high is _. absurd (no_write d.rec.half none high is);
    }

pub empty_quiet : (half : Half) → half ≡ Empty → half_write half ≡ false
unfolding half_write
empty_quiet half is = ap half_write is

-- what is waiting after the first transfer, and how long it is busy
abbrev Found : Record → Type 0
Found rec = (rec.busy ≤ long_time rec.frequency) × ((rec.half ≡ Empty) ⊎ ((rec.wide ≡ false) × (rec.half ≡ InstructionWrite 3)))

-- after the second
abbrev Halfway : Record → Type 0
Halfway rec =
    (rec.busy ≤ short_time rec.frequency) × (((rec.wide ≡ true) × (rec.half ≡ Empty)) ⊎ ((rec.wide ≡ false) × (rec.half ≡ InstructionWrite 3)))

-- after the third
abbrev Wide : Record → Type 0
Wide rec = (rec.busy ≤ short_time rec.frequency) × (rec.wide ≡ true) × (rec.half ≡ Empty)

-- after the fourth, and after each command: width 4, no half, busy for at most this time
pub record Steady (time : ℕ) (rec : Record) : Type 0 where
  pub busy : rec.busy ≤ time
  pub narrow : rec.wide ≡ false
  pub half : rec.half ≡ Empty

-- a second half ends with no half waiting and busy for at most the long time
ends : (mem : List ℕ) (t : Transfer) (rec : Record) → Found (completed mem t (with_half Empty (busy_over rec))).rec
ends mem t rec =
    let known = completed_carried mem t (with_half Empty (busy_over rec)) in (rw known.frequency (known.busy zero-le), inl known.half)

ends_quiet : (mem : List ℕ) (t : Transfer) (rec : Record) → half_write (completed mem t (with_half Empty (busy_over rec))).rec.half ≡ false
ends_quiet mem t rec = empty_quiet _ (completed_carried mem t (with_half Empty (busy_over rec))).half

-- at width 8 a single instruction is complete at once, and at width 4 what waits decides
module _ (P : Decision → Type 0) (s : State) (byte wait : ℕ) where
  at_eight : s.rec.wide ≡ true → P (completed s.mem (begun 0 byte (busy_over s.rec)) (busy_over s.rec)) → P (comes_to s (single byte wait))
  unfolding comes_to
  at_eight wide p = subst P (sym (accepted_wide s.mem 0 byte (busy_over s.rec) wide)) p

  at_four : (half : Half) → s.rec.wide ≡ false → s.rec.half ≡ half → P (narrow s.mem 0 byte half (busy_over s.rec))
      → P (comes_to s (single byte wait))
  unfolding comes_to
  at_four half thin waits p = subst P (sym (accepted_narrow s.mem 0 byte half (busy_over s.rec) thin waits)) p

-- 30h, the first time
first_30 : (k : Scene) (s : State) (wait : ℕ) → Inv k s → Harmless k (comes_to s (single 0x30 wait)) × Found (comes_to s (single 0x30 wait)).rec
unfolding narrow begun first_half second_half completed executed decoded bit written read_out half_write
first_30 k s wait inv = go s.rec.wide s.rec.half refl refl
  where
    P : Decision → Type 0
    P d = Harmless k d × Found d.rec

    go : (wide : Bool) (half : Half) → s.rec.wide ≡ wide → s.rec.half ≡ half → P (comes_to s (single 0x30 wait))
    go true half w h =
        let none : s.rec.half ≡ Empty = wide_none s.rec.wide s.rec.busy s.rec.half w (sound_half s.rec inv.sound) in
        at_eight P s 0x30 wait w (quiet k _ refl (empty_quiet _ none), (short_long s.rec.frequency, inl none))
    go false Empty w h = at_four P s 0x30 wait Empty w h (quiet k _ refl refl, (zero-le, inr (w, refl)))
    go false (InstructionWrite high) w h =
        at_four P s 0x30 wait (InstructionWrite high) w h (
          quiet k _ (instruct_keeps s.mem (high * 16 + 3) _ (λ e. omega arith)) (ends_quiet s.mem (Instruct (high * 16 + 3)) s.rec),
          ends s.mem (Instruct (high * 16 + 3)) s.rec,
        )
    go false (DataWrite high) w h =
        at_four P s 0x30 wait (DataWrite high) w h (
          record {
            effect = Mild.stores (place_of s.rec.counter) (high * 16 + 3) (inv.half high h);
            half = λ more is _. absurd (no_write _ (ends_quiet s.mem (Write (high * 16 + 3)) s.rec) more is);
          },
          ends s.mem (Write (high * 16 + 3)) s.rec,
        )
    go false (StatusRead taken) w h =
        at_four P s 0x30 wait (StatusRead taken) w h (quiet k _ refl refl, ends s.mem (Status taken) s.rec)
    go false (DataRead taken) w h = at_four P s 0x30 wait (DataRead taken) w h (quiet k _ refl refl, ends s.mem (Read taken) s.rec)

-- 30h, the second time
second_30 : (k : Scene) (s : State) (wait : ℕ) → Found s.rec → Harmless k (comes_to s (single 0x30 wait)) × Halfway (comes_to s (single 0x30 wait)).rec
unfolding narrow begun first_half second_half completed executed decoded bit half_write
second_30 k s wait found =
    ⊎_elim (λ none. go s.rec.wide refl none)
    (λ three. at_four P s 0x30 wait (InstructionWrite 3) three.0 three.1 (quiet k _ refl refl, (le_refl (short_time s.rec.frequency), inl (refl, refl)))) found.1
  where
    P : Decision → Type 0
    P d = Harmless k d × Halfway d.rec

    go : (wide : Bool) → s.rec.wide ≡ wide → s.rec.half ≡ Empty → P (comes_to s (single 0x30 wait))
    go true w none = at_eight P s 0x30 wait w (quiet k _ refl (empty_quiet _ none), (le_refl (short_time s.rec.frequency), inl (refl, none)))
    go false w none = at_four P s 0x30 wait Empty w none (quiet k _ refl refl, (zero-le, inr (w, refl)))

-- 30h, the third time
third_30 : (k : Scene) (s : State) (wait : ℕ) → Halfway s.rec → Harmless k (comes_to s (single 0x30 wait)) × Wide (comes_to s (single 0x30 wait)).rec
unfolding narrow begun second_half completed executed decoded bit half_write
third_30 k s wait halfway =
    let P : Decision → Type 0 = λ d. Harmless k d × Wide d.rec in
    ⊎_elim (λ at. at_eight P s 0x30 wait at.0 (quiet k _ refl (empty_quiet _ at.1), (le_refl (short_time s.rec.frequency), refl, at.1)))
    (λ at. at_four P s 0x30 wait (InstructionWrite 3) at.0 at.1 (quiet k _ refl refl, (le_refl (short_time s.rec.frequency), refl, refl))) halfway.1

-- 20h
then_20 : (k : Scene) (s : State) (wait : ℕ) → Wide s.rec → Harmless k (comes_to s (single 0x20 wait)) × Steady 100 (comes_to s (single 0x20 wait)).rec
unfolding begun completed executed decoded bit
then_20 k s wait at =
    at_eight (λ d. Harmless k d × Steady 100 d.rec) s 0x20 wait at.1
    (quiet k _ refl (empty_quiet _ at.2), record { busy = short_bound s.rec.frequency; narrow = refl; half = at.2 })

-- four single transfers, each waiting as long as the controller can be busy, and then the rest
opened_safe : (k : Scene) (Q : State → Type 0) (s : State) (a b c d : ℕ) (rest : List Sent) → reset_time ≤ a → ((f : Frequency) → long_time f ≤ b)
    → ((f : Frequency) → short_time f ≤ c) → ((f : Frequency) → short_time f ≤ d) → Inv k s
    → ((s' : State) → Inv k s' → Steady 100 s'.rec → Safe k Q s' rest)
    → Safe k Q s (single 0x30 a ∷ single 0x30 b ∷ single 0x30 c ∷ single 0x20 d ∷ rest)
unfolding bad_transfer
opened_safe k Q s a b c d rest over-a over-b over-c over-d inv then =
    let one = first_30 k s a inv in
    step k Q s (single 0x30 a) _ inv refl (omega arith) (le_trans (sound_busy s.rec inv.sound) over-a) one.0
    (λ inv₁.
    let s₁ : State = after s (comes_to s (single 0x30 a)) in
    let two = second_30 k s₁ b one.1 in
    step k Q s₁ (single 0x30 b) _ inv₁ refl (omega arith) (le_trans one.1.0 (over-b s₁.rec.frequency)) two.0
    (λ inv₂.
    let s₂ : State = after s₁ (comes_to s₁ (single 0x30 b)) in
    let three = third_30 k s₂ c two.1 in
    step k Q s₂ (single 0x30 c) _ inv₂ refl (omega arith) (le_trans two.1.0 (over-c s₂.rec.frequency)) three.0
    (λ inv₃.
    let s₃ : State = after s₂ (comes_to s₂ (single 0x30 c)) in
    let four = then_20 k s₃ d three.1 in
    step k Q s₃ (single 0x20 d) rest inv₃ refl (omega arith) (le_trans three.1.0 (over-d s₃.rec.frequency)) four.0
    (λ inv₄. then (after s₃ (comes_to s₃ (single 0x20 d))) inv₄ four.1))))

-- the opening, and then the rest from width 4 with no half waiting
pub opening_safe : (k : Scene) (Q : State → Type 0) (s : State) (rest : List Sent) → Inv k s
    → ((s' : State) → Inv k s' → Steady 100 s'.rec → Safe k Q s' rest) → Safe k Q s (opening ++ rest)
unfolding reset_time
opening_safe k Q s rest inv then = opened_safe k Q s _ _ _ _ rest (omega arith) long_bound short_bound short_bound inv then
