-- Demand 3: the ending, the whole plan, and any number of cut runs of it. It is enough that the times the plan goes by are those of
-- the controller or longer, so that a plan for a slower module serves on a faster one.
-- Assumes nothing.
use mathlib.Core.Bool.{Bool, true, false≢true}
use mathlib.Core.List.{[], ◌++◌}
use mathlib.Core.Logic.{inl, ⊎_elim}
use mathlib.Core.Path.{◌≡◌, refl, sym, ap, subst, ◌∙◌}
use Prim.Native.Nat.{ℕ, ◌+◌, ◌<◌, ◌≤◌}
use native.Mathlib.Nat.{not-suc-le-zero}
use native.Mathlib.Omega.{arith}
use lib.ListN.{length, get_or}
use borrow.Author.Tests.{eq-eqb}
use Rattle.controller.proofs.Laws.Oscillator.{range_within}
use Rattle.controller.proofs.Laws.Record.{sound_frequency}
use Rattle.controller.proofs.Theorems.Times.{time_falls}
use Rattle.controller.specs.Cells.{place_of, byte_under}
use Rattle.controller.specs.Decision.{performed}
use Rattle.controller.specs.Execute.{short_time, long_time, placed, loaded, changed, executed}
use Rattle.controller.specs.Oscillator.{time_at}
use Rattle.controller.specs.Record.{sound, busy_over, with_control, with_entry}
use Rattle.controller.specs.Runs.{State, after, ran}
use Rattle.controller.specs.declared.decision.Decision.{Decision}
use Rattle.controller.specs.declared.instruction.Instruction.{Instruction}
use Rattle.controller.specs.declared.oscillator.Frequency.{Frequency}
use Rattle.controller.specs.declared.«record».Function.{Function}
use Rattle.controller.specs.declared.«record».Half.TheVariants.{DataWrite}
use Rattle.controller.specs.declared.«record».Record.{Record}
use Rattle.planner.proofs.Demand.Cells.{At, display_at, place_at_lem, address_does, address_small, cells_safe}
use Rattle.planner.proofs.Demand.Command.{instruct}
use Rattle.planner.proofs.Demand.Opening.{empty_quiet, opening_safe}
use Rattle.planner.proofs.Demand.Safe.{Scene, Inv, Safe, safe_end, short_enough, all_runs}
use Rattle.planner.proofs.Demand.Stages.{short_time_lem, entry_byte, control_byte, set_up_safe, shift_safe}
use Rattle.planner.proofs.Laws.Wish.{worth_small, wish_shift_small, wish_cursor, wish_frequency}
use Rattle.planner.specs.declared.wish.Wish.{Wish}
use Rattle.planner.specs.Demand.{joined, half_write, excepted, Stands, Spared, Serves, CutRuns, SlowerServes, LowestServes, at_frequency}
use Rattle.planner.specs.Plan.{worth, counter_at, address_byte, opening, ending, commands, times_at, in_halves, plan_of}
use Rattle.planner.specs.Wish.{is_wish, follows}

-- what the last run leaves
abbrev Final : Scene → Wish → State → Type 0
Final k wish s = Inv k s × Stands (at_frequency k.start.rec.frequency wish) k.marks k.values s

no_commands : (k : Scene) (Q : State → Type 0) (s : State) (wait : ℕ) → Q s → Safe k Q s (in_halves k.times wait [])
unfolding in_halves
no_commands k Q s wait q = safe_end k Q s q

-- Entry Mode, the cursor's address, Display Control
ending_safe : (k : Scene) (wish : Wish) (wait : ℕ) (s : State) → wish.cursor < 80 → At k wish 144 wait s
    → Safe k (Final k wish) s (in_halves k.times wait (ending wish))
unfolding performed executed byte_under
ending_safe k wish wait s below at =
    let n : Bool = wish.function.n in
    let entry : ℕ = 0x04 + worth 0x02 wish.entry.id + worth 0x01 wish.entry.s in
    let control : ℕ = 0x08 + worth 0x04 wish.control.d + worth 0x02 wish.control.c + worth 0x01 wish.control.b in
    let small = address_small n wish.cursor (omega arith) in
    let short : ℕ = k.times.short in
    let brief = short_enough k s at.inv in
    let d₁ : Decision = changed (with_entry wish.entry (busy_over s.rec)) in
    let s₁ : State = after s d₁ in
    let d₂ : Decision = changed (loaded s.mem (placed (counter_at wish.cursor) (busy_over s₁.rec))) in
    let s₂ : State = after s₁ d₂ in
    let d₃ : Decision = changed (with_control wish.control (busy_over s₂.rec)) in
    instruct k (Final k wish) s entry wait short _ d₁ (omega (arith, worth_small 0x02 wish.entry.id, worth_small 0x01 wish.entry.s))
    (ap (λ (i : Instruction). executed s.mem i (busy_over s.rec)) (entry_byte wish.entry.id wish.entry.s))
    refl (empty_quiet _ at.steady.half) (short_time_lem k.times entry (λ e. omega arith)) at.inv at.steady
    (λ inv₁. instruct k (Final k wish) s₁ (address_byte n wish.cursor) short short _ d₂ small.0
    (address_does s.mem n wish.cursor (busy_over s₁.rec) (omega arith) (ap (λ (x : Function). x.n) at.shaped.function))
    refl (empty_quiet _ at.steady.half) (short_time_lem k.times (address_byte n wish.cursor) (λ e. omega arith)) inv₁
    (record { busy = brief; narrow = at.steady.narrow; half = at.steady.half })
    (λ inv₂. instruct k (Final k wish) s₂ control short short [] d₃
    (omega (arith, worth_small 0x04 wish.control.d, worth_small 0x02 wish.control.c, worth_small 0x01 wish.control.b))
    (ap (λ (i : Instruction). executed s.mem i (busy_over s₂.rec)) (control_byte wish.control.d wish.control.c wish.control.b))
    refl (empty_quiet _ at.steady.half) (short_time_lem k.times control (λ e. omega arith)) inv₂
    (record { busy = brief; narrow = at.steady.narrow; half = at.steady.half })
    (λ inv₃. no_commands k (Final k wish) (after s₂ d₃) short (
      inv₃,
      record {
        rec = λ i.
            record {
              wide = at.steady.narrow i;
              function = at.shaped.function i;
              control = wish.control;
              entry = wish.entry;
              shift = at.shaped.shift i;
              counter = display_at wish.cursor below i;
              reg = ap (λ (p : ℕ). get_or s.mem p 0) (place_at_lem wish.cursor) i;
              fresh = true;
              busy = ap short_time at.inv.frequency i;
              frequency = at.inv.frequency i;
              half = at.steady.half i;
            };
        cells = λ place under mark. at.written place under mark;
      },
    ))))

-- the plan is safe from every state of the invariant
plan_safe : (k : Scene) (wish : Wish) → is_wish wish k.marks ≡ true → (s : State) → Inv k s
    → Safe k (Final k wish) s (opening ++ in_halves k.times 100 (commands wish k.marks k.values))
unfolding commands follows
plan_safe k wish is s inv =
    opening_safe k (Final k wish) s _ inv
    (λ s₁ inv₁ steady₁. set_up_safe k (Final k wish) wish s₁ _ inv₁ steady₁
    (λ s₂ inv₂ steady₂ shaped₂. shift_safe k (Final k wish) wish wish.shift 0 wish.shift _ (omega arith) (wish_shift_small wish k.marks is)
    (λ wait s₃ inv₃ steady₃ shaped₃. cells_safe k (Final k wish) wish 144 (ending wish) (omega arith)
    (λ wait' s₄ at. ending_safe k wish wait' s₄ (wish_cursor wish k.marks is) at)
    wait s₃
    (record {
      inv = inv₃;
      steady = steady₃;
      shaped = shaped₃;
      next = λ _ after_one. absurd (false≢true after_one);
      written = λ j under. absurd (not-suc-le-zero under);
    }))
    _ s₂ inv₂ steady₂ shaped₂))

-- a data write that waits excepts its own cell
waits_excepted : (rec : Record) (high : ℕ) → rec.half ≡ DataWrite high → excepted rec (place_of rec.counter) ≡ true
unfolding excepted half_write
waits_excepted rec high waits = rw (waits, eq-eqb (place_of rec.counter) (place_of rec.counter) refl)

-- the invariant holds where the first run begins
begins : (k : Scene) → sound k.start.rec ≡ true → length k.start.mem ≡ 144 → Inv k k.start
begins k s long =
    record {
      sound = s;
      frequency = refl;
      whole = long;
      cells = λ place below free. inl refl;
      half = λ high waits free. absurd (false≢true (sym free ∙ waits_excepted k.start.rec high waits));
    }

-- what is not named is spared
spared : (k : Scene) (s : State) → Inv k s → Spared k.marks k.start s.mem
spared k s inv place below no-mark free =
    ⊎_elim (λ first. first) (λ named. absurd (false≢true (sym no-mark ∙ named.0))) (inv.cells place below free)

pub slower_serves : SlowerServes
unfolding plan_of short_time long_time
slower_serves wish marks values start asked slower cut last begun whole =
    let slow = range_within wish.frequency (wish_frequency wish marks asked.accepted) in
    let fast = range_within start.rec.frequency (sound_frequency start.rec asked.sound) in
    let falls : (time : ℕ) → time_at time start.rec.frequency ≤ time_at time wish.frequency =
    λ time. time_falls time wish.frequency start.rec.frequency slow fast slower in
    let k : Scene =
    record {
      start = start;
      times = times_at wish.frequency;
      short = falls 40;
      long = falls 1640;
      marks = marks;
      values = values;
      bytes = asked.bytes;
    } in
    let all = all_runs k (Final k wish) (plan_of wish marks values) (plan_safe k wish asked.accepted) cut last start (begins k asked.sound asked.whole) begun whole in
    (all.0.1, all.1, spared k (ran start (joined cut last)) all.0.0)

pub lowest_serves : LowestServes
lowest_serves wish marks values start asked lowest =
    let fast = range_within start.rec.frequency (sound_frequency start.rec asked.sound) in
    slower_serves wish marks values start asked (omega arith)

pub cut_runs : CutRuns
cut_runs wish marks values start asked same =
    subst (λ (f : Frequency). Serves (plan_of wish marks values) (at_frequency f wish) marks values start) same
    (slower_serves wish marks values start asked (omega (arith, ap (λ (f : Frequency). f.khz) same)))
