-- The stages of a plan after its opening: set-up, shift, the marked cells one by one, and the ending.
-- Assumes nothing.
use mathlib.Core.Bool.{Bool, true, false}
use mathlib.Core.List.{List, ◌++◌}
use mathlib.Core.Path.{◌≡◌, refl, ap, ◌∙◌}
use Prim.Native.Nat.{ℕ, zero, suc, ◌+◌, ◌<◌}
use native.Mathlib.Omega.{arith}
use lib.ListN.{replicate}
use borrow.Author.Tests.{ne_eqb}
use Rattle.controller.proofs.Theorems.Cells.{wraps}
use Rattle.controller.specs.Cells.{wrapped}
use Rattle.controller.specs.Decision.{done}
use Rattle.controller.specs.Execute.{long_time, changed, shifted, homed, executed}
use Rattle.controller.specs.Instruction.{decoded, bit}
use Rattle.controller.specs.Record.{busy_over, with_function, with_control, with_entry}
use Rattle.controller.specs.Runs.{State, after}
use Rattle.controller.specs.declared.decision.Decision.{Decision}
use Rattle.controller.specs.declared.decision.Effect.TheVariants.{Keep}
use Rattle.controller.specs.declared.instruction.Instruction.{Instruction}
use Rattle.controller.specs.declared.instruction.Instruction.TheVariants.{SetEntry, SetControl, SetFunction}
use Rattle.controller.specs.declared.«record».Control.{Control}
use Rattle.controller.specs.declared.«record».Entry.{Entry}
use Rattle.controller.specs.declared.«record».Record.{Record}
use Rattle.planner.proofs.Demand.Command.{instruct}
use Rattle.planner.proofs.Demand.Opening.{Steady, empty_quiet}
use Rattle.planner.proofs.Demand.Safe.{Scene, Inv, Safe, short_enough, long_enough}
use Rattle.planner.proofs.Laws.Wish.{worth_small}
use Rattle.planner.specs.declared.pen.Times.{Times}
use Rattle.planner.specs.declared.wish.Wish.{Wish}
use Rattle.planner.specs.Plan.{Command, instruction, worth, set_up, time_of, in_halves}

-- the bytes of the commands, read back as instructions
function_byte : (n f : Bool) → decoded (0x20 + worth 0x08 n + worth 0x04 f) ≡ SetFunction false (record { n = n; f = f })
unfolding decoded bit worth
function_byte false false = refl
function_byte false true = refl
function_byte true false = refl
function_byte true true = refl

pub entry_byte : (id s : Bool) → decoded (0x04 + worth 0x02 id + worth 0x01 s) ≡ SetEntry (record { id = id; s = s })
unfolding decoded bit worth
entry_byte false false = refl
entry_byte false true = refl
entry_byte true false = refl
entry_byte true true = refl

pub control_byte : (d c b : Bool) → decoded (0x08 + worth 0x04 d + worth 0x02 c + worth 0x01 b) ≡ SetControl (record { d = d; c = c; b = b })
unfolding decoded bit worth
control_byte false false false = refl
control_byte false false true = refl
control_byte false true false = refl
control_byte false true true = refl
control_byte true false false = refl
control_byte true false true = refl
control_byte true true false = refl
control_byte true true true = refl

-- every instruction byte but 02h takes the short time
pub short_time_lem : (times : Times) (byte : ℕ) → (byte ≡ 2 → ⊥) → time_of times (instruction byte) ≡ times.short
unfolding time_of
short_time_lem times byte other = rw (ne_eqb byte 2 other)

home_time : (times : Times) → time_of times (instruction 0x02) ≡ times.long
unfolding time_of
home_time times = refl

-- the display off, and the counter going up without shift
abbrev off : Control
off = record { d = false; c = false; b = false }

abbrev up : Entry
up = record { id = true; s = false }

-- what the set-up and the shifts leave of the record
pub record Shaped (wish : Wish) (moved : ℕ) (rec : Record) : Type 0 where
  pub function : rec.function ≡ wish.function
  pub control : rec.control ≡ off
  pub entry : rec.entry ≡ up
  pub shift : rec.shift ≡ moved

-- Function Set, 08h, 06h, 02h, and then the rest
pub set_up_safe : (k : Scene) (Q : State → Type 0) (wish : Wish) (s : State) (rest : List Command) → Inv k s → Steady 100 s.rec
    → ((s' : State) → Inv k s' → Steady k.times.long s'.rec → Shaped wish 0 s'.rec
    → Safe k Q s' (in_halves k.times k.times.long rest))
    → Safe k Q s (in_halves k.times 100 (set_up wish ++ rest))
unfolding executed decoded bit
set_up_safe k Q wish s rest inv steady then =
    let n : Bool = wish.function.n in
    let f : Bool = wish.function.f in
    let byte : ℕ = 0x20 + worth 0x08 n + worth 0x04 f in
    let d₁ : Decision = changed (with_function false wish.function (busy_over s.rec)) in
    let s₁ : State = after s d₁ in
    let d₂ : Decision = changed (with_control off (busy_over s₁.rec)) in
    let s₂ : State = after s₁ d₂ in
    let d₃ : Decision = changed (with_entry up (busy_over s₂.rec)) in
    let s₃ : State = after s₂ d₃ in
    let d₄ : Decision = done (long_time s.rec.frequency) Keep (homed (busy_over s₃.rec)) in
    let short : ℕ = k.times.short in
    let brief = short_enough k s inv in
    let st : Steady short d₁.rec = record { busy = brief; narrow = refl; half = steady.half } in
    instruct k Q s byte 100 short _ d₁ (omega (arith, worth_small 0x08 n, worth_small 0x04 f))
    (ap (λ (i : Instruction). executed s.mem i (busy_over s.rec)) (function_byte n f)) refl (empty_quiet _ steady.half)
    (short_time_lem k.times byte (λ e. omega arith)) inv steady
    (λ inv₁. instruct k Q s₁ 0x08 short short _ d₂ (omega arith) refl refl (empty_quiet _ steady.half) (short_time_lem k.times 0x08 (λ e. omega arith)) inv₁ st
    (λ inv₂. instruct k Q s₂ 0x06 short short _ d₃ (omega arith) refl refl (empty_quiet _ steady.half) (short_time_lem k.times 0x06 (λ e. omega arith)) inv₂
    (record { busy = brief; narrow = refl; half = steady.half })
    (λ inv₃. instruct k Q s₃ 0x02 short k.times.long rest d₄ (omega arith) refl refl (empty_quiet _ steady.half) (home_time k.times) inv₃
    (record { busy = brief; narrow = refl; half = steady.half })
    (λ inv₄. then (after s₃ d₄) inv₄ (record { busy = long_enough k s inv; narrow = refl; half = steady.half })
    (record { function = refl; control = refl; entry = refl; shift = refl })))))

-- 18h as often as is left of the shift, and then the rest
pub shift_safe : (k : Scene) (Q : State → Type 0) (wish : Wish) (more moved total : ℕ) (rest : List Command) → moved + more ≡ total → total < 80
    → ((wait : ℕ) (s' : State) → Inv k s' → Steady wait s'.rec → Shaped wish total s'.rec → Safe k Q s' (in_halves k.times wait rest))
    → (wait : ℕ) (s : State) → Inv k s → Steady wait s.rec → Shaped wish moved s.rec
    → Safe k Q s (in_halves k.times wait (replicate more (instruction 0x18) ++ rest))
unfolding executed decoded bit
shift_safe k Q wish zero moved total rest sum below then wait s inv steady shaped =
    let all : moved ≡ total = omega arith in
    then wait s inv steady (record { function = shaped.function; control = shaped.control; entry = shaped.entry; shift = shaped.shift ∙ all })
shift_safe k Q wish (suc more) moved total rest sum below then wait s inv steady shaped =
    let d : Decision = changed (shifted true (busy_over s.rec)) in
    let one_on : wrapped 80 true s.rec.shift ≡ moved + 1 =
    ap (wrapped 80 true) shaped.shift ∙ (wraps 80 moved (omega arith)).0 ∙ rw (ne_eqb (moved + 1) 80 (λ e. omega arith)) refl in
    instruct k Q s 0x18 wait k.times.short _ d (omega arith) refl refl (empty_quiet _ steady.half) (short_time_lem k.times 0x18 (λ e. omega arith)) inv steady
    (λ inv₁. shift_safe k Q wish more (moved + 1) total rest (omega arith) below then k.times.short (after s d) inv₁
    (record { busy = short_enough k s inv; narrow = steady.narrow; half = steady.half })
    (record { function = shaped.function; control = shaped.control; entry = shaped.entry; shift = one_on }))
