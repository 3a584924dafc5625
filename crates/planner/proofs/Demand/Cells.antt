-- The marked cells, one by one: before each place the cells below it are written, and inside a run the counter is there.
-- Assumes nothing.
use Rattle.std.specs.Prelude.{Option}
use mathlib.Core.Bool.{Bool, true, false, not, false≢true}
use mathlib.Core.List.{List, ◌∷◌, ◌++◌, append_assoc}
use mathlib.Core.Logic.{⊎_elim}
use mathlib.Core.Path.{◌≡◌, refl, sym, ap, subst, ◌∙◌}
use Prim.Native.Nat.{ℕ, zero, suc, ◌+◌, ◌-◌, ◌%◌, ◌≤◌, ◌<◌}
use native.Mathlib.Nat.{eq-or-lt_of_le, le_of_suc-le-suc, mod-eq_of_lt}
use native.Mathlib.Omega.{arith}
use lib.Dec.{eqb, ltb}
use lib.ListN.{length, get_or, set}
use lib.Seq.{get_or-set_same, get_or-set_other}
use borrow.Author.Tests.{ltb-true, ltb-false, lt-ltb, le-ltb, ne_eqb}
use Rattle.controller.proofs.Laws.Cells.{address_below, display_on}
use Rattle.controller.proofs.Laws.Choice.{and_right}
use Rattle.controller.proofs.Laws.Instruction.{decoded_pattern, decoded_display}
use Rattle.controller.proofs.Theorems.Cells.{addresses_match, wraps}
use Rattle.controller.specs.Cells.{place_of, stepped, cell_of_add, add_of_cell, address_set, address_of}
use Rattle.controller.specs.Decision.{performed, done}
use Rattle.controller.specs.Execute.{short_time, placed, moved_on, loaded, changed, addressed, executed, carried, written}
use Rattle.controller.specs.Instruction.{decoded}
use Rattle.controller.specs.Record.{busy_over, with_counter, with_register}
use Rattle.controller.specs.Runs.{State, after}
use Rattle.controller.specs.declared.cells.Add.{Add}
use Rattle.controller.specs.declared.cells.Counter.{Counter}
use Rattle.controller.specs.declared.cells.Counter.TheVariants.{Display, Pattern}
use Rattle.controller.specs.declared.decision.Decision.{Decision}
use Rattle.controller.specs.declared.decision.Effect.TheVariants.{Store}
use Rattle.controller.specs.declared.instruction.Instruction.{Instruction}
use Rattle.controller.specs.declared.instruction.Instruction.TheVariants.{DisplayAddress}
use Rattle.controller.specs.declared.«record».Entry.{Entry}
use Rattle.controller.specs.declared.«record».Function.{Function}
use Rattle.controller.specs.declared.«record».Record.{Record}
use Rattle.planner.proofs.Demand.Command.{instruct, write_wished}
use Rattle.planner.proofs.Demand.Opening.{Steady, empty_quiet}
use Rattle.planner.proofs.Demand.Safe.{Scene, Inv, Safe, short_enough}
use Rattle.planner.proofs.Demand.Stages.{Shaped, short_time_lem}
use Rattle.planner.proofs.Laws.Written.{cell_none, cell_next, cell_first}
use Rattle.planner.specs.declared.wish.Wish.{Wish}
use Rattle.planner.specs.Plan.{Command, instruction, write, counter_at, address_byte, cell, cells_below, time_of, in_halves}
use Rattle.planner.specs.Wish.{marked, follows}

pub display_at : (place : ℕ) → place < 80 → counter_at place ≡ Display place
unfolding counter_at
display_at place below = rw (lt-ltb place 80 below)

pattern_at : (place : ℕ) → 80 ≤ place → counter_at place ≡ Pattern (place - 80)
unfolding counter_at
pattern_at place over = rw (le-ltb place 80 over)

-- one order or the other
side : {A : Type 0} (place : ℕ) → (place < 80 → A) → (80 ≤ place → A) → A
side {A} place low high = go (ltb place 80) refl
  where
    go : (t : Bool) → ltb place 80 ≡ t → A
    go true t = low (ltb-true place 80 t)
    go false t = high (ltb-false place 80 t)

pub place_at_lem : (place : ℕ) → place_of (counter_at place) ≡ place
unfolding place_of
place_at_lem place =
    side place (λ below. ap place_of (display_at place below)) (λ over. ap place_of (pattern_at place over) ∙ omega arith)

-- a write moves the counter to the next place, but for the last cell of a memory
step_at : (place : ℕ) → suc place < 144 → (suc place ≡ 80 → ⊥) → stepped true (counter_at place) ≡ counter_at (suc place)
unfolding stepped
step_at place below inner =
    side place
    (λ low. ap (stepped true) (display_at place low)
    ∙ ap Display ((wraps 80 place low).0 ∙ rw (ne_eqb (place + 1) 80 (λ e. inner (omega arith))) (omega arith))
    ∙ sym (display_at (suc place) (omega arith)))
    (λ high. ap (stepped true) (pattern_at place high)
    ∙ ap Pattern ((wraps 64 (place - 80) (omega arith)).0 ∙ rw (ne_eqb (place - 80 + 1) 64 (λ e. omega arith)) (omega arith))
    ∙ sym (pattern_at (suc place) (omega arith)))

-- a cell that follows a marked one is not the first of its memory
follows_inner : (marks : List ℕ) (place : ℕ) → follows marks place ≡ true → place ≡ 80 → ⊥
unfolding follows
follows_inner marks place after_one is = subst (λ (p : ℕ). follows marks p ≡ true → ⊥) (sym is) (λ first. false≢true first) after_one

-- after a cell that is not marked no cell follows
follows_none : (marks : List ℕ) (place : ℕ) → marked marks place ≡ false → follows marks (suc place) ≡ true → ⊥
unfolding follows
follows_none marks place no-mark after_one =
    let last : marked marks (suc place - 1) ≡ true = and_right (not (eqb (suc place) 80)) _ (and_right (not (eqb (suc place) 0)) _ after_one) in
    let back : suc place - 1 ≡ place = omega arith in
    false≢true (sym no-mark ∙ sym (ap (marked marks) back) ∙ last)

-- the address set of a place
low_byte : (n : Bool) (place : ℕ) → place < 80 → address_byte n place ≡ 0x80 + (add_of_cell n place).0
unfolding address_byte address_set
low_byte n place below =
    let same : place % 80 ≡ place = mod-eq_of_lt below in
    ap (address_set n) (display_at place below) ∙ ap (λ (cell : ℕ). 0x80 + (add_of_cell n cell).0) same

high_byte_lem : (n : Bool) (place : ℕ) → 80 ≤ place → place < 144 → address_byte n place ≡ 0x40 + (place - 80)
unfolding address_byte address_set
high_byte_lem n place over below =
    let same : (place - 80) % 64 ≡ place - 80 = mod-eq_of_lt (omega arith) in
    ap (address_set n) (pattern_at place over) ∙ ap (λ (cell : ℕ). 0x40 + cell) same

add_small : (n : Bool) (place : ℕ) → place < 80 → (add_of_cell n place).0 < 128
unfolding address_of
add_small n place below = address_below n (Display place) (display_on place below)

pub address_small : (n : Bool) (place : ℕ) → place < 144 → (address_byte n place < 256) × (2 < address_byte n place)
address_small n place below =
    side place
    (λ low. omega (arith, low_byte n place low, add_small n place low))
    (λ high. omega (arith, high_byte_lem n place high below))

abbrev add : ℕ → Add
add a = record { 0 = a }

display_does : (mem : List ℕ) (n : Bool) (place : ℕ) (rec : Record) → place < 80 → rec.function.n ≡ n
    → executed mem (decoded (address_byte n place)) rec ≡ changed (loaded mem (placed (Display place) rec))
unfolding executed addressed
display_does mem n place rec low lines =
    let a : ℕ = (add_of_cell n place).0 in
    let byte : address_byte n place ≡ 0x80 + a = low_byte n place low in
    let back : 0x80 + a - 0x80 ≡ a = omega arith in
    ap (λ (i : Instruction). executed mem i rec)
    (ap decoded byte ∙ decoded_display (0x80 + a) (omega arith) ∙ ap (λ (x : ℕ). DisplayAddress (add x)) back)
    ∙ ap (λ (x : Bool). addressed mem (cell_of_add x (add_of_cell n place)) rec) lines
    ∙ ap (λ (x : Option ℕ). addressed mem x rec) ((addresses_match n).0 place low)

pattern_does : (mem : List ℕ) (n : Bool) (place : ℕ) (rec : Record) → 80 ≤ place → place < 144
    → executed mem (decoded (address_byte n place)) rec ≡ changed (loaded mem (placed (Pattern (place - 80)) rec))
unfolding executed
pattern_does mem n place rec high below =
    let byte : address_byte n place ≡ 0x40 + (place - 80) = high_byte_lem n place high below in
    let back : (0x40 + (place - 80) - 0x40) % 64 ≡ place - 80 = omega arith in
    ap (λ (i : Instruction). executed mem i rec) (ap decoded byte ∙ decoded_pattern (0x40 + (place - 80)) (omega arith) (omega arith))
    ∙ ap (λ (c : ℕ). changed (loaded mem (placed (Pattern c) rec))) back

-- it brings the counter there
pub address_does : (mem : List ℕ) (n : Bool) (place : ℕ) (rec : Record) → place < 144 → rec.function.n ≡ n
    → executed mem (decoded (address_byte n place)) rec ≡ changed (loaded mem (placed (counter_at place) rec))
address_does mem n place rec below lines =
    side place
    (λ low. display_does mem n place rec low lines ∙ ap (λ (c : Counter). changed (loaded mem (placed c rec))) (sym (display_at place low)))
    (λ high. pattern_does mem n place rec high below ∙ ap (λ (c : Counter). changed (loaded mem (placed c rec))) (sym (pattern_at place high)))

-- without S the display does not follow a write
carried_off : (counter : Counter) (rec : Record) → rec.entry.s ≡ false → carried counter rec ≡ rec
unfolding carried
carried_off (Display cell) rec fixed = rw fixed
carried_off (Pattern cell) rec fixed = refl

-- what a data write does while the counter goes up and the display stays
wrote : ℕ → Record → Decision
wrote byte rec =
    done (short_time rec.frequency) (Store (place_of rec.counter) byte) (with_register byte false (with_counter (stepped true rec.counter) rec))

write_does : (byte : ℕ) (rec : Record) → rec.entry.id ≡ true → rec.entry.s ≡ false → written byte rec ≡ wrote byte rec
unfolding written wrote
write_does byte rec rising fixed =
    ap (λ (r : Record). done (short_time rec.frequency) (Store (place_of rec.counter) byte) (with_register byte false r)) (carried_off rec.counter (moved_on rec) fixed)
    ∙ ap (λ (x : Bool). done (short_time rec.frequency) (Store (place_of rec.counter) byte) (with_register byte false (with_counter (stepped x rec.counter) rec))) rising

-- what holds before the cell at this place is dealt with
pub record At (k : Scene) (wish : Wish) (place wait : ℕ) (s : State) : Type 0 where
  pub inv : Inv k s
  pub steady : Steady wait s.rec
  pub shaped : Shaped wish wish.shift s.rec
  pub next : place < 144 → follows k.marks place ≡ true → s.rec.counter ≡ counter_at place
  pub written : (j : ℕ) → j < place → marked k.marks j ≡ true → get_or s.mem j 0 ≡ get_or k.values j 0

-- what is still to be sent is safe from wherever the next place is reached
abbrev Later : Scene → (State → Type 0) → Wish → ℕ → List Command → Type 0
Later k Q wish place rest = (wait : ℕ) (s : State) → At k wish place wait s → Safe k Q s (in_halves k.times wait rest)

-- a byte stored at a place, read at any
stored_at : (mem : List ℕ) (values : List ℕ) (marks : List ℕ) (place at : ℕ) → length mem ≡ 144 → at ≡ place → place < 144
    → ((j : ℕ) → j < place → marked marks j ≡ true → get_or mem j 0 ≡ get_or values j 0)
    → (j : ℕ) → j < suc place → marked marks j ≡ true → get_or (set mem at (get_or values place 0)) j 0 ≡ get_or values j 0
stored_at mem values marks place at long here below before j under mark =
    ⊎_elim
    (λ same. ap (λ (x : ℕ). get_or (set mem at (get_or values place 0)) x 0) (same ∙ sym here)
    ∙ get_or-set_same mem at (get_or values place 0) 0 (omega arith) ∙ ap (λ (x : ℕ). get_or values x 0) (sym same))
    (λ earlier. get_or-set_other mem at j (get_or values place 0) 0 (λ e. omega arith) ∙ before j earlier mark)
    (eq-or-lt_of_le (le_of_suc-le-suc under))

-- the cell's byte, with the counter there
write_at : (k : Scene) (Q : State → Type 0) (wish : Wish) (place wait : ℕ) (s : State) (rest : List Command) → place < 144 → marked k.marks place ≡ true
    → Inv k s → Steady wait s.rec → Shaped wish wish.shift s.rec → s.rec.counter ≡ counter_at place
    → ((j : ℕ) → j < place → marked k.marks j ≡ true → get_or s.mem j 0 ≡ get_or k.values j 0)
    → Later k Q wish (suc place) rest → Safe k Q s (in_halves k.times wait (write (get_or k.values place 0) ∷ rest))
unfolding wrote performed time_of
write_at k Q wish place wait s rest below mark inv steady shaped there before later =
    let rec : Record = busy_over s.rec in
    let byte : ℕ = get_or k.values place 0 in
    let d : Decision = wrote byte rec in
    let here : place_of s.rec.counter ≡ place = ap place_of there ∙ place_at_lem place in
    write_wished k Q s byte wait k.times.short rest d
    (ap (marked k.marks) here ∙ mark) (ap (λ (x : ℕ). get_or k.values x 0) (sym here))
    (write_does byte rec (ap (λ (e : Entry). e.id) shaped.entry) (ap (λ (e : Entry). e.s) shaped.entry))
    refl steady.half refl inv steady
    (λ inv₁. later k.times.short (after s d)
    (record {
      inv = inv₁;
      steady = record { busy = short_enough k s inv; narrow = steady.narrow; half = steady.half };
      shaped = record { function = shaped.function; control = shaped.control; entry = shaped.entry; shift = shaped.shift };
      next = λ more after_one. ap (stepped true) there ∙ step_at place more (follows_inner k.marks (suc place) after_one);
      written = stored_at s.mem k.values k.marks place (place_of s.rec.counter) inv.whole here below before;
    }))

-- a cell that is not marked
pass_at : (k : Scene) (wish : Wish) (place wait : ℕ) (s : State) → marked k.marks place ≡ false → At k wish place wait s → At k wish (suc place) wait s
pass_at k wish place wait s no-mark at =
    record {
      inv = at.inv;
      steady = at.steady;
      shaped = at.shaped;
      next = λ _ after_one. absurd (follows_none k.marks place no-mark after_one);
      written = λ j under mark.
          ⊎_elim (λ same. absurd (false≢true (sym no-mark ∙ sym (ap (marked k.marks) same) ∙ mark))) (λ earlier. at.written j earlier mark)
          (eq-or-lt_of_le (le_of_suc-le-suc under));
    }

-- a marked cell, its address set first
first_at : (k : Scene) (Q : State → Type 0) (wish : Wish) (place wait : ℕ) (s : State) (rest : List Command) → place < 144 → marked k.marks place ≡ true
    → At k wish place wait s → Later k Q wish (suc place) rest
    → Safe k Q s (in_halves k.times wait (instruction (address_byte wish.function.n place) ∷ write (get_or k.values place 0) ∷ rest))
unfolding performed
first_at k Q wish place wait s rest below mark at later =
    let n : Bool = wish.function.n in
    let d : Decision = changed (loaded s.mem (placed (counter_at place) (busy_over s.rec))) in
    let small = address_small n place below in
    instruct k Q s (address_byte n place) wait k.times.short _ d small.0
    (address_does s.mem n place (busy_over s.rec) below (ap (λ (x : Function). x.n) at.shaped.function))
    refl (empty_quiet _ at.steady.half) (short_time_lem k.times (address_byte n place) (λ e. omega arith)) at.inv at.steady
    (λ inv₁. write_at k Q wish place k.times.short (after s d) rest below mark inv₁
    (record { busy = short_enough k s at.inv; narrow = at.steady.narrow; half = at.steady.half })
    (record { function = at.shaped.function; control = at.shaped.control; entry = at.shaped.entry; shift = at.shaped.shift })
    refl at.written later)

-- the commands of one cell
cell_at : (k : Scene) (Q : State → Type 0) (wish : Wish) (place : ℕ) (rest : List Command) → place < 144 → Later k Q wish (suc place) rest
    → Later k Q wish place (cell wish.function.n k.marks k.values place ++ rest)
cell_at k Q wish place rest below later wait s at = go (marked k.marks place) (follows k.marks place) refl refl
  where
    n : Bool
    n = wish.function.n

    go : (m f : Bool) → marked k.marks place ≡ m → follows k.marks place ≡ f
        → Safe k Q s (in_halves k.times wait (cell wish.function.n k.marks k.values place ++ rest))
    go false f no-mark _ =
        subst (λ (cs : List Command). Safe k Q s (in_halves k.times wait (cs ++ rest))) (sym (cell_none wish.function.n k.marks k.values place no-mark))
        (later wait s (pass_at k wish place wait s no-mark at))
    go true true mark after_one =
        subst (λ (cs : List Command). Safe k Q s (in_halves k.times wait (cs ++ rest))) (sym (cell_next wish.function.n k.marks k.values place mark after_one))
        (write_at k Q wish place wait s rest below mark at.inv at.steady at.shaped (at.next below after_one) at.written later)
    go true false mark alone =
        subst (λ (cs : List Command). Safe k Q s (in_halves k.times wait (cs ++ rest))) (sym (cell_first wish.function.n k.marks k.values place mark alone))
        (first_at k Q wish place wait s rest below mark at later)

-- all marked cells below a place
pub cells_safe : (k : Scene) (Q : State → Type 0) (wish : Wish) (place : ℕ) (rest : List Command) → place ≤ 144 → Later k Q wish place rest
    → Later k Q wish 0 (cells_below wish.function.n k.marks k.values place ++ rest)
unfolding cells_below
cells_safe k Q wish zero rest within later wait s at = later wait s at
cells_safe k Q wish (suc place) rest within later wait s at =
    subst (λ (cs : List Command). Safe k Q s (in_halves k.times wait cs))
    (sym (append_assoc (cells_below wish.function.n k.marks k.values place) (cell wish.function.n k.marks k.values place) rest))
    (cells_safe k Q wish place (cell wish.function.n k.marks k.values place ++ rest) (omega arith) (cell_at k Q wish place rest within later) wait s at)
