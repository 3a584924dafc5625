-- The instruction list, row by row: a byte's range says which row of the table it is, and the row's rule is read off field by field.
-- Assumes nothing.
use Rattle.std.specs.Prelude.{Option, Some, None}
use mathlib.Core.Bool.{Bool, true, false, cond, ◌&&◌, and-false}
use mathlib.Core.List.{List, ◌++◌}
use mathlib.Core.Logic.{inl, inr}
use mathlib.Core.Path.{◌≡◌, refl, sym, ap, subst, ◌∙◌}
use Prim.Native.Nat.{ℕ, ◌+◌, ◌-◌, ◌%◌, ◌≤◌, ◌<◌}
use native.Mathlib.Nat.{mod-eq_of_lt}
use native.Mathlib.Omega.{arith}
use lib.Dec.{leb, eqb, ltb}
use lib.ListN.{get_or, set, length, replicate, drop, length-replicate, get_or-replicate, get_or-append}
use lib.Seq.{get_or-append-add, get_or-drop, get_or-set_same, get_or-set_other}
use borrow.Author.Tests.{leb-true, eq-eqb, ne_eqb, lt-ltb, le-ltb, ltb-true, ltb-false, eqb-true, eqb-false}
use Rattle.controller.proofs.Laws.Cells.{address_below, named_within, on_display, on_pattern, place_below}
use Rattle.controller.proofs.Laws.Choice.{cond-elim, cond_map}
use Rattle.controller.proofs.Laws.Completed.{carried_keeps}
use Rattle.controller.proofs.Laws.Instruction.{decoded_nothing, decoded_clear, decoded_home, decoded_entry, decoded_control, decoded_cursor, decoded_shift, decoded_function, decoded_pattern, decoded_display}
use Rattle.controller.proofs.Laws.Kept.{wide_none}
use Rattle.controller.proofs.Laws.Record.{sound_counter, sound_half, sound_shift, waited_keeps}
use Rattle.controller.proofs.Laws.Taken.{accepted_wide, taken, taken_wide}
use Rattle.controller.proofs.Theorems.Cells.{addresses_match, wraps}
use Rattle.controller.specs.declared.answers.Answer.TheVariants.{Done, NoCell, StaleRead}
use Rattle.controller.specs.declared.cells.Add.{Add}
use Rattle.controller.specs.declared.cells.Counter.{Counter}
use Rattle.controller.specs.declared.cells.Counter.TheVariants.{Display, Pattern}
use Rattle.controller.specs.Cells.{add_of_cell, address_of, address_set, byte_under, cell_of_add, on_cell, place_of, stepped, wrapped}
use Rattle.controller.specs.declared.decision.Decision.{Decision}
use Rattle.controller.specs.declared.decision.Effect.{Effect}
use Rattle.controller.specs.declared.instruction.Instruction.{Instruction}
use Rattle.controller.specs.declared.«record».Entry.{Entry}
use Rattle.controller.specs.declared.«record».Half.TheVariants.{Empty}
use Rattle.controller.specs.declared.«record».Record.{Record}
use Rattle.controller.specs.Answers.{number_of}
use Rattle.controller.specs.Bus.{bad_transfer, decided, must_wait}
use Rattle.controller.specs.Cases.{Waits}
use Rattle.controller.specs.Decision.{performed, blanked, done, refused}
use Rattle.controller.specs.Execute.{addressed, carried, changed, completed, cursor_at, executed, homed, loaded, moved_on, placed, read_out, short_time, long_time, status_of, written}
use Rattle.controller.specs.Halves.{begun}
use Rattle.controller.specs.Instruction.{bit, decoded}
use Rattle.controller.specs.Record.{busy_over, waited, with_entry, with_shift}
use Rattle.controller.specs.Rules.{Instructs, DoesNothing, Homes, Clears, GoesHome, SetsEntry, SetsControl, is_set, neighbour, beside, MovesCounter, ShiftsDisplay, SetsFunction, GoesTo, SetsPattern, Names, LacksCell, SetsDisplay, InstructionRules, in_display, WritesData, ReadsData, Addresses, ReadsStatus, Wide, DataRules, ReadNeverShifts, StatusAltersNothing, FunctionMovesNothing, ClearLeavesRest, AddressSetGoes, SameFunction, SameControl, SameEntry, SamePlace}

-- at width 8, with busy over, an instruction is executed at once
rule : (Does : Record → List ℕ → ℕ → Decision → Type 0) (i : Instruction) (rec : Record) (mem : List ℕ) (byte wait : ℕ)
    → Waits rec mem true Empty wait → decoded byte ≡ i → Does rec mem byte (executed mem i (busy_over rec)) → Does rec mem byte (decided rec mem 0 byte wait)
unfolding begun completed bad_transfer
rule Does i rec mem byte wait w is done =
    subst (Does rec mem byte)
    (sym (taken_wide rec mem Empty 0 byte wait w refl ∙ ap (λ (x : Instruction). executed mem x (busy_over rec)) is)) done

does_nothing : Instructs 0x00 0x00 DoesNothing
unfolding executed short_time performed
does_nothing rec mem byte wait w over under =
    rule DoesNothing _ rec mem byte wait w (decoded_nothing byte under)
    (record {
      comes = record { answer = refl; byte = refl; busy = refl; frequency = refl; half = w.holds };
      function = record { wide = refl; n = refl; f = refl };
      control = record { d = refl; c = refl; b = refl };
      entry = record { id = refl; s = refl };
      place = record { shift = refl; counter = refl; reg = refl; fresh = refl };
      cells = λ _ _. refl;
    })

-- a choice by its value in both cases
choose : {x a b : ℕ} (t : Bool) → (t ≡ true → x ≡ a) → (t ≡ false → x ≡ b) → x ≡ cond t a b
choose true here there = here refl
choose false here there = there refl

-- a list whose first bytes are all this one
front : (n byte : ℕ) (rest : List ℕ) (place : ℕ) → place < n → get_or (replicate n byte ++ rest) place 0 ≡ byte
front n byte rest place under =
    get_or-append (replicate n byte) rest 0 place (rw length-replicate under) ∙ get_or-replicate n place byte 0 under

back : (n byte : ℕ) (mem : List ℕ) (place : ℕ) → n ≤ place → get_or (replicate n byte ++ drop n mem) place 0 ≡ get_or mem place 0
back n byte mem place over =
    let at : length (replicate {A = ℕ} n byte) + (place - n) ≡ place = rw length-replicate (omega arith) in
    let here : n + (place - n) ≡ place = omega arith in
    ap (λ (p : ℕ). get_or (replicate n byte ++ drop n mem) p 0) (sym at)
    ∙ get_or-append-add (replicate n byte) (drop n mem) (place - n) 0
    ∙ get_or-drop n mem (place - n) 0
    ∙ ap (λ (p : ℕ). get_or mem p 0) here

-- display cells 20h, pattern cells as they were
blanked_cells : (mem : List ℕ) (place : ℕ) → get_or (blanked mem) place 0 ≡ cond (ltb place 80) 0x20 (get_or mem place 0)
unfolding blanked
blanked_cells mem place =
    choose (ltb place 80) (λ under. front 80 0x20 (drop 80 mem) place (ltb-true place 80 under)) (λ over. back 80 0x20 mem place (ltb-false place 80 over))

-- what Clear and Home leave of the record, whatever becomes of the memory
homes : (rec : Record) (effect : Effect) (entry : Entry) → rec.half ≡ Empty
    → Homes rec (done (long_time rec.frequency) effect (with_entry entry (homed (busy_over rec))))
unfolding long_time
homes rec effect entry none =
    record {
      comes = record { answer = refl; byte = refl; busy = refl; frequency = refl; half = none };
      function = record { wide = refl; n = refl; f = refl };
      control = record { d = refl; c = refl; b = refl };
      shift = refl;
      counter = refl;
      reg = refl;
      fresh = refl;
    }

pub clears : Instructs 0x01 0x01 Clears
unfolding executed long_time performed
clears rec mem byte wait w over under =
    rule Clears _ rec mem byte wait w (decoded_clear byte over under)
    (record {
      homes = homes rec _ _ w.holds;
      id = refl;
      s = refl;
      cells = λ place _. blanked_cells mem place;
    })

goes_home : Instructs 0x02 0x03 GoesHome
unfolding executed long_time performed
goes_home rec mem byte wait w over under =
    rule GoesHome _ rec mem byte wait w (decoded_home byte over under)
    (record {
      homes = homes rec _ rec.entry w.holds;
      entry = record { id = refl; s = refl };
      cells = λ _ _. refl;
    })

sets_entry : Instructs 0x04 0x07 SetsEntry
unfolding executed short_time performed bit
sets_entry rec mem byte wait w over under =
    rule SetsEntry _ rec mem byte wait w (decoded_entry byte over under)
    (record {
      comes = record { answer = refl; byte = refl; busy = refl; frequency = refl; half = w.holds };
      function = record { wide = refl; n = refl; f = refl };
      control = record { d = refl; c = refl; b = refl };
      id = refl;
      s = refl;
      place = record { shift = refl; counter = refl; reg = refl; fresh = refl };
      cells = λ _ _. refl;
    })

sets_control : Instructs 0x08 0x0F SetsControl
unfolding executed short_time performed bit
sets_control rec mem byte wait w over under =
    rule SetsControl _ rec mem byte wait w (decoded_control byte over under)
    (record {
      comes = record { answer = refl; byte = refl; busy = refl; frequency = refl; half = w.holds };
      function = record { wide = refl; n = refl; f = refl };
      d_bit = refl;
      c_bit = refl;
      b_bit = refl;
      entry = record { id = refl; s = refl };
      place = record { shift = refl; counter = refl; reg = refl; fresh = refl };
      cells = λ _ _. refl;
    })

sets_function : Instructs 0x20 0x3F SetsFunction
unfolding executed short_time performed bit
sets_function rec mem byte wait w over under =
    rule SetsFunction _ rec mem byte wait w (decoded_function byte over under)
    (record {
      comes = record { answer = refl; byte = refl; busy = refl; frequency = refl; half = w.holds };
      wide = refl;
      n = refl;
      f = refl;
      control = record { d = refl; c = refl; b = refl };
      entry = record { id = refl; s = refl };
      place = record { shift = refl; counter = refl; reg = refl; fresh = refl };
      cells = λ _ _. refl;
    })

-- a step in a ring is its neighbour
neighbour_is : (right : Bool) (last cell : ℕ) → cell ≤ last → wrapped (last + 1) right cell ≡ neighbour right last cell
unfolding neighbour
neighbour_is true last cell under = (wraps (last + 1) cell (omega arith)).0 ∙ ap (λ (t : Bool). cond t 0 (cell + 1)) (same_test cell last)
  where
    same_test : (a b : ℕ) → eqb (a + 1) (b + 1) ≡ eqb a b
    same_test a b = choose (eqb a b) refl
      where
        choose : (t : Bool) → eqb a b ≡ t → eqb (a + 1) (b + 1) ≡ t
        choose true t = eq-eqb (a + 1) (b + 1) (omega (arith, eqb-true a b t))
        choose false t = ne_eqb (a + 1) (b + 1) (λ e. eqb-false a b t (omega arith))
neighbour_is false last cell under = (wraps (last + 1) cell (omega arith)).1 ∙ ap (λ (n : ℕ). cond (eqb cell 0) n (cell - 1)) (omega arith)

beside_is : (right : Bool) (counter : Counter) → on_cell counter ≡ true → stepped right counter ≡ beside right counter
unfolding stepped beside
beside_is right (Display cell) on = ap Display (neighbour_is right 79 cell (omega (arith, on_display cell on)))
beside_is right (Pattern cell) on = ap Pattern (neighbour_is right 63 cell (omega (arith, on_pattern cell on)))

-- what a cursor move leaves, whichever memory the counter is in
moved : (rec : Record) (mem : List ℕ) (byte : ℕ) (next to : Counter) → rec.half ≡ Empty → next ≡ to → to ≡ beside (is_set 0x04 byte) rec.counter
    → MovesCounter rec mem byte (changed (cursor_at mem next (busy_over rec)))
unfolding cursor_at short_time performed byte_under place_of
moved rec mem byte next (Display cell) none is goes =
    subst (λ (x : Counter). MovesCounter rec mem byte (changed (cursor_at mem x (busy_over rec)))) (sym is)
    (record {
      comes = record { answer = refl; byte = refl; busy = refl; frequency = refl; half = none };
      function = record { wide = refl; n = refl; f = refl };
      control = record { d = refl; c = refl; b = refl };
      entry = record { id = refl; s = refl };
      shift = refl;
      counter = goes;
      register = (refl, refl);
      cells = λ _ _. refl;
    })
moved rec mem byte next (Pattern cell) none is goes =
    subst (λ (x : Counter). MovesCounter rec mem byte (changed (cursor_at mem x (busy_over rec)))) (sym is)
    (record {
      comes = record { answer = refl; byte = refl; busy = refl; frequency = refl; half = none };
      function = record { wide = refl; n = refl; f = refl };
      control = record { d = refl; c = refl; b = refl };
      entry = record { id = refl; s = refl };
      shift = refl;
      counter = goes;
      register = (refl, refl);
      cells = λ _ _. refl;
    })

moves_counter : Instructs 0x10 0x17 MovesCounter
unfolding executed bit
moves_counter rec mem byte wait w over under =
    rule MovesCounter _ rec mem byte wait w (decoded_cursor byte over under)
    (moved rec mem byte _ (beside (is_set 0x04 byte) rec.counter) w.holds (beside_is _ rec.counter (sound_counter rec w.sound)) refl)

shifts_display : Instructs 0x18 0x1F ShiftsDisplay
unfolding executed short_time performed bit
shifts_display rec mem byte wait w over under =
    rule ShiftsDisplay _ rec mem byte wait w (decoded_shift byte over under)
    (record {
      comes = record { answer = refl; byte = refl; busy = refl; frequency = refl; half = w.holds };
      function = record { wide = refl; n = refl; f = refl };
      control = record { d = refl; c = refl; b = refl };
      entry = record { id = refl; s = refl };
      shift = neighbour_is _ 79 rec.shift (omega (arith, sound_shift rec w.sound));
      counter = refl;
      reg = refl;
      fresh = refl;
      cells = λ _ _. refl;
    })

-- what an address set leaves
goes : (to : Counter) (place : ℕ) (rec : Record) (mem : List ℕ) → rec.half ≡ Empty → place_of to ≡ place
    → GoesTo to place rec mem (changed (loaded mem (placed to (busy_over rec))))
unfolding short_time performed byte_under
goes to place rec mem none at =
    record {
      comes = record { answer = refl; byte = refl; busy = refl; frequency = refl; half = none };
      function = record { wide = refl; n = refl; f = refl };
      control = record { d = refl; c = refl; b = refl };
      entry = record { id = refl; s = refl };
      shift = refl;
      counter = refl;
      reg = ap (λ (p : ℕ). get_or mem p 0) at;
      fresh = refl;
      cells = λ _ _. refl;
    }

sets_pattern : Instructs 0x40 0x7F SetsPattern
unfolding executed place_of
sets_pattern rec mem byte wait w over under =
    let same : (byte - 0x40) % 64 ≡ byte - 0x40 = mod-eq_of_lt (omega arith) in
    rule SetsPattern _ rec mem byte wait w (decoded_pattern byte over under)
    (subst (λ (c : ℕ). SetsPattern rec mem byte (changed (loaded mem (placed (Pattern c) (busy_over rec))))) (sym same)
    (goes (Pattern (byte - 0x40)) (80 + (byte - 0x40)) rec mem w.holds refl))

-- a display address by its range is the address of its cell
names_add : (n : Bool) (address cell : ℕ) → Names n address cell → (cell < 80) × ((add_of_cell n cell).0 ≡ address)
unfolding add_of_cell
names_add false address cell names = (omega arith, sym names.0)
names_add true address cell (inl low) = (omega arith, rw (lt-ltb cell 40 (omega arith)) (sym low.0))
names_add true address cell (inr high) = (omega arith, rw (le-ltb cell 40 (omega arith)) (sym high.0))

add_names : (n : Bool) (address cell : ℕ) → cell < 80 → (add_of_cell n cell).0 ≡ address → Names n address cell
unfolding add_of_cell
add_names false address cell below is = (sym is, omega arith)
add_names true address cell below is = go (ltb cell 40) refl
  where
    go : (t : Bool) → ltb cell 40 ≡ t → Names true address cell
    go true t =
        let own : cell ≡ address = rw t at is in
        inl (sym own, omega (arith, ltb-true cell 40 t))
    go false t =
        let own : cell + 24 ≡ address = rw t at is in
        let over : 40 ≤ cell = ltb-false cell 40 t in
        inr (sym own, (omega arith, omega arith))

lacks : (rec : Record) (mem : List ℕ) → rec.half ≡ Empty → LacksCell rec mem (refused NoCell (busy_over rec))
unfolding performed
lacks rec mem none =
    record {
      comes = record { answer = refl; byte = refl; busy = refl; frequency = refl; half = none };
      function = record { wide = refl; n = refl; f = refl };
      control = record { d = refl; c = refl; b = refl };
      entry = record { id = refl; s = refl };
      place = record { shift = refl; counter = refl; reg = refl; fresh = refl };
      cells = λ _ _. refl;
    }

sets_display : Instructs 0x80 0xFF SetsDisplay
unfolding executed addressed place_of
sets_display rec mem byte wait w over under =
    rule SetsDisplay _ rec mem byte wait w (decoded_display byte over)
    (record { named = named; unnamed = unnamed (cell_of_add n add) refl })
  where
    n : Bool
    n = rec.function.n

    add : Add
    add = record { 0 = byte - 0x80 }

    named : (cell : ℕ) → Names n (byte - 0x80) cell → GoesTo (Display cell) cell rec mem (addressed mem (cell_of_add n add) (busy_over rec))
    named cell names =
        let is = names_add n (byte - 0x80) cell names in
        let found : cell_of_add n add ≡ Some cell = ap (λ (a : ℕ). cell_of_add n (record { 0 = a })) (sym is.1) ∙ (addresses_match n).0 cell is.0 in
        subst (λ (x : Option ℕ). GoesTo (Display cell) cell rec mem (addressed mem x (busy_over rec))) (sym found) (there cell)
      where
        there : (cell : ℕ) → GoesTo (Display cell) cell rec mem (addressed mem (Some cell) (busy_over rec))
        there cell = goes (Display cell) cell rec mem w.holds refl

    unnamed : (found : Option ℕ) → cell_of_add n add ≡ found → ((cell : ℕ) → Names n (byte - 0x80) cell → ⊥) → LacksCell rec mem (addressed mem found (busy_over rec))
    unnamed (Some cell) is none =
        absurd (none cell (add_names n (byte - 0x80) cell (rw is at (named_within n add)) (ap (λ (x : Add). x.0) ((addresses_match n).1 add cell is))))
    unnamed None is none = lacks rec mem w.holds

pub instruction_rules : InstructionRules
instruction_rules =
    record {
      nothing = does_nothing;
      clear = clears;
      home = goes_home;
      entry = sets_entry;
      control = sets_control;
      cursor = moves_counter;
      shift = shifts_display;
      function = sets_function;
      pattern = sets_pattern;
      display = sets_display;
    }

-- a byte stored at a place, read at any
stored_cells : (mem : List ℕ) (at byte place : ℕ) → at < length mem → get_or (set mem at byte) place 0 ≡ cond (eqb place at) byte (get_or mem place 0)
stored_cells mem at byte place inside =
    choose (eqb place at) (λ here. ap (λ (p : ℕ). get_or (set mem at byte) p 0) (eqb-true place at here) ∙ get_or-set_same mem at byte 0 inside)
    (λ other. get_or-set_other mem at place byte 0 (eqb-false place at other))

-- the display follows a data write as its rule says
follows : (rec : Record) (counter : Counter) → rec.shift < 80
    → (carried counter rec).shift ≡ cond (in_display counter && rec.entry.s) (neighbour rec.entry.id 79 rec.shift) rec.shift
unfolding carried
follows rec (Display cell) below =
    cond_map (λ (r : Record). r.shift) rec.entry.s _ _ _ _ (λ _. neighbour_is rec.entry.id 79 rec.shift (omega arith)) (λ _. refl)
follows rec (Pattern cell) below = refl

writes_data : (rec : Record) (mem : List ℕ) (byte wait : ℕ) → Waits rec mem true Empty wait → WritesData rec mem byte (decided rec mem 1 byte wait)
unfolding bad_transfer begun completed written short_time performed
writes_data rec mem byte wait w =
    subst (WritesData rec mem byte) (sym (taken_wide rec mem Empty 1 byte wait w refl))
    (record {
      comes =
          record {
            answer = refl;
            byte = refl;
            busy = refl;
            frequency = keeps (λ r. r.frequency) (λ _. refl);
            half = keeps (λ r. r.half) (λ _. refl) ∙ w.holds;
          };
      function = record { wide = keeps (λ r. r.wide) (λ _. refl); n = keeps (λ r. r.function.n) (λ _. refl); f = keeps (λ r. r.function.f) (λ _. refl) };
      control = record { d = keeps (λ r. r.control.d) (λ _. refl); c = keeps (λ r. r.control.c) (λ _. refl); b = keeps (λ r. r.control.b) (λ _. refl) };
      entry = record { id = keeps (λ r. r.entry.id) (λ _. refl); s = keeps (λ r. r.entry.s) (λ _. refl) };
      shift = follows next rec.counter (sound_shift rec w.sound);
      counter = keeps (λ r. r.counter) (λ _. refl) ∙ beside_is rec.entry.id rec.counter (sound_counter rec w.sound);
      reg = refl;
      fresh = refl;
      cells = λ place _.
          stored_cells mem (place_of rec.counter) byte place (omega (arith, place_below rec.counter (sound_counter rec w.sound), w.whole));
    })
  where
    next : Record
    next = moved_on (busy_over rec)

    keeps : {A : Type 0} (f : Record → A) → ((shift : ℕ) → f (with_shift shift next) ≡ f next) → f (carried rec.counter next) ≡ f next
    keeps f same = carried_keeps f rec.counter next same

read_number : (fresh : Bool) → number_of (cond fresh Done StaleRead) ≡ cond fresh 0 7
read_number true = refl
read_number false = refl

reads_data : (rec : Record) (mem : List ℕ) (wait : ℕ) → Waits rec mem true Empty wait → ReadsData rec mem (decided rec mem 3 0x00 wait)
unfolding bad_transfer begun completed read_out short_time performed byte_under
reads_data rec mem wait w =
    subst (ReadsData rec mem) (sym (taken_wide rec mem Empty 3 0x00 wait w refl))
    (record {
      comes = record { answer = read_number rec.fresh; byte = refl; busy = refl; frequency = refl; half = w.holds };
      function = record { wide = refl; n = refl; f = refl };
      control = record { d = refl; c = refl; b = refl };
      entry = record { id = refl; s = refl };
      shift = refl;
      counter = beside_is rec.entry.id rec.counter (sound_counter rec w.sound);
      reg = refl;
      fresh = refl;
      cells = λ _ _. refl;
    })

-- the counter's address, by its range
pub addresses_is : (n : Bool) (counter : Counter) (address : ℕ) → Addresses n counter address → address_of n counter ≡ address
unfolding address_of
addresses_is n (Display cell) address names = (names_add n address cell names).1
addresses_is n (Pattern cell) address is = sym is

-- what a wait leaves as it was
module _ (wait : ℕ) (rec : Record) where
  pub waits_function : SameFunction rec (waited wait rec)
  waits_function =
      record {
        wide = waited_keeps (λ r. r.wide) wait rec refl (λ _. refl);
        n = waited_keeps (λ r. r.function.n) wait rec refl (λ _. refl);
        f = waited_keeps (λ r. r.function.f) wait rec refl (λ _. refl);
      }

  pub waits_control : SameControl rec (waited wait rec)
  waits_control =
      record {
        d = waited_keeps (λ r. r.control.d) wait rec refl (λ _. refl);
        c = waited_keeps (λ r. r.control.c) wait rec refl (λ _. refl);
        b = waited_keeps (λ r. r.control.b) wait rec refl (λ _. refl);
      }

  pub waits_entry : SameEntry rec (waited wait rec)
  waits_entry =
      record {
        id = waited_keeps (λ r. r.entry.id) wait rec refl (λ _. refl);
        s = waited_keeps (λ r. r.entry.s) wait rec refl (λ _. refl);
      }

  pub waits_place : SamePlace rec (waited wait rec)
  waits_place =
      record {
        shift = waited_keeps (λ r. r.shift) wait rec refl (λ _. refl);
        counter = waited_keeps (λ r. r.counter) wait rec refl (λ _. refl);
        reg = waited_keeps (λ r. r.reg) wait rec refl (λ _. refl);
        fresh = waited_keeps (λ r. r.fresh) wait rec refl (λ _. refl);
      }

  pub waits_frequency : (waited wait rec).frequency ≡ rec.frequency
  waits_frequency = waited_keeps (λ r. r.frequency) wait rec refl (λ _. refl)

  pub waits_busy : (waited wait rec).busy ≡ rec.busy - wait
  unfolding waited
  waits_busy =
      cond-elim (λ (r : Record). r.busy ≡ rec.busy - wait) (leb rec.busy wait) _ _
      (λ over. omega (arith, leb-true rec.busy wait over)) (λ _. refl)

-- a status read is never told to wait
status_free : (rec : Record) → must_wait 2 rec ≡ false
unfolding must_wait
status_free rec = simp and-false

pub status_byte : (n : Bool) (counter : Counter) (rec : Record) (busy address : ℕ) → rec.function.n ≡ n → rec.counter ≡ counter → rec.busy ≡ busy
    → address_of n counter ≡ address → status_of rec ≡ cond (ltb 0 busy) 0x80 0 + address
unfolding status_of
status_byte n counter rec busy address lines at left is = rw (left, lines, at, is)

reads_status : (rec : Record) (mem : List ℕ) (wait : ℕ) → Wide rec mem → ReadsStatus rec mem wait (decided rec mem 2 0x00 wait)
unfolding bad_transfer begun completed performed
reads_status rec mem wait w =
    subst (ReadsStatus rec mem wait)
    (sym
    (taken rec mem 2 0x00 wait w.sound w.whole refl (status_free (waited wait rec))
    ∙ accepted_wide mem 2 0x00 (waited wait rec) ((waits_function wait rec).wide ∙ w.wide)))
    (record {
      byte = λ address names.
          record {
            answer = refl;
            byte =
                status_byte rec.function.n rec.counter (waited wait rec) (rec.busy - wait) address (waits_function wait rec).n
                (waits_place wait rec).counter (waits_busy wait rec) (addresses_is rec.function.n rec.counter address names);
            busy = waits_busy wait rec;
            frequency = waits_frequency wait rec;
            half = waited_keeps (λ r. r.half) wait rec refl (λ _. refl) ∙ wide_none rec.wide rec.busy rec.half w.wide (sound_half rec w.sound);
          };
      function = waits_function wait rec;
      control = waits_control wait rec;
      entry = waits_entry wait rec;
      place = waits_place wait rec;
      cells = λ _ _. refl;
    })

pub data_rules : DataRules
data_rules = record { write = writes_data; read = reads_data; status = reads_status }

pub read_never_shifts : ReadNeverShifts
read_never_shifts rec mem wait w = (reads_data rec mem wait w).shift

pub status_alters_nothing : StatusAltersNothing
status_alters_nothing rec mem wait w =
    let rule = reads_status rec mem wait w in (rule.function, rule.control, rule.entry, rule.place, rule.cells)

pub function_moves_nothing : FunctionMovesNothing
function_moves_nothing rec mem byte wait w over under =
    let rule = sets_function rec mem byte wait w over under in (rule.place.counter, rule.place.shift, rule.cells)

pub clear_leaves_rest : ClearLeavesRest
clear_leaves_rest rec mem wait w =
    let rule = clears rec mem 0x01 wait w (omega arith) (omega arith) in (
      rule.homes.function,
      rule.homes.control,
      rule.s,
      λ cell below. rule.cells (80 + cell) (omega arith) ∙ rw (le-ltb (80 + cell) 80 (omega arith)),
    )

-- a cell's own number, counted on from the first, is itself
set_display : (n : Bool) (cell : ℕ) → cell < 80 → address_set n (Display cell) ≡ 0x80 + (add_of_cell n cell).0
unfolding address_set
set_display n cell below = ap (λ (c : ℕ). 0x80 + (add_of_cell n c).0) (mod-eq_of_lt below)

pub address_set_goes : AddressSetGoes
unfolding address_set address_of
address_set_goes rec mem wait (Display cell) w on =
    let n = rec.function.n in
    let below = on_display cell on in
    let a : ℕ = (add_of_cell n cell).0 in
    let small : a < 128 = address_below n (Display cell) on in
    let back : 0x80 + a - 0x80 ≡ a = omega arith in
    ap (λ (b : ℕ). (decided rec mem 0 b wait).rec.counter) (set_display n cell below)
    ∙ ((sets_display rec mem (0x80 + a) wait w (omega arith) (omega arith)).named cell (add_names n (0x80 + a - 0x80) cell below (sym back))).counter
address_set_goes rec mem wait (Pattern cell) w on =
    let same : cell % 64 ≡ cell = mod-eq_of_lt (on_pattern cell on) in
    let back : 0x40 + cell - 0x40 ≡ cell = omega arith in
    ap (λ (c : ℕ). (decided rec mem 0 (0x40 + c) wait).rec.counter) same
    ∙ (sets_pattern rec mem (0x40 + cell) wait w (omega arith) (omega (arith, on_pattern cell on))).counter
    ∙ ap Pattern back
