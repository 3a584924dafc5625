-- Two halves make a whole: what a complete transfer does takes no notice of the width, and at width 4 the second half completes the
-- byte of both.
-- Assumes nothing.
use Rattle.std.specs.Prelude.{Option, Some, None}
use mathlib.Core.Bool.{Bool, true, false, cond, ◌&&◌, ◌||◌, true≢false, false≢true}
use mathlib.Core.List.{List}
use mathlib.Core.Path.{◌≡◌, refl, sym, ap, subst, ◌∙◌}
use Prim.Native.Nat.{ℕ, ◌/◌, ◌≤◌, ◌<◌, zero-le}
use native.Mathlib.Omega.{arith}
use lib.Dec.{eqb, ltb, leb}
use borrow.Author.Tests.{eqb-true, eqb-false, le-leb, ltb-false}
use Rattle.controller.proofs.Laws.Halves.{high_of, whole_of, without}
use Rattle.controller.proofs.Laws.Instruction.{decoded_elim}
use Rattle.controller.proofs.Laws.Record.{sound_busy, sound_counter, sound_frequency, sound_of, sound_shift}
use Rattle.controller.proofs.Laws.Rows.{bad_tests}
use Rattle.controller.proofs.Laws.Taken.{taken_narrow, taken_wide}
use Rattle.controller.proofs.Laws.Tests.{tests_false}
use Rattle.controller.proofs.Theorems.Sound.{transfer_keeps_sound}
use Rattle.controller.specs.declared.cells.Counter.{Counter}
use Rattle.controller.specs.declared.cells.Counter.TheVariants.{Display, Pattern}
use Rattle.controller.specs.declared.decision.Decision.{Decision}
use Rattle.controller.specs.declared.execute.Transfer.{Transfer}
use Rattle.controller.specs.declared.execute.Transfer.TheVariants.{Instruct, Write, Status, Read}
use Rattle.controller.specs.declared.instruction.Instruction.{Instruction}
use Rattle.controller.specs.declared.instruction.Instruction.TheVariants.{Nothing, Clear, Home, SetEntry, SetControl, MoveCursor}
use Rattle.controller.specs.declared.instruction.Instruction.TheVariants.{ShiftDisplay, SetFunction, PatternAddress, DisplayAddress}
use Rattle.controller.specs.declared.«record».Half.{Half}
use Rattle.controller.specs.declared.«record».Half.TheVariants.{Empty, InstructionWrite, DataWrite, StatusRead, DataRead}
use Rattle.controller.specs.declared.«record».Record.{Record}
use Rattle.controller.specs.Bus.{bad_transfer, decided}
use Rattle.controller.specs.Cases.{Waits}
use Rattle.controller.specs.Cells.{cell_of_add, stepped}
use Rattle.controller.specs.Execute.{addressed, carried, changed, completed, cursor_at, executed, moved_on, read_out, shifted, short_time, status_of, written}
use Rattle.controller.specs.Halves.{begun, crossed, ended, first_half, first_told, high_half, low_half, narrow, second_half}
use Rattle.controller.specs.Instruction.{decoded}
use Rattle.controller.specs.Record.{busy_over, half_sound, sound, with_busy, with_half, with_register}
use Rattle.controller.specs.Rules.{Alike, HalvesMakeWhole, TwoMake, at_width}

-- what a complete transfer does takes no notice of the width
module _ (mem : List ℕ) (wide : Bool) (rec : Record) where
  cursor_alike : (counter : Counter) → Alike (changed (cursor_at mem counter (at_width wide rec))) (changed (cursor_at mem counter rec))
  unfolding cursor_at
  cursor_alike (Display cell) = record { answer = refl; effect = refl; rec = refl }
  cursor_alike (Pattern cell) = record { answer = refl; effect = refl; rec = refl }

  addressed_alike : (named : Option ℕ) → Alike (addressed mem named (at_width wide rec)) (addressed mem named rec)
  unfolding addressed
  addressed_alike (Some cell) = record { answer = refl; effect = refl; rec = refl }
  addressed_alike None = record { answer = refl; effect = refl; rec = refl }

  executed_alike : (i : Instruction) → Alike (executed mem i (at_width wide rec)) (executed mem i rec)
  unfolding executed
  executed_alike Nothing = record { answer = refl; effect = refl; rec = refl }
  executed_alike Clear = record { answer = refl; effect = refl; rec = refl }
  executed_alike Home = record { answer = refl; effect = refl; rec = refl }
  executed_alike (SetEntry entry) = record { answer = refl; effect = refl; rec = refl }
  executed_alike (SetControl control) = record { answer = refl; effect = refl; rec = refl }
  executed_alike (MoveCursor right) = cursor_alike (stepped right rec.counter)
  executed_alike (ShiftDisplay right) = record { answer = refl; effect = refl; rec = refl }
  executed_alike (SetFunction w function) = record { answer = refl; effect = refl; rec = refl }
  executed_alike (PatternAddress acg) = record { answer = refl; effect = refl; rec = refl }
  executed_alike (DisplayAddress add) = addressed_alike (cell_of_add rec.function.n add)

carried_alike : (counter : Counter) (wide : Bool) (rec : Record) → carried counter (at_width wide rec) ≡ at_width wide (carried counter rec)
unfolding carried
carried_alike (Display cell) wide rec = go rec.entry.s
  where
    go : (s : Bool) → cond s (shifted rec.entry.id (at_width wide rec)) (at_width wide rec) ≡ at_width wide (cond s (shifted rec.entry.id rec) rec)
    go true = refl
    go false = refl
carried_alike (Pattern cell) wide rec = refl

completed_alike : (mem : List ℕ) (t : Transfer) (wide : Bool) (rec : Record) → Alike (completed mem t (at_width wide rec)) (completed mem t rec)
unfolding completed written read_out
completed_alike mem (Instruct byte) wide rec = executed_alike mem wide rec (decoded byte)
completed_alike mem (Write byte) wide rec =
    record {
      answer = refl;
      effect = refl;
      rec = ap (λ (r : Record). at_width true (with_busy (short_time rec.frequency) (with_register byte false r))) (carried_alike rec.counter wide (moved_on rec));
    }
completed_alike mem (Status byte) wide rec = record { answer = refl; effect = refl; rec = refl }
completed_alike mem (Read byte) wide rec = record { answer = refl; effect = refl; rec = refl }

-- with no half waiting the same record at width 8 waits likewise
pub wide_waits : (rec : Record) (mem : List ℕ) (wait : ℕ) → Waits rec mem false Empty wait → Waits (at_width true rec) mem true Empty wait
unfolding half_sound
wide_waits rec mem wait w =
    record {
      sound = sound_of (at_width true rec) (sound_shift rec w.sound) (sound_counter rec w.sound) (sound_busy rec w.sound)
          (sound_frequency rec w.sound) (rw w.holds refl);
      whole = w.whole;
      width = refl;
      holds = w.holds;
      over = w.over;
    }

module _ (rec : Record) (mem : List ℕ) (kind byte wait later : ℕ) (w : Waits rec mem false Empty wait) (good : bad_transfer kind byte ≡ false) (is_byte_lem : byte < 256) where
  -- halves that wait so, return this byte first, and complete this transfer, make the whole
  two_make : (half : Half) (t : Transfer) → bad_transfer kind (high_half byte) ≡ false → bad_transfer kind (low_half byte) ≡ false
      → narrow mem kind (high_half byte) Empty (busy_over rec) ≡ first_told (high_half (completed mem t (busy_over rec)).byte) half (busy_over rec)
      → ((r : Record) → narrow mem kind (low_half byte) half r ≡ second_half mem false t r)
      → begun kind byte (busy_over (at_width true rec)) ≡ t → (completed mem t (busy_over (at_width true rec))).byte ≡ (completed mem t (busy_over rec)).byte
      → TwoMake (decided rec mem kind (high_half byte) wait)
      (decided (decided rec mem kind (high_half byte) wait).rec mem kind (low_half byte) later) (decided (at_width true rec) mem kind byte wait)
  unfolding second_half crossed
  two_make half t good-high good-low first second begins same =
      let one : decided rec mem kind (high_half byte) wait ≡ first_told (high_half (completed mem t (busy_over rec)).byte) half (busy_over rec) =
      taken_narrow rec mem Empty kind (high_half byte) wait w good-high ∙ first in
      let still : sound (with_half half (busy_over rec)) ≡ true =
      sym (ap (λ (d : Decision). sound d.rec) one) ∙ transfer_keeps_sound rec mem kind (high_half byte) wait (omega arith) w.sound in
      let between : Waits (with_half half (busy_over rec)) mem false half later =
      record { sound = still; whole = w.whole; width = w.width; holds = refl; over = zero-le } in
      let two : decided (decided rec mem kind (high_half byte) wait).rec mem kind (low_half byte) later ≡ ended false (completed mem t (busy_over rec)) =
      ap (λ (d : Decision). decided d.rec mem kind (low_half byte) later) one
      ∙ taken_narrow (with_half half (busy_over rec)) mem half kind (low_half byte) later between good-low
      ∙ second (busy_over (with_half half (busy_over rec)))
      ∙ ap (λ (r : Record). ended false (completed mem t r)) (without (busy_over rec) w.holds) in
      let whole : decided (at_width true rec) mem kind byte wait ≡ completed mem t (busy_over (at_width true rec)) =
      taken_wide (at_width true rec) mem Empty kind byte wait (wide_waits rec mem wait w) good
      ∙ ap (λ (x : Transfer). completed mem x (busy_over (at_width true rec))) begins in
      let alike = completed_alike mem t true (busy_over rec) in
      rw (two, one, whole)
      (record {
        begins = refl;
        keeps = refl;
        high = ap high_half (sym same);
        low = ap low_half (sym same);
        alike = record { answer = sym alike.answer; effect = sym alike.effect; rec = sym alike.rec };
      })

-- no write returns a byte
addressed_byte : (mem : List ℕ) (named : Option ℕ) (rec : Record) → (addressed mem named rec).byte ≡ 0
unfolding addressed
addressed_byte mem (Some cell) rec = refl
addressed_byte mem None rec = refl

pub executed_byte : (mem : List ℕ) (byte : ℕ) (rec : Record) → (executed mem (decoded byte) rec).byte ≡ 0
unfolding executed
executed_byte mem byte rec =
    decoded_elim (λ (i : Instruction). (executed mem i rec).byte ≡ 0) byte (λ _. addressed_byte mem _ rec) (λ _. refl) (λ _ _. refl) (λ _. refl)
    (λ _. refl) (λ _. refl) (λ _. refl) refl (λ _. refl) refl

-- what is to be shown of a kind and a byte
abbrev Made : Record → List ℕ → ℕ → ℕ → ℕ → ℕ → Type 0
Made rec mem wait later kind byte =
    TwoMake (decided rec mem kind (high_half byte) wait)
    (decided (decided rec mem kind (high_half byte) wait).rec mem kind (low_half byte) later) (decided (at_width true rec) mem kind byte wait)

module _ (rec : Record) (mem : List ℕ) (wait later : ℕ) (w : Waits rec mem false Empty wait) where
  instructs : (byte : ℕ) → byte < 256 → Made rec mem wait later 0 byte
  unfolding bad_transfer narrow begun first_half completed
  instructs byte is_byte_lem =
      let none = executed_byte mem byte (busy_over rec) in
      two_make rec mem 0 byte wait later w refl is_byte_lem (InstructionWrite (byte / 16)) (Instruct byte) refl refl
      (rw (none, high_of byte)) (λ r. rw (whole_of byte)) refl (executed_byte mem byte (busy_over (at_width true rec)) ∙ sym none)

  writes : (byte : ℕ) → byte < 256 → Made rec mem wait later 1 byte
  unfolding bad_transfer narrow begun first_half completed written
  writes byte is_byte_lem =
      two_make rec mem 1 byte wait later w refl is_byte_lem (DataWrite (byte / 16)) (Write byte) refl refl (rw (high_of byte)) (λ r. rw (whole_of byte)) refl refl

  statuses : Made rec mem wait later 2 0
  unfolding bad_transfer narrow begun first_half completed status_of
  statuses =
      two_make rec mem 2 0 wait later w refl (omega arith) (StatusRead (status_of (busy_over rec))) (Status (status_of (busy_over rec))) refl refl refl (λ r. refl) refl refl

  reads : Made rec mem wait later 3 0
  unfolding bad_transfer narrow begun first_half completed read_out
  reads = two_make rec mem 3 0 wait later w refl (omega arith) (DataRead rec.reg) (Read rec.reg) refl refl refl (λ r. refl) refl refl

-- a good transfer is of kind 0 to 3, and a read has no byte
pub data Good : ℕ → ℕ → Type 0 where
  instruction : (byte : ℕ) → Good 0 byte
  writing : (byte : ℕ) → Good 1 byte
  status : Good 2 0
  reading : Good 3 0

neither : (a b : Bool) → (a || b) ≡ false → (a ≡ false) × (b ≡ false)
neither true b e = absurd (true≢false e)
neither false b e = (refl, e)

not_both : (a b : Bool) → (a && b) ≡ false → a ≡ true → b ≡ false
not_both true b e here = e
not_both false b e here = absurd (false≢true here)

pub good_is : (kind byte : ℕ) → bad_transfer kind byte ≡ false → Good kind byte
unfolding bad_transfer
good_is kind byte good = go (eqb kind 0) (eqb kind 1) (eqb kind 2) refl refl refl
  where
    parts : (ltb 3 kind ≡ false) × ((leb 2 kind && ltb 0 byte) ≡ false)
    parts = neither (ltb 3 kind) (leb 2 kind && ltb 0 byte) good

    a_read : (k : ℕ) → 2 ≤ k → kind ≡ k → Good k 0 → Good kind byte
    a_read k high is made =
        let none : byte ≡ 0 = omega (arith, ltb-false 0 byte (not_both (leb 2 kind) (ltb 0 byte) parts.1 (le-leb 2 kind (omega arith)))) in
        subst (λ (x : ℕ). Good x byte) (sym is) (subst (Good k) (sym none) made)

    last : (kind ≡ 0 → ⊥) → (kind ≡ 1 → ⊥) → (kind ≡ 2 → ⊥) → kind ≡ 3
    last not-0 not-1 not-2 = omega (arith, ltb-false 3 kind parts.0)

    go : (a b c : Bool) → eqb kind 0 ≡ a → eqb kind 1 ≡ b → eqb kind 2 ≡ c → Good kind byte
    go true b c is-0 _ _ = subst (λ (x : ℕ). Good x byte) (sym (eqb-true kind 0 is-0)) (instruction byte)
    go false true c _ is-1 _ = subst (λ (x : ℕ). Good x byte) (sym (eqb-true kind 1 is-1)) (writing byte)
    go false false true _ _ is-2 = a_read 2 (omega arith) (eqb-true kind 2 is-2) status
    go false false false not-0 not-1 not-2 =
        a_read 3 (omega arith) (last (eqb-false kind 0 not-0) (eqb-false kind 1 not-1) (eqb-false kind 2 not-2)) reading

pub halves_make_whole : HalvesMakeWhole
halves_make_whole rec mem kind byte wait later w good is_byte_lem = go (good_is kind byte (tests_false (bad_tests kind byte) good)) is_byte_lem
  where
    go : {k b : ℕ} → Good k b → b < 256 → Made rec mem wait later k b
    go (instruction byte) small = instructs rec mem wait later w byte small
    go (writing byte) small = writes rec mem wait later w byte small
    go status small = statuses rec mem wait later w
    go reading small = reads rec mem wait later w
