-- When a transfer is taken: a sound record, a whole memory, a kind and byte in order, and no need to wait.
-- Assumes nothing.
use mathlib.Core.Bool.{Bool, true, false, and-false}
use mathlib.Core.List.{List}
use mathlib.Core.Path.{◌≡◌, ap, ◌∙◌}
use Prim.Native.Nat.{ℕ, ◌≤◌}
use lib.ListN.{length}
use borrow.Author.Tests.{eq-eqb}
use Rattle.controller.proofs.Laws.Record.{sound_counter, waited_over}
use Rattle.controller.specs.declared.«record».Record.{Record}
use Rattle.controller.specs.Bus.{decided, ordered, whole, bad_transfer, must_wait}
use Rattle.controller.specs.declared.«record».Half.{Half}
use Rattle.controller.specs.Cases.{Waits}
use Rattle.controller.specs.Execute.{completed}
use Rattle.controller.specs.Halves.{accepted, begun, narrow}
use Rattle.controller.specs.Record.{sound, busy_over, waited}

-- a wait as long as the busy time lets every kind in
pub covered : (kind wait : ℕ) (rec : Record) → rec.busy ≤ wait → must_wait kind (waited wait rec) ≡ false
unfolding must_wait
covered kind wait rec over = simp (waited_over wait rec over, and-false)

pub taken : (rec : Record) (mem : List ℕ) (kind byte wait : ℕ) → sound rec ≡ true → length mem ≡ 144 → bad_transfer kind byte ≡ false
    → must_wait kind (waited wait rec) ≡ false → decided rec mem kind byte wait ≡ accepted mem kind byte (waited wait rec)
unfolding decided ordered whole
taken rec mem kind byte wait s long good may = simp (s, eq-eqb (length mem) 144 long, good, may, sound_counter rec s)

-- at width 8 what is accepted is complete at once, and at width 4 what waits decides
pub accepted_wide : (mem : List ℕ) (kind byte : ℕ) (rec : Record) → rec.wide ≡ true → accepted mem kind byte rec ≡ completed mem (begun kind byte rec) rec
unfolding accepted
accepted_wide mem kind byte rec wide = rw wide

pub accepted_narrow : (mem : List ℕ) (kind byte : ℕ) (half : Half) (rec : Record) → rec.wide ≡ false → rec.half ≡ half
    → accepted mem kind byte rec ≡ narrow mem kind byte half rec
unfolding accepted
accepted_narrow mem kind byte half rec thin waits = rw (thin, waits)

-- with its memory whole and its busy time covered, a sound controller takes every transfer that is well formed
waits_taken : (rec : Record) (mem : List ℕ) (wide : Bool) (half : Half) (kind byte wait : ℕ) → Waits rec mem wide half wait → bad_transfer kind byte ≡ false
    → decided rec mem kind byte wait ≡ accepted mem kind byte (busy_over rec)
waits_taken rec mem wide half kind byte wait w good =
    taken rec mem kind byte wait w.sound w.whole good (covered kind wait rec w.over)
    ∙ ap (accepted mem kind byte) (waited_over wait rec w.over)

pub taken_wide : (rec : Record) (mem : List ℕ) (half : Half) (kind byte wait : ℕ) → Waits rec mem true half wait → bad_transfer kind byte ≡ false
    → decided rec mem kind byte wait ≡ completed mem (begun kind byte (busy_over rec)) (busy_over rec)
taken_wide rec mem half kind byte wait w good =
    waits_taken rec mem true half kind byte wait w good ∙ accepted_wide mem kind byte (busy_over rec) w.width

pub taken_narrow : (rec : Record) (mem : List ℕ) (half : Half) (kind byte wait : ℕ) → Waits rec mem false half wait → bad_transfer kind byte ≡ false
    → decided rec mem kind byte wait ≡ narrow mem kind byte half (busy_over rec)
taken_narrow rec mem half kind byte wait w good =
    waits_taken rec mem false half kind byte wait w good ∙ accepted_narrow mem kind byte half (busy_over rec) w.width w.holds
