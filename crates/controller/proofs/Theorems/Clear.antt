-- After Clear the counter runs rightward, at either width.
-- Assumes nothing.
use mathlib.Core.Bool.{Bool, true, false}
use mathlib.Core.List.{List}
use mathlib.Core.Path.{◌≡◌, refl, ap, ◌∙◌}
use Prim.Native.Nat.{ℕ}
use native.Mathlib.Omega.{arith}
use Rattle.controller.proofs.Laws.Memory.{performed_length}
use Rattle.controller.proofs.Laws.Rows.{bad_tests}
use Rattle.controller.proofs.Theorems.Cases.{write_leads}
use Rattle.controller.proofs.Theorems.Halves.{halves_make_whole, wide_waits}
use Rattle.controller.proofs.Theorems.Rules.{clears}
use Rattle.controller.proofs.Theorems.Sound.{transfer_keeps_sound}
use Rattle.controller.specs.declared.cells.Counter.TheVariants.{Display}
use Rattle.controller.specs.declared.«record».Half.TheVariants.{Empty}
use Rattle.controller.specs.declared.«record».Record.{Record}
use Rattle.controller.specs.Bus.{bad_transfer, decided}
use Rattle.controller.specs.Cases.{Waits, taking}
use Rattle.controller.specs.Halves.{high_half}
use Rattle.controller.specs.Oscillator.{time_at}
use Rattle.controller.specs.Record.{sound}
use Rattle.controller.specs.Rules.{ClearRunsRight, at_width, beside, neighbour}

-- what the next data write needs of the record that Clear leaves
record Cleared (before rec : Record) : Type 0 where
  sound : sound rec ≡ true
  counter : rec.counter ≡ Display 0
  id : rec.entry.id ≡ true
  busy : rec.busy ≡ time_at 1640 before.frequency
  half : rec.half ≡ Empty

clear_leaves : (wide : Bool) (rec : Record) (mem : List ℕ) (wait later : ℕ) → Waits rec mem wide Empty wait
    → Cleared rec (taking wide rec mem 0 0x01 wait later).rec
unfolding bad_transfer
clear_leaves true rec mem wait later w =
    let rule = clears rec mem 0x01 wait w (omega arith) (omega arith) in
    record {
      sound = transfer_keeps_sound rec mem 0 0x01 wait (omega arith) w.sound;
      counter = rule.homes.counter;
      id = rule.id;
      busy = rule.homes.comes.busy;
      half = rule.homes.comes.half;
    }
clear_leaves false rec mem wait later w =
    let rule = clears (at_width true rec) mem 0x01 wait (wide_waits rec mem wait w) (omega arith) (omega arith) in
    let same = (halves_make_whole rec mem 0 0x01 wait later w ((bad_tests 0 0x01).no refl) (omega arith)).alike.rec in
    let first = decided rec mem 0 (high_half 0x01) wait in
    record {
      sound =
          transfer_keeps_sound first.rec mem 0 _ later (omega arith)
          (transfer_keeps_sound rec mem 0 (high_half 0x01) wait (omega arith) w.sound);
      counter = ap (λ (r : Record). r.counter) same ∙ rule.homes.counter;
      id = ap (λ (r : Record). r.entry.id) same ∙ rule.id;
      busy = ap (λ (r : Record). r.busy) same ∙ rule.homes.comes.busy;
      half = ap (λ (r : Record). r.half) same ∙ rule.homes.comes.half;
    }

pub clear_runs_right : ClearRunsRight
unfolding beside neighbour
clear_runs_right wide rec mem byte wait later then last w is_byte_lem over =
    let d = taking wide rec mem 0 0x01 wait later in
    let left = clear_leaves wide rec mem wait later w in
    (write_leads d.rec.function.n (Display 0) _ (Display 1) _ refl refl refl d.rec.wide d.rec _ byte then last
    (record {
      sound = left.sound;
      whole = performed_length d.effect mem w.whole;
      width = refl;
      holds = left.half;
      over = omega (arith, left.busy);
    })
    is_byte_lem refl left.id left.counter).1
