-- The theorems of soundness: every call keeps a sound record sound, and its effect within the memory.
-- Assumes nothing.
use mathlib.Core.Bool.{true}
use mathlib.Core.Path.{◌≡◌, refl}
use native.Mathlib.Omega.{arith}
use Rattle.controller.proofs.Laws.Cells.{display_on}
use Rattle.controller.proofs.Laws.Completed.{idle_sound}
use Rattle.controller.proofs.Laws.Kept.{decided_kept, decided_fits, reset_fits}
use Rattle.controller.proofs.Laws.Oscillator.{fitted_within, within_range}
use Rattle.controller.specs.declared.oscillator.Frequency.{Frequency}
use Rattle.controller.specs.Bus.{reset_decided}
use Rattle.controller.specs.Record.{reset_record, sound}
use Rattle.controller.specs.Theorems.{TransferKeepsSound, ResetMakesSound, EffectsFit}

pub transfer_keeps_sound : TransferKeepsSound
transfer_keeps_sound rec mem kind byte wait below s = (decided_kept rec mem kind byte wait below s).sound

pub reset_sound : (frequency : Frequency) → sound (reset_record frequency) ≡ true
unfolding reset_record
reset_sound frequency =
    idle_sound (reset_record frequency)
    (record { shift = omega arith; counter = display_on 0 (omega arith); frequency = within_range _ (fitted_within _); half = refl }) (omega arith)

pub reset_makes_sound : ResetMakesSound
unfolding reset_decided
reset_makes_sound rec mem w = rw w (reset_sound rec.frequency)

pub effects_fit : EffectsFit
effects_fit rec mem = (decided_fits rec mem, reset_fits rec mem)
