-- The oscillator that is fitted (document 02, d): the frequencies that a module may have, and how long a time of 250 kHz is at
-- another.
-- Assumes nothing.
use Rattle.std.specs.Prelude.{Bool, cond, ◌&&◌, ℕ, ◌+◌, ◌-◌, ◌*◌, ◌/◌, leb}
use Rattle.controller.specs.declared.oscillator.Frequency.{Frequency}

-- The first of the two named module kinds: 250 kHz.
abbrev pub older : Frequency
older = record { khz = 250 }

-- The second: 270 kHz.
abbrev pub newer : Frequency
newer = record { khz = 270 }

-- A frequency from 190 to 350 kHz.
unfoldable pub in_range : Frequency → Bool
in_range frequency = leb 190 frequency.khz && leb frequency.khz 350

-- Reset keeps a frequency in range and puts 250 for any other.
unfoldable pub fitted : Frequency → Frequency
fitted frequency = cond (in_range frequency) frequency older

-- Divided, rounded up.
abbrev pub rounded_up : ℕ → ℕ → ℕ
rounded_up number by = (number + (by - 1)) / by

-- Each execution time is the 250 kHz time times 250, divided by the frequency, rounded up. A frequency out of range, which no
-- sound record and no wish has, counts as what reset would put for it: nothing is divided by 0, and no time is without bound.
unfoldable pub time_at : ℕ → Frequency → ℕ
time_at time frequency = rounded_up (time * 250) (fitted frequency).khz
