-- What is proved of the oscillator (document 02, d): how long a time is at each frequency, and what reset and the transfers leave
-- of the frequency. The range stands here in plain numbers.
-- Assumes nothing.
use Rattle.std.specs.Prelude.{List, ◌≡◌, ℕ, ◌*◌, ◌≤◌, ◌<◌, length}
use Rattle.controller.specs.declared.oscillator.Frequency.{Frequency}
use Rattle.controller.specs.declared.«record».Record.{Record}
use Rattle.controller.specs.Bus.{decided, reset_decided}
use Rattle.controller.specs.Oscillator.{older, newer, time_at}
use Rattle.controller.specs.Rows.{OutOfRange}

-- From 190 to 350 kHz.
pub record WithinRange (frequency : Frequency) : Type 0 where
  pub low : 190 ≤ frequency.khz
  pub high : frequency.khz ≤ 350

-- It is the least whole time whose product with the frequency reaches the 250 kHz time times 250.
abbrev pub LeastTime : Type 0
LeastTime =
    (time : ℕ) (frequency : Frequency) → WithinRange frequency
    → (time * 250 ≤ time_at time frequency * frequency.khz)
    × ((less : ℕ) → less < time_at time frequency → less * frequency.khz < time * 250)

-- At 250 kHz every time is as it was.
abbrev pub TimeAt250 : Type 0
TimeAt250 = (time : ℕ) → time_at time older ≡ time

-- 40 becomes 38 at 270, and 1,640 becomes 1,519.
abbrev pub TimesAt270 : Type 0
TimesAt270 = (time_at 40 newer ≡ 38) × (time_at 1640 newer ≡ 1519)

-- No time grows as the frequency rises.
abbrev pub TimeFalls : Type 0
TimeFalls =
    (time : ℕ) (slow fast : Frequency) → WithinRange slow → WithinRange fast → slow.khz ≤ fast.khz
    → time_at time fast ≤ time_at time slow

-- Out of range a time is that of 250 kHz.
abbrev pub TimeOutside : Type 0
TimeOutside = (time : ℕ) (frequency : Frequency) → OutOfRange frequency → time_at time frequency ≡ time

-- Reset keeps a frequency in range and puts 250 for any other.
pub record ResetFrequency (rec : Record) (mem : List ℕ) : Type 0 where
  pub kept : WithinRange rec.frequency → (reset_decided rec mem).rec.frequency ≡ rec.frequency
  pub put : OutOfRange rec.frequency → (reset_decided rec mem).rec.frequency.khz ≡ 250

-- No transfer alters the frequency, whatever it is answered.
abbrev pub TransferKeepsFrequency : Type 0
TransferKeepsFrequency =
    (rec : Record) (mem : List ℕ) (kind byte wait : ℕ) → (decided rec mem kind byte wait).rec.frequency ≡ rec.frequency

-- All of these.
pub record OscillatorRules : Type 0 where
  pub least : LeastTime
  pub at_250 : TimeAt250
  pub at_270 : TimesAt270
  pub falls : TimeFalls
  pub outside : TimeOutside
  pub reset : (rec : Record) (mem : List ℕ) → length mem ≡ 144 → ResetFrequency rec mem
  pub transfer : TransferKeepsFrequency
