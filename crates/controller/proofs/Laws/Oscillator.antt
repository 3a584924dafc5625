-- Laws of the oscillator: the frequency that is fitted, and the times at it. A time is the least one that reaches far enough, and
-- all else about it follows from that.
-- Assumes nothing.
use mathlib.Core.Bool.{true}
use mathlib.Core.Path.{◌≡◌}
use Prim.Native.Nat.{ℕ, ◌+◌, ◌-◌, ◌*◌, ◌≤◌, ◌<◌}
use native.Mathlib.Nat.{div-lt_iff_lt-mul, lt-div-mul-add, lt_of_mul-lt-mul_right, mul-le-mul_left, mul-le-mul_right, le_trans, suc-mul}
use native.Mathlib.Numerals.{add-one}
use native.Mathlib.Omega.{arith}
use lib.Dec.{leb}
use borrow.Author.Tests.{leb-true, le-leb}
use Rattle.std.specs.Int.{div_ceil}
use Rattle.std.proofs.lemmas.Grind.{div_ceil_times}
use Rattle.controller.proofs.Laws.Choice.{cond-elim, and_left, and_right}
use Rattle.controller.proofs.Laws.Rows.{range_fails}
use Rattle.controller.proofs.Laws.Tests.{fails_false}
use Rattle.controller.specs.declared.oscillator.Frequency.{Frequency}
use Rattle.controller.specs.Oscillator.{in_range, fitted, older, rounded_up, time_at}
use Rattle.controller.specs.Rows.{OutOfRange}
use Rattle.controller.specs.Times.{WithinRange}

-- the test of the range, in plain numbers
pub range_within : (frequency : Frequency) → in_range frequency ≡ true → WithinRange frequency
unfolding in_range
range_within frequency is =
    record {
      low = leb-true 190 frequency.khz (and_left _ _ is);
      high = leb-true frequency.khz 350 (and_right (leb 190 frequency.khz) _ is);
    }

pub within_range : (frequency : Frequency) → WithinRange frequency → in_range frequency ≡ true
unfolding in_range
within_range frequency is = simp (le-leb _ _ is.low, le-leb _ _ is.high)

pub older_within : WithinRange older
older_within = record { low = omega arith; high = omega arith }

-- what is fitted: a frequency in range, and 250 for one out of it
pub fitted_in : (frequency : Frequency) → WithinRange frequency → fitted frequency ≡ frequency
unfolding fitted
fitted_in frequency is = rw (within_range frequency is)

pub fitted_out : (frequency : Frequency) → OutOfRange frequency → fitted frequency ≡ older
unfolding fitted
fitted_out frequency out = rw (fails_false (in_range frequency) (range_fails frequency) out)

pub fitted_within : (frequency : Frequency) → WithinRange (fitted frequency)
unfolding fitted
fitted_within frequency = cond-elim WithinRange (in_range frequency) _ _ (range_within frequency) (λ _. older_within)

-- divided and rounded up, a number is the least that reaches it
rounded_reaches : (number by : ℕ) → 0 < by → number ≤ rounded_up number by * by
rounded_reaches number by some = omega (arith, lt-div-mul-add {a = number + (by - 1)} {b = by} some)

rounded_least : (number by other : ℕ) → 0 < by → number ≤ other * by → rounded_up number by ≤ other
rounded_least number by other some reaches =
    let more : (other + 1) * by ≡ other * by + by = rw add-one (suc-mul other by) in
    let under : rounded_up number by < other + 1 = (div-lt_iff_lt-mul {k = by} {x = number + (by - 1)} {y = other + 1} some).1 (omega arith) in
    omega arith

-- the library's quotient that is rounded up is that number
ceiled : (number by : ℕ) → 0 < by → div_ceil number by ≡ rounded_up number by
ceiled number by some =
    let least : rounded_up number by ≤ div_ceil number by = rounded_least number by (div_ceil number by) some (div_ceil_times number by some).0 in
    let more : (rounded_up number by + 1) * by ≡ rounded_up number by * by + by = rw add-one (suc-mul (rounded_up number by) by) in
    let under : div_ceil number by < rounded_up number by + 1 =
    lt_of_mul-lt-mul_right by (omega (arith, (div_ceil_times number by some).1, rounded_reaches number by some)) in
    omega arith

-- a time is what the library's quotient gives
pub ceiled_time : (time : ℕ) (frequency : Frequency) → div_ceil (time * 250) (fitted frequency).khz ≡ time_at time frequency
unfolding time_at
ceiled_time time frequency = ceiled (time * 250) (fitted frequency).khz (omega (arith, (fitted_within frequency).low))

module _ (time : ℕ) (frequency : Frequency) where
  abbrev khz : ℕ
  khz = (fitted frequency).khz

  pub time_reaches : time * 250 ≤ time_at time frequency * khz
  unfolding time_at
  time_reaches = rounded_reaches (time * 250) khz (omega (arith, (fitted_within frequency).low))

  pub time_least : (other : ℕ) → time * 250 ≤ other * khz → time_at time frequency ≤ other
  unfolding time_at
  time_least other reaches =
      rounded_least (time * 250) khz other (omega (arith, (fitted_within frequency).low)) reaches

  -- a time that is enough at 190 kHz is enough at every frequency
  pub time_bound : (most : ℕ) → time * 250 ≤ most * 190 → time_at time frequency ≤ most
  time_bound most enough =
      time_least most (le_trans enough (mul-le-mul_left most (fitted_within frequency).low))

-- a longer time of 250 kHz is no shorter at another frequency
pub time_grows : (time longer : ℕ) (frequency : Frequency) → time ≤ longer → time_at time frequency ≤ time_at longer frequency
time_grows time longer frequency less =
    time_least time frequency (time_at longer frequency) (le_trans (mul-le-mul_right 250 less) (time_reaches longer frequency))
