-- Laws of the record: what a sound one tells, and what makes one sound.
-- Assumes nothing.
use mathlib.Core.Bool.{Bool, true, false, not, ◌&&◌}
use mathlib.Core.List.{List}
use mathlib.Core.Path.{◌≡◌, refl, ap}
use Prim.Native.Nat.{ℕ, ◌-◌, ◌<◌, ◌≤◌, zero-le}
use native.Mathlib.Omega.{arith}
use lib.Dec.{ltb, leb, eqb}
use lib.ListN.{length}
use borrow.Author.Tests.{ltb-true, leb-true, eqb-true, lt-ltb, le-leb, eq-eqb}
use Rattle.controller.proofs.Laws.Choice.{cond-elim, and_left, and_right}
use Rattle.controller.specs.declared.«record».Half.{Half}
use Rattle.controller.specs.declared.«record».Half.TheVariants.{Empty, InstructionWrite, DataWrite, StatusRead, DataRead}
use Rattle.controller.specs.declared.«record».Record.{Record}
use Rattle.controller.specs.Bus.{whole}
use Rattle.controller.specs.Cells.{on_cell}
use Rattle.controller.specs.Oscillator.{in_range}
use Rattle.controller.specs.Record.{reset_time, half_sound, sound, with_busy, busy_over, waited, FourBits, Ready}

-- the five parts of soundness
pub sound_shift : (rec : Record) → sound rec ≡ true → rec.shift < 80
unfolding sound
sound_shift rec s = ltb-true rec.shift 80 (and_left _ _ s)

pub sound_counter : (rec : Record) → sound rec ≡ true → on_cell rec.counter ≡ true
unfolding sound
sound_counter rec s = and_left _ _ (and_right (ltb rec.shift 80) _ s)

pub sound_busy : (rec : Record) → sound rec ≡ true → rec.busy ≤ reset_time
unfolding sound
sound_busy rec s = leb-true rec.busy reset_time (and_left _ _ (and_right (on_cell rec.counter) _ (and_right (ltb rec.shift 80) _ s)))

-- what is tested after busy
later : (rec : Record) → sound rec ≡ true → (in_range rec.frequency && half_sound rec.wide rec.busy rec.half) ≡ true
unfolding sound
later rec s = and_right (leb rec.busy reset_time) _ (and_right (on_cell rec.counter) _ (and_right (ltb rec.shift 80) _ s))

pub sound_frequency : (rec : Record) → sound rec ≡ true → in_range rec.frequency ≡ true
sound_frequency rec s = and_left _ _ (later rec s)

pub sound_half : (rec : Record) → sound rec ≡ true → half_sound rec.wide rec.busy rec.half ≡ true
sound_half rec s = and_right (in_range rec.frequency) _ (later rec s)

pub sound_of : (rec : Record) → rec.shift < 80 → on_cell rec.counter ≡ true → rec.busy ≤ reset_time → in_range rec.frequency ≡ true
    → half_sound rec.wide rec.busy rec.half ≡ true → sound rec ≡ true
unfolding sound
sound_of rec shift counter busy frequency half = simp (lt-ltb _ _ shift, counter, le-leb _ _ busy, frequency, half)

-- a write's half is four bits
pub half_four_bits : (wide : Bool) (busy : ℕ) (half : Half) → half_sound wide busy half ≡ true → FourBits half
unfolding half_sound
half_four_bits wide busy Empty s = tt
half_four_bits wide busy (InstructionWrite high) s = ltb-true high 16 (and_left _ _ (and_right (not wide) _ s))
half_four_bits wide busy (DataWrite high) s = ltb-true high 16 (and_left _ _ (and_right (not wide) _ s))
half_four_bits wide busy (StatusRead byte) s = tt
half_four_bits wide busy (DataRead byte) s = tt

-- busy 0 stays 0
zero_less : (less busy : ℕ) → less ≤ busy → eqb busy 0 ≡ true → eqb less 0 ≡ true
zero_less less busy under z = eq-eqb less 0 (omega (arith, eqb-true busy 0 z))

-- a joined test whose last part still passes
and_again : (a b c d : Bool) → (c ≡ true → d ≡ true) → (a && (b && c)) ≡ true → (a && (b && d)) ≡ true
and_again true true c d again s = again s
and_again true false c d again s = s
and_again false b c d again s = s

-- a half waits as well with less busy left
half_less : (wide : Bool) (less busy : ℕ) (half : Half) → less ≤ busy → half_sound wide busy half ≡ true → half_sound wide less half ≡ true
unfolding half_sound
half_less wide less busy Empty under s = refl
half_less wide less busy (InstructionWrite high) under s = and_again (not wide) (ltb high 16) _ _ (zero_less less busy under) s
half_less wide less busy (DataWrite high) under s = and_again (not wide) (ltb high 16) _ _ (zero_less less busy under) s
half_less wide less busy (StatusRead byte) under s = s
half_less wide less busy (DataRead byte) under s = and_again true (not wide) _ _ (zero_less less busy under) s

less_sound : (less : ℕ) (rec : Record) → less ≤ rec.busy → sound rec ≡ true → sound (with_busy less rec) ≡ true
less_sound less rec under s =
    sound_of (with_busy less rec) (sound_shift rec s) (sound_counter rec s) (omega (arith, sound_busy rec s)) (sound_frequency rec s)
    (half_less rec.wide less rec.busy rec.half under (sound_half rec s))

-- waiting keeps a record sound
pub waited_sound : (wait : ℕ) (rec : Record) → sound rec ≡ true → sound (waited wait rec) ≡ true
unfolding waited
waited_sound wait rec s =
    cond-elim (λ (r : Record). sound r ≡ true) (leb rec.busy wait) _ _ (λ _. less_sound 0 rec zero-le s) (λ _. less_sound _ rec (omega arith) s)

-- what is left of busy, not below 0, is less than it was or nothing
pub less_waited : (wait : ℕ) (rec : Record) → with_busy (rec.busy - wait) rec ≡ waited wait rec
unfolding waited
less_waited wait rec =
    cond-elim (λ (r : Record). with_busy (rec.busy - wait) rec ≡ r) (leb rec.busy wait) _ _
    (λ over. ap (λ (left : ℕ). with_busy left rec) (omega (arith, leb-true rec.busy wait over))) (λ _. refl)

-- a wait as long as the busy time, or longer, ends it
pub waited_over : (wait : ℕ) (rec : Record) → rec.busy ≤ wait → waited wait rec ≡ busy_over rec
unfolding waited
waited_over wait rec over = rw (le-leb rec.busy wait over)

-- what neither the end of busy nor less of it alters is as it was after a wait
pub waited_keeps : {A : Type 0} (f : Record → A) (wait : ℕ) (rec : Record) → f (busy_over rec) ≡ f rec
    → ((less : ℕ) → f (with_busy less rec) ≡ f rec) → f (waited wait rec) ≡ f rec
unfolding waited
waited_keeps f wait rec over less =
    cond-elim (λ (r : Record). f r ≡ f rec) (leb rec.busy wait) _ _ (λ _. over) (λ _. less (rec.busy - wait))

pub whole_length : (mem : List ℕ) → whole mem ≡ true → length mem ≡ 144
unfolding whole
whole_length mem w = omega (arith, eqb-true (length mem) _ w)

-- a sound record is all that the rules lean on
pub ready : (rec : Record) → sound rec ≡ true → Ready rec
ready rec s =
    record {
      counter = sound_counter rec s;
      shift = sound_shift rec s;
      half = half_four_bits rec.wide rec.busy rec.half (sound_half rec s);
    }
