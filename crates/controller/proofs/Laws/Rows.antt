-- The definition's tests of a transfer say what the table's rows 1 to 5 and 9 say.
-- Assumes nothing.
use mathlib.Core.Bool.{Bool, true, false, not, ◌&&◌, false≢true, true≢false}
use mathlib.Core.List.{List}
use mathlib.Core.Path.{◌≡◌, refl, sym, ap, ◌∙◌}
use Prim.Native.Nat.{ℕ, ◌-◌, ◌<◌}
use native.Mathlib.Omega.{arith}
use lib.Dec.{leb, ltb}
use lib.ListN.{length}
use borrow.Author.Tests.{leb-true}
use Rattle.controller.proofs.Laws.Choice.{cond-elim}
use Rattle.controller.proofs.Laws.Record.{waited_keeps}
use Rattle.controller.proofs.Laws.Tests.{Tests, Fails, fails_and, fails_eq, fails_le, fails_lt, fails_not, fails_zero, tests_and, tests_as, tests_eq, tests_fails, tests_le, tests_lt, tests_not, tests_or}
use Rattle.controller.specs.declared.cells.Counter.{Counter}
use Rattle.controller.specs.declared.cells.Counter.TheVariants.{Display, Pattern}
use Rattle.controller.specs.declared.oscillator.Frequency.{Frequency}
use Rattle.controller.specs.declared.«record».Half.{Half}
use Rattle.controller.specs.declared.«record».Half.TheVariants.{Empty, InstructionWrite, DataWrite, StatusRead, DataRead}
use Rattle.controller.specs.declared.«record».Record.{Record}
use Rattle.controller.specs.Bus.{bad_transfer, must_wait, no_half, whole}
use Rattle.controller.specs.Cells.{on_cell}
use Rattle.controller.specs.Oscillator.{in_range}
use Rattle.controller.specs.Record.{half_sound, reset_time, sound, waited}
use Rattle.controller.specs.Rows.{Breaks, HalfBreaks, IsFirst, NoTransfer, NotLong, OffCells, OutOfRange, TooEarly}

off_fails : (counter : Counter) → Fails (on_cell counter) (OffCells counter)
unfolding on_cell
off_fails (Display cell) = fails_lt cell 80
off_fails (Pattern cell) = fails_lt cell 64

pub off_tests : (counter : Counter) → Tests (not (on_cell counter)) (OffCells counter)
off_tests counter = tests_fails (on_cell counter) (off_fails counter)

half_fails : (wide : Bool) (busy : ℕ) (half : Half) → Fails (half_sound wide busy half) (HalfBreaks wide busy half)
unfolding half_sound
half_fails wide busy Empty = record { yes = true≢false; no = λ _ none. none }
half_fails wide busy (InstructionWrite high) = fails_and _ _ (fails_not wide) (fails_and _ _ (fails_lt high 16) (fails_zero busy))
half_fails wide busy (DataWrite high) = fails_and _ _ (fails_not wide) (fails_and _ _ (fails_lt high 16) (fails_zero busy))
half_fails wide busy (StatusRead taken) = fails_not wide
half_fails wide busy (DataRead taken) = fails_and _ _ (fails_not wide) (fails_zero busy)

pub range_fails : (frequency : Frequency) → Fails (in_range frequency) (OutOfRange frequency)
unfolding in_range
range_fails frequency = fails_and _ _ (fails_le 190 frequency.khz) (fails_le frequency.khz 350)

pub sound_tests : (rec : Record) → Tests (not (sound rec)) (Breaks rec)
unfolding sound reset_time
sound_tests rec =
    tests_fails (sound rec)
    (fails_and _ _ (fails_lt rec.shift 80)
    (fails_and _ _ (off_fails rec.counter)
    (fails_and _ _ (fails_le rec.busy reset_time)
    (fails_and _ _ (range_fails rec.frequency) (half_fails rec.wide rec.busy rec.half)))))

pub whole_fails : (mem : List ℕ) → Fails (whole mem) (NotLong mem)
unfolding whole
whole_fails mem = fails_eq (length mem) 144

pub whole_tests : (mem : List ℕ) → Tests (not (whole mem)) (NotLong mem)
whole_tests mem = tests_fails (whole mem) (whole_fails mem)

pub bad_tests : (kind byte : ℕ) → Tests (bad_transfer kind byte) (NoTransfer kind byte)
unfolding bad_transfer
bad_tests kind byte = tests_or _ _ (tests_lt 3 kind) (tests_and _ _ (tests_le 2 kind) (tests_lt 0 byte))

no_half_is : (half : Half) → no_half half ≡ true → half ≡ Empty
no_half_is Empty e = refl
no_half_is (InstructionWrite high) e = absurd (false≢true e)
no_half_is (DataWrite high) e = absurd (false≢true e)
no_half_is (StatusRead taken) e = absurd (false≢true e)
no_half_is (DataRead taken) e = absurd (false≢true e)

no_half_tests : (half : Half) → Tests (no_half half) (half ≡ Empty)
no_half_tests half = record { yes = no_half_is half; no = λ e is. false≢true (sym e ∙ ap no_half is) }

narrow_tests : (wide : Bool) → Tests (not wide) (wide ≡ false)
narrow_tests true = record { yes = λ e. absurd (false≢true e); no = λ _ e. true≢false e }
narrow_tests false = record { yes = λ _. refl; no = λ e _. true≢false e }

-- busy is above 0 after a wait that was shorter
busy_tests : (wait : ℕ) (rec : Record) → Tests (ltb 0 (waited wait rec).busy) (wait < rec.busy)
unfolding waited
busy_tests wait rec =
    cond-elim (λ (r : Record). Tests (ltb 0 r.busy) (wait < rec.busy)) (leb rec.busy wait) _ _
    (λ over. tests_as (λ (less : 0 < 0). omega arith) (λ less. omega (arith, leb-true rec.busy wait over)) (tests_lt 0 0))
    (λ left. tests_as (λ (less : 0 < rec.busy - wait). omega arith) (λ less. omega arith) (tests_lt 0 (rec.busy - wait)))

-- what the wait leaves of the half and of the width
pub half_after : (wait : ℕ) (rec : Record) → (waited wait rec).half ≡ rec.half
half_after wait rec = waited_keeps (λ (r : Record). r.half) wait rec refl (λ _. refl)

pub wide_after : (wait : ℕ) (rec : Record) → (waited wait rec).wide ≡ rec.wide
wide_after wait rec = waited_keeps (λ (r : Record). r.wide) wait rec refl (λ _. refl)

pub early_tests : (kind wait : ℕ) (rec : Record) → Tests (must_wait kind (waited wait rec)) (TooEarly kind wait rec)
unfolding must_wait
early_tests kind wait rec = rw (half_after wait rec) (tests_and _ _ (no_half_tests rec.half) (tests_and _ _ (busy_tests wait rec) (tests_not (tests_eq kind 2))))

pub first_tests : (wait : ℕ) (rec : Record) → Tests (not (waited wait rec).wide && no_half (waited wait rec).half) (IsFirst rec)
first_tests wait rec = rw (half_after wait rec, wide_after wait rec) (tests_and _ _ (narrow_tests rec.wide) (no_half_tests rec.half))
