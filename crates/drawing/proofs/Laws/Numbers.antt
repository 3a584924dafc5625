-- Laws of numbers in fields: where each place stands, and the fields of a fixed width.
-- Assumes nothing.
use mathlib.Core.Bool.{Bool, true, false, cond}
use mathlib.Core.Path.{◌≡◌, refl, ap, ◌∙◌}
use Prim.Native.Char.{code}
use Prim.Native.Nat.{ℕ, zero, suc, ◌-◌, ◌/◌, ◌%◌, ◌^◌, ◌≤◌, ◌<◌}
use native.Mathlib.Nat.{div-eq_of_lt}
use native.Mathlib.Omega.{arith}
use borrow.Author.Tests.{ltb-true}
use lib.Dec.{ltb}
use Rattle.std.proofs.Common.{lit≤}
use lib.ListN.{length, get_or}
use Rattle.lines.specs.Digits.{digit}
use Rattle.drawing.specs.Numbers.{four_digits, place_of, places}

pub places_long : (blank number count : ℕ) → length (places blank count number) ≡ count
places_long blank number zero = refl
places_long blank number (suc after) = ap suc (places_long blank number after)

pub places_at : (blank number count at : ℕ) → at < count → get_or (places blank count number) at 0 ≡ place_of blank number (count - 1 - at)
places_at blank number zero at h = absurd (omega arith)
places_at blank number (suc after) zero h = let there : after ≡ suc after - 1 - 0 = omega arith in ap (place_of blank number) there
places_at blank number (suc after) (suc at) h =
    let there : after - 1 - at ≡ suc after - 1 - suc at = omega arith in
    places_at blank number after at (omega arith) ∙ ap (place_of blank number) there

-- a power that is asked for is small, and no zero
pub power_most : (after : ℕ) → after < 5 → 10 ^ after ≤ 10000
power_most zero h = lit≤ tt
power_most (suc zero) h = lit≤ tt
power_most (suc (suc zero)) h = lit≤ tt
power_most (suc (suc (suc zero))) h = lit≤ tt
power_most (suc (suc (suc (suc zero)))) h = lit≤ tt
power_most (suc (suc (suc (suc (suc after))))) h = absurd (omega arith)

pub power_some : (after : ℕ) → after < 5 → 0 < 10 ^ after
power_some zero h = lit≤ tt
power_some (suc zero) h = lit≤ tt
power_some (suc (suc zero)) h = lit≤ tt
power_some (suc (suc (suc zero))) h = lit≤ tt
power_some (suc (suc (suc (suc zero)))) h = lit≤ tt
power_some (suc (suc (suc (suc (suc after))))) h = absurd (omega arith)

-- a place that is not the last
pub other_place : (blank number after : ℕ) → (after ≡ 0 → ⊥)
    → place_of blank number after ≡ cond (ltb number (10 ^ after)) blank (digit (number / 10 ^ after % 10))
other_place blank number zero other = absurd (other refl)
other_place blank number (suc after) other = refl

-- a number below a power has a zero there
pub zero_there : (number power : ℕ) → cond (ltb number power) (code "0") (digit (number / power % 10)) ≡ digit (number / power % 10)
unfolding digit
zero_there number power = go (ltb number power) refl
  where
    go : (b : Bool) → ltb number power ≡ b → cond b (code "0") (digit (number / power % 10)) ≡ digit (number / power % 10)
    go true e = rw (div-eq_of_lt (ltb-true number power e)) refl
    go false e = refl

pub four_zeros : (number : ℕ) → places (code "0") 4 number ≡ four_digits number
four_zeros number = rw (zero_there number 1000, zero_there number 100, zero_there number 10) refl
