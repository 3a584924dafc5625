-- Laws of the bytes of a sent transfer: a number that fits four bytes is read back from them.
-- Assumes nothing.
use mathlib.Core.Path.{◌≡◌, sym}
use Prim.Native.Nat.{ℕ, ◌+◌, ◌*◌, ◌/◌, ◌%◌, ◌<◌}
use native.Mathlib.Nat.{div-div-eq-div-mul, mod-add-div, mod-eq_of_lt}
use native.Mathlib.Omega.{arith}
use Rattle.controller.specs.Sent.{number_from}

-- a number by its bytes, one after the other
bytes_of : (w a b c d q r : ℕ) → a + 256 * q ≡ w → b + 256 * r ≡ q → c + 256 * d ≡ r → number_from a b c d ≡ w
bytes_of w a b c d q r first second third = omega arith

-- four bytes read back
pub four_bytes : (wait : ℕ) → wait < 4294967296
    → number_from (wait % 256) (wait / 256 % 256) (wait / 65536 % 256) (wait / 16777216 % 256) ≡ wait
four_bytes wait small =
    let second : wait / 65536 ≡ wait / 256 / 256 = sym (div-div-eq-div-mul wait 256 256) in
    let third : wait / 16777216 ≡ wait / 65536 / 256 = sym (div-div-eq-div-mul wait 65536 256) in
    let sum : number_from (wait % 256) (wait / 256 % 256) (wait / 256 / 256 % 256) (wait / 256 / 256 / 256) ≡ wait =
    bytes_of wait _ _ _ _ (wait / 256) (wait / 256 / 256) (mod-add-div wait 256) (mod-add-div (wait / 256) 256) (mod-add-div (wait / 256 / 256) 256) in
    let top : wait / 256 / 256 / 256 % 256 ≡ wait / 256 / 256 / 256 = mod-eq_of_lt (top_small _ _ wait sum small) in
    rw (third, second, top) sum
  where
    top_small : (rest d w : ℕ) → rest + d * 16777216 ≡ w → w < 4294967296 → d < 256
    top_small rest d w sum below = omega arith
