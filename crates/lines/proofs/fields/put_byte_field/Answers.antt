-- `lines::fields::put_byte_field` meets its contract: three stores, one after the other, are the field.
-- Assumes nothing.
use Rattle.lines.specs.Digits.{byte_field}
use mathlib.Core.Path.{◌≡◌, refl}
use Prim.Native.Nat.{suc, ◌+◌}
use native.Mathlib.Omega.{arith}
use Rattle.lines.proofs.fields.put_byte_field.Goals as goal

pub returns : goal.returns
unfolding byte_field
returns c =
    let place = c.args.at in
    let one : place + 1 ≡ suc place = omega arith in
    let two : place + 2 ≡ suc (suc place) = omega arith in
    (refl, simp (c.hex_digit-2.ensures, c.hex_digit.ensures, one, two))
