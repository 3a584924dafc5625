-- Laws of the instruction table: what holds of each of its rows holds of what a byte says, and a byte's range says its row.
-- Whoever needs the table goes by these laws, and only a byte that is written out is computed.
-- Assumes nothing.
use mathlib.Core.Bool.{Bool, true, false}
use mathlib.Core.Path.{◌≡◌, refl, sym, ap, subst, ◌∙◌}
use Prim.Native.Nat.{ℕ, zero, suc, ◌+◌, ◌-◌, ◌*◌, ◌/◌, ◌%◌, ◌^◌, ◌≤◌, ◌<◌}
use native.Mathlib.Nat.{lt_of_lt_of_le, not-suc-le-zero, pow-suc}
use native.Mathlib.Omega.{arith}
use lib.Count.{count_leading_zeros, leading_length, leading_unique}
use lib.Dec.{leb}
use lib.Pow.{pow_pos}
use borrow.Author.Tests.{leb-true, leb-false, eq-eqb, ne_eqb}
use Rattle.controller.proofs.Laws.Choice.{cond-elim}
use Rattle.controller.specs.declared.cells.Acg.{Acg}
use Rattle.controller.specs.declared.instruction.Instruction.{Instruction}
use Rattle.controller.specs.declared.instruction.Instruction.TheVariants.{Nothing, Clear, Home, SetEntry, SetControl, MoveCursor, ShiftDisplay, SetFunction, PatternAddress, DisplayAddress}
use Rattle.controller.specs.declared.«record».Control.{Control}
use Rattle.controller.specs.declared.«record».Entry.{Entry}
use Rattle.controller.specs.declared.«record».Function.{Function}
use Rattle.controller.specs.HighestBit.{by_highest_bit, DecodesByHighestBit}
use Rattle.controller.specs.Instruction.{bit, shift_of, row, decoded}

-- the zeros that lead a byte, where they and the bits that are left make eight
leading : (byte zeros left : ℕ) → zeros + left ≡ 8 → byte < 2 ^ left → 2 ^ left ≤ 2 * byte + 1 → count_leading_zeros 8 byte ≡ zeros
leading byte zeros left sum below reaches = sym (leading_unique 8 byte zeros left sum below reaches)

-- none leads where the highest of the bits is reached
none_leads : (bits byte : ℕ) → 2 ^ bits ≤ byte → count_leading_zeros (suc bits) byte ≡ 0
unfolding count_leading_zeros
none_leads zero zero over = absurd (not-suc-le-zero over)
none_leads zero (suc n) over = refl
none_leads (suc bits) zero over = absurd (not-suc-le-zero (lt_of_lt_of_le (pow_pos (suc bits)) over))
none_leads (suc bits) (suc n) over = none_leads bits (suc n / 2) (omega (arith, pow-suc 2 bits))

-- the other way: how high a byte is by the zeros that lead it
pub led_reaches : (byte zeros left : ℕ) → byte < 256 → count_leading_zeros 8 byte ≡ zeros → zeros + left ≡ 8 → 2 ^ left ≤ 2 * byte + 1
led_reaches byte zeros left below is sum =
    let length = leading_length 8 byte below in
    subst (λ (m : ℕ). 2 ^ m ≤ 2 * byte + 1) (omega (arith, length.1)) length.3

-- a byte's range says which row of the table it is, from the first to the last
module _ (byte : ℕ) where
  -- the row, by the zeros that lead the byte
  pub decoded_row : (zeros : ℕ) → count_leading_zeros 8 byte ≡ zeros → decoded byte ≡ row zeros byte
  unfolding decoded
  decoded_row zeros is = ap (λ (z : ℕ). row z byte) is

  -- bit 3 of 10h to 17h and of 18h to 1Fh
  high_off : 0x10 ≤ byte → byte ≤ 0x17 → bit 0x08 byte ≡ false
  unfolding bit
  high_off over under = ne_eqb (byte / 0x08 % 2) 1 (λ e. omega arith)

  high_on : 0x18 ≤ byte → byte ≤ 0x1F → bit 0x08 byte ≡ true
  unfolding bit
  high_on over under = eq-eqb (byte / 0x08 % 2) 1 (omega arith)

  pub decoded_nothing : byte ≤ 0x00 → decoded byte ≡ Nothing
  unfolding row
  decoded_nothing under = decoded_row 8 (leading byte 8 0 refl (omega arith) (omega arith))

  pub decoded_clear : 0x01 ≤ byte → byte ≤ 0x01 → decoded byte ≡ Clear
  unfolding row
  decoded_clear over under = decoded_row 7 (leading byte 7 1 refl (omega arith) (omega arith))

  pub decoded_home : 0x02 ≤ byte → byte ≤ 0x03 → decoded byte ≡ Home
  unfolding row
  decoded_home over under = decoded_row 6 (leading byte 6 2 refl (omega arith) (omega arith))

  pub decoded_entry : 0x04 ≤ byte → byte ≤ 0x07 → decoded byte ≡ SetEntry (record { id = bit 0x02 byte; s = bit 0x01 byte })
  unfolding row
  decoded_entry over under = decoded_row 5 (leading byte 5 3 refl (omega arith) (omega arith))

  pub decoded_control : 0x08 ≤ byte → byte ≤ 0x0F → decoded byte ≡ SetControl (record { d = bit 0x04 byte; c = bit 0x02 byte; b = bit 0x01 byte })
  unfolding row
  decoded_control over under = decoded_row 4 (leading byte 4 4 refl (omega arith) (omega arith))

  decoded_move : 0x10 ≤ byte → byte ≤ 0x1F → decoded byte ≡ shift_of byte
  unfolding row
  decoded_move over under = decoded_row 3 (leading byte 3 5 refl (omega arith) (omega arith))

  pub decoded_cursor : 0x10 ≤ byte → byte ≤ 0x17 → decoded byte ≡ MoveCursor (bit 0x04 byte)
  decoded_cursor over under = decoded_move over (omega arith) ∙ rw (high_off over under)

  pub decoded_shift : 0x18 ≤ byte → byte ≤ 0x1F → decoded byte ≡ ShiftDisplay (bit 0x04 byte)
  decoded_shift over under = decoded_move (omega arith) under ∙ rw (high_on over under)

  pub decoded_function : 0x20 ≤ byte → byte ≤ 0x3F → decoded byte ≡ SetFunction (bit 0x10 byte) (record { n = bit 0x08 byte; f = bit 0x04 byte })
  unfolding row
  decoded_function over under = decoded_row 2 (leading byte 2 6 refl (omega arith) (omega arith))

  pub decoded_pattern : 0x40 ≤ byte → byte ≤ 0x7F → decoded byte ≡ PatternAddress (record { 0 = byte - 0x40 })
  unfolding row
  decoded_pattern over under = decoded_row 1 (leading byte 1 7 refl (omega arith) (omega arith))

  pub decoded_display : 0x80 ≤ byte → decoded byte ≡ DisplayAddress (record { 0 = byte - 0x80 })
  unfolding row
  decoded_display over = decoded_row 0 (none_leads 7 byte over)

-- so both readings of the table are one
pub decodes_by_highest_bit : DecodesByHighestBit
unfolding by_highest_bit
decodes_by_highest_bit byte =
    let P : Instruction → Type 0 = λ i. decoded byte ≡ i in
    let over : (least : ℕ) → leb least byte ≡ true → least ≤ byte = λ least. leb-true least byte in
    let under : (least : ℕ) → leb least byte ≡ false → byte < least = λ least. leb-false least byte in
    cond-elim P (leb 0x80 byte) _ _ (λ on. decoded_display byte (over 0x80 on))
    (λ off. cond-elim P (leb 0x40 byte) _ _ (λ on. decoded_pattern byte (over 0x40 on) (omega (arith, under 0x80 off)))
    (λ off. cond-elim P (leb 0x20 byte) _ _ (λ on. decoded_function byte (over 0x20 on) (omega (arith, under 0x40 off)))
    (λ off. cond-elim P (leb 0x10 byte) _ _ (λ on. decoded_move byte (over 0x10 on) (omega (arith, under 0x20 off)))
    (λ off. cond-elim P (leb 0x08 byte) _ _ (λ on. decoded_control byte (over 0x08 on) (omega (arith, under 0x10 off)))
    (λ off. cond-elim P (leb 0x04 byte) _ _ (λ on. decoded_entry byte (over 0x04 on) (omega (arith, under 0x08 off)))
    (λ off. cond-elim P (leb 0x02 byte) _ _ (λ on. decoded_home byte (over 0x02 on) (omega (arith, under 0x04 off)))
    (λ off. cond-elim P (leb 0x01 byte) _ _ (λ on. decoded_clear byte (over 0x01 on) (omega (arith, under 0x02 off)))
    (λ off. decoded_nothing byte (omega (arith, under 0x01 off))))))))))

-- a byte from 80h on is a display address, and 01h alone is Clear
pub decoded_elim : (P : Instruction → Type 0) (byte : ℕ) → (leb 0x80 byte ≡ true → P (DisplayAddress (record { 0 = byte - 0x80 })))
    → ((acg : Acg) → P (PatternAddress acg)) → ((wide : Bool) (function : Function) → P (SetFunction wide function))
    → ((right : Bool) → P (ShiftDisplay right)) → ((right : Bool) → P (MoveCursor right)) → ((control : Control) → P (SetControl control))
    → ((entry : Entry) → P (SetEntry entry)) → P Home → (byte ≡ 1 → P Clear) → P Nothing → P (decoded byte)
unfolding by_highest_bit
decoded_elim P byte display pattern function shift move control entry home clear nothing =
    subst P (sym (decodes_by_highest_bit byte))
    (cond-elim P (leb 0x80 byte) _ _ display
    (λ _. cond-elim P (leb 0x40 byte) _ _ (λ _. pattern _)
    (λ _. cond-elim P (leb 0x20 byte) _ _ (λ _. function _ _)
    (λ _. cond-elim P (leb 0x10 byte) _ _ (λ _. cond-elim P (bit 0x08 byte) _ _ (λ _. shift _) (λ _. move _))
    (λ _. cond-elim P (leb 0x08 byte) _ _ (λ _. control _)
    (λ _. cond-elim P (leb 0x04 byte) _ _ (λ _. entry _)
    (λ _. cond-elim P (leb 0x02 byte) _ _ (λ _. home)
    (λ low. cond-elim P (leb 0x01 byte) _ _ (λ one. clear (omega (arith, leb-false 0x02 byte low, leb-true 0x01 byte one))) (λ _. nothing)))))))))
