-- Laws of kinds and bytes: a letter and its kind, a byte and its two digits, and what a transfer that is not bad is.
-- Assumes nothing.
use mathlib.Core.Bool.{Bool, true, false, ◌||◌}
use mathlib.Core.Path.{◌≡◌, refl, sym}
use Prim.Native.Nat.{ℕ, zero, suc, ◌<◌}
use native.Mathlib.Omega.{arith}
use borrow.Author.Tests.{ltb-false, eqb-true}
use lib.Dec.{ltb, eqb}
use Rattle.controller.specs.Bus.{bad_transfer}
use Rattle.lines.specs.Line.{kind_of, letter_of}
use Rattle.lines.proofs.Laws.Digits.{either}

or_left : (a b : Bool) → (a || b) ≡ false → a ≡ false
or_left true b none = none
or_left false b none = refl

-- a transfer that is not bad has a kind 0 to 3
pub kind_below : (kind byte : ℕ) → bad_transfer kind byte ≡ false → kind < 4
unfolding bad_transfer
kind_below kind byte good = omega (arith, ltb-false 3 kind (or_left (ltb 3 kind) _ good))

-- a kind's letter is of that kind
pub kind_letter : (kind : ℕ) → kind < 4 → kind_of (letter_of kind) ≡ kind
unfolding kind_of letter_of
kind_letter zero below = refl
kind_letter (suc zero) below = refl
kind_letter (suc (suc zero)) below = refl
kind_letter (suc (suc (suc zero))) below = refl
kind_letter (suc (suc (suc (suc kind)))) below = absurd (omega arith)

-- a letter that has a kind is that kind's letter
pub letter_kind : (letter : ℕ) → kind_of letter < 4 → letter_of (kind_of letter) ≡ letter
unfolding kind_of letter_of
letter_kind letter below =
    either (eqb letter 0x49) (λ e. simp e (sym (eqb-true letter 0x49 e)))
    (λ i. either (eqb letter 0x44) (λ e. simp (i, e) (sym (eqb-true letter 0x44 e)))
    (λ d. either (eqb letter 0x53) (λ e. simp (i, d, e) (sym (eqb-true letter 0x53 e)))
    (λ s. either (eqb letter 0x52) (λ e. simp (i, d, s, e) (sym (eqb-true letter 0x52 e)))
    (λ r. let no = simp (i, d, s, r) at below in absurd (omega arith)))))
