-- Laws of stamps and changes as words.
-- Assumes nothing.
use Rattle.std.proofs.Common.{◌≡◌, ℕ, suc, ◌+◌, ◌-◌, ◌*◌, ◌<◌, ◌≤◌, Bool, true, false, cond, Some, None, ◌&&◌, eqb, leb, List, [], ◌∷◌, length, get_or, drop, ltb, ap, ◌∙◌, sym, refl, add-one, arith, drop_of_length-le, drop-cons, ne_eqb, eqb-true, le-leb, leb-true, leb-false}
use borrow.Author.Tests.{lt-leb}
use Rattle.std.specs.Option.{is_some}
use Rattle.std.proofs.lemmas.Option.{cond_some}
use Prim.Native.Char.{code}
use Rattle.controller.proofs.Laws.Choice.{cond-elim, and_left, and_right}
use Rattle.lines.specs.Digits.{between}
use Rattle.captures.specs.declared.form.Level.{Level}
use Rattle.captures.specs.declared.form.Level.TheVariants.{Low, High, Open}
use Rattle.captures.specs.declared.form.Phase.{Phase}
use Rattle.captures.specs.declared.form.Phase.TheVariants.{Changes}
use Rattle.captures.proofs.Laws.Over.{late_phase}
use Rattle.captures.specs.Words.{Word, is_empty, is_plain, same, is}
use Rattle.captures.proofs.Laws.Words.{none_said}
use Rattle.captures.specs.Form.{Says, digit_said, number_of_level, number_said, stamp_said, stamp_limit, no_stamp, with_digit, number_of, stamp_of, level_of, level_set, asked, is_change, after, changing, past}

-- a byte behind a number: no digit, a digit that takes the number past the limit, and any other
pub digit_other : (value byte : ℕ) → between 0x30 0x39 byte ≡ false → None ≡ digit_said value byte
unfolding with_digit
digit_other value byte other = simp other

pub digit_large : (value byte : ℕ) → between 0x30 0x39 byte ≡ true → stamp_limit < value * 10 + (byte - 0x30) → None ≡ digit_said value byte
unfolding with_digit
digit_large value byte is past = simp (is, lt-leb (value * 10 + (byte - 0x30)) stamp_limit past)

pub digit_more : (value byte : ℕ) → between 0x30 0x39 byte ≡ true → value * 10 + (byte - 0x30) ≤ stamp_limit
    → Some (value * 10 + (byte - 0x30)) ≡ digit_said value byte
unfolding with_digit
digit_more value byte is fits = simp (is, le-leb (value * 10 + (byte - 0x30)) stamp_limit fits)

-- a word that says no stamp, and one that does
pub stamp_none : (w : Word) → length w ≡ 0 → None ≡ stamp_said w
unfolding stamp_of
stamp_none [] none = refl
stamp_none (first ∷ rest) none = absurd (omega arith)

pub stamp_short : (first : ℕ) (digits : List ℕ) → length digits ≡ 0 → None ≡ stamp_said (first ∷ digits)
unfolding stamp_of
stamp_short first [] short = refl
stamp_short first (digit ∷ rest) short = absurd (omega arith)

pub stamp_other : (first : ℕ) (digits : List ℕ) → (first ≡ code "#" → ⊥) → None ≡ stamp_said (first ∷ digits)
unfolding stamp_of
stamp_other first [] other = refl
stamp_other first (digit ∷ rest) other = simp (ne_eqb first (code "#") other)

pub stamp_number : (digits : List ℕ) → (length digits ≡ 0 → ⊥) → number_said digits ≡ stamp_said (code "#" ∷ digits)
unfolding stamp_of
stamp_number [] some = absurd (some refl)
stamp_number (digit ∷ rest) some = refl

pub stamp_digits : (digits : List ℕ) → 0 < length digits → stamp_of (code "#" ∷ digits) ≡ number_of 0 digits
unfolding stamp_of
stamp_digits [] some = absurd (omega arith)
stamp_digits (digit ∷ rest) some = refl

pub stamp_some : (w : Word) → is_some (stamp_said w) ≡ true → stamp_of w ≤ stamp_limit
stamp_some w some = leb-true (stamp_of w) stamp_limit (go (leb (stamp_of w) stamp_limit) some)
  where
    go : (b : Bool) → is_some (cond b (Some (stamp_of w)) None) ≡ true → b ≡ true
    go true is = refl
    go false is = is

-- a word that says no change, and one that does
pub change_none : (w : Word) → length w ≡ 0 → is_change w ≡ false
unfolding level_set
change_none [] none = refl
change_none (first ∷ rest) none = absurd (omega arith)

pub change_short : (first : ℕ) (code : Word) → length code ≡ 0 → is_change (first ∷ code) ≡ false
unfolding level_set
change_short first [] short = refl
change_short first (a ∷ rest) short = absurd (omega arith)

pub change_other : (first : ℕ) (code : Word) → 3 ≡ level_of first → is_change (first ∷ code) ≡ false
unfolding level_set
change_other first [] other = refl
change_other first (a ∷ rest) other = ap (λ (n : ℕ). ltb n 3) (sym other)

pub change_says : (first : ℕ) (code : Word) (level : Level) → (length code ≡ 0 → ⊥) → number_of_level level ≡ level_of first
    → Says (first ∷ code) level code
unfolding level_set
change_says first [] level some is = absurd (some refl)
change_says first (a ∷ rest) level some is =
    record { is_one = ap (λ (n : ℕ). ltb n 3) (sym is) ∙ small level; sets = is; of = refl }
  where
    small : (l : Level) → ltb (number_of_level l) 3 ≡ true
    small Low = refl
    small High = refl
    small Open = refl

pub number_step : (value i : ℕ) (w : Word) → i < length w → number_of value (drop i w) ≡ number_of (with_digit value (get_or w i 0)) (drop (i + 1) w)
unfolding number_of
number_step value i w less = rw (add-one, drop-cons w i 0)

pub number_over : (value i : ℕ) (w : Word) → length w ≤ i → number_of value (drop i w) ≡ value
unfolding number_of
number_over value i w past = rw (drop_of_length-le w past)

-- past the limit no digit leads back, and within it each byte is a digit
digit_past : (value byte : ℕ) → no_stamp ≤ value → no_stamp ≤ with_digit value byte
unfolding with_digit
digit_past value byte past =
    cond-elim (λ (n : ℕ). no_stamp ≤ n) (between 0x30 0x39 byte && leb (value * 10 + (byte - 0x30)) stamp_limit) (value * 10 + (byte - 0x30)) no_stamp
    (λ yes. omega arith) (λ none. omega arith)

digit_fits : (value byte : ℕ) → (no_stamp ≤ with_digit value byte → ⊥) → (0x30 ≤ byte) × (byte ≤ 0x39)
unfolding with_digit
digit_fits value byte = go (between 0x30 0x39 byte) refl
  where
    go : (b : Bool) → between 0x30 0x39 byte ≡ b
        → (no_stamp ≤ cond (between 0x30 0x39 byte && leb (value * 10 + (byte - 0x30)) stamp_limit) (value * 10 + (byte - 0x30)) no_stamp → ⊥)
        → (0x30 ≤ byte) × (byte ≤ 0x39)
    go true is fits = (leb-true 0x30 byte (and_left _ _ is), leb-true byte 0x39 (and_right (leb 0x30 byte) _ is))
    go false is fits = absurd (fits (rw is (omega arith)))

-- a number past the limit stays past it
number_past : (value : ℕ) (w : Word) → no_stamp ≤ value → no_stamp ≤ number_of value w
unfolding number_of
number_past value [] past = past
number_past value (b ∷ w) past = number_past (with_digit value b) w (digit_past value b past)

-- a number that is read digit by digit, from what is left: a digit that ends it, one that does not, and no more digits
pub number_none : (digits : List ℕ) (value i : ℕ) → i < length digits → None ≡ digit_said value (get_or digits i 0)
    → number_of value (drop i digits) ≡ number_of 0 digits → None ≡ number_said digits
number_none digits value i less ends same =
    let past = leb-false (with_digit value (get_or digits i 0)) stamp_limit (none_said _ _ ends) in
    let over = number_past (with_digit value (get_or digits i 0)) (drop (i + 1) digits) (omega (arith, past)) in
    let large : no_stamp ≤ number_of 0 digits = rw (sym same ∙ number_step value i digits less) over in
    simp (lt-leb (number_of 0 digits) stamp_limit (omega (arith, large)))

pub number_next : (digits : List ℕ) (value next i : ℕ) → i < length digits → Some next ≡ digit_said value (get_or digits i 0)
    → number_of value (drop i digits) ≡ number_of 0 digits → (next ≤ stamp_limit) × (number_of next (drop (i + 1) digits) ≡ number_of 0 digits)
number_next digits value next i less goes same =
    let said = cond_some _ _ _ (sym goes) in
    let fits = leb-true (with_digit value (get_or digits i 0)) stamp_limit said.0 in (
      rw said.1 at fits,
      ap (λ (n : ℕ). number_of n (drop (i + 1) digits)) (sym said.1) ∙ sym (number_step value i digits less) ∙ same,
    )

pub number_all : (digits : List ℕ) (value i : ℕ) → length digits ≤ i → value ≤ stamp_limit → number_of value (drop i digits) ≡ number_of 0 digits
    → Some value ≡ number_said digits
number_all digits value i past fits same =
    let is = sym (number_over value i digits past) ∙ same in
    let low : number_of 0 digits ≤ stamp_limit = rw is at fits in
    simp (le-leb (number_of 0 digits) stamp_limit low) (ap Some is)

-- so the digits of a stamp are digits, and plain
digits_plain : (value : ℕ) (w : Word) → number_of value w ≤ stamp_limit → is_plain w ≡ true
unfolding number_of is_plain
digits_plain value [] fits = refl
digits_plain value (b ∷ w) fits =
    let digit = digit_fits value b (λ past. let large = number_past (with_digit value b) w past in omega (arith, large)) in
    simp (le-leb 0x21 b (omega arith), le-leb b 0x7E (omega arith), digits_plain (with_digit value b) w fits)

-- a stamp is a plain word, and no keyword
stamp_word : (w : Word) → stamp_of w ≤ stamp_limit → (is_empty w ≡ false) × (is_plain w ≡ true) × (is "$dumpvars" w ≡ false)
unfolding stamp_of is_plain same
stamp_word [] fits = absurd (omega arith)
stamp_word (a ∷ []) fits = absurd (omega arith)
stamp_word (a ∷ b ∷ w) fits = go (eqb a (code "#")) refl fits
  where
    go : (t : Bool) → eqb a (code "#") ≡ t → cond (eqb a (code "#")) (number_of 0 (b ∷ w)) no_stamp ≤ stamp_limit
        → (is_empty (a ∷ b ∷ w) ≡ false) × (is_plain (a ∷ b ∷ w) ≡ true) × (is "$dumpvars" (a ∷ b ∷ w) ≡ false)
    go true first fits =
        let at = eqb-true a (code "#") first in (
          ne_eqb (suc (suc (length w))) 0 (λ none. omega arith),
          simp (le-leb 0x21 a (omega arith), le-leb a 0x7E (omega arith)) (digits_plain 0 (b ∷ w) (rw first at fits)),
          simp (ne_eqb a 0x24 (λ one. omega arith)),
        )
    go false first fits = absurd (let large = rw first at fits in omega (arith, large))

-- where stamps come, one leaves us in the phase
pub past_stamp : (phase : Phase) (w : Word) → asked phase ≡ 3 → stamp_of w ≤ stamp_limit → phase ≡ past phase w
unfolding past after changing
past_stamp phase w comes fits =
    let word = stamp_word w fits in
    late_phase (λ (p : Phase). asked p ≡ 3 → p ≡ past p w) phase (omega arith)
    (λ here. sym (simp (word.0, word.1, word.2, le-leb (stamp_of w) stamp_limit fits)
    (cond-elim (λ (p : Phase). p ≡ Changes) (is_change w) Changes Changes (λ _. refl) (λ _. refl))))
    (λ here. absurd (omega arith)) comes
