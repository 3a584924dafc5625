-- Laws of the text of a made capture: a word and the newline behind it, and a number in decimal as a stamp.
-- Assumes nothing.
use Rattle.std.proofs.Common.{◌≡◌, ℕ, zero, suc, ◌+◌, ◌-◌, ◌*◌, ◌/◌, ◌%◌, ◌<◌, ◌≤◌, true, false, eqb, ltb, List, [], ◌∷◌, ◌++◌, sym, refl, ap, ◌∙◌, append_assoc, append-nil, arith, ltb-false, ltb-true, lt-ltb, ne_eqb, le-leb, leb-true}
use Prim.Native.Char.{code}
use Rattle.controller.proofs.Laws.Choice.{and_left, and_right}
use Rattle.lines.specs.Digits.{newline, between, digit, decimal}
use Rattle.lines.proofs.Laws.Digits.{either, decimal_small, decimal_split, decimal_some}
use Rattle.captures.specs.Words.{Word, is_blank, joined, words, is_plain}
use Rattle.captures.specs.Form.{stamp_limit, with_digit, number_of, stamp_of}
use Rattle.captures.proofs.Laws.Form.{stamp_digits}

-- a plain byte is no blank: blanks are below 21h
plain_byte : (byte : ℕ) → between 0x21 0x7E byte ≡ true → is_blank byte ≡ false
unfolding is_blank
plain_byte byte plain =
    let low = leb-true 0x21 byte (and_left _ _ plain) in
    let other : (blank : ℕ) → blank < 0x21 → eqb byte blank ≡ false = λ blank less. ne_eqb byte blank (λ e. omega arith) in
    simp (other 0x20 (omega arith), other 0x09 (omega arith), other 0x0A (omega arith), other 0x0D (omega arith))

-- a plain word up to a newline is the first word
pub words_line : (w : Word) (rest : List ℕ) → is_plain w ≡ true → words (w ++ (newline ∷ rest)) ≡ w ∷ words rest
unfolding words joined is_blank is_plain
words_line [] rest plain = refl
words_line (byte ∷ w) rest plain =
    simp (plain_byte byte (and_left _ _ plain), words_line w rest (and_right (between 0x21 0x7E byte) _ plain))

-- two plain words make a plain word
plain_both : (v w : Word) → is_plain v ≡ true → is_plain w ≡ true → is_plain (v ++ w) ≡ true
unfolding is_plain
plain_both [] w first second = second
plain_both (byte ∷ v) w first second =
    simp (and_left (between 0x21 0x7E byte) (is_plain v) first, plain_both v w (and_right (between 0x21 0x7E byte) _ first) second)

-- the digit of a number below ten
small_digit : (n : ℕ) → n < 10 → digit n ≡ 0x30 + n
unfolding digit
small_digit n small = let same : n % 16 ≡ n = omega arith in simp (same, lt-ltb n 10 small)

-- and it is plain
plain_digit : (n : ℕ) → n < 10 → is_plain (digit n ∷ []) ≡ true
unfolding is_plain
plain_digit n small = rw (small_digit n small) (simp (le-leb 0x21 (0x30 + n) (omega arith), le-leb (0x30 + n) 0x7E (omega arith)))

-- a number's digits are plain; the first argument, above the number, only bounds the recursion
plain_by : (k n : ℕ) → n < k → is_plain (decimal n) ≡ true
plain_by zero n enough = absurd (omega arith)
plain_by (suc k) n enough =
    either (ltb n 10)
    (λ e. let small = ltb-true n 10 e in ap is_plain (decimal_small n small) ∙ plain_digit n small)
    (λ e.
    let large = ltb-false n 10 e in
    ap is_plain (decimal_split n large)
    ∙ plain_both (decimal (n / 10)) (digit (n % 10) ∷ [])
    (plain_by k (n / 10) (omega arith)) (plain_digit (n % 10) (omega arith)))

-- decimal digits are plain
pub plain_decimal : (n : ℕ) → is_plain (decimal n) ≡ true
plain_decimal n = plain_by (suc n) n (omega arith)

-- a digit behind a number makes ten times the number and the digit
one_digit : (value n : ℕ) → n < 10 → value * 10 + n ≤ stamp_limit → with_digit value (digit n) ≡ value * 10 + n
unfolding with_digit
one_digit value n small below =
    let same : value * 10 + (0x30 + n - 0x30) ≡ value * 10 + n = omega arith in
    rw (small_digit n small)
    (simp (
      le-leb 0x30 (0x30 + n) (omega arith),
      le-leb (0x30 + n) 0x39 (omega arith),
      same,
      le-leb (value * 10 + n) stamp_limit below,
    ))

-- a number's digits say the number, and the digits behind them go on from it
number_by_lem : (k n : ℕ) (more : List ℕ) → n < k → n ≤ stamp_limit → number_of 0 (decimal n ++ more) ≡ number_of n more
unfolding number_of
number_by_lem zero n more enough below = absurd (omega arith)
number_by_lem (suc k) n more enough below =
    either (ltb n 10)
    (λ e.
    let small = ltb-true n 10 e in
    ap (λ (l : List ℕ). number_of 0 (l ++ more)) (decimal_small n small)
    ∙ ap (λ (v : ℕ). number_of v more) (one_digit 0 n small (omega arith) ∙ omega arith))
    (λ e.
    let large = ltb-false n 10 e in
    let same : n / 10 * 10 + n % 10 ≡ n = omega arith in
    ap (λ (l : List ℕ). number_of 0 (l ++ more)) (decimal_split n large)
    ∙ ap (number_of 0) (append_assoc (decimal (n / 10)) (digit (n % 10) ∷ []) more)
    ∙ number_by_lem k (n / 10) (digit (n % 10) ∷ more) (omega arith) (omega arith)
    ∙ ap (λ (v : ℕ). number_of v more) (one_digit (n / 10) (n % 10) (omega arith) (omega arith) ∙ same))

-- a number in decimal, behind `#`, is that stamp
pub stamp_decimal : (n : ℕ) → n ≤ stamp_limit → stamp_of (code "#" ∷ decimal n) ≡ n
unfolding number_of
stamp_decimal n below =
    stamp_digits (decimal n) (omega (arith, decimal_some n))
    ∙ ap (number_of 0) (sym (append-nil (decimal n)))
    ∙ number_by_lem (suc n) n [] (omega arith) below
