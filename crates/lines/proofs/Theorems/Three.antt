-- Words of three digits, each way.
-- Assumes nothing.
use mathlib.Core.Bool.{true, false, ◌&&◌}
use mathlib.Core.List.{List, [], ◌∷◌, ◌++◌}
use mathlib.Core.Path.{◌≡◌, ap, ◌∙◌}
use Prim.Native.Nat.{ℕ, ◌+◌, ◌*◌, ◌/◌, ◌%◌, ◌<◌, ◌≤◌}
use native.Mathlib.Omega.{arith}
use borrow.Author.Tests.{leb-true, le-leb, lt-ltb, ne_eqb}
use lib.Dec.{leb, eqb}
use lib.ListN.{length}
use Rattle.controller.proofs.Laws.Choice.{and_left, and_right}
use Rattle.lines.proofs.Laws.Digits.{either, decimal_small, decimal_split, digit_worth, worth_digit}
use Rattle.lines.specs.Digits.{are_three, decimal, digit, three_digits, three_say, worth_of}
use Rattle.lines.specs.Theorems.{ThreeDigitsRead}

-- the digits of a number of three
three_spelled : (n : ℕ) → 100 ≤ n → n < 1000 → decimal n ≡ digit (n / 10 / 10) ∷ digit (n / 10 % 10) ∷ digit (n % 10) ∷ []
three_spelled n large small =
    decimal_split n (omega arith)
    ∙ ap (λ (l : List ℕ). l ++ (digit (n % 10) ∷ [])) (decimal_split (n / 10) (omega arith))
    ∙ ap (λ (l : List ℕ). (l ++ (digit (n / 10 % 10) ∷ [])) ++ (digit (n % 10) ∷ [])) (decimal_small (n / 10 / 10) (omega arith))

say_digits : (h t o : ℕ) → h ≤ 9 → t ≤ 9 → o ≤ 9 → three_say h t o ≡ h * 100 + t * 10 + o
unfolding three_say
say_digits h t o a b c = simp (le-leb h 9 a, le-leb t 9 b, le-leb o 9 c)

number_read : (n : ℕ) → 100 ≤ n → n < 1000 → three_digits (decimal n) ≡ n
unfolding three_digits
number_read n large small =
    let h : worth_of (digit (n / 10 / 10)) ≡ n / 10 / 10 = worth_digit (n / 10 / 10) (omega arith) in
    let t : worth_of (digit (n / 10 % 10)) ≡ n / 10 % 10 = worth_digit (n / 10 % 10) (omega arith) in
    let o : worth_of (digit (n % 10)) ≡ n % 10 = worth_digit (n % 10) (omega arith) in
    ap three_digits (three_spelled n large small)
    ∙ simp (h, t, o) (say_digits (n / 10 / 10) (n / 10 % 10) (n % 10) (omega arith) (omega arith) (omega arith) ∙ omega arith)

-- the digits of three worths
worths_spelled : (h t o : ℕ) → h ≤ 9 → t ≤ 9 → o ≤ 9 → 100 ≤ h * 100 + t * 10 + o
    → decimal (h * 100 + t * 10 + o) ≡ digit h ∷ digit t ∷ digit o ∷ []
worths_spelled h t o a b c large =
    let up : (h * 100 + t * 10 + o) / 10 / 10 ≡ h = omega arith in
    let mid : (h * 100 + t * 10 + o) / 10 % 10 ≡ t = omega arith in
    let low : (h * 100 + t * 10 + o) % 10 ≡ o = omega arith in
    three_spelled (h * 100 + t * 10 + o) large (omega arith) ∙ simp (up, mid, low)

bytes_said : (a b c : ℕ) → 100 ≤ three_say (worth_of a) (worth_of b) (worth_of c)
    → decimal (three_say (worth_of a) (worth_of b) (worth_of c)) ≡ a ∷ b ∷ c ∷ []
unfolding three_say
bytes_said a b c large =
    either (leb (worth_of a) 9 && (leb (worth_of b) 9 && leb (worth_of c) 9))
    (λ e.
    let first : worth_of a ≤ 9 = leb-true (worth_of a) 9 (and_left (leb (worth_of a) 9) _ e) in
    let more : (leb (worth_of b) 9 && leb (worth_of c) 9) ≡ true = and_right (leb (worth_of a) 9) _ e in
    let second : worth_of b ≤ 9 = leb-true (worth_of b) 9 (and_left (leb (worth_of b) 9) _ more) in
    let third : worth_of c ≤ 9 = leb-true (worth_of c) 9 (and_right (leb (worth_of b) 9) _ more) in
    let long : 100 ≤ worth_of a * 100 + worth_of b * 10 + worth_of c = simp e at large in
    simp e
    (worths_spelled (worth_of a) (worth_of b) (worth_of c) first second third long
    ∙ simp (digit_worth a (omega arith), digit_worth b (omega arith), digit_worth c (omega arith))))
    (λ e. let none : 100 ≤ 0 = simp e at large in absurd (omega arith))

word_read : (word : List ℕ) → 100 ≤ three_digits word → decimal (three_digits word) ≡ word
unfolding three_digits
word_read [] large = absurd (omega arith)
word_read (a ∷ []) large = absurd (omega arith)
word_read (a ∷ b ∷ []) large = absurd (omega arith)
word_read (a ∷ b ∷ c ∷ []) large = bytes_said a b c large
word_read (a ∷ b ∷ c ∷ d ∷ rest) large =
    let other : eqb (length (a ∷ b ∷ c ∷ d ∷ rest)) 3 ≡ false = ne_eqb (length (a ∷ b ∷ c ∷ d ∷ rest)) 3 (λ e. absurd (omega (arith, e))) in
    let none : 100 ≤ 0 = simp other at large in
    absurd (omega arith)

-- such a number has three digits
three_found : (n : ℕ) → 100 ≤ n → n < 1000 → are_three (decimal n) ≡ true
unfolding are_three
three_found n large small =
    let h : worth_of (digit (n / 10 / 10)) ≡ n / 10 / 10 = worth_digit (n / 10 / 10) (omega arith) in
    let t : worth_of (digit (n / 10 % 10)) ≡ n / 10 % 10 = worth_digit (n / 10 % 10) (omega arith) in
    let o : worth_of (digit (n % 10)) ≡ n % 10 = worth_digit (n % 10) (omega arith) in
    ap are_three (three_spelled n large small)
    ∙ simp (h, t, o, lt-ltb (n / 10 / 10) 10 (omega arith), lt-ltb (n / 10 % 10) 10 (omega arith), lt-ltb (n % 10) 10 (omega arith))

pub three_digits_read : ThreeDigitsRead
three_digits_read = (λ n large small. (number_read n large small, three_found n large small), word_read)
