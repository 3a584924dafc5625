-- Laws of digits: what a digit is worth is what it was made of, and the decimal digits of a number one by one.
-- Assumes nothing.
use mathlib.Core.Bool.{Bool, true, false, cond}
use mathlib.Core.List.{List, [], ◌∷◌, ◌++◌}
use mathlib.Core.Path.{◌≡◌, refl, ap, ◌∙◌}
use Prim.Native.Nat.{ℕ, zero, suc, ◌+◌, ◌-◌, ◌*◌, ◌/◌, ◌%◌, ◌^◌, ◌<◌, ◌≤◌}
use native.Mathlib.Omega.{arith}
use native.Mathlib.Nat.{pow-suc}
use borrow.Author.Tests.{ltb-true, ltb-false, leb-true, lt-ltb, le-ltb, le-leb, lt-leb}
use lib.Dec.{ltb, leb}
use lib.ListN.{length, length-append}
use Rattle.controller.proofs.Laws.Choice.{and_left, and_right}
use Rattle.lines.specs.Digits.{digit, worth_of, between, spelled, decimal, number_field}

-- what follows from a test both ways
pub either : {A : Type 0} (test : Bool) → (test ≡ true → A) → (test ≡ false → A) → A
either true then other = then refl
either false then other = other refl

-- more than enough fuel changes nothing
spelled_fuel : (k j n : ℕ) → n < k → n < j → spelled k n ≡ spelled j n
unfolding spelled
spelled_fuel zero j n a b = absurd (omega arith)
spelled_fuel (suc k) zero n a b = absurd (omega arith)
spelled_fuel (suc k) (suc j) n a b =
    either (ltb n 10) (λ e. simp e)
    (λ e. let large = ltb-false n 10 e in
    simp e (ap (λ (l : List ℕ). l ++ (digit (n % 10) ∷ [])) (spelled_fuel k j (n / 10) (omega arith) (omega arith))))

pub decimal_small : (n : ℕ) → n < 10 → decimal n ≡ digit n ∷ []
unfolding decimal spelled
decimal_small n small = simp (lt-ltb n 10 small)

pub decimal_split : (n : ℕ) → 10 ≤ n → decimal n ≡ decimal (n / 10) ++ (digit (n % 10) ∷ [])
unfolding decimal spelled
decimal_split n large =
    simp (le-ltb n 10 large)
    (ap (λ (l : List ℕ). l ++ (digit (n % 10) ∷ [])) (spelled_fuel n (suc (n / 10)) (n / 10) (omega arith) (omega arith)))

-- one digit more after a number that is not 0
pub decimal_more : (value worth : ℕ) → 0 < value → worth < 10 → decimal (value * 10 + worth) ≡ decimal value ++ (digit worth ∷ [])
decimal_more value worth some small =
    let up : (value * 10 + worth) / 10 ≡ value = omega arith in
    let down : (value * 10 + worth) % 10 ≡ worth = omega arith in
    decimal_split (value * 10 + worth) (omega arith) ∙ simp (up, down)

pub length_split : (n : ℕ) → 10 ≤ n → length (decimal n) ≡ length (decimal (n / 10)) + 1
length_split n large = ap length (decimal_split n large) ∙ length-append (decimal (n / 10)) (digit (n % 10) ∷ [])

pub length_small : (n : ℕ) → n < 10 → length (decimal n) ≡ 1
length_small n small = ap length (decimal_small n small)

-- a number below a power of ten has at most that many digits
pub decimal_length : (k n : ℕ) → n < 10 ^ suc k → length (decimal n) ≤ suc k
decimal_length zero n below = let small : n < 10 = below in omega (arith, length_small n small)
decimal_length (suc k) n below =
    let up : 10 ^ suc (suc k) ≡ 10 ^ suc k * 10 = pow-suc 10 (suc k) in
    either (ltb n 10)
    (λ e. let small = ltb-true n 10 e in omega (arith, length_small n small))
    (λ e.
    let large = ltb-false n 10 e in
    let fewer : n / 10 < 10 ^ suc k = omega arith in
    omega (arith, length_split n large, decimal_length k (n / 10) fewer))

-- a number has at least one digit
pub decimal_some : (n : ℕ) → 1 ≤ length (decimal n)
decimal_some n =
    either (ltb n 10)
    (λ e. let small = ltb-true n 10 e in omega (arith, length_small n small))
    (λ e. let large = ltb-false n 10 e in omega (arith, length_split n large))

pub field_length : (n end : ℕ) → length (number_field n end) ≡ length (decimal n) + 1
unfolding number_field
field_length n end = length-append (decimal n) (end ∷ [])

pub field_below : (k n end : ℕ) → n < 10 ^ suc k → length (number_field n end) ≤ suc k + 1
field_below k n end below = omega (arith, field_length n end, decimal_length k n below)

-- below 16 the last digit is the only one
digit_is : (worth : ℕ) → worth < 16 → digit worth ≡ cond (ltb worth 10) (0x30 + worth) (0x37 + worth)
unfolding digit
digit_is worth below = let same : worth % 16 ≡ worth = omega arith in simp same

-- a digit is worth what it was made of
pub worth_digit : (worth : ℕ) → worth < 16 → worth_of (digit worth) ≡ worth
unfolding worth_of
worth_digit worth below =
    rw (digit_is worth below)
    (either (ltb worth 10)
    (λ e. let small = ltb-true worth 10 e in
    let a : leb 0x30 (0x30 + worth) ≡ true = le-leb 0x30 (0x30 + worth) (omega arith) in
    let b : leb (0x30 + worth) 0x39 ≡ true = le-leb (0x30 + worth) 0x39 (omega arith) in
    simp (e, a, b) (omega arith))
    (λ e. let large = ltb-false worth 10 e in
    let a : leb 0x30 (0x37 + worth) ≡ true = le-leb 0x30 (0x37 + worth) (omega arith) in
    let b : leb (0x37 + worth) 0x39 ≡ false = lt-leb (0x37 + worth) 0x39 (omega arith) in
    let c : leb 0x41 (0x37 + worth) ≡ true = le-leb 0x41 (0x37 + worth) (omega arith) in
    let d : leb (0x37 + worth) 0x46 ≡ true = le-leb (0x37 + worth) 0x46 (omega arith) in
    simp (e, a, b, c, d) (omega arith)))

-- a byte that is worth something as a digit is that digit
pub digit_worth : (byte : ℕ) → worth_of byte < 16 → digit (worth_of byte) ≡ byte
unfolding worth_of
digit_worth byte below =
    rw (digit_is (worth_of byte) below)
    (either (between 0x30 0x39 byte)
    (λ e.
    let a = leb-true 0x30 byte (and_left _ _ e) in
    let b = leb-true byte 0x39 (and_right (leb 0x30 byte) _ e) in
    let c : ltb (byte - 0x30) 10 ≡ true = lt-ltb (byte - 0x30) 10 (omega arith) in
    simp (e, c) (omega arith))
    (λ e. either (between 0x41 0x46 byte)
    (λ f.
    let a = leb-true 0x41 byte (and_left _ _ f) in
    let b = leb-true byte 0x46 (and_right (leb 0x41 byte) _ f) in
    let c : ltb (byte - 0x37) 10 ≡ false = le-ltb (byte - 0x37) 10 (omega arith) in
    simp (e, f, c) (omega arith))
    (λ f. let no = simp (e, f) at below in absurd (omega arith))))
