-- Laws of waits: decimal digits are read as their number, and digits that were read are those of the number.
-- Assumes nothing.
use Rattle.std.specs.Prelude.{Ok, Err}
use mathlib.Core.Bool.{true, false, cond}
use mathlib.Core.List.{List, [], ◌∷◌, ◌++◌, append_assoc, append-nil}
use mathlib.Core.Logic.{◌⊎◌, inl, inr}
use mathlib.Core.Path.{◌≡◌, refl, sym, ap, subst, ◌∙◌}
use Prim.Native.Nat.{ℕ, zero, suc, ◌+◌, ◌*◌, ◌/◌, ◌%◌, ◌<◌, ◌≤◌}
use native.Mathlib.Omega.{arith}
use borrow.Author.Tests.{ltb-true, ltb-false, eqb-true, lt-ltb, le-ltb, le-leb, ne_eqb}
use lib.Dec.{ltb, eqb, lit<}
use lib.ListN.{length, take, drop, length-append}
use lib.Seq.{drop-drop, get_or-drop, length-take-le, take_at}
use Rattle.controller.specs.declared.answers.Answer.{Answer}
use Rattle.controller.specs.declared.answers.Answer.TheVariants.{BadWait, NoNewline}
use Rattle.lines.specs.Digits.{newline, digit, worth_of, decimal, number_field}
use Rattle.lines.specs.Line.{wait_limit}
use Rattle.lines.specs.Reading.{WaitRead, fault, text_at, may_follow, rest_of, wait_of}
use Rattle.lines.proofs.Laws.Digits.{either, decimal_small, decimal_split, decimal_more, decimal_length, length_split, worth_digit, digit_worth}
use Rattle.lines.proofs.Laws.Steps.{follow_digit, same_wait, same_fault}

-- a wait that starts here, at this place of its line
unfoldable pub begun : ℕ → List ℕ → WaitRead
begun place rest =
    cond (ltb 9 (worth_of (text_at rest 0))) (Err (fault BadWait place)) (rest_of (place + 1) (worth_of (text_at rest 0)) (drop 1 rest))

-- a line's wait starts at its sixth byte
pub wait_begun : (text : List ℕ) → wait_of text ≡ begun 5 (drop 5 text)
unfolding wait_of begun text_at
wait_begun text = simp (get_or-drop, drop-drop)

pub digit_above : (worth : ℕ) → 0x30 ≤ digit worth
unfolding digit
digit_above worth = either (ltb (worth % 16) 10) (λ e. simp e (omega arith)) (λ e. simp e (omega arith))

may_follow_lem : (value worth : ℕ) → 0 < value → value * 10 + worth ≤ wait_limit → may_follow value worth ≡ true
unfolding may_follow
may_follow_lem value worth some below = simp (lt-ltb 0 value some, le-leb (value * 10 + worth) wait_limit below)

-- one digit more is read
rest_digit : (place n : ℕ) (more : List ℕ) → 10 ≤ n → n ≤ wait_limit
    → rest_of place (n / 10) (digit (n % 10) ∷ more) ≡ rest_of (place + 1) n more
unfolding rest_of
rest_digit place n more large below =
    let worth : worth_of (digit (n % 10)) ≡ n % 10 = worth_digit (n % 10) (omega arith) in
    let other : eqb (digit (n % 10)) newline ≡ false = ne_eqb (digit (n % 10)) newline (λ e. omega (arith, digit_above (n % 10))) in
    let small : ltb 9 (n % 10) ≡ false = le-ltb 9 (n % 10) (omega arith) in
    let may = may_follow_lem (n / 10) (n % 10) (omega arith) (omega arith) in
    let same : n / 10 * 10 + n % 10 ≡ n = omega arith in
    simp (other, worth, small, may, same)

-- the digits of a number are read as the number
spelled_reads : (k place n : ℕ) (more : List ℕ) → n < k → n ≤ wait_limit
    → begun place (decimal n ++ more) ≡ rest_of (place + length (decimal n)) n more
unfolding begun text_at
spelled_reads zero place n more enough below = absurd (omega arith)
spelled_reads (suc k) place n more enough below =
    either (ltb n 10)
    (λ e.
    let small = ltb-true n 10 e in
    simp (decimal_small n small, worth_digit n (omega arith), le-ltb 9 n (omega arith)))
    (λ e.
    let large = ltb-false n 10 e in
    let long : place + length (decimal (n / 10)) + 1 ≡ place + length (decimal n) = omega (arith, length_split n large) in
    ap (begun place) (ap (λ (l : List ℕ). l ++ more) (decimal_split n large) ∙ append_assoc (decimal (n / 10)) (digit (n % 10) ∷ []) more)
    ∙ spelled_reads k place (n / 10) (digit (n % 10) ∷ more) (omega arith) (omega arith)
    ∙ rest_digit (place + length (decimal (n / 10))) n more large below
    ∙ ap (λ (p : ℕ). rest_of p n more) long)

pub decimal_reads : (place n : ℕ) (more : List ℕ) → n ≤ wait_limit → begun place (decimal n ++ more) ≡ rest_of (place + length (decimal n)) n more
decimal_reads place n more below = spelled_reads (suc n) place n more (omega arith) below

-- a digit read after a value that is not 0 is the last digit of the larger one
digit_more : (value byte : ℕ) → 0 < value → worth_of byte ≤ 9 → decimal (value * 10 + worth_of byte) ≡ decimal value ++ (byte ∷ [])
digit_more value byte some small =
    decimal_more value (worth_of byte) some (omega arith) ∙ ap (λ (b : ℕ). decimal value ++ (b ∷ [])) (digit_worth byte (omega arith))

-- what a good wait was read from: these digits, a newline, and any text
pub record ReadFrom (digits : List ℕ) (place wait end : ℕ) : Type 0 where
  pub more : List ℕ
  pub text : digits ≡ decimal wait ++ (newline ∷ more)
  pub ends : end ≡ place + length (decimal wait) + 1
  pub below : wait ≤ wait_limit

-- a good wait that a rest gives was read from the digits before it and from that rest
pub rest_good : (rest : List ℕ) (place value wait end : ℕ) → value ≤ wait_limit → rest_of (place + length (decimal value)) value rest ≡ Ok (wait, end)
    → ReadFrom (decimal value ++ rest) place wait end
unfolding rest_of
rest_good [] place value wait end below good = let no : ◌≡◌ {A = ℕ} 0 1 = cc in absurd (omega arith)
rest_good (byte ∷ rest) place value wait end below good =
    either (eqb byte newline)
    (λ e.
    let is = simp e at good in
    let same = (same_wait is).0 in
    let last = (same_wait is).1 in
    record {
      more = rest;
      text = simp (sym same, eqb-true byte newline e);
      ends = sym last ∙ ap (λ (v : ℕ). place + length (decimal v) + 1) same;
      below = rw (sym same) below;
    })
    (λ e. either (ltb 9 (worth_of byte))
    (λ large. let bad = simp (e, large) at good in let no : ◌≡◌ {A = ℕ} 0 1 = cc in absurd (omega arith))
    (λ f. either (may_follow value (worth_of byte))
    (λ may.
    let small = ltb-false 9 (worth_of byte) f in
    let is = follow_digit value (worth_of byte) may in
    let longer = digit_more value byte is.0 small in
    let long : place + length (decimal value) + 1 ≡ place + length (decimal (value * 10 + worth_of byte)) =
    omega (arith, ap length longer ∙ length-append (decimal value) (byte ∷ [])) in
    let from = rest_good rest place (value * 10 + worth_of byte) wait end is.1 (rw long at (simp (e, f, may) at good)) in
    record {
      more = from.more;
      text = sym (append_assoc (decimal value) (byte ∷ []) rest) ∙ ap (λ (l : List ℕ). l ++ rest) (sym longer) ∙ from.text;
      ends = from.ends;
      below = from.below;
    })
    (λ may. let bad = simp (e, f, may) at good in let no : ◌≡◌ {A = ℕ} 0 1 = cc in absurd (omega arith))))

begun_none : (place : ℕ) → begun place [] ≡ Err (fault BadWait place)
unfolding begun text_at worth_of
begun_none place = refl

-- a first digit is the decimal of what it is worth
digit_one : (byte : ℕ) → worth_of byte ≤ 9 → decimal (worth_of byte) ≡ byte ∷ []
digit_one byte small = decimal_small (worth_of byte) (omega arith) ∙ ap (λ (b : ℕ). b ∷ []) (digit_worth byte (omega arith))

-- a good wait was read from the digits that it starts with
pub begun_good : (rest : List ℕ) (place wait end : ℕ) → begun place rest ≡ Ok (wait, end) → ReadFrom rest place wait end
unfolding begun text_at
begun_good [] place wait end good = let none = begun_none place in let no : ◌≡◌ {A = ℕ} 0 1 = cc in absurd (omega arith)
begun_good (byte ∷ rest) place wait end good =
    either (ltb 9 (worth_of byte))
    (λ e. let bad = simp e at good in let no : ◌≡◌ {A = ℕ} 0 1 = cc in absurd (omega arith))
    (λ e.
    let small = ltb-false 9 (worth_of byte) e in
    let one = digit_one byte small in
    let long : place + 1 ≡ place + length (decimal (worth_of byte)) = omega (arith, ap length one) in
    rw one at (rest_good rest place (worth_of byte) wait end (omega arith) (rw long at (simp e at good))))

-- why a wait's rest stops at a byte: a digit is 18, any other and the end 19
abbrev pub Why : Answer → ℕ → Type 0
Why answer byte = ((answer ≡ BadWait) × (worth_of byte ≤ 9)) ⊎ ((answer ≡ NoNewline) × (9 < worth_of byte))

-- where a wait's rest stops: so many of its bytes stand, they are the last digits of a wait, and whatever is after the byte at
-- which it stops, it stops there
pub record Stops (rest : List ℕ) (place value : ℕ) (answer : Answer) (at : ℕ) : Type 0 where
  pub count : ℕ
  pub wait : ℕ
  pub why : Why answer (text_at rest count)
  pub is_place : at ≡ place + count
  pub inside : count ≤ length rest
  pub digits : decimal value ++ take count rest ≡ decimal wait
  pub below : wait ≤ wait_limit
  pub again : count < length rest → (more : List ℕ) → rest_of place value (take (suc count) rest ++ more) ≡ Err (fault answer at)

-- at once
stops_here : (rest : List ℕ) (place value : ℕ) (told answer : Answer) (at : ℕ) → value ≤ wait_limit → Why told (text_at rest 0)
    → ◌≡◌ {A = WaitRead} (Err (fault told place)) (Err (fault answer at))
    → (0 < length rest → (more : List ℕ) → rest_of place value (take 1 rest ++ more) ≡ Err (fault told place)) → Stops rest place value answer at
stops_here rest place value told answer at below why is again =
    let here = (same_fault is).1 in
    let same = (same_fault is).0 in
    record {
      count = 0;
      wait = value;
      why = subst (λ (a : Answer). Why a (text_at rest 0)) same why;
      is_place = omega arith;
      inside = omega arith;
      digits = append-nil (decimal value);
      below = below;
      again = λ some more. again some more ∙ is;
    }

-- past the end there is no digit
past_end : 9 < worth_of (text_at [] 0)
unfolding text_at worth_of
past_end = lit< tt

pub rest_stops_at : (rest : List ℕ) (place value : ℕ) (answer : Answer) (at : ℕ) → value ≤ wait_limit → rest_of place value rest ≡ Err (fault answer at)
    → Stops rest place value answer at
unfolding rest_of text_at
rest_stops_at [] place value answer at below bad =
    stops_here [] place value NoNewline answer at below (inr (refl, past_end)) bad (λ some. absurd (omega arith))
rest_stops_at (byte ∷ rest) place value answer at below bad =
    either (eqb byte newline)
    (λ e. let good = simp e at bad in let no : ◌≡◌ {A = ℕ} 0 1 = cc in absurd (omega arith))
    (λ e. either (ltb 9 (worth_of byte))
    (λ f.
    stops_here (byte ∷ rest) place value NoNewline answer at below (inr (refl, ltb-true 9 (worth_of byte) f)) (simp (e, f) at bad)
    (λ _ more. simp (e, f)))
    (λ f. either (may_follow value (worth_of byte))
    (λ may.
    let small = ltb-false 9 (worth_of byte) f in
    let is = follow_digit value (worth_of byte) may in
    let s = rest_stops_at rest (place + 1) (value * 10 + worth_of byte) answer at is.1 (simp (e, f, may) at bad) in
    let longer = digit_more value byte is.0 small in
    record {
      count = suc s.count;
      wait = s.wait;
      why = s.why;
      is_place = let p = s.is_place in omega arith;
      inside = let i = s.inside in omega arith;
      digits = sym (append_assoc (decimal value) (byte ∷ []) (take s.count rest))
          ∙ ap (λ (l : List ℕ). l ++ take s.count rest) (sym longer) ∙ s.digits;
      below = s.below;
      again = λ some more. simp (e, f, may) (s.again (omega arith) more);
    })
    (λ may.
    stops_here (byte ∷ rest) place value BadWait answer at below (inl (refl, ltb-false 9 (worth_of byte) f)) (simp (e, f, may) at bad)
    (λ _ more. simp (e, f, may)))))

-- why a wait stops after so many bytes: before the first it is 18, and then as its rest has it, behind all digits of a wait
abbrev pub WhyHalts : Answer → List ℕ → ℕ → ℕ → Type 0
WhyHalts answer rest count wait =
    ((answer ≡ BadWait) × (count ≡ 0)) ⊎ ((0 < count) × (take count rest ≡ decimal wait) × Why answer (text_at rest count))

-- where a wait stops: so many of its bytes stand, they are the first of a wait's field, and whatever is after the byte at which
-- it stops, it stops there
pub record Halts (rest : List ℕ) (place : ℕ) (answer : Answer) (at : ℕ) : Type 0 where
  pub count : ℕ
  pub wait : ℕ
  pub why : WhyHalts answer rest count wait
  pub is_place : at ≡ place + count
  pub inside : count ≤ length rest
  pub first : take count rest ≡ take count (number_field wait newline)
  pub below : wait ≤ wait_limit
  pub few : count ≤ 10
  pub again : count < length rest → (more : List ℕ) → begun place (take (suc count) rest ++ more) ≡ Err (fault answer at)

-- before its first digit
halts_here : (rest : List ℕ) (place : ℕ) (answer : Answer) (at : ℕ) → ◌≡◌ {A = WaitRead} (Err (fault BadWait place)) (Err (fault answer at))
    → (0 < length rest → (more : List ℕ) → begun place (take 1 rest ++ more) ≡ Err (fault BadWait place)) → Halts rest place answer at
halts_here rest place answer at is again =
    let here = (same_fault is).1 in
    let same = sym (same_fault is).0 in
    record {
      count = 0;
      wait = 0;
      why = inl (same, refl);
      is_place = omega arith;
      inside = omega arith;
      first = refl;
      below = omega arith;
      few = omega arith;
      again = λ some more. again some more ∙ is;
    }

pub begun_halts : (rest : List ℕ) (place : ℕ) (answer : Answer) (at : ℕ) → begun place rest ≡ Err (fault answer at) → Halts rest place answer at
unfolding begun text_at number_field
begun_halts [] place answer at bad = halts_here [] place answer at (sym (begun_none place) ∙ bad) (λ some. absurd (omega arith))
begun_halts (byte ∷ rest) place answer at bad =
    either (ltb 9 (worth_of byte))
    (λ e. halts_here (byte ∷ rest) place answer at (simp e at bad) (λ _ more. simp e))
    (λ e.
    let small = ltb-false 9 (worth_of byte) e in
    let s = rest_stops_at rest (place + 1) (worth_of byte) answer at (omega arith) (simp e at bad) in
    let all : byte ∷ take s.count rest ≡ decimal s.wait = ap (λ (l : List ℕ). l ++ take s.count rest) (sym (digit_one byte small)) ∙ s.digits in
    let long : suc s.count ≡ length (decimal s.wait) =
    ap suc (sym (length-take-le s.count rest s.inside)) ∙ ap length all in
    record {
      count = suc s.count;
      wait = s.wait;
      why = inr (omega arith, all, s.why);
      is_place = let p = s.is_place in omega arith;
      inside = let i = s.inside in omega arith;
      first = all ∙ sym (take_at (decimal s.wait) (newline ∷ []) (suc s.count) (sym long));
      below = s.below;
      few = let b = s.below in omega (arith, decimal_length 9 s.wait (omega arith));
      again = λ some more. simp e (s.again (omega arith) more);
    })
