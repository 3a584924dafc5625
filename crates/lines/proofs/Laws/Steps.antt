-- Laws of reading, byte by byte: what the reader may take from each test.
-- Assumes nothing.
use Rattle.std.specs.Prelude.{Ok, Err, Some, None}
use mathlib.Core.Bool.{Bool, true, false, ◌||◌, false≢true}
use mathlib.Core.List.{List}
use mathlib.Core.Path.{◌≡◌, sym, ap}
use Prim.Native.Nat.{ℕ, ◌+◌, ◌*◌, ◌<◌, ◌≤◌}
use native.Mathlib.Numerals.{add-one}
use native.Mathlib.Omega.{arith}
use lib.Dec.{ltb, leb}
use lib.ListN.{length, get_or, drop, drop_of_length-le}
use lib.Seq.{drop-cons}
use borrow.Author.Tests.{ltb-true, ltb-false, leb-true, eqb-true, lt-ltb, le-ltb, le-leb, lt-leb, eq-eqb, ne_eqb}
use Rattle.controller.proofs.Laws.Choice.{and_left, and_right}
use Rattle.controller.specs.declared.answers.Answer.{Answer}
use Rattle.controller.specs.declared.answers.Answer.TheVariants.{BadWait, NoNewline}
use Rattle.controller.specs.Bus.{bad_transfer}
use Rattle.lines.specs.Digits.{newline, decimal_in, worth_of}
use Rattle.lines.specs.Line.{wait_limit}
use Rattle.lines.specs.declared.reader.BadLine.{BadLine}
use Rattle.lines.specs.Reading.{WaitRead, fault, digit_stands, may_follow, rest_of}
use Rattle.lines.proofs.Laws.Digits.{either}

or_right : (a b : Bool) → (a || b) ≡ false → b ≡ false
or_right true b none = absurd (false≢true (sym none))
or_right false b none = none

-- two waits that were read are the same, or two faults
pub same_wait : {wait end wait' end' : ℕ} → ◌≡◌ {A = WaitRead} (Ok (wait, end)) (Ok (wait', end')) → (wait ≡ wait') × (end ≡ end')
same_wait {wait} {end} {wait'} {end'} same =
    let pairs : ◌≡◌ {A = ℕ × ℕ} (wait, end) (wait', end') = cc in
    (ap (λ (p : ℕ × ℕ). p.0) pairs, ap (λ (p : ℕ × ℕ). p.1) pairs)

pub same_fault : {answer answer' : Answer} {at at' : ℕ} → ◌≡◌ {A = WaitRead} (Err (fault answer at)) (Err (fault answer' at'))
    → (answer ≡ answer') × (at ≡ at')
same_fault {answer} {answer'} {at} {at'} same =
    let faults : ◌≡◌ {A = BadLine} (fault answer at) (fault answer' at') = cc in
    (ap (λ (b : BadLine). b.answer) faults, ap (λ (b : BadLine). b.offset) faults)

pub other_fault : {at at' : ℕ} → ◌≡◌ {A = WaitRead} (Err (fault NoNewline at)) (Err (fault BadWait at')) → ⊥
other_fault same = let answers = (same_fault same).0 in let no : ◌≡◌ {A = ℕ} 0 1 = cc in omega arith

-- what a digit that may follow is
pub follow_digit : (value worth : ℕ) → may_follow value worth ≡ true → (0 < value) × (value * 10 + worth ≤ wait_limit)
unfolding may_follow
follow_digit value worth may =
    (ltb-true 0 value (and_left _ _ may), leb-true (value * 10 + worth) wait_limit (and_right (ltb 0 value) _ may))

-- a digit that stands is worth less than 16
pub digit_below : (kind worth : ℕ) → digit_stands kind worth ≡ true → worth < 16
unfolding digit_stands
digit_below kind worth stands = ltb-true worth 16 (and_left _ _ stands)

-- two digits that stand make the byte of a transfer that is not bad
pub digits_stand : (kind high low : ℕ) → kind < 4 → digit_stands kind high ≡ true → digit_stands kind low ≡ true
    → bad_transfer kind (high * 16 + low) ≡ false
unfolding digit_stands bad_transfer
digits_stand kind high low below a b =
    let other : ltb 3 kind ≡ false = le-ltb 3 kind (omega arith) in
    let first = and_right (ltb high 16) _ a in
    let second = and_right (ltb low 16) _ b in
    either (ltb kind 2)
    (λ write. let less : leb 2 kind ≡ false = lt-leb 2 kind (ltb-true kind 2 write) in simp (other, less))
    (λ read.
    let more : leb 2 kind ≡ true = le-leb 2 kind (ltb-false kind 2 read) in
    let one = eqb-true high 0 (rw read at first) in
    let two = eqb-true low 0 (rw read at second) in
    simp (other, more, one, two))

-- and the byte of such a transfer has two digits that stand
pub digit_stands_lem : (kind byte worth : ℕ) → bad_transfer kind byte ≡ false → worth < 16 → worth ≤ byte → digit_stands kind worth ≡ true
unfolding digit_stands bad_transfer
digit_stands_lem kind byte worth good small part =
    let none = or_right (ltb 3 kind) _ good in
    either (ltb kind 2) (λ write. simp (lt-ltb worth 16 small, write))
    (λ read.
    let more : leb 2 kind ≡ true = le-leb 2 kind (ltb-false kind 2 read) in
    let zero = ltb-false 0 byte (rw more at none) in
    simp (lt-ltb worth 16 small, read, eq-eqb worth 0 (omega arith)))

-- what a byte is that has, or has not, a worth as a decimal digit
pub is_decimal : (byte : ℕ) {worth : ℕ} → Some worth ≡ decimal_in byte → (worth_of byte ≡ worth) × (worth_of byte ≤ 9)
is_decimal byte {worth} is =
    either (ltb (worth_of byte) 10)
    (λ e. let same = simp e at is in let below = ltb-true _ _ e in (cc, omega arith))
    (λ e. let other = simp e at is in let no : ◌≡◌ {A = ℕ} 0 1 = cc in absurd (omega arith))

pub no_decimal : (byte : ℕ) → None ≡ decimal_in byte → 9 < worth_of byte
no_decimal byte is =
    either (ltb (worth_of byte) 10)
    (λ e. let other = simp e at is in let no : ◌≡◌ {A = ℕ} 0 1 = cc in absurd (omega arith))
    (λ e. let above = ltb-false _ _ e in omega arith)

-- at the text's end no newline stands
pub rest_none : (text : List ℕ) (place value : ℕ) → length text ≤ place → rest_of place value (drop place text) ≡ Err (fault NoNewline place)
unfolding rest_of
rest_none text place value out = rw (drop_of_length-le text out)

module _ (text : List ℕ) (place value : ℕ) (inside : place < length text) where
  -- a newline ends the line
  pub rest_ends : get_or text place 0 ≡ newline → rest_of place value (drop place text) ≡ Ok (value, place + 1)
  unfolding rest_of
  rest_ends ends = rw (drop-cons text place 0 inside) (simp (eq-eqb (get_or text place 0) newline ends))

  module _ (other : get_or text place 0 ≡ newline → ⊥) where
    -- a byte that is no digit
    pub rest_other : 9 < worth_of (get_or text place 0) → rest_of place value (drop place text) ≡ Err (fault NoNewline place)
    unfolding rest_of
    rest_other large =
        rw (drop-cons text place 0 inside)
        (simp (ne_eqb (get_or text place 0) newline other, lt-ltb 9 (worth_of (get_or text place 0)) large))

    -- a digit that may follow
    pub rest_more : worth_of (get_or text place 0) ≤ 9 → may_follow value (worth_of (get_or text place 0)) ≡ true
        → rest_of place value (drop place text) ≡ rest_of (place + 1) (value * 10 + worth_of (get_or text place 0)) (drop (place + 1) text)
    unfolding rest_of
    rest_more small may =
        rw (drop-cons text place 0 inside)
        (simp (ne_eqb (get_or text place 0) newline other, le-ltb 9 (worth_of (get_or text place 0)) small, may, add-one))

    -- and one that may not
    pub rest_stops : worth_of (get_or text place 0) ≤ 9 → may_follow value (worth_of (get_or text place 0)) ≡ false
        → rest_of place value (drop place text) ≡ Err (fault BadWait place)
    unfolding rest_of
    rest_stops small may =
        rw (drop-cons text place 0 inside)
        (simp (ne_eqb (get_or text place 0) newline other, le-ltb 9 (worth_of (get_or text place 0)) small, may))
