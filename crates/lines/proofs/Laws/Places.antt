-- Laws of the number by its place: what stands before each place of a line, in tabs and in bytes behind them.
-- Assumes nothing.
use mathlib.Core.Bool.{Bool, true, false}
use mathlib.Core.List.{List, ◌++◌}
use mathlib.Core.Logic.{⊎_elim}
use mathlib.Core.Path.{◌≡◌, refl, sym}
use Prim.Native.Nat.{ℕ, zero, suc, ◌+◌, ◌/◌, ◌%◌, ◌<◌, ◌≤◌}
use native.Mathlib.Omega.{arith}
use borrow.Author.Tests.{leb-true, ne_eqb}
use lib.Dec.{eqb, leb}
use lib.ListN.{length, take, drop}
use lib.Seq.{get_or-drop, length-take-le}
use Rattle.controller.specs.declared.answers.Answer.{Answer}
use Rattle.controller.specs.Answers.{number_of}
use Rattle.controller.proofs.Laws.Choice.{and_left, and_right}
use Rattle.lines.specs.Digits.{tab, between, digit, worth_of, byte_field}
use Rattle.lines.specs.Line.{line, letter_of, kind_field}
use Rattle.lines.specs.Reading.{text_at}
use Rattle.lines.specs.Faults.{tabs_in, behind, number_by, number_at}
use Rattle.lines.proofs.Laws.Digits.{either}
use Rattle.lines.proofs.Laws.Waits.{digit_above, Why, WhyHalts}

letter_no_tab : (kind : ℕ) → eqb (letter_of kind) tab ≡ false
unfolding letter_of
letter_no_tab kind =
    either (eqb kind 0) (λ e. simp e)
    (λ e. either (eqb kind 1) (λ f. simp (e, f)) (λ f. either (eqb kind 2) (λ g. simp (e, f, g)) (λ g. simp (e, f, g))))

digit_no_tab : (number : ℕ) → eqb (digit number) tab ≡ false
digit_no_tab number = ne_eqb (digit number) tab (λ e. omega (arith, digit_above number))

-- before the first tab
pub number_kind : (text : List ℕ) (kind byte wait place : ℕ) → place ≤ 1 → take place text ≡ take place (line kind byte wait)
    → number_at text place ≡ 16
unfolding number_at number_by tabs_in line kind_field
number_kind text kind byte wait zero few first = refl
number_kind text kind byte wait (suc zero) few first = simp (first, letter_no_tab kind)
number_kind text kind byte wait (suc (suc place)) few first = absurd (omega arith)

-- before the second
pub number_byte : (text : List ℕ) (kind byte wait place : ℕ) → 2 ≤ place → place ≤ 4 → take place text ≡ take place (line kind byte wait)
    → number_at text place ≡ 17
unfolding number_at number_by tabs_in line kind_field byte_field
number_byte text kind byte wait zero many few first = absurd (omega arith)
number_byte text kind byte wait (suc zero) many few first = absurd (omega arith)
number_byte text kind byte wait (suc (suc zero)) many few first = simp (first, letter_no_tab kind)
number_byte text kind byte wait (suc (suc (suc zero))) many few first = simp (first, letter_no_tab kind, digit_no_tab (byte / 16))
number_byte text kind byte wait (suc (suc (suc (suc zero)))) many few first =
    simp (first, letter_no_tab kind, digit_no_tab (byte / 16), digit_no_tab (byte % 16))
number_byte text kind byte wait (suc (suc (suc (suc (suc place))))) many few first = absurd (omega arith)

-- a byte is a decimal digit exactly where it is worth at most 9
is_digit : (byte : ℕ) → worth_of byte ≤ 9 → between 0x30 0x39 byte ≡ true
unfolding worth_of
is_digit byte small =
    either (between 0x30 0x39 byte) (λ e. e)
    (λ e. either (between 0x41 0x46 byte)
    (λ f. let above = leb-true 0x41 byte (and_left _ _ f) in let no = simp (e, f) at small in absurd (omega arith))
    (λ f. let no = simp (e, f) at small in absurd (omega arith)))

is_no_digit : (byte : ℕ) → 9 < worth_of byte → between 0x30 0x39 byte ≡ false
unfolding worth_of
is_no_digit byte large =
    either (between 0x30 0x39 byte)
    (λ e.
    let below = leb-true byte 0x39 (and_right (leb 0x30 byte) _ e) in
    let no = simp e at large in absurd (omega arith))
    (λ e. e)

-- behind two tabs
no_bytes : (tabs : ℕ) (digit : Bool) → ◌≡◌ {A = ℕ} 18 (number_by (suc (suc tabs)) 0 digit)
unfolding number_by
no_bytes tabs digit = refl

two_tabs : (tabs bytes byte : ℕ) (answer : Answer) → 0 < bytes → Why answer byte
    → number_of answer ≡ number_by (suc (suc tabs)) bytes (between 0x30 0x39 byte)
unfolding number_by
two_tabs tabs zero byte answer some why = absurd (omega arith)
two_tabs tabs (suc bytes) byte answer some why =
    ⊎_elim (λ digit. rw digit.0 (simp (is_digit byte digit.1))) (λ other. rw other.0 (simp (is_no_digit byte other.1))) why

pub number_wait : (text : List ℕ) (kind byte count wait : ℕ) (answer : Answer) → count ≤ length (drop 5 text)
    → take (5 + count) text ≡ (kind_field kind ++ byte_field byte) ++ take count (drop 5 text) → WhyHalts answer (drop 5 text) count wait
    → number_of answer ≡ number_at text (5 + count)
unfolding number_at tabs_in behind kind_field byte_field text_at
number_wait text kind byte count wait answer inside first why =
    let there = get_or-drop 5 text count 0 in
    let long = length-take-le count (drop 5 text) inside in
    simp (first, letter_no_tab kind, digit_no_tab (byte / 16), digit_no_tab (byte % 16), sym there, long)
    (⊎_elim (λ none. rw (none.0, none.1) (no_bytes _ _)) (λ some. two_tabs _ count _ answer some.0 some.2) why)
