-- Laws of the answers: an answer and its number say each other, and the number of the first row that applies is given exactly there.
-- Assumes nothing.
use mathlib.Core.Bool.{Bool, true, false, cond, true≢false, false≢true}
use mathlib.Core.List.{List, [], ◌∷◌}
use mathlib.Core.Logic.{inl, inr, ⊎_elim}
use mathlib.Core.Path.{◌≡◌, refl, sym, ap, ◌∙◌}
use Prim.Native.Nat.{ℕ, ◌<◌}
use lib.Dec.{eqb, lit<}
use borrow.Author.Tests.{eqb-true}
use Rattle.controller.proofs.Laws.Tests.{Tests}
use Rattle.controller.specs.declared.answers.Answer.{Answer}
use Rattle.controller.specs.declared.answers.Answer.TheVariants.{Done, Unsound, NotWhole, BadTransfer, Busy, FirstHalf, NoCell, StaleRead, CrossedHalves, CounterOff, BadSize, OutputShort, NotWish, OutsideSubset, SignalMissing, BadKind, BadByte, BadWait, NoNewline, LevelUnknown}
use Rattle.controller.specs.Answers.{number_of, is_done, Row, Given, Tells}

-- the first of these answers that has this number
unfoldable having : ℕ → List Answer → Answer
having n [] = Done
having n (answer ∷ answers) = cond (eqb (number_of answer) n) answer (having n answers)

answers : List Answer
answers =
    Done ∷ Unsound ∷ NotWhole ∷ BadTransfer ∷ Busy ∷ FirstHalf ∷ NoCell ∷ StaleRead ∷ CrossedHalves ∷ CounterOff ∷ BadSize ∷ OutputShort
    ∷ NotWish ∷ OutsideSubset ∷ SignalMissing ∷ BadKind ∷ BadByte ∷ BadWait ∷ NoNewline ∷ LevelUnknown ∷ []

-- a number of at most two digits, which no other answer has
numbered : (answer : Answer) → (number_of answer < 100) × (having (number_of answer) answers ≡ answer)
unfolding having answers
numbered Done = (lit< tt, refl)
numbered Unsound = (lit< tt, refl)
numbered NotWhole = (lit< tt, refl)
numbered BadTransfer = (lit< tt, refl)
numbered Busy = (lit< tt, refl)
numbered FirstHalf = (lit< tt, refl)
numbered NoCell = (lit< tt, refl)
numbered StaleRead = (lit< tt, refl)
numbered CrossedHalves = (lit< tt, refl)
numbered CounterOff = (lit< tt, refl)
numbered BadSize = (lit< tt, refl)
numbered OutputShort = (lit< tt, refl)
numbered NotWish = (lit< tt, refl)
numbered OutsideSubset = (lit< tt, refl)
numbered SignalMissing = (lit< tt, refl)
numbered BadKind = (lit< tt, refl)
numbered BadByte = (lit< tt, refl)
numbered BadWait = (lit< tt, refl)
numbered NoNewline = (lit< tt, refl)
numbered LevelUnknown = (lit< tt, refl)

pub number_below : (answer : Answer) → number_of answer < 100
number_below answer = (numbered answer).0

-- no two answers have one number
pub one_answer : (a b : Answer) → number_of a ≡ number_of b → a ≡ b
one_answer a b same = sym (numbered a).1 ∙ ap (λ (n : ℕ). having n answers) same ∙ (numbered b).1

-- only Done has the number 0
pub done_is : (answer : Answer) → is_done answer ≡ true → answer ≡ Done
done_is answer e = one_answer answer Done (eqb-true (number_of answer) 0 e)

-- no row is left: 0 is given
pub none_applies : Tells 0 []
unfolding Given
none_applies n = (sym, sym)

-- a row's number where its test is true, and else what the rows after it give
pub row_applies : (row : Row) (rows : List Row) (test : Bool) (rest : ℕ) → Tests test row.applies
    → ((row.applies → ⊥) → Tells rest rows) → Tells (cond test row.number rest) (row ∷ rows)
unfolding Given
row_applies row rows true rest t later n = (λ e. inl (t.yes refl, e), ⊎_elim (λ here. here.1) (λ there. absurd (there.0 (t.yes refl))))
row_applies row rows false rest t later n =
    (λ e. inr (t.no refl, (later (t.no refl) n).0 e), ⊎_elim (λ here. absurd (t.no refl here.0)) (λ there. (later there.0 n).1 there.1))

-- a row that applies gives its number
pub applies_here : (row : Row) (rows : List Row) → row.applies → Tells row.number (row ∷ rows)
applies_here row rows here =
    row_applies row rows true 0 (record { yes = λ _. here; no = λ e. absurd (true≢false e) }) (λ never. absurd (never here))

-- one that does not leaves it to the rows after it
pub applies_later : (row : Row) (rows : List Row) (number : ℕ) → (row.applies → ⊥) → Tells number rows → Tells number (row ∷ rows)
applies_later row rows number never later =
    row_applies row rows false number (record { yes = λ e. absurd (false≢true e); no = λ _. never }) (λ _. later)

-- a row that applies where another does gives the same
pub given_alike : (n : ℕ) (row row' : Row) (rows rows' : List Row) → row.number ≡ row'.number → (row.applies → row'.applies)
    → (row'.applies → row.applies) → (Given n rows → Given n rows') → Given n (row ∷ rows) → Given n (row' ∷ rows')
unfolding Given
given_alike n row row' rows rows' same to from later =
    ⊎_elim (λ here. inl (to here.0, sym same ∙ here.1)) (λ there. inr (λ a. there.0 (from a), later there.1))

-- an answer with this number gives what the number gives
pub tells_as : (answer number : ℕ) (rows : List Row) → answer ≡ number → Tells number rows → Tells answer rows
tells_as answer number rows is by n = (λ e. (by n).0 (sym is ∙ e), λ g. is ∙ (by n).1 g)
