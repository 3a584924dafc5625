-- The answers of all calls and their numbers, and where a number is given (document 01, "What each number says").
-- Assumes nothing.
use Rattle.std.specs.Prelude.{Bool, not, ◌||◌, List, [], ◌∷◌, ◌⊎◌, ◌↔◌, ◌≡◌, ℕ, eqb}
use Rattle.controller.specs.declared.answers.Answer.{Answer}
use Rattle.controller.specs.declared.answers.Answer.TheVariants.{Done, Unsound, NotWhole, BadTransfer, Busy, FirstHalf}
use Rattle.controller.specs.declared.answers.Answer.TheVariants.{NoCell, StaleRead, CrossedHalves, CounterOff, BadSize}
use Rattle.controller.specs.declared.answers.Answer.TheVariants.{OutputShort, NotWish, OutsideSubset, SignalMissing}
use Rattle.controller.specs.declared.answers.Answer.TheVariants.{BadKind, BadByte, BadWait, NoNewline, LevelUnknown}

-- The number of each answer.
abbrev pub number_of : Answer → ℕ
number_of Done = 0
number_of Unsound = 1
number_of NotWhole = 2
number_of BadTransfer = 3
number_of Busy = 4
number_of FirstHalf = 5
number_of NoCell = 6
number_of StaleRead = 7
number_of CrossedHalves = 8
number_of CounterOff = 9
number_of BadSize = 10
number_of OutputShort = 11
number_of NotWish = 13
number_of OutsideSubset = 14
number_of SignalMissing = 15
number_of BadKind = 16
number_of BadByte = 17
number_of BadWait = 18
number_of NoNewline = 19
number_of LevelUnknown = 28

-- The answer is 0.
abbrev pub is_done : Answer → Bool
is_done answer = eqb (number_of answer) 0

-- All but 0, 5, 7 and 8 are refusals.
unfoldable pub is_refusal : Answer → Bool
is_refusal answer =
    not (eqb (number_of answer) 0 || (eqb (number_of answer) 5 || (eqb (number_of answer) 7 || eqb (number_of answer) 8)))

-- A row of the table: its number, and what makes it apply.
pub record Row : Type 1 where
  pub number : ℕ
  pub applies : Type 0

-- This number is given by these rows: its row applies and none before it does; 0 where none applies.
unfoldable pub Given : ℕ → List Row → Type 0
Given n [] = n ≡ 0
Given n (row ∷ rows) = (row.applies × (row.number ≡ n)) ⊎ ((row.applies → ⊥) × Given n rows)

-- An answer of this number gives each number exactly where its row applies and none before it in the order.
abbrev pub Tells : ℕ → List Row → Type 0
Tells answer rows = (n : ℕ) → (answer ≡ n) ↔ Given n rows
