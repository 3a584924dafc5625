-- Laws of wishes: the marks one by one, and what an accepted wish tells.
-- Assumes nothing.
use mathlib.Core.Bool.{Bool, true, false, not, ◌&&◌}
use mathlib.Core.List.{List, [], ◌∷◌}
use mathlib.Core.Path.{◌≡◌, refl, ap}
use Rattle.std.specs.List.{list_all}
use Prim.Native.Nat.{ℕ, ◌<◌, ◌≤◌}
use native.Mathlib.Omega.{arith}
use lib.Dec.{leb, ltb}
use borrow.Author.Tests.{ltb-true}
use Rattle.controller.proofs.Laws.Choice.{and_left, and_right}
use Rattle.controller.specs.Cells.{line_length}
use Rattle.controller.specs.Oscillator.{in_range}
use Rattle.planner.specs.declared.wish.Wish.{Wish}
use Rattle.planner.specs.Plan.{worth}
use Rattle.planner.specs.Wish.{is_wish, marks_fit}

-- each mark is tested
pub all_fit : (marks : List ℕ) → marks_fit marks ≡ list_all (λ mark. leb mark 1) marks
unfolding marks_fit
all_fit [] = refl
all_fit (mark ∷ marks) = ap (λ (rest : Bool). leb mark 1 && rest) (all_fit marks)

pub wish_shift : (wish : Wish) (marks : List ℕ) → is_wish wish marks ≡ true → wish.shift < line_length wish.function.n
unfolding is_wish
wish_shift wish marks is =
    ltb-true wish.shift (line_length wish.function.n) (and_left _ _ (and_right (not (wish.function.n && wish.function.f)) _ is))

-- what is tested after the shift
later : (wish : Wish) (marks : List ℕ) → is_wish wish marks ≡ true → (ltb wish.cursor 80 && (in_range wish.frequency && marks_fit marks)) ≡ true
unfolding is_wish
later wish marks is = and_right (ltb wish.shift (line_length wish.function.n)) _ (and_right (not (wish.function.n && wish.function.f)) _ is)

pub wish_cursor : (wish : Wish) (marks : List ℕ) → is_wish wish marks ≡ true → wish.cursor < 80
wish_cursor wish marks is =
    let within = ltb-true wish.cursor _ (and_left _ _ (later wish marks is)) in
    omega (arith, within)

pub wish_frequency : (wish : Wish) (marks : List ℕ) → is_wish wish marks ≡ true → in_range wish.frequency ≡ true
wish_frequency wish marks is = and_left _ _ (and_right (ltb wish.cursor 80) _ (later wish marks is))

length_small : (n : Bool) → line_length n ≤ 80
length_small false = omega arith
length_small true = omega arith

-- a shift is below 80 on either number of lines
pub wish_shift_small : (wish : Wish) (marks : List ℕ) → is_wish wish marks ≡ true → wish.shift < 80
wish_shift_small wish marks is = omega (arith, wish_shift wish marks is, length_small wish.function.n)

-- a bit is worth no more than its value
pub worth_small : (value : ℕ) (bit : Bool) → worth value bit ≤ value
unfolding worth
worth_small value false = omega arith
worth_small value true = omega arith
