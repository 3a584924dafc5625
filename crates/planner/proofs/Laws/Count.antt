-- How many records a plan can have: a run of marked cells needs one address set, and two runs in one memory are parted
-- by a cell that is not marked.
-- Assumes nothing.
use mathlib.Core.Bool.{Bool, true, false, cond, not}
use mathlib.Core.List.{List, [], ◌∷◌, ◌++◌}
use mathlib.Core.Path.{◌≡◌, refl, ap}
use Prim.Native.Nat.{ℕ, zero, suc, ◌+◌, ◌≤◌}
use native.Mathlib.Omega.{arith}
use lib.Dec.{eqb, ltb}
use lib.ListN.{length, length-append, replicate, length-replicate}
use borrow.Author.Tests.{eqb-true, eqb-false, ltb-true, ltb-false, lt-ltb, le-ltb, ne_eqb}
use Rattle.planner.specs.declared.wish.Wish.{Wish}
use Rattle.planner.proofs.Laws.Wish.{wish_shift_small}
use Rattle.planner.proofs.Laws.Written.{length_plan}
use Rattle.planner.specs.Plan.{Command, instruction, set_up, cell, cells_below, ending, commands, plan_of}
use Rattle.planner.specs.Wish.{marked, follows, is_wish}

-- 1 where the test passes
pub count : Bool → ℕ
count true = 1
count false = 0

count_one : (b : Bool) → count b ≤ 1
unfolding count
count_one true = omega arith
count_one false = omega arith

-- a cell takes no command where it is not marked, one after a marked cell, and else two
cell_room : (n : Bool) (marks values : List ℕ) (place : ℕ)
    → length (cell n marks values place) + count (follows marks place) ≤ 1 + count (marked marks place)
unfolding cell count
cell_room n marks values place = go (marked marks place) (follows marks place) _ _
  where
    go : (m f : Bool) (x y : Command) → length (cond m (cond f (y ∷ []) (x ∷ y ∷ [])) []) + count f ≤ 1 + count m
    go true true x y = omega arith
    go true false x y = omega arith
    go false f x y = omega (arith, count_one f)

-- the cell after a marked one follows it, but for the first pattern cell
next_follows : (marks : List ℕ) (place : ℕ) → (suc place ≡ 80 → ⊥) → follows marks (suc place) ≡ marked marks place
unfolding follows
next_follows marks place inner =
    simp (ne_eqb (suc place) 0 (λ e. omega arith), ne_eqb (suc place) 80 inner) (ap (marked marks) (omega arith))

-- a place and the next are on the same side of 80, but for 79
same_side : (place : ℕ) → (suc place ≡ 80 → ⊥) → ltb (suc place) 80 ≡ ltb place 80
same_side place inner = go (ltb place 80) refl
  where
    go : (t : Bool) → ltb place 80 ≡ t → ltb (suc place) 80 ≡ t
    go true low = lt-ltb (suc place) 80 (omega (arith, ltb-true place 80 low))
    go false high = le-ltb (suc place) 80 (omega (arith, ltb-false place 80 high))

-- one command for each cell below, one more for each memory begun, less where no run is open
pub below_bound : (n : Bool) (marks values : List ℕ) (place : ℕ)
    → length (cells_below n marks values place) ≤ place + count (not (ltb place 80)) + count (follows marks place)
unfolding cells_below count
below_bound n marks values zero = omega arith
below_bound n marks values (suc place) = go (eqb (suc place) 80) refl (below_bound n marks values place)
  where
    go : (t : Bool) → eqb (suc place) 80 ≡ t
        → length (cells_below n marks values place) ≤ place + count (not (ltb place 80)) + count (follows marks place)
        → length (cells_below n marks values (suc place)) ≤ suc place + count (not (ltb (suc place) 80)) + count (follows marks (suc place))
    go true t before =
        let last : suc place ≡ 80 = eqb-true (suc place) 80 t in
        let old : count (not (ltb place 80)) ≡ 0 = rw (lt-ltb place 80 (omega arith)) refl in
        let new : count (not (ltb (suc place) 80)) ≡ 1 = rw (le-ltb (suc place) 80 (omega arith)) refl in
        omega (arith, length-append (cells_below n marks values place) (cell n marks values place), cell_room n marks values place, count_one (marked marks place))
    go false t before =
        let inner : suc place ≡ 80 → ⊥ = eqb-false (suc place) 80 t in
        let same : count (not (ltb (suc place) 80)) ≡ count (not (ltb place 80)) = ap (λ (b : Bool). count (not b)) (same_side place inner) in
        let next : count (follows marks (suc place)) ≡ count (marked marks place) = ap count (next_follows marks place inner) in
        omega (arith, length-append (cells_below n marks values place) (cell n marks values place), cell_room n marks values place)

pub cells_bound : (n : Bool) (marks values : List ℕ) (place : ℕ) → length (cells_below n marks values place) ≤ place + 2
cells_bound n marks values place =
    omega (arith, below_bound n marks values place, count_one (not (ltb place 80)), count_one (follows marks place))

-- at most 468 records
pub plan_bound : (wish : Wish) (marks values : List ℕ) → is_wish wish marks ≡ true → length (plan_of wish marks values) ≤ 468
unfolding commands
plan_bound wish marks values is =
    let n : Bool = wish.function.n in
    omega (
      arith,
      length_plan wish marks values,
      wish_shift_small wish marks is,
      length-append (set_up wish) (replicate wish.shift (instruction 0x18) ++ (cells_below n marks values 144 ++ ending wish)),
      length-append (replicate wish.shift (instruction 0x18)) (cells_below n marks values 144 ++ ending wish),
      length-append (cells_below n marks values 144) (ending wish),
      length-replicate wish.shift (instruction 0x18),
      cells_bound n marks values 144,
    )
