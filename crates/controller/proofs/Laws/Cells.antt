-- Laws of cells and addresses: what a counter on its cell tells, and that no step leaves its memory.
-- Assumes nothing.
use Rattle.std.specs.Prelude.{Some, None}
use mathlib.Core.Bool.{Bool, true, false, ◌&&◌}
use mathlib.Core.Path.{◌≡◌}
use Prim.Native.Nat.{ℕ, ◌+◌, ◌-◌, ◌%◌, ◌<◌}
use native.Mathlib.Nat.{mod-lt, lt_of_lt_of_le}
use native.Mathlib.Omega.{arith}
use lib.Dec.{ltb, leb, lit≤}
use borrow.Author.Tests.{ltb-true, lt-ltb}
use Rattle.controller.proofs.Laws.Choice.{cond-elim, and_right}
use Rattle.controller.specs.declared.cells.Add.{Add}
use Rattle.controller.specs.declared.cells.Acg.{Acg}
use Rattle.controller.specs.declared.cells.Counter.{Counter}
use Rattle.controller.specs.declared.cells.Counter.TheVariants.{Display, Pattern}
use Rattle.controller.specs.Cells.{place_of, on_cell, wrapped, stepped, cell_of_add, add_of_cell, cell_of_acg, address_of, Within}

pub on_display : (cell : ℕ) → on_cell (Display cell) ≡ true → cell < 80
unfolding on_cell
on_display cell on = ltb-true cell 80 on

pub on_pattern : (cell : ℕ) → on_cell (Pattern cell) ≡ true → cell < 64
unfolding on_cell
on_pattern cell on = ltb-true cell 64 on

pub display_on : (cell : ℕ) → cell < 80 → on_cell (Display cell) ≡ true
unfolding on_cell
display_on cell below = lt-ltb cell 80 below

pub pattern_on : (cell : ℕ) → cell < 64 → on_cell (Pattern cell) ≡ true
unfolding on_cell
pattern_on cell below = lt-ltb cell 64 below

-- a cell stands within the memory
pub place_below : (counter : Counter) → on_cell counter ≡ true → place_of counter < 144
unfolding place_of
place_below (Display cell) on = omega (arith, on_display cell on)
place_below (Pattern cell) on = omega (arith, on_pattern cell on)

-- a cell's address is seven bits
add_below : (n : Bool) (cell : ℕ) → cell < 80 → (add_of_cell n cell).0 < 128
unfolding add_of_cell
add_below false cell below = omega arith
add_below true cell below = cond-elim (λ (a : ℕ). a < 128) (ltb cell 40) cell (cell + 24) (λ _. omega arith) (λ _. omega arith)

-- and so is that of a number counted on from the first cell
pub counted_below : (n : Bool) (cell a : ℕ) → a ≡ (add_of_cell n (cell % 80)).0 → a < 128
counted_below n cell a is = rw is (add_below n (cell % 80) (omega arith))

pub address_below : (n : Bool) (counter : Counter) → on_cell counter ≡ true → address_of n counter < 128
unfolding address_of
address_below n (Display cell) on = add_below n cell (on_display cell on)
address_below n (Pattern cell) on = omega (arith, on_pattern cell on)

-- a ring's step stays in the ring
pub wrapped_below : (size : ℕ) (up : Bool) (cell : ℕ) → 0 < size → wrapped size up cell < size
unfolding wrapped
wrapped_below size true cell some = mod-lt (cell + 1) some
wrapped_below size false cell some = mod-lt (cell + size - 1) some

pub stepped_on : (up : Bool) (counter : Counter) → on_cell (stepped up counter) ≡ true
unfolding stepped
stepped_on up (Display cell) = display_on (wrapped 80 up cell) (wrapped_below 80 up cell (omega arith))
stepped_on up (Pattern cell) = pattern_on (wrapped 64 up cell) (wrapped_below 64 up cell (omega arith))

pub acg_on : (acg : Acg) → on_cell (Pattern (cell_of_acg acg)) ≡ true
acg_on acg = pattern_on _ (omega arith)

-- what an address names is a display cell or nothing
pub named_within : (n : Bool) (add : Add) → Within (cell_of_add n add)
unfolding cell_of_add
named_within false add = cond-elim Within (ltb add.0 0x50) (Some add.0) None (λ below. ltb-true _ _ below) (λ _. tt)
named_within true add =
    cond-elim Within (ltb add.0 _) (Some add.0) _ (λ below. lt_of_lt_of_le (ltb-true _ _ below) (lit≤ tt))
    (λ _. cond-elim Within (leb 0x40 add.0 && ltb add.0 0x68) (Some (add.0 - 24)) None
    (λ between. omega (arith, ltb-true add.0 0x68 (and_right (leb 0x40 add.0) _ between)))
    (λ _. tt))

-- where an instruction puts the counter there is a cell
pub ruleset landings = (stepped_on, acg_on, named_within)
