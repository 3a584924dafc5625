-- The theorems of cells: wrapping, once over the size, and addresses that match their cells.
-- Assumes nothing.
use Rattle.std.specs.Prelude.{Some, None}
use mathlib.Core.Bool.{Bool, true, false, cond, ◌&&◌}
use mathlib.Core.Path.{◌≡◌, refl, ap, ◌∙◌}
use Prim.Native.Nat.{ℕ, ◌+◌, ◌-◌, ◌%◌, ◌<◌, ◌≤◌}
use native.Mathlib.Nat.{mod-eq_of_lt, mod_self, add-mod_right}
use native.Mathlib.Omega.{arith}
use lib.Dec.{ltb, leb, eqb}
use borrow.Author.Tests.{eqb-true, eqb-false, ltb-false, leb-true, lt-ltb, le-ltb, le-leb}
use Rattle.controller.proofs.Laws.Choice.{cond-elim, and_left}
use Rattle.controller.specs.declared.cells.Add.{Add}
use Rattle.controller.specs.Cells.{wrapped, cell_of_add, add_of_cell}
use Rattle.controller.specs.Theorems.{Wraps, AddressesMatch}

wraps_up : (size cell : ℕ) → cell < size → wrapped size true cell ≡ cond (eqb (cell + 1) size) 0 (cell + 1)
unfolding wrapped
wraps_up size cell below =
    cond-elim (λ (next : ℕ). (cell + 1) % size ≡ next) (eqb (cell + 1) size) 0 (cell + 1)
    (λ last. ap (λ (n : ℕ). n % size) (eqb-true (cell + 1) size last) ∙ mod_self size)
    (λ inner. mod-eq_of_lt (omega (arith, eqb-false (cell + 1) size inner)))

wraps_down : (size cell : ℕ) → cell < size → wrapped size false cell ≡ cond (eqb cell 0) (size - 1) (cell - 1)
unfolding wrapped
wraps_down size cell below =
    cond-elim (λ (next : ℕ). (cell + size - 1) % size ≡ next) (eqb cell 0) (size - 1) (cell - 1)
    (λ first. ap (λ (n : ℕ). n % size) (omega (arith, eqb-true cell 0 first)) ∙ mod-eq_of_lt (omega arith))
    (λ inner. ap (λ (n : ℕ). n % size) (omega (arith, eqb-false cell 0 inner)) ∙ add-mod_right (cell - 1) size ∙ mod-eq_of_lt (omega arith))

pub wraps : Wraps
wraps size cell below = (wraps_up size cell below, wraps_down size cell below)

named_there : (n : Bool) (cell : ℕ) → cell < 80 → cell_of_add n (add_of_cell n cell) ≡ Some cell
unfolding cell_of_add add_of_cell
named_there false cell below = rw (lt-ltb cell 80 below)
named_there true cell below = go (ltb cell 40) refl
  where
    go : (t : Bool) → ltb cell 40 ≡ t → cell_of_add true (add_of_cell true cell) ≡ Some cell
    go true low = simp low
    go false high =
        let over : 40 ≤ cell = ltb-false cell 40 high in
        simp (high, le-ltb (cell + 24) 40 (omega arith), le-leb 64 (cell + 24) (omega arith), lt-ltb (cell + 24) 104 (omega arith))
        (ap Some (omega arith))

-- the address of this number
at : ℕ → Add
at a = record { 0 = a }

one_line_back : (add : Add) (cell : ℕ) → cell_of_add false add ≡ Some cell → add_of_cell false cell ≡ add
unfolding cell_of_add add_of_cell at
one_line_back add cell = go (ltb add.0 80) refl
  where
    go : (t : Bool) → ltb add.0 80 ≡ t → cond t (Some add.0) None ≡ Some cell → add_of_cell false cell ≡ add
    go true low e = let same : cell ≡ add.0 = cc in ap at same
    go false high e = cc

two_line_back : (add : Add) (cell : ℕ) → cell_of_add true add ≡ Some cell → add_of_cell true cell ≡ add
unfolding cell_of_add add_of_cell at
two_line_back add cell = go (ltb add.0 40) (leb 64 add.0 && ltb add.0 104) refl refl
  where
    go : (low upper : Bool) → ltb add.0 40 ≡ low → (leb 64 add.0 && ltb add.0 104) ≡ upper
        → cond low (Some add.0) (cond upper (Some (add.0 - 24)) None) ≡ Some cell → add_of_cell true cell ≡ add
    go true upper low _ e =
        let same : cell ≡ add.0 = cc in
        ap at (rw (same, low) refl)
    go false true _ upper e =
        let same : cell ≡ add.0 - 24 = cc in
        let from : 64 ≤ add.0 = leb-true 64 add.0 (and_left _ _ upper) in
        let high : ltb cell 40 ≡ false = le-ltb cell 40 (omega arith) in
        ap at (rw high (omega arith))
    go false false _ _ e = cc

named_back : (n : Bool) (add : Add) (cell : ℕ) → cell_of_add n add ≡ Some cell → add_of_cell n cell ≡ add
named_back false add cell = one_line_back add cell
named_back true add cell = two_line_back add cell

pub addresses_match : AddressesMatch
addresses_match n = (named_there n, named_back n)
