-- Laws of the fixed fields of the texts: how long each is, and a field's bytes one by one.
-- Assumes nothing.
use mathlib.Core.Bool.{Bool, true, false}
use mathlib.Core.List.{List, ◌++◌}
use mathlib.Core.Path.{◌≡◌, refl, sym, ap, ◌∙◌}
use Prim.Native.Nat.{ℕ, ◌+◌, ◌-◌, ◌≤◌, ◌<◌}
use native.Mathlib.Omega.{arith}
use lib.ListN.{length, get_or, get_or-append}
use lib.Seq.{get_or-append-add}
use Rattle.controller.specs.declared.«record».Record.{Record}
use Rattle.drawing.specs.State.{bit_fields, display_field, frequency_field, function_fields}
use Rattle.drawing.specs.State.{settings_line}

-- how long the fields are
pub settings_length : (rec : Record) → length (settings_line rec) ≡ 66
settings_length rec = go rec.control.d
  where
    go : (d : Bool)
        → length (function_fields rec ++ (display_field d ++ (bit_fields rec.control rec.entry ++ frequency_field rec.frequency))) ≡ 66
    go true = refl
    go false = refl

-- a byte of two texts, one behind the other: in the first, or in the second
pub first_byte : (front back : List ℕ) (size place : ℕ) → length front ≡ size → place < size → get_or front place 0 ≡ get_or (front ++ back) place 0
first_byte front back size place long inside = sym (get_or-append front back 0 place (rw long inside))

pub second_byte : (front back : List ℕ) (size place : ℕ) → length front ≡ size → size ≤ place → get_or back (place - size) 0 ≡ get_or (front ++ back) place 0
second_byte front back size place long past =
    let at : length front + (place - size) ≡ place = omega arith in
    sym (get_or-append-add front back (place - size) 0) ∙ ap (λ (k : ℕ). get_or (front ++ back) k 0) at
