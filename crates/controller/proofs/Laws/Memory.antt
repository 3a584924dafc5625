-- Laws of the memory: what an effect leaves of it.
-- Assumes nothing.
use mathlib.Core.List.{List}
use mathlib.Core.Path.{◌≡◌, ◌∙◌}
use Prim.Native.Nat.{ℕ}
use native.Mathlib.Omega.{arith}
use lib.ListN.{length, replicate, drop, length-set, length-append, length-replicate, length-drop}
use Rattle.controller.specs.declared.decision.Effect.{Effect}
use Rattle.controller.specs.declared.decision.Effect.TheVariants.{Keep, Store, Blank}
use Rattle.controller.specs.Decision.{performed, blanked}

pub blanked_length : (mem : List ℕ) → length mem ≡ 144 → length (blanked mem) ≡ 144
unfolding blanked
blanked_length mem long = length-append (replicate {A = ℕ} 80 0x20) (drop 80 mem) ∙ omega (arith, length-replicate {A = ℕ} 80 0x20, length-drop 80 mem)

-- an effect keeps the memory's length
pub performed_length : (effect : Effect) (mem : List ℕ) → length mem ≡ 144 → length (performed effect mem) ≡ 144
unfolding performed
performed_length Keep mem long = long
performed_length (Store place byte) mem long = length-set mem place byte ∙ long
performed_length Blank mem long = blanked_length mem long
