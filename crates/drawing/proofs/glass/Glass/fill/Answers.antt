-- `drawing::glass::Glass::fill` meets its contract: each place has its byte.
-- Assumes nothing.
use mathlib.Core.List.{List}
use mathlib.Core.Path.{◌≡◌}
use Prim.Native.Nat.{ℕ, ◌+◌}
use native.Mathlib.Nat.{zero-add}
use native.Mathlib.Omega.{arith}
use lib.ListN.{set}
use Rattle.dots.specs.Picture.{painted}
use Rattle.dots.proofs.Painting.{painted_next, painted_none}
use Rattle.drawing.specs.Drawing.{length_of}
use Rattle.drawing.proofs.glass.Glass.fill.Goals as goal

-- one more byte from the start
painted_first : (f : ℕ → ℕ) (out : List ℕ) (place : ℕ) {now : List ℕ} {byte : ℕ} → now ≡ painted f 0 place out → byte ≡ f place
    → set now place byte ≡ painted f 0 (place + 1) out
painted_first f out place {now} {byte} was is = rw zero-add at (painted_next f 0 out place byte now was (rw zero-add is))

pub loop-place-init : goal.loop-place-init
loop-place-init c = painted_none _ _ _

pub loop-place-preserved : goal.loop-place-preserved
loop-place-preserved c = painted_first _ _ c.loop-place.place c.loop-place.invariant c.drawn_byte.ensures

pub returns : goal.returns
returns c =
    let all : c.loop-place.place ≡ length_of c.args.form c.args.self.now.grid = omega (arith, c.requires) in
    rw all at c.loop-place.invariant
