-- `drawing::numbers::places` meets its contract: each place has its digit, or a blank.
-- Assumes nothing.
use Prim.Native.Nat.{◌<◌}
use mathlib.Core.Path.{sym, ◌∙◌}
use native.Mathlib.Omega.{arith}
use lib.ListN.{length, length-replicate, length-set}
use lib.Seq.{ext_get_or}
use Rattle.std.proofs.Common.{◌≢◌, below_more, get_or-set_other, get_or-set_same}
use Rattle.drawing.proofs.Laws.Numbers.{places_at, places_long}
use Rattle.drawing.proofs.numbers.places.Goals as goal

pub loop-at-init : goal.loop-at-init
loop-at-init g c = record { long = length-replicate _ _; before = λ k h. absurd (omega arith) }

pub loop-at-preserved : goal.loop-at-preserved
loop-at-preserved g c =
    let within : c.loop-at.at < length c.loop-at.byte-items = omega arith in
    record {
      long = rw length-set c.loop-at.invariant.long;
      before =
          below_more _ _
          (λ k h. let other : k ≢ c.loop-at.at = omega arith in rw get_or-set_other (c.loop-at.invariant.before k h))
          (rw get_or-set_same c.place_of.ensures);
    }

pub returns : goal.returns
returns g c =
    ext_get_or 0 _ _ (c.loop-at.invariant.long ∙ sym (places_long c.args.blank c.args.number g.row.N))
    (λ k h. c.loop-at.invariant.before k (omega arith) ∙ sym (places_at c.args.blank c.args.number g.row.N k (omega arith)))
