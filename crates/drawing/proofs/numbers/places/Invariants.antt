-- `drawing::numbers::places` meets its contract. Invariant: the places before `at` are those of the number.
-- Assumes nothing.
use Prim.Native.Nat.{ℕ, ◌-◌, ◌<◌}
use mathlib.Core.Path.{◌≡◌}
use lib.ListN.{get_or, length}
use Rattle.drawing.specs.Numbers.{place_of}
use Rattle.drawing.proofs.numbers.places.Given as goal

abbrev pub invariant-loop-at : goal.invariant-loop-at
invariant-loop-at g l =
    record {
      long : length l.byte-items ≡ g.row.N;
      before : (k : ℕ) → k < l.at → get_or l.byte-items k 0 ≡ place_of l.blank l.number (g.row.N - 1 - k);
    }
