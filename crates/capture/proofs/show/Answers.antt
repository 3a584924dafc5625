-- `capture::show` meets its contract: its buffer has nine bytes for each byte of the longest session, and 291 more.
-- Assumes nothing.
use mathlib.Core.Path.{sym, ◌∙◌}
use Prim.Native.Nat.{ℕ, ◌+◌, ◌*◌, ◌≤◌}
use native.Mathlib.Omega.{arith}
use lib.ListN.{length, replicate, length-replicate}
use Rattle.capture.proofs.show.Goals as goal

-- a buffer of that many bytes
serves : (size n : ℕ) → 9 * n + 291 ≤ size → 9 * n + 291 ≤ length (replicate {A = ℕ} size 0)
serves size n enough = omega (arith, length-replicate {A = ℕ} size 0)

limit : (n : ℕ) → n ≤ 65536 → 9 * n + 291 ≤ 590115
limit n short = omega arith

pub slice_bounds-write_capture-end : goal.slice_bounds-write_capture-end
slice_bounds-write_capture-end c = sym (length-replicate {A = ℕ} 590115 0)

pub write_capture-requires : goal.write_capture-requires
write_capture-requires c = serves _ _ (limit _ c.requires)

pub slice_bounds-first-end : goal.slice_bounds-first-end
slice_bounds-first-end c = sym (c.write_capture.auto.out ∙ length-replicate {A = ℕ} 590115 0)
