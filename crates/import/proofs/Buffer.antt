-- A buffer has as many bytes as it is made of, told without counting them one by one.
-- Assumes nothing.
use Rattle.std.proofs.Common.{◌≡◌, ℕ, List, length, replicate, sym, ◌∙◌}
use lib.ListN.{length-replicate}

-- when it is made
pub made : (size : ℕ) → size ≡ length (replicate {A = ℕ} size 0)
made size = sym (length-replicate {A = ℕ} size 0)

-- and as long as before when it is written
pub lasts : (size : ℕ) (out : List ℕ) → length out ≡ length (replicate {A = ℕ} size 0) → size ≡ length out
lasts size out same = sym (same ∙ length-replicate {A = ℕ} size 0)
