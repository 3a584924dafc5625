-- Laws of halves: the two halves of a byte make it again, and a record with no half is itself with its half gone.
-- Assumes nothing.
use mathlib.Core.Path.{◌≡◌, sym, ap}
use Prim.Native.Nat.{ℕ, ◌/◌}
use native.Mathlib.Omega.{arith}
use Rattle.controller.specs.declared.«record».Half.{Half}
use Rattle.controller.specs.declared.«record».Half.TheVariants.{Empty}
use Rattle.controller.specs.declared.«record».Record.{Record}
use Rattle.controller.specs.Halves.{high_half, low_half, whole_byte}
use Rattle.controller.specs.Record.{with_half}

pub high_of : (byte : ℕ) → high_half byte / 16 ≡ byte / 16
high_of byte = omega arith

pub whole_of : (byte : ℕ) → whole_byte (byte / 16) (low_half byte) ≡ byte
whole_of byte = omega arith

pub without : (rec : Record) → rec.half ≡ Empty → with_half Empty rec ≡ rec
without rec none = ap (λ (half : Half). with_half half rec) (sym none)
