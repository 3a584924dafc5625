-- Laws of the bytes that say a record or a wish.
-- Assumes nothing.
use mathlib.Core.Bool.{cond}
use mathlib.Core.List.{List}
use mathlib.Core.Path.{◌≡◌, sym, ap, ◌∙◌}
use Prim.Native.Nat.{ℕ}
use native.Mathlib.Omega.{arith}
use lib.Dec.{eqb}
use lib.ListN.{length}
use borrow.Author.Tests.{eqb-true}
use Rattle.controller.specs.declared.«record».Record.{Record}
use Rattle.planner.specs.declared.wish.Wish.{Wish}
use Rattle.std.specs.Prelude.{Some, None}
use Rattle.lines.proofs.Laws.Digits.{either}
use Rattle.interface.specs.RecordBytes.{record_bytes, record_from, record_in, record_as, same_bytes}
use Rattle.interface.specs.WishBytes.{wish_as, wish_bytes, wish_from, wish_in}
use Rattle.interface.proofs.Laws.Same.{same_eq}

-- bytes of the right length that say a thing are its own
said : {A : Type 0} (own : A → List ℕ) (size : ℕ) (bytes : List ℕ) (found a : A)
    → cond (eqb (length bytes) size) (cond (same_bytes bytes (own found)) (Some found) None) None ≡ Some a
    → (length bytes ≡ size) × (own a ≡ bytes)
said own size bytes found a h =
    either (eqb (length bytes) size)
    (λ long. either (same_bytes bytes (own found))
    (λ same.
    let one = simp (long, same) at h in
    let is : found ≡ a = cc in
    (eqb-true (length bytes) size long, ap own (sym is) ∙ sym (same_eq bytes (own found) same)))
    (λ other. let none = simp (long, other) at h in let z : ◌≡◌ {A = ℕ} 0 1 = cc in absurd (omega arith)))
    (λ short. let none = simp short at h in let z : ◌≡◌ {A = ℕ} 0 1 = cc in absurd (omega arith))

record_said : (bytes : List ℕ) (rec : Record) → record_in bytes ≡ Some rec → (length bytes ≡ 24) × (record_bytes rec ≡ bytes)
unfolding record_in record_as
record_said bytes = said record_bytes 24 bytes (record_from bytes)

pub read_length : (bytes : List ℕ) (rec : Record) → record_in bytes ≡ Some rec → length bytes ≡ 24
read_length bytes rec h = (record_said bytes rec h).0

pub read_own : (bytes : List ℕ) (rec : Record) → record_in bytes ≡ Some rec → record_bytes rec ≡ bytes
read_own bytes rec h = (record_said bytes rec h).1

pub wish_own : (bytes : List ℕ) (wish : Wish) → wish_in bytes ≡ Some wish → wish_bytes wish ≡ bytes
unfolding wish_in wish_as
wish_own bytes wish h = (said wish_bytes 16 bytes (wish_from bytes) wish h).1
