-- The bytes of a wish say it, and bytes that say a wish are its bytes.
-- Assumes nothing.
use mathlib.Core.Path.{◌≡◌, refl}
use lib.ListN.{length}
use Rattle.planner.specs.declared.wish.Wish.{Wish}
use Rattle.interface.specs.WishBytes.{wish_as, wish_bytes, wish_from, wish_in}
use Rattle.interface.specs.Theorems.{WishReadsBack, WishWritesBack}
use Rattle.interface.proofs.Laws.Read.{wish_own}
use Rattle.interface.proofs.Laws.Same.{same_refl}
use Rattle.interface.proofs.Theorems.Record.{bit_back, frequency_back}

wish_length : (wish : Wish) → length (wish_bytes wish) ≡ 16
unfolding wish_bytes
wish_length wish = refl

wish_back : (wish : Wish) → wish_from (wish_bytes wish) ≡ wish
unfolding wish_bytes
wish_back wish = simp (bit_back, frequency_back)

pub wish_reads_back : WishReadsBack
unfolding wish_in wish_as
wish_reads_back wish = simp (wish_length wish, wish_back wish, same_refl)

pub wish_writes_back : WishWritesBack
wish_writes_back = wish_own
