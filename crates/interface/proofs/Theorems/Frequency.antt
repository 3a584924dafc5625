-- Where the frequency stands in a record's and in a wish's bytes, and what reset leaves there.
-- Assumes nothing.
use mathlib.Core.List.{List}
use mathlib.Core.Path.{◌≡◌, refl, sym, ap, ◌∙◌}
use Prim.Native.Nat.{ℕ}
use native.Mathlib.Nat.{mod-add-div}
use native.Mathlib.Omega.{arith}
use lib.ListN.{length, get_or}
use borrow.Author.Tests.{eq-eqb}
use Rattle.controller.proofs.Theorems.Times.{reset_frequency}
use Rattle.controller.specs.Bus.{reset_decided, whole}
use Rattle.interface.specs.ControllerCalls.{reset_call}
use Rattle.interface.specs.RecordBytes.{high_byte, low_byte, record_bytes, record_from}
use Rattle.interface.specs.Theorems.{FrequencySaid, ResetLeavesFrequency, says_khz}
use Rattle.interface.specs.WishBytes.{wish_bytes}
use Rattle.interface.proofs.Laws.Read.{read_own, wish_own}

pub frequency_said : FrequencySaid
unfolding record_bytes wish_bytes
frequency_said =
    record {
      record_says = λ bytes rec is. sym (mod-add-div rec.frequency.khz 256) ∙ ap (λ (l : List ℕ). says_khz l 20 21) (read_own bytes rec is);
      wish_says = λ bytes wish is. sym (mod-add-div wish.frequency.khz 256) ∙ ap (λ (l : List ℕ). says_khz l 9 10) (wish_own bytes wish is);
    }

-- the bytes that reset leaves are those of the frequency that it leaves
left_says : (bytes mem : List ℕ) → length bytes ≡ 24 → length mem ≡ 144
    → (get_or (reset_call bytes mem).rec 20 0 ≡ low_byte (reset_decided (record_from bytes) mem).rec.frequency)
    × (get_or (reset_call bytes mem).rec 21 0 ≡ high_byte (reset_decided (record_from bytes) mem).rec.frequency)
unfolding reset_call whole record_bytes
left_says bytes mem long big = rw (eq-eqb (length bytes) 24 long, eq-eqb (length mem) 144 big) (refl, refl)

pub reset_leaves_frequency : ResetLeavesFrequency
unfolding record_from
reset_leaves_frequency bytes mem long big is_byte_lem =
    let rule = reset_frequency (record_from bytes) mem big in
    let left = left_says bytes mem long big in
    record {
      kept = λ low high.
          let same = rule.kept (record { low = low; high = high }) in (
            left.0 ∙ ap low_byte same ∙ omega arith,
            left.1 ∙ ap high_byte same ∙ omega arith,
          );
      put = λ out.
          let same = rule.put out in
          (left.0 ∙ omega arith, left.1 ∙ omega arith);
    }
