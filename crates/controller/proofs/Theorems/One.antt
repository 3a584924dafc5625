-- No second answer fits: what two equations with one side in common leave of two answers.
-- Assumes nothing.
use mathlib.Core.Path.{◌≡◌, sym, ◌∙◌}
use Rattle.controller.specs.Theorems.{OneTransfer, OneReset, OneTransferIn, OneSoundness, OneNumber, OneLineLength, OneShortTime, OneLongTime}

-- two things that are both what was promised are one
pub one : {A : Type 0} (promised a b : A) → a ≡ promised → b ≡ promised → a ≡ b
one promised a b is also = is ∙ sym also

pub one_transfer : OneTransfer
one_transfer rec mem kind byte wait a b x y is also =
    (one _ a b is.told also.told, one _ x y is.memory also.memory)

pub one_reset : OneReset
one_reset rec mem a b x y is also = (one _ a b is.told also.told, one _ x y is.memory also.memory)

pub one_transfer_in : OneTransferIn
one_transfer_in rec mem kind byte wait a b u v x y is also =
    (one _ a b is.told also.told, one _ u v is.left also.left, one _ x y is.memory also.memory)

pub one_soundness : OneSoundness
one_soundness rec a b is also = one _ a b is also

pub one_number : OneNumber
one_number answer a b is also = one _ a b is also

pub one_line_length : OneLineLength
one_line_length n a b is also = one _ a b is also

pub one_short_time : OneShortTime
one_short_time frequency a b is also = one _ a b is also

pub one_long_time : OneLongTime
one_long_time frequency a b is also = one _ a b is also
