-- The measure of `lines::fields::put_decimal` is the number.
-- Assumes nothing.
use Rattle.lines.proofs.fields.+put_decimal.Given as goal

abbrev pub decreases-put_decimal : goal.decreases-put_decimal
decreases-put_decimal l = l.number
