-- `lines::fields::put_kind_field` meets its contract: two stores, one after the other, are the field.
-- Assumes nothing.
use Rattle.lines.specs.Line.{kind_field}
use mathlib.Core.Path.{refl}
use native.Mathlib.Numerals.{add-one}
use Rattle.lines.proofs.fields.put_kind_field.Goals as goal

pub returns : goal.returns
unfolding kind_field
returns c = (refl, simp (c.letter_for.ensures, add-one))
