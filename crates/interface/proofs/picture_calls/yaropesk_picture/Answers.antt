-- `interface::picture_calls::yaropesk_picture` meets its contract: bytes that say no record are told 1, and else the picture is
-- of the record that they say.
-- Assumes nothing.
use Rattle.interface.specs.PictureCalls.{picture_from}
use mathlib.Core.Path.{sym, ◌∙◌}
use borrow.Author.Rules.{rules}
use Rattle.interface.proofs.picture_calls.yaropesk_picture.Goals as goal

pub returns-in-None : goal.returns-in-None
unfolding picture_from
returns-in-None c = simp (c.refused.ensures, sym c.read_record.ensures ∙ c.in-None.is) (search rules)

pub returns-in-Some : goal.returns-in-Some
unfolding picture_from
returns-in-Some c =
    let found = c in
    rw (sym found.read_record.ensures ∙ found.in-Some.is, sym c.profile_of.ensures) (search rules)
