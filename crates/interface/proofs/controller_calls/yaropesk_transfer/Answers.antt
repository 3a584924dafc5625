-- `interface::controller_calls::yaropesk_transfer` meets its contract: bytes that say no record are told 1; those that say one
-- are 24, so that the record left fits.
-- Assumes nothing.
use Rattle.interface.specs.ControllerCalls.{transfer_from}
use Rattle.interface.proofs.Laws.Read.{read_length}
use mathlib.Core.Path.{sym, ◌∙◌}
use borrow.Author.Rules.{rules}
use Rattle.interface.proofs.controller_calls.yaropesk_transfer.Goals as goal

pub transfer_from-requires : goal.transfer_from-requires
transfer_from-requires c = read_length _ _ (sym c.read_record.ensures ∙ c.in-Some.is)

pub returns-in-None : goal.returns-in-None
unfolding transfer_from
returns-in-None c = simp (c.refused.ensures, sym c.read_record.ensures ∙ c.in-None.is) (search rules)

pub returns-in-Some : goal.returns-in-Some
unfolding transfer_from
returns-in-Some c = simp (sym c.read_record.ensures ∙ c.in-Some.is) (search rules)
