-- `interface::controller_calls::reset_from` meets its contract: what the reset tells is what is left and returned.
-- Assumes nothing.
use Rattle.interface.proofs.Laws.Calls.{reset_meets}
use Rattle.interface.proofs.controller_calls.reset_from.Goals as goal

pub returns : goal.returns
returns c =
    let sent = c in
    reset_meets _ _ _ _ sent.record_from.ensures sent.reset.ensures c.leave.ensures
