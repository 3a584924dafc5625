-- `interface::controller_calls::transfer_from` meets its contract: what the transfer tells is what is left and returned.
-- Assumes nothing.
use Rattle.interface.proofs.Laws.Calls.{left_meets}
use Rattle.interface.proofs.controller_calls.transfer_from.Goals as goal

pub returns : goal.returns
returns c =
    let sent = c.transfer.ensures in
    left_meets _ _ _ sent.told c.leave.ensures sent.memory
