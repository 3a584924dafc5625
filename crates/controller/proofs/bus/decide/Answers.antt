-- `controller::bus::decide` meets its contract: a sound record with a whole memory is ready for the rules after the wait.
-- Assumes nothing.
use Rattle.controller.proofs.Laws.Record.{ready, waited_sound}
use mathlib.Core.Path.{sym, ◌∙◌}
use Rattle.controller.proofs.bus.decide.Goals as goal

pub decide_later-requires : goal.decide_later-requires
decide_later-requires c =
    rw c.waited.ensures (ready _ (waited_sound _ _ (sym c.is_sound.ensures ∙ c.if-not-is_sound.false)))
