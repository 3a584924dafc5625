-- `controller::decision::blank` meets its contract: what is filled is the first 80 bytes, and a byte's clone is the byte.
-- Assumes nothing.
use Rattle.std.proofs.lemmas.List.{length-take-le}
use Rattle.controller.specs.Decision.{blanked}
use Rattle.controller.proofs.decision.blank.Goals as goal

pub returns : goal.returns
unfolding blanked
returns c = simp (c.fill.ensures.after (λ y is. is), length-take-le 80 c.args.memory.now c.requires)
