-- `capture::write_capture` meets its contract: a buffer of that size is never too short. Assumes nothing.
use Rattle.std.proofs.Common.{ap, ◌∙◌}
use Rattle.lines.specs.Writing.{answer_in}
use Rattle.lines.proofs.Laws.Told.{answer_told}
use Rattle.captures.proofs.Theorems.Capture.{capture_ends}
use Rattle.capture.proofs.write_capture.Goals as goal

pub returns : goal.returns
returns c =
    ap answer_in c.capture.ensures.told ∙ answer_told _ ∙ capture_ends c.args.text.now c.args.out.now c.requires
