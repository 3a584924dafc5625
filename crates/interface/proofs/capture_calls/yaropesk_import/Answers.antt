-- `interface::capture_calls::yaropesk_import` meets its contract: what `import` returns is told as one number.
-- Assumes nothing.
use Rattle.captures.proofs.Theorems.Answers.{import_nothing}
use Rattle.interface.proofs.Laws.Fillings.{far_written_fills}
use Rattle.interface.proofs.capture_calls.yaropesk_import.Goals as goal

pub returns : goal.returns
returns c = far_written_fills _ _ _ (import_nothing c.args.capture.now c.args.out.now) c.import.ensures c.counted_far.ensures
