-- `import::run`: its buffer has as many bytes as it is made of. Assumes nothing.
use Rattle.import.proofs.Buffer.{made, lasts}
use Rattle.import.proofs.run.Goals as goal

pub slice_bounds-read_input-end : goal.slice_bounds-read_input-end
slice_bounds-read_input-end c = made 2097153

pub slice_bounds-first-end : goal.slice_bounds-first-end
slice_bounds-first-end c = lasts 2097153 _ c.read_input.auto.input
