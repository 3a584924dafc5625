-- `import::write_session`: its buffer has as many bytes as it is made of. Assumes nothing.
use Rattle.import.proofs.Buffer.{made, lasts}
use Rattle.import.proofs.write_session.Goals as goal

pub slice_bounds-import-end : goal.slice_bounds-import-end
slice_bounds-import-end c = made 2796216

pub slice_bounds-first-end : goal.slice_bounds-first-end
slice_bounds-first-end c = lasts 2796216 _ c.import.auto.out
