-- `captures::definitions::Head::place` meets its contract: the line has the code at hand, and had one already or not. Assumes nothing.
use Rattle.std.proofs.lemmas.List.{map-set}
use Rattle.captures.specs.Definitions.{placed}
use Rattle.captures.proofs.Laws.Definitions.{code_at}
use Rattle.captures.proofs.definitions.Head.place.Goals as goal

pub returns : goal.returns
unfolding placed
returns c =
    let self = c.args.self.now in
    let codes = map-set (λ code. code.now) self.codes c.args.line self.code in
    let own = code_at self.codes c.args.line in
    let had = c.is_empty.ensures in
    cc
