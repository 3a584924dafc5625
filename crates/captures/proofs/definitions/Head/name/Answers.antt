-- `captures::definitions::Head::name` meets its contract: a needed name has a line, any other has none. Assumes nothing.
use Rattle.std.proofs.Common.{sym, ◌∙◌}
use Rattle.captures.specs.Walk.{head_in}
use Rattle.captures.proofs.Laws.Definitions.{name_line, name_other}
use Rattle.captures.proofs.definitions.Head.name.Goals as goal

pub place-requires : goal.place-requires
place-requires c = (name_line (head_in c.args.self.now) c.args.name.now _ (sym c.in-Some.is ∙ c.line_of.ensures)).0

pub returns-in-Some : goal.returns-in-Some
returns-in-Some c = c.place.ensures ∙ (name_line (head_in c.args.self.now) c.args.name.now _ (sym c.in-Some.is ∙ c.line_of.ensures)).1

pub returns-in_default : goal.returns-in_default
returns-in_default c = name_other (head_in c.args.self.now) c.args.name.now (sym c.in_default.is ∙ c.line_of.ensures)
