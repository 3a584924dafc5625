-- `captures::form::is_scope_kind` meets its contract: the word is one of the list. Assumes nothing.
use Rattle.std.proofs.Common.{ap, ◌∙◌}
use Rattle.std.specs.Option.{is_some}
use Rattle.lines.specs.Text.{bytes_of}
use Rattle.captures.specs.Form.{is_scope_kind}
use Rattle.captures.specs.Words.{words}
use Rattle.captures.proofs.Laws.Words.{is_some_position}
use Rattle.captures.proofs.form.is_scope_kind.Goals as goal

pub returns : goal.returns
unfolding is_scope_kind
returns c = c.is_some.ensures ∙ ap is_some c.place_in.ensures ∙ is_some_position (words (bytes_of "module task function begin fork")) c.args.word.now
