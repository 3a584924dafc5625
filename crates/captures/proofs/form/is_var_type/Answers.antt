-- `captures::form::is_var_type` meets its contract: the word is one of the list. Assumes nothing.
use Rattle.std.proofs.Common.{ap, ◌∙◌}
use Rattle.std.specs.Option.{is_some}
use Rattle.lines.specs.Text.{bytes_of}
use Rattle.captures.specs.Form.{is_var_type}
use Rattle.captures.specs.Words.{words}
use Rattle.captures.proofs.Laws.Words.{is_some_position}
use Rattle.captures.proofs.form.is_var_type.Goals as goal

pub returns : goal.returns
unfolding is_var_type
returns c = c.is_some.ensures ∙ ap is_some c.place_in.ensures ∙ is_some_position (words (bytes_of "event integer parameter reg supply0 supply1 time tri triand trior trireg tri0 tri1 wand wire wor")) c.args.word.now
