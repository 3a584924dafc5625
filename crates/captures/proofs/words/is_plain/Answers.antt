-- `captures::words::is_plain` meets its contract: each byte is tested. Assumes nothing.
use Rattle.std.proofs.Common.{sym, ◌∙◌, rules, tests}
use Rattle.std.proofs.lemmas.Iterator.{YieldsList-from_slice}
use Rattle.std.proofs.lemmas.Iterator.Search.{all_from_yields_List}
use Rattle.lines.specs.Digits.{between}
use Rattle.captures.proofs.Laws.Words.{plain_all}
use Rattle.captures.proofs.words.is_plain.Goals as goal

pub returns : goal.returns
returns c =
    all_from_yields_List (between 0x21 0x7E) _ _ _ c.all.ensures.ran (YieldsList-from_slice c.args.word.now cc) (λ x b q k. search (rules, tests))
    ∙ sym (plain_all c.args.word.now)
