-- `captures::words::word_end` meets its contract: the first place at which a byte is a blank. Assumes nothing.
use Rattle.std.proofs.Common.{not, rules, tests, arith}
use Rattle.std.proofs.lemmas.Iterator.{YieldsList-from_slice}
use Rattle.std.proofs.lemmas.Iterator.Search.{position_from_yields_List}
use Rattle.std.proofs.lemmas.List.Sums.{prefix_len-le-length}
use Rattle.captures.specs.Words.{is_blank}
use Rattle.captures.proofs.words.word_end.Goals as goal

pub returns : goal.returns
returns c =
    let at = position_from_yields_List is_blank _ _ _ c.position.ensures.ran (YieldsList-from_slice c.args.text.now cc) (λ x b q k. search (rules, tests)) in
    let le = prefix_len-le-length (λ x. not (is_blank x)) c.args.text.now in
    grind (arith, at, le, c.unwrap_or.ensures)
