-- `captures::words::place_in` meets its contract: each word is compared, and there are no more of them than bytes. Assumes nothing.
use Rattle.std.proofs.Common.{rules, tests, arith, inl}
use Rattle.std.proofs.lemmas.Iterator.Consumers.{YieldsList-from_first}
use Rattle.std.proofs.lemmas.Iterator.Search.{position_from_yields_List}
use Rattle.captures.specs.declared.words.Words.{Words}
use Rattle.captures.specs.Words.{Word, same, words}
use Rattle.captures.proofs.Laws.Words.{few_words, same_pointwise}
use Rattle.captures.proofs.words.place_in.Goals as goal

pub position-requires-clause-fits : goal.position-requires-clause-fits
position-requires-clause-fits c = let few = few_words c.args.list.now in inl (rw c.words_of.ensures (omega (arith, few)))

pub returns : goal.returns
returns c =
    position_from_yields_List (λ (other : Word). same other c.args.word.now) c.position.new.self _ _ c.position.ensures.ran
    (YieldsList-from_first (λ x. x.now) (λ (w : Words). words w.rest.now) {s = c.words_of.result} _ cc) (λ x b q k. search (rules, tests, same_pointwise))
