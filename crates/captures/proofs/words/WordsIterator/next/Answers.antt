-- `captures::words::Words::next` meets its contract: the first word of the text that is left, and the words behind it. Assumes nothing.
use Rattle.std.proofs.Common.{rules, ◌≡◌, ◌<◌, ◌∷◌, not, length, take, arith}
use Rattle.std.proofs.lemmas.List.Sums.{prefix_len-le-length}
use Rattle.captures.specs.Words.{is_blank, words}
use Rattle.captures.proofs.Laws.Words.{first_word, words_over}
use Rattle.captures.proofs.words.WordsIterator.next.Goals as goal

pub returns-then-is_empty-clause-steps : goal.returns-then-is_empty-clause-steps
returns-then-is_empty-clause-steps c = let none = words_over 0 c.args.self.now.rest.now (search rules) in (none, none)

pub overflow_add-end : goal.overflow_add-end
overflow_add-end c = let le = prefix_len-le-length (λ x. not (is_blank x)) c.args.self.now.rest.now in grind (arith, le, c.word_end-end.ensures)

pub returns-clause-steps : goal.returns-clause-steps
returns-clause-steps c = rw (c.behind-self.ensures, c.word_end-end.ensures) (first_word c.args.self.now.rest.now (search rules))

pub returns-clause-goes : goal.returns-clause-goes
returns-clause-goes c =
    let all : words c.args.self.now.rest.now ≡ take c.word_end-end.result c.args.self.now.rest.now ∷ words c.behind-self.result.now
    = rw (c.behind-self.ensures, c.word_end-end.ensures) (first_word c.args.self.now.rest.now (search rules)) in
    let less : length (words c.behind-self.result.now) < length (words c.args.self.now.rest.now) = rw all (omega arith) in
    search (rules, less)
