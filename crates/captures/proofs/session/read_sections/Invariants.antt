-- `captures::session::read_sections` meets its contract. The invariant: what the table has noted is declared, a code that the words that are
-- left declare is declared, and those words, read from here, come to the definitions of the whole text. Assumes nothing.
use Rattle.std.proofs.Common.{◌≡◌, false, true, []}
use Rattle.captures.specs.declared.form.Phase.TheVariants.{Section}
use Rattle.captures.specs.Words.{Word, words}
use Rattle.captures.specs.Definitions.{blank_head, defined_by, declares}
use Rattle.captures.specs.Table.{Tabled}
use Rattle.captures.specs.Walk.{head_in}
use Rattle.captures.proofs.session.read_sections.Given as goal

abbrev pub invariant-loop-word : goal.invariant-loop-word
invariant-loop-word l =
    let all = words l.text in
    let left = words l.word-iterator.rest.now in
    (goal.iterator-loop-word).can_next l.word-iterator
    × (goal.iterator-loop-word).is_finite l.word-iterator
    × Tabled l.table all [] 0
    × ((code : Word) → declares l.head.phase left code ≡ true → declares (Section false) all code ≡ true)
    × (defined_by (head_in l.head) left ≡ defined_by blank_head all)
