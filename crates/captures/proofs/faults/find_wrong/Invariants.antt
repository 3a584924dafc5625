-- `captures::faults::find_wrong` meets its contract. The invariant: the words that are left, searched from here, come to what the whole text
-- comes to, and they lie in the text. Assumes nothing.
use Rattle.std.proofs.Common.{◌≡◌, ◌+◌, ◌≤◌, length}
use Rattle.captures.specs.Words.{words}
use Rattle.captures.specs.Faults.{wrong_from, wrong_in}
use Rattle.captures.specs.Walk.{head_in}
use Rattle.captures.proofs.Laws.Words.{total}
use Rattle.captures.proofs.faults.find_wrong.Given as goal

abbrev pub invariant-loop-word : goal.invariant-loop-word
invariant-loop-word l =
    let text = l.capture.text.now in
    let left = words l.word-iterator.rest.now in
    (goal.iterator-loop-word).can_next l.word-iterator
    × (goal.iterator-loop-word).is_finite l.word-iterator
    × (wrong_from (words text) (head_in l.head) l.place left ≡ wrong_in text)
    × (l.place + total left ≤ length text + 1)
    × (length text ≤ 9223372036854775807)
