-- `captures::faults::find_unknown` meets its contract. The invariant: the words that are left, searched from here, come to what the whole text
-- comes to, and they lie in the text. Assumes nothing.
use Rattle.std.proofs.Common.{◌≡◌, ◌+◌, ◌≤◌, length}
use Rattle.captures.specs.Words.{words}
use Rattle.captures.specs.Falls.{blank_scan}
use Rattle.captures.specs.Faults.{unknown_from}
use Rattle.captures.specs.Walk.{codes_in, scan_in}
use Rattle.captures.proofs.Laws.Words.{total}
use Rattle.captures.proofs.faults.find_unknown.Given as goal

abbrev pub invariant-loop-word : goal.invariant-loop-word
invariant-loop-word l =
    let text = l.capture.text.now in
    let codes = codes_in l.capture.codes in
    let left = words l.word-iterator.rest.now in
    (goal.iterator-loop-word).can_next l.word-iterator
    × (goal.iterator-loop-word).is_finite l.word-iterator
    × (unknown_from (words text) codes (scan_in l.scan) l.at l.place left ≡ unknown_from (words text) codes blank_scan 0 0 (words text))
    × (l.place + total left ≤ length text + 1)
    × (length text ≤ 9223372036854775807)
