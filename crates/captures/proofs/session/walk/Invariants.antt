-- `captures::session::walk` meets its contract. The invariant: the words that are left, read and told from here, come to what the whole text
-- comes to. Assumes nothing.
use Rattle.std.proofs.Common.{◌≡◌}
use Rattle.captures.specs.Words.{words}
use Rattle.captures.specs.Falls.{blank_scan, scanned_by, falls_from}
use Rattle.captures.specs.Walk.{codes_in, no_tally, scan_in, tally_in, telling, told}
use Rattle.captures.proofs.session.walk.Given as goal

abbrev pub invariant-loop-word : goal.invariant-loop-word
invariant-loop-word l =
    let all = words l.capture.text.now in
    let codes = codes_in l.capture.codes in
    let left = words l.word-iterator.rest.now in
    (goal.iterator-loop-word).can_next l.word-iterator
    × (goal.iterator-loop-word).is_finite l.word-iterator
    × (scanned_by all codes (scan_in l.scan) left ≡ scanned_by all codes blank_scan all)
    × (telling (told (tally_in l.tally) l.out) (falls_from all codes (scan_in l.scan) left)
    ≡ telling (told no_tally l.initial.out) (falls_from all codes blank_scan all))
