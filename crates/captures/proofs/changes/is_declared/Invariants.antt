-- `captures::changes::is_declared` meets its contract. The invariant: the words that are left, from the phase at hand, declare the code just
-- where the whole text does. Assumes nothing.
use Rattle.std.proofs.Common.{◌≡◌, false}
use Rattle.captures.specs.declared.form.Phase.TheVariants.{Section}
use Rattle.captures.specs.Words.{words}
use Rattle.captures.specs.Definitions.{declares}
use Rattle.captures.proofs.changes.is_declared.Given as goal

abbrev pub invariant-loop-word : goal.invariant-loop-word
invariant-loop-word l =
    (goal.iterator-loop-word).can_next l.word-iterator
    × (goal.iterator-loop-word).is_finite l.word-iterator
    × (declares l.phase (words l.word-iterator.rest.now) l.code ≡ declares (Section false) (words l.text) l.code)
