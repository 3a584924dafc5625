-- `captures::changes::set_levels` meets its contract. The invariant: the levels are those where every line before this one is changed.
-- Assumes nothing.
use Rattle.std.proofs.Common.{◌≡◌}
use Rattle.captures.specs.Form.{number_of_level, numbers_of}
use Rattle.captures.specs.Falls.{changed}
use Rattle.captures.specs.Walk.{codes_in}
use Rattle.captures.proofs.changes.set_levels.Given as goal

abbrev pub invariant-loop-line : goal.invariant-loop-line
invariant-loop-line l =
    numbers_of l.levels ≡ changed l.line (codes_in l.codes) l.change.code.now (number_of_level l.change.level) (numbers_of l.initial.levels)
