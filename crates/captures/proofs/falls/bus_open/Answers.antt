-- `captures::falls::bus_open` meets its contract: the eight lines in their order. Assumes nothing.
use Rattle.std.proofs.Common.{◌≡◌, eqb, refl}
use Rattle.captures.specs.contracts.form.LevelPartialEq.TheImpl as levels
use Rattle.captures.specs.declared.form.Level.{Level}
use Rattle.captures.specs.declared.form.Level.TheVariants.{Low, High, Open}
use Rattle.captures.specs.Form.{number_of_level}
use Rattle.captures.proofs.Laws.Levels.{bus_tested}
use Rattle.captures.proofs.falls.bus_open.Goals as goal

is_open : (level : Level) → levels.ghosts.eq level Open ≡ eqb (number_of_level level) 2
is_open Low = refl
is_open High = refl
is_open Open = refl

pub returns : goal.returns
returns c = bus_tested {test = λ level. levels.ghosts.eq level Open} c.args.levels.now c.contains.ensures.value is_open c.told-levels
