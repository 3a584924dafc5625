-- `captures::session::lacks_code` meets its contract: each code is asked. Assumes nothing.
use Rattle.std.proofs.Common.{rules, tests, refl}
use Rattle.std.proofs.lemmas.Iterator.{YieldsList-from_slice}
use Rattle.std.proofs.lemmas.Iterator.Search.{any_from_yields_List}
use Rattle.captures.specs.Words.{is_empty}
use Rattle.captures.proofs.Laws.Session.{lacks_tested}
use Rattle.captures.proofs.session.lacks_code.Goals as goal

pub returns : goal.returns
returns c =
    lacks_tested {test = λ code. is_empty code.now} c.args.codes.now
    (any_from_yields_List (λ code. is_empty code.now) _ _ _ c.any.ensures.ran (YieldsList-from_slice c.args.codes.now cc) (λ x b q k. search (rules, tests)))
    (λ code. refl) c.told-codes
