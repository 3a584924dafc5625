-- `captures::changes::Capture::change_short` meets its contract: the one line that a code serves, a code that serves none, and
-- what the table does not tell. Assumes nothing.
use Rattle.std.proofs.Common.{◌<◌, set, sym, refl, ap, ◌∙◌, arith}
use Rattle.std.proofs.lemmas.List.{map-set}
use Rattle.captures.specs.Form.{number_of_level, numbers_of}
use Rattle.captures.specs.Table.{entry_of}
use Rattle.captures.specs.Walk.{scan_in, with_levels}
use Rattle.captures.proofs.Laws.Told.{is_told, untold_phase, untold_word, untold_entry, set_one, set_none, ends_none}
use Rattle.captures.proofs.changes.Capture.change_short.Goals as goal

pub returns-then-not-changes_come : goal.returns-then-not-changes_come
returns-then-not-changes_come c =
    (untold_phase _ _ _ c.if-not-changes_come.ensures, refl)

pub returns-in_default : goal.returns-in_default
returns-in_default c =
    (untold_word _ _ _ c.if-not-changes_come.ensures c.in_default.ensures, refl)

pub returns-in-Line : goal.returns-in-Line
returns-in-Line c =
    let known = c.args.self.now.known in
    let scan = scan_in c.args.scan.now in
    let says = c.in-Some.ensures in
    let comes = sym c.changes_come.ensures ∙ c.if-not-changes_come.false in
    let line = sym c.in-Line.ensures.0 ∙ ap (entry_of c.args.self.now.table.now) says.of in
    let small : c.in-Line.line < 12 = omega (arith, c.in-Line.ensures.1) in
    let levels = map-set number_of_level c.args.scan.now.levels c.in-Line.line c.in-Some.change.level
    ∙ ap (set (numbers_of c.args.scan.now.levels) c.in-Line.line) says.sets in (
      is_told _ _ _ known scan c.args.word.now _ comes says.is_one line small,
      (
        ap (with_levels scan) levels ∙ set_one _ _ _ known scan c.args.word.now _ comes says.is_one line small c.in-Line.ensures.1,
        ends_none _ _ _ known scan c.args.word.now _ comes says.is_one line small,
      ),
    )

pub returns-in-Spare : goal.returns-in-Spare
returns-in-Spare c =
    let known = c.args.self.now.known in
    let scan = scan_in c.args.scan.now in
    let says = c.in-Some.ensures in
    let comes = sym c.changes_come.ensures ∙ c.if-not-changes_come.false in
    let line = ap (entry_of c.args.self.now.table.now) says.of in
    let small : entry_of c.args.self.now.table.now c.in-Some.change.code.now < 12 = omega (arith, c.in-Spare.ensures) in (
      is_told _ _ _ known scan c.args.word.now _ comes says.is_one line small,
      (
        set_none _ _ _ known scan c.args.word.now _ comes says.is_one line small c.in-Spare.ensures,
        ends_none _ _ _ known scan c.args.word.now _ comes says.is_one line small,
      ),
    )

pub returns-in-Unknown : goal.returns-in-Unknown
returns-in-Unknown c =
    let says = c.in-Some.ensures in
    let entry = ap (entry_of c.args.self.now.table.now) says.of in
    (untold_entry _ _ _ _ _ c.if-not-changes_come.ensures says.is_one entry c.entry_of.ensures c.in-Unknown.is, refl)
