-- `captures::changes::Capture::scan_word` meets its contract: a word of the definitions, a stamp, a change and any other, each by its law.
-- Assumes nothing.
use Rattle.std.proofs.Common.{drop, sym, ap, ◌∙◌}
use Rattle.captures.specs.declared.form.Phase.{Phase}
use Rattle.captures.specs.Words.{Word, words}
use Rattle.captures.specs.Falls.{altered, in_phase}
use Rattle.captures.specs.Form.{number_of_level}
use Rattle.captures.specs.Walk.{codes_in, scan_in}
use Rattle.captures.proofs.Laws.Falls.{scan_early, scan_stamp, scan_change, scan_rest}
use Rattle.captures.proofs.changes.Capture.scan_word.Goals as goal

pub returns-then-not-changes_come : goal.returns-then-not-changes_come
returns-then-not-changes_come c =
    scan_early _ _ (scan_in c.args.scan) c.args.word.now _ (ap (λ (p : Phase). in_phase p (scan_in c.args.scan)) c.pass_stamp.ensures)
    (sym c.changes_come.ensures ∙ c.if-not-changes_come.true)

pub returns-in-Some : goal.returns-in-Some
returns-in-Some c =
    let goes = ap (λ (p : Phase). in_phase p (scan_in c.args.scan)) c.pass_stamp.ensures in
    c.at_stamp.ensures
    ∙ scan_stamp _ _ (scan_in c.args.scan) c.args.word.now _ goes _ (sym c.changes_come.ensures ∙ c.if-not-changes_come.false) (sym c.in-Some.is ∙ c.requires)

pub returns-in-Some-change_of : goal.returns-in-Some-change_of
returns-in-Some-change_of c =
    let goes = ap (λ (p : Phase). in_phase p (scan_in c.args.scan)) c.pass_stamp.ensures in
    let says = c.in-Some-change_of.ensures in
    let all = words c.args.self.now.text.now in
    let codes = codes_in c.args.self.now.codes in
    c.alter.ensures
    ∙ ap (λ (w : Word). altered all codes (in_phase c.pass_stamp.result (scan_in c.args.scan)) w (number_of_level c.in-Some-change_of.change.level)) says.of
    ∙ ap (altered all codes (in_phase c.pass_stamp.result (scan_in c.args.scan)) (drop 1 c.args.word.now)) says.sets
    ∙ scan_change all codes (scan_in c.args.scan) c.args.word.now _ goes (sym c.changes_come.ensures ∙ c.if-not-changes_come.false)
    (sym c.in_default.is ∙ c.requires) says.is_one

pub returns-in_default-change_of : goal.returns-in_default-change_of
returns-in_default-change_of c =
    let goes = ap (λ (p : Phase). in_phase p (scan_in c.args.scan)) c.pass_stamp.ensures in
    scan_rest _ _ (scan_in c.args.scan) c.args.word.now _ goes (sym c.changes_come.ensures ∙ c.if-not-changes_come.false)
    (sym c.in_default.is ∙ c.requires) c.in_default-change_of.ensures
