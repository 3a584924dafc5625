-- `captures::table::serve_lines` meets its contract: a line more. Assumes nothing.
use Rattle.std.proofs.Common.{◌≡◌, ℕ, ◌+◌, List, set, sym, ap, ◌∙◌, subst, arith}
use Rattle.captures.specs.Words.{Word, words}
use Rattle.captures.specs.Table.{Tabled, entry_of, place_of, with_line}
use Rattle.captures.specs.Walk.{codes_in}
use Rattle.captures.proofs.Laws.Definitions.{code_at}
use Rattle.captures.proofs.Laws.Table.{table_codes, table_line}
use Rattle.captures.proofs.table.serve_lines.Goals as goal

pub loop-line-init : goal.loop-line-init
loop-line-init c = table_codes _ _ _ (codes_in c.args.codes.now) c.requires

pub loop-line-preserved : goal.loop-line-preserved
loop-line-preserved c =
    let loop = c.loop-line in
    let own = code_at c.args.codes.now loop.line in
    let stored = c.serve.ensures ∙ ap (λ (w : Word). set loop.table (place_of w) (with_line (entry_of loop.table w) loop.line)) (sym own) in
    subst (λ (t : List ℕ). Tabled t (words c.args.text.now) (codes_in c.args.codes.now) (loop.line + 1)) (sym stored)
    (table_line loop.table _ (codes_in c.args.codes.now) loop.line c.loop-line-test.true loop.invariant)

pub returns : goal.returns
returns c =
    let loop = c.loop-line in
    let eleven : loop.line ≡ 11 = omega arith in
    subst (Tabled loop.table (words c.args.text.now) (codes_in c.args.codes.now)) eleven loop.invariant
