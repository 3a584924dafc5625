-- `captures::faults::fall_unknown` meets its contract: E falls where a stamp ends, with x or z on a needed line. Assumes nothing.
use Rattle.std.proofs.Common.{◌≡◌, Some, true, ◌&&◌, sym, ap, ◌∙◌}
use Rattle.captures.specs.Faults.{falls_unknown, unknown_of, unknown_told}
use Rattle.captures.specs.Walk.{scan_in}
use Rattle.captures.proofs.Laws.Faults.{levels_told}
use Rattle.captures.proofs.faults.fall_unknown.Goals as goal

pub returns-in-Some : goal.returns-in-Some
returns-in-Some c =
    let scan = scan_in c.args.scan.now in
    let found : (c.args.ended && falls_unknown scan) ≡ true =
    simp (c.if-ended.true, c.in-Some.ensures.0, sym c.unknown_at.ensures ∙ c.if-unknown_at.true) in
    (λ i. Some (record { place = c.args.place; stamp = c.in-Some.ensures.1 i; levels = levels_told c.args.scan.now.levels i }))
    ∙ sym (ap (λ b. unknown_told (unknown_of b scan c.args.place)) found)
