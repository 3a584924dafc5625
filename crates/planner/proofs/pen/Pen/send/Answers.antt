-- `planner::pen::Pen::send` meets its contract: the second record stands behind the first, and the two are the halves of
-- one command.
-- Assumes nothing.
use Rattle.planner.proofs.Laws.Written.{record_after}
use Rattle.controller.specs.Kind.{kind_number}
use Rattle.controller.specs.Sent.{six_bytes}
use Rattle.planner.specs.Plan.{Command, first_sent, second_sent, in_halves, encoded}
use Rattle.planner.specs.Pen.{time_after}
use lib.Seq.{sets}
use mathlib.Core.Path.{refl, ap, ◌∙◌}
use mathlib.Core.List.{List, [], ◌∷◌}
use Prim.Native.Nat.{ℕ, ◌+◌, ◌*◌}
use Rattle.planner.proofs.pen.Pen.send.Goals as goal

pub returns : goal.returns
unfolding in_halves time_after encoded
returns c =
    let start = c.args in
    let pen = start.self.now in
    let command : Command = record { kind = kind_number start.kind; byte = start.byte } in
    record {
      at = refl;
      wait = c.time_of.ensures;
      times = refl;
      buffer =
          rw c.sent-2.ensures at c.put-2.ensures
          ∙ ap (λ (l : List ℕ). sets l ((pen.at + 1) * 6) (six_bytes (second_sent command))) (rw c.sent.ensures at c.put.ensures)
          ∙ record_after start.out.now pen.at (first_sent pen.wait command ∷ []) (second_sent command) (pen.at + 1) refl;
    }
