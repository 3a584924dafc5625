-- What each public function promises: the one predicate that its contract cites.
-- Assumes nothing.
use Rattle.std.specs.Prelude.{Bool, List, ℕ, Result}
use Rattle.controller.specs.declared.answers.Answer.{Answer}
use Rattle.controller.specs.declared.«record».Record.{Record}
use Rattle.dots.specs.declared.panel.Profile.{Profile}
use Rattle.drawing.specs.declared.drawing.Form.{Form}
use Rattle.drawing.specs.Drawing.{DrawReturns}

-- `draw`: the drawing's length or the refusal, and every byte of the output.
abbrev pub DrawPromise : Form → Record → List ℕ → Profile → Bool → List ℕ → Result ℕ Answer → List ℕ → Type 0
DrawPromise form rec mem profile lit out returned after = DrawReturns form rec mem profile lit out returned after
