-- What each public function promises: the one predicate that its contract cites.
-- Assumes nothing.
use Rattle.std.specs.Prelude.{Bool, List, ◌≡◌, ℕ, Option, Result, ⊤}
use Rattle.controller.specs.declared.answers.Answer.{Answer}
use Rattle.controller.specs.declared.«record».Function.{Function}
use Rattle.controller.specs.declared.«record».Record.{Record}
use Rattle.dots.specs.declared.panel.Profile.{Profile}
use Rattle.dots.specs.declared.panel.Size.{Size}
use Rattle.dots.specs.Geometry.{height, is_shown, shown_at}
use Rattle.dots.specs.Panel.{size_of}
use Rattle.dots.specs.Picture.{PictureReturns}

-- `picture`: the result, the answer that it tells, and every byte of the output.
abbrev pub PicturePromise : Record → List ℕ → Profile → Bool → List ℕ → Result ⊤ Answer → List ℕ → Type 0
PicturePromise rec mem profile lit out returned after = PictureReturns rec mem profile lit out returned after

-- `rows_of`: the rows of a character.
abbrev pub RowsOfPromise : Function → ℕ → Type 0
RowsOfPromise function returned = returned ≡ height function

-- `is_shown`: whether a position of the glass shows this display cell.
abbrev pub IsShownPromise : Bool → ℕ → Profile → ℕ → Bool → Type 0
IsShownPromise n shift profile cell returned = returned ≡ is_shown n shift profile cell

-- `shown_at`: the cell that a position of the glass shows.
abbrev pub ShownAtPromise : Bool → ℕ → Profile → ℕ → ℕ → Option ℕ → Type 0
ShownAtPromise n shift profile line column returned = returned ≡ shown_at n shift profile line column

-- `size_of`: a panel's columns and lines.
abbrev pub SizeOfPromise : Profile → Size → Type 0
SizeOfPromise profile returned = returned ≡ size_of profile
