-- A refused call that writes text writes none.
-- Assumes nothing.
use mathlib.Core.List.{List, []}
use mathlib.Core.Path.{◌≡◌, refl}
use Prim.Native.Nat.{ℕ}
use lib.Dec.{ltb}
use lib.ListN.{length}
use Rattle.controller.proofs.Laws.Choice.{cond-elim}
use Rattle.controller.specs.Answers.{number_of}
use Rattle.controller.specs.Bus.{bad_transfer}
use Rattle.lines.specs.Writing.{Writing, line_writing, wanting}

-- it writes no text where its number is not 0
abbrev pub WritesNothing : Writing → Type 0
WritesNothing w = (number_of w.answer ≡ 0 → ⊥) → w.text ≡ []

pub wanting_nothing : (size : ℕ) (text out : List ℕ) → WritesNothing (wanting size text out)
unfolding wanting
wanting_nothing size text out = cond-elim WritesNothing (ltb (length out) size) _ _ (λ _ _. refl) (λ _ other. absurd (other refl))

pub writer_nothing : (kind byte wait : ℕ) (out : List ℕ) → WritesNothing (line_writing kind byte wait out)
unfolding line_writing
writer_nothing kind byte wait out =
    cond-elim WritesNothing (bad_transfer kind byte) _ _ (λ _ _. refl) (λ _. wanting_nothing 16 _ out)
