-- Laws of what the calls return: the answer can be taken out of it again.
-- Assumes nothing.
use mathlib.Core.Path.{◌≡◌, ◌∙◌}
use Prim.Native.Nat.{ℕ, ◌+◌, ◌*◌}
use native.Mathlib.Nat.{add-mul-mod_self_left, mod-eq_of_lt}
use native.Mathlib.Omega.{arith}
use Rattle.controller.specs.declared.answers.Answer.{Answer}
use Rattle.controller.specs.Answers.{number_of}
use Rattle.controller.proofs.Laws.Answers.{number_below}
use Rattle.interface.specs.Theorems.{answer_in}

-- the answer's number is what is told, whatever stands above it
pub answer_in_lem : (answer : Answer) (n : ℕ) → answer_in (number_of answer + 256 * n) ≡ number_of answer
answer_in_lem answer n = add-mul-mod_self_left (number_of answer) 256 n ∙ mod-eq_of_lt (omega (arith, number_below answer))
