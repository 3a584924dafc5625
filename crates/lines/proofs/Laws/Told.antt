-- What a caller may take from what he is told: a line or its fault, a text's length or its refusal.
-- Assumes nothing.
use mathlib.Core.Bool.{true, false, false≢true}
use mathlib.Core.Path.{◌≡◌, sym, ap, ◌∙◌}
use Prim.Native.Nat.{ℕ}
use lib.ListN.{length}
use native.Mathlib.Omega.{arith}
use Rattle.std.specs.Prelude.{Result, Ok, Err, IsOk}
use Rattle.controller.specs.declared.answers.Answer.{Answer}
use Rattle.controller.specs.declared.answers.Answer.TheVariants.{Done}
use Rattle.controller.specs.Answers.{is_done, number_of}
use Rattle.controller.proofs.Laws.Answers.{done_is}
use Rattle.lines.specs.declared.reader.BadLine.{BadLine}
use Rattle.lines.specs.declared.reader.Line.{Line}
use Rattle.lines.specs.Reading.{Reading, sent_of, told_of}
use Rattle.lines.specs.Writing.{Writing, answer_in, length_in, written_of}
use borrow.Author.Tests.{eq-eqb}
use Rattle.lines.proofs.Laws.Digits.{either}
use Rattle.lines.proofs.Laws.Nothing.{WritesNothing}

-- a line was read with done, and it has the reading's transfer and length
pub told_line : {line : Line} (r : Reading) → Ok line ≡ told_of r
    → (is_done r.answer ≡ true) × (sent_of r ≡ line.sent) × (r.length ≡ line.length)
told_line {line} r told =
    either (is_done r.answer)
    (λ done. let is = simp done at told in (done, cc, cc))
    (λ bad. let is = simp bad at told in let no : ◌≡◌ {A = ℕ} 0 1 = cc in absurd (omega arith))

-- a fault was not, and it has the reading's answer and offset
pub told_fault : {bad : BadLine} (r : Reading) → Err bad ≡ told_of r
    → (is_done r.answer ≡ false) × (r.answer ≡ bad.answer) × (r.offset ≡ bad.offset)
told_fault {bad} r told =
    either (is_done r.answer)
    (λ done. let is = simp done at told in let no : ◌≡◌ {A = ℕ} 0 1 = cc in absurd (omega arith))
    (λ not_done. let is = simp not_done at told in (not_done, cc, cc))

-- the answer that is told is that of the writing
pub answer_told : (w : Writing) → answer_in (written_of w) ≡ w.answer
answer_told w = either (is_done w.answer) (λ done. simp done (sym (done_is w.answer done))) (λ refused. simp refused)

-- and so is the length, where a refusal writes nothing
pub length_told : (w : Writing) → WritesNothing w → length_in (written_of w) ≡ length w.text
length_told w nothing =
    either (is_done w.answer) (λ done. simp done)
    (λ refused. simp refused (sym (ap length (nothing (λ zero. false≢true (sym refused ∙ eq-eqb (number_of w.answer) 0 zero))))))

-- a length is that of the text, and its answer done
pub told_length : {n : ℕ} (w : Writing) → Ok n ≡ written_of w → (w.answer ≡ Done) × (length w.text ≡ n)
told_length {n} w told =
    either (is_done w.answer)
    (λ done. let is = simp done at told in (done_is w.answer done, cc))
    (λ refused. let is = simp refused at told in let no : ◌≡◌ {A = ℕ} 0 1 = cc in absurd (omega arith))

-- a refusal is that of the writing, which is not done
pub told_refusal : {answer : Answer} (w : Writing) → Err answer ≡ written_of w → (is_done w.answer ≡ false) × (w.answer ≡ answer)
told_refusal {answer} w told =
    either (is_done w.answer)
    (λ done. let is = simp done at told in let no : ◌≡◌ {A = ℕ} 0 1 = cc in absurd (omega arith))
    (λ refused. let is = simp refused at told in (refused, cc))

-- where it is told that all went well, the writing is done
pub ok_done : {told : Result ℕ Answer} (w : Writing) → told ≡ written_of w → IsOk told → w.answer ≡ Done
ok_done {told = Ok n} w is good = (told_length w is).0
ok_done {told = Err answer} w is good = absurd (false≢true good)
