-- No line has two readings, each number of the calls that write is given exactly where its row applies, and no second answer fits.
-- Assumes nothing.
use mathlib.Core.Bool.{cond}
use mathlib.Core.List.{List, ◌++◌}
use mathlib.Core.Path.{◌≡◌, sym, ap, ◌∙◌}
use Prim.Native.Nat.{ℕ}
use lib.Dec.{ltb}
use lib.ListN.{length, drop}
use lib.Seq.{drop-append_seam}
use Rattle.controller.proofs.Laws.Answers.{none_applies, row_applies, tells_as}
use Rattle.controller.proofs.Laws.Rows.{bad_tests}
use Rattle.controller.proofs.Laws.Tests.{tests_lt}
use Rattle.controller.proofs.Theorems.One.{one}
use Rattle.controller.specs.Bus.{bad_transfer}
use Rattle.controller.specs.Answers.{number_of}
use Rattle.lines.specs.Line.{line}
use Rattle.lines.specs.Reading.{Reading, line_of}
use Rattle.lines.specs.Writing.{line_writing, wanting}
use Rattle.lines.specs.Theorems.{line_read, OneReading, writer_rows, WriterAnswers, wanting_rows, TextAnswers, OneWriting, OneRead}
use Rattle.lines.proofs.Laws.Digits.{either}
use Rattle.lines.proofs.Theorems.Written.{written_reads_back}

pub one_reading : OneReading
one_reading kind byte wait kind' byte' wait' more more' can can' same =
    let both : line_read kind byte wait ≡ line_read kind' byte' wait' =
    sym (written_reads_back kind byte wait more can) ∙ ap line_of same ∙ written_reads_back kind' byte' wait' more' can' in
    let k = ap (λ (l : Reading). l.kind) both in
    let b = ap (λ (l : Reading). l.byte) both in
    let w = ap (λ (l : Reading). l.wait) both in
    let n = ap (λ (l : Reading). l.length) both in (
      k,
      b,
      w,
      sym (drop-append_seam (line kind byte wait) more)
          ∙ ap (drop (length (line kind byte wait))) same
          ∙ ap (λ (m : ℕ). drop m (line kind' byte' wait' ++ more')) n
          ∙ drop-append_seam (line kind' byte' wait') more',
    )

pub one_writing : OneWriting
one_writing w out a b x y is also = (one _ a b is.told also.told, one _ x y is.buffer also.buffer)

pub one_read : OneRead
one_read text a b is also = one _ a b is also

writer_number : (kind byte wait : ℕ) (out : List ℕ)
    → number_of (line_writing kind byte wait out).answer ≡ cond (bad_transfer kind byte) 3 (cond (ltb (length out) 16) 11 0)
unfolding line_writing wanting
writer_number kind byte wait out =
    either (bad_transfer kind byte) (λ e. simp e) (λ e. either (ltb (length out) 16) (λ f. simp (e, f)) (λ f. simp (e, f)))

pub writer_answers : WriterAnswers
unfolding writer_rows
writer_answers kind byte wait out =
    tells_as _ _ _ (writer_number kind byte wait out)
    (row_applies _ _ _ _ (bad_tests kind byte) (λ _. row_applies _ _ _ _ (tests_lt (length out) 16) (λ _. none_applies)))

text_number : (size : ℕ) (text out : List ℕ) → number_of (wanting size text out).answer ≡ cond (ltb (length out) size) 11 0
unfolding wanting
text_number size text out = either (ltb (length out) size) (λ e. simp e) (λ e. simp e)

pub text_answers : TextAnswers
unfolding wanting_rows
text_answers size text out = tells_as _ _ _ (text_number size text out) (row_applies _ _ _ _ (tests_lt (length out) size) (λ _. none_applies))
