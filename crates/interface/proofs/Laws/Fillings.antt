-- Laws of the calls that write into one lent buffer.
-- Assumes nothing.
use mathlib.Core.Bool.{true, false, false≢true}
use mathlib.Core.List.{List}
use mathlib.Core.Logic.{⊎_elim}
use mathlib.Core.Path.{◌≡◌, refl, sym, ap, ◌∙◌}
use Prim.Native.Nat.{ℕ, ◌+◌, ◌*◌, ◌%◌, ◌≤◌}
use native.Mathlib.Omega.{arith}
use lib.Dec.{ltb}
use lib.ListN.{length}
use Rattle.controller.specs.declared.answers.Answer.{Answer}
use Rattle.controller.specs.declared.answers.Answer.TheVariants.{BadTransfer, OutputShort}
use Rattle.controller.specs.Bus.{bad_transfer}
use Rattle.controller.specs.Answers.{is_done, number_of}
use Rattle.controller.proofs.Laws.Choice.{cond-elim}
use Rattle.std.specs.Prelude.{Result, Ok, Err}
use Rattle.lines.specs.Line.{line, wait_limit}
use Rattle.lines.specs.Writing.{Writing, answer_in, length_in, onto, line_writing, refusing, wanting, writing}
use Rattle.lines.specs.Writing as Writing'
use Rattle.lines.specs.declared.reader.Line.{Line}
use Rattle.controller.specs.declared.sent.Sent.{Sent}
use Rattle.controller.specs.Sent.{six_bytes}
use Rattle.lines.specs.declared.reader.BadLine.{BadLine}
use Rattle.lines.specs.Reading.{Reading, line_of, told_of}
use Rattle.lines.proofs.Laws.Nothing.{WritesNothing, writer_nothing}
use Rattle.lines.proofs.Laws.Told.{answer_told, length_told, told_line, told_fault}
use Rattle.lines.proofs.Laws.Digits.{either}
use Rattle.controller.proofs.Laws.Answers.{done_is}
use Rattle.lines.proofs.Theorems.Session.{fault_not_good}
use Rattle.lines.proofs.Theorems.Read.{read_or_refused, read_is_sayable, offset_told}
use Rattle.lines.proofs.Theorems.Written.{lines_fit}
use Rattle.interface.specs.CaptureCalls.{far_filling_of}
use Rattle.interface.specs.Filling.{Fills}
use Rattle.interface.specs.LineCalls.{filling_of, read_call, stored, stored_line}

-- a text that was written, of which a refusal has nothing
pub written_fills : (w : Writing) (out : List ℕ) (told : Result ℕ Answer) {returned : ℕ} {after : List ℕ} → WritesNothing w
    → Writing'.Writes w out told after → returned ≡ number_of (answer_in told) + 256 * length_in told → Fills (filling_of w out) returned after
written_fills w out told nothing met is =
    record {
      told = is ∙ ap (λ (t : Result ℕ Answer). number_of (answer_in t) + 256 * length_in t) met.told
          ∙ simp (answer_told w, length_told w nothing);
      buffer = met.buffer;
    }

-- one that may be long
pub far_written_fills : (w : Writing) (out : List ℕ) (told : Result ℕ Answer) {returned : ℕ} {after : List ℕ} → WritesNothing w
    → Writing'.Writes w out told after → returned ≡ number_of (answer_in told) + 256 * (length_in told % 72057594037927936)
    → Fills (far_filling_of w out) returned after
far_written_fills w out told nothing met is =
    record {
      told = is ∙ ap (λ (t : Result ℕ Answer). number_of (answer_in t) + 256 * (length_in t % 72057594037927936)) met.told
          ∙ simp (answer_told w, length_told w nothing);
      buffer = met.buffer;
    }

-- what a call for a line writes is at most 16 bytes
pub line_short : (kind byte wait : ℕ) (out : List ℕ) → wait ≤ wait_limit → length (line_writing kind byte wait out).text ≤ 16
unfolding line_writing wanting
line_short kind byte wait out limit =
    cond-elim (λ (w : Writing). length w.text ≤ 16) (bad_transfer kind byte) (refusing BadTransfer) (wanting 16 (line kind byte wait) out)
    (λ _. omega arith)
    (λ _. cond-elim (λ (w : Writing). length w.text ≤ 16) (ltb (length out) 16) (refusing OutputShort) (writing (line kind byte wait))
    (λ _. omega arith) (λ _. lines_fit kind byte wait limit))

-- and so is what it tells
pub told_short : (kind byte wait : ℕ) (out : List ℕ) (told : Result ℕ Answer) {after : List ℕ} → wait ≤ wait_limit
    → Writing'.Writes (line_writing kind byte wait out) out told after → length_in told ≤ 468
told_short kind byte wait out told limit met =
    let w = line_writing kind byte wait out in
    let same = ap length_in met.told ∙ length_told w (writer_nothing kind byte wait out) in
    let short = line_short kind byte wait out limit in
    omega arith

-- the line that is read has at most 16 bytes
pub read_short : (text : List ℕ) {line : Line} → Ok line ≡ told_of (line_of text) → line.length ≤ 468
read_short text told =
    let is = told_line (line_of text) told in
    let short = (read_is_sayable text (done_is (line_of text).answer is.0)).2 in
    omega (arith, is.2)

-- the offset of a fault is at most 15
pub fault_near : (text : List ℕ) {bad : BadLine} → Err bad ≡ told_of (line_of text) → bad.offset ≤ 15
fault_near text told =
    let is = told_fault (line_of text) told in
    let near = offset_told (line_of text) text refl in
    omega (arith, is.2)

-- a line that is read has no offset
no_offset : (text : List ℕ) → is_done (line_of text).answer ≡ true → (line_of text).offset ≡ 0
no_offset text done =
    ⊎_elim (λ stands. stands.2) (λ bad. absurd (false≢true (sym (fault_not_good (line_of text).answer bad.1.fault) ∙ done))) (read_or_refused text)

-- and one that is refused no length
no_length : (text : List ℕ) → is_done (line_of text).answer ≡ false → (line_of text).length ≡ 0
no_length text refused =
    ⊎_elim (λ stands. absurd (false≢true (sym refused ∙ ap is_done stands.1))) (λ bad. ap (λ (r : Reading). r.length) bad.1.zeros) (read_or_refused text)

-- a line that was read and stored
pub line_fills : (text out : List ℕ) {line : Line} {returned : ℕ} {after : List ℕ} → Ok line ≡ told_of (line_of text)
    → Fills (stored_line line out) returned after → Fills (read_call text out) returned after
unfolding stored stored_line
line_fills text out {line} {returned} {after} told fills =
    let is = told_line (line_of text) told in
    let far = no_offset text is.0 in
    let number = ap number_of (done_is (line_of text).answer is.0) in
    either (ltb (length out) 6)
    (λ short. let all = simp short at fills in simp (is.0, short) all)
    (λ enough.
    let all = simp enough at fills in
    let six = ap (λ (t : Sent). onto (six_bytes t) out) (sym is.1) in
    let told = all.told in
    simp (is.0, enough) (record { told = omega (arith, number, is.2, far); buffer = all.buffer ∙ six }))

-- and one that was refused
pub fault_fills : (text out : List ℕ) {bad : BadLine} {returned : ℕ} → Err bad ≡ told_of (line_of text)
    → returned ≡ number_of bad.answer + 65536 * bad.offset → Fills (read_call text out) returned out
unfolding stored
fault_fills text out told returned =
    let is = told_fault (line_of text) told in
    let none = no_length text is.0 in
    let number = ap number_of is.1 in
    simp is.0 (record { told = omega (arith, number, none, is.2); buffer = refl })
