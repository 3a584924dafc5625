-- What was written reads back as the same transfer, with any text after it.
-- Assumes nothing.
use Rattle.std.specs.Prelude.{Ok}
use mathlib.Core.Bool.{false}
use mathlib.Core.List.{List, [], ◌∷◌, ◌++◌, append_assoc}
use mathlib.Core.Path.{◌≡◌, ap, ◌∙◌}
use Prim.Native.Nat.{ℕ, ◌+◌, ◌<◌, ◌≤◌}
use native.Mathlib.Omega.{arith}
use lib.Dec.{ltb}
use lib.ListN.{length, drop}
use Rattle.controller.specs.declared.answers.Answer.TheVariants.{Done}
use Rattle.controller.specs.Bus.{bad_transfer}
use Rattle.lines.specs.Writing.{Writing, onto, writing, wanting, line_writing}
use Rattle.lines.specs.Digits.{newline, decimal, byte_field, number_field}
use Rattle.lines.specs.Line.{line, kind_field, wait_limit}
use Rattle.lines.proofs.Laws.Told.{ok_done}
use Rattle.lines.specs.Reading.{kind_read, byte_read, rest_of, wait_of, with_wait, with_byte, with_kind, line_of}
use Rattle.lines.specs.Theorems.{Sayable, line_read, WrittenReadsBack, BufferReadsBack, LinesFit}
use Rattle.lines.proofs.Laws.Digits.{either, field_length}
use Rattle.lines.proofs.Laws.Kinds.{kind_below}
use Rattle.lines.proofs.Laws.Lengths.{line_length_lem, line_fits}
use Rattle.lines.proofs.Laws.Parts.{kind_written, byte_written, wait_after}
use Rattle.lines.proofs.Laws.Waits.{begun, decimal_reads}

-- a wait is read to its newline
wait_reads : (place wait : ℕ) (more : List ℕ) → wait ≤ wait_limit
    → begun place (number_field wait newline ++ more) ≡ Ok (wait, place + length (number_field wait newline))
unfolding number_field rest_of
wait_reads place wait more below =
    ap (begun place) (append_assoc (decimal wait) (newline ∷ []) more)
    ∙ decimal_reads place wait (newline ∷ more) below
    ∙ ap (λ (n : ℕ). Ok (wait, n)) (omega (arith, field_length wait newline))

module _ (kind byte wait : ℕ) (more : List ℕ) (can : Sayable kind byte wait) where
  below : kind < 4
  below = kind_below kind byte can.transfer

  -- the line in its parts, with what is after it
  parts : line kind byte wait ++ more ≡ (kind_field kind ++ byte_field byte) ++ (number_field wait newline ++ more)
  unfolding line
  parts = simp append_assoc

  kind_read_lem : kind_read (line kind byte wait ++ more) ≡ Ok kind
  kind_read_lem = ap kind_read (parts ∙ simp append_assoc) ∙ kind_written kind (byte_field byte ++ (number_field wait newline ++ more)) below

  byte_read_lem : byte_read kind (line kind byte wait ++ more) ≡ Ok byte
  byte_read_lem =
      ap (byte_read kind) parts ∙ byte_written kind byte (number_field wait newline ++ more) can.transfer can.is_byte

  wait_read : wait_of (line kind byte wait ++ more) ≡ Ok (wait, length (line kind byte wait))
  wait_read =
      ap wait_of parts
      ∙ wait_after kind byte (number_field wait newline ++ more)
      ∙ wait_reads 5 wait more can.is_wait
      ∙ ap (λ (n : ℕ). Ok (wait, n)) (omega (arith, line_length_lem kind byte wait))

  reads_back : line_of (line kind byte wait ++ more) ≡ line_read kind byte wait
  unfolding line_of with_kind with_byte with_wait
  reads_back = simp (kind_read_lem, byte_read_lem, wait_read)

pub written_reads_back : WrittenReadsBack
written_reads_back kind byte wait more can = reads_back kind byte wait more can

-- a call that is done has written the line of a transfer that is not bad
line_done : (kind byte wait : ℕ) (out : List ℕ) → (line_writing kind byte wait out).answer ≡ Done
    → (bad_transfer kind byte ≡ false) × (line_writing kind byte wait out ≡ writing (line kind byte wait))
unfolding line_writing wanting
line_done kind byte wait out done =
    either (bad_transfer kind byte)
    (λ bad. let other = simp bad at done in let no : ◌≡◌ {A = ℕ} 0 1 = cc in absurd (omega arith))
    (λ good. either (ltb (length out) 16)
    (λ short. let other = simp (good, short) at done in let no : ◌≡◌ {A = ℕ} 0 1 = cc in absurd (omega arith))
    (λ enough. (good, simp (good, enough))))

pub buffer_reads_back : BufferReadsBack
buffer_reads_back kind byte wait out told after is_byte is_wait meets done =
    let wrote = line_done kind byte wait out (ok_done (line_writing kind byte wait out) meets.told done) in
    ap line_of (meets.buffer ∙ ap (λ (w : Writing). onto w.text out) wrote.1)
    ∙ written_reads_back kind byte wait (drop (length (line kind byte wait)) out) (record { transfer = wrote.0; is_byte = is_byte; is_wait = is_wait })

pub lines_fit : LinesFit
lines_fit = line_fits
