-- `lines::writer::put_row` meets its contract: four fields, each where the one before it ended; each is as long as its digits.
-- Assumes nothing.
use mathlib.Core.List.{◌++◌, append_assoc}
use mathlib.Core.Path.{◌≡◌, ap, ◌∙◌}
use Prim.Native.Nat.{◌+◌}
use native.Mathlib.Omega.{arith}
use lib.ListN.{length, length-append}
use lib.Seq.{sets}
use Rattle.lines.specs.Digits.{tab, newline, byte_field, number_field}
use Rattle.lines.specs.ReportText.{row}
use Rattle.lines.proofs.Laws.Buffer.{sets_next}
use Rattle.lines.proofs.Laws.Digits.{field_below}
use Rattle.lines.proofs.Laws.Lengths.{row_length}
use Rattle.lines.proofs.writer.put_row.Goals as goal

pub put_number_field-second-requires : goal.put_number_field-second-requires
put_number_field-second-requires c =
    let start = c in
    omega (arith, field_below 19 start.args.number tab (omega arith))

pub put_number_field-third-requires : goal.put_number_field-third-requires
put_number_field-third-requires c =
    let number = c in
    let start = number in
    omega (
      arith,
      number.put_number_field-second.ensures.0,
      number.put_number_field-second.auto.out,
      field_below 19 start.args.number tab (omega arith),
      field_below 2 start.args.answer tab (omega arith),
    )

pub put_byte_field-fourth-requires : goal.put_byte_field-fourth-requires
put_byte_field-fourth-requires c =
    let answer = c in
    let number = answer in
    let start = number in
    omega (
      arith,
      number.put_number_field-second.ensures.0,
      number.put_number_field-second.auto.out,
      answer.put_number_field-third.ensures.0,
      answer.put_number_field-third.auto.out,
      field_below 19 start.args.number tab (omega arith),
      field_below 2 start.args.answer tab (omega arith),
    )

pub put_number_field-requires : goal.put_number_field-requires
put_number_field-requires c =
    let byte = c in
    let answer = byte in
    let number = answer in
    let start = number in
    omega (
      arith,
      number.put_number_field-second.ensures.0,
      number.put_number_field-second.auto.out,
      answer.put_number_field-third.ensures.0,
      answer.put_number_field-third.auto.out,
      byte.put_byte_field-fourth.ensures.0,
      byte.put_byte_field-fourth.auto.out,
      field_below 19 start.args.number tab (omega arith),
      field_below 2 start.args.answer tab (omega arith),
      field_below 9 start.args.busy newline (omega arith),
    )

pub returns : goal.returns
unfolding row byte_field
returns c =
    let busy = c in
    let byte = busy in
    let answer = byte in
    let number = answer in
    let start = number in
    let out = start.args.out.now in
    let a = number_field start.args.number tab in
    let b = number_field start.args.answer tab in
    let d = byte_field start.args.byte in
    let e = number_field start.args.busy newline in
    let two : length (a ++ b) ≡ length a + length b = length-append a b in
    let three : length ((a ++ b) ++ d) ≡ length (a ++ b) + 3 = length-append (a ++ b) d in (
      omega (
        arith,
        busy.put_number_field.ensures.0,
        byte.put_byte_field-fourth.ensures.0,
        answer.put_number_field-third.ensures.0,
        number.put_number_field-second.ensures.0,
        row_length start.args.number start.args.answer start.args.byte start.args.busy,
      ),
      busy.put_number_field.ensures.1
          ∙ sets_next out 0 ((a ++ b) ++ d) e
          (byte.put_byte_field-fourth.ensures.1
          ∙ sets_next out 0 (a ++ b) d
          (answer.put_number_field-third.ensures.1 ∙ sets_next out 0 a b number.put_number_field-second.ensures.1 number.put_number_field-second.ensures.0)
          (omega (arith, answer.put_number_field-third.ensures.0, number.put_number_field-second.ensures.0)))
          (omega (arith, byte.put_byte_field-fourth.ensures.0, answer.put_number_field-third.ensures.0, number.put_number_field-second.ensures.0))
          ∙ ap (sets out 0) (append_assoc (a ++ b) d e ∙ append_assoc a b (d ++ e)),
    )
