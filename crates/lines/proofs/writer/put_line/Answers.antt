-- `lines::writer::put_line` meets its contract: three fields, each where the one before it ended; a wait has at most ten digits.
-- Assumes nothing.
use mathlib.Core.List.{◌++◌}
use mathlib.Core.Path.{◌∙◌}
use native.Mathlib.Omega.{arith}
use Rattle.lines.specs.Digits.{newline, byte_field, number_field}
use Rattle.lines.specs.Line.{line, kind_field}
use Rattle.lines.proofs.Laws.Buffer.{sets_next}
use Rattle.lines.proofs.Laws.Digits.{field_below}
use Rattle.lines.proofs.writer.put_line.Goals as goal

pub put_number_field-requires : goal.put_number_field-requires
put_number_field-requires c =
    let byte = c in
    let kind = byte in
    let start = kind in
    omega (
      arith,
      kind.put_kind_field-second.ensures.0,
      kind.put_kind_field-second.auto.out,
      byte.put_byte_field-third.ensures.0,
      byte.put_byte_field-third.auto.out,
      field_below 9 start.args.wait newline (omega arith),
    )

pub returns : goal.returns
unfolding line kind_field byte_field
returns c =
    let wait = c in
    let byte = wait in
    let kind = byte in
    let start = kind in
    let out = start.args.out.now in (
      omega (arith, wait.put_number_field.ensures.0, byte.put_byte_field-third.ensures.0, kind.put_kind_field-second.ensures.0),
      wait.put_number_field.ensures.1
          ∙ sets_next out 0 (kind_field start.args.kind ++ byte_field start.args.byte) (number_field start.args.wait newline)
          (byte.put_byte_field-third.ensures.1
          ∙ sets_next out 0 (kind_field start.args.kind) (byte_field start.args.byte) kind.put_kind_field-second.ensures.1 kind.put_kind_field-second.ensures.0)
          (omega (arith, byte.put_byte_field-third.ensures.0, kind.put_kind_field-second.ensures.0)),
    )
