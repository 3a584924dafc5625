-- `lines::fields::put_number_field` meets its contract: the digits, then the byte that ends the field, one place on.
-- Assumes nothing.
use native.Mathlib.Omega.{arith}
use Rattle.lines.specs.Digits.{decimal, number_field}
use Rattle.lines.proofs.Laws.Buffer.{sets_more}
use Rattle.lines.proofs.Laws.Digits.{field_length}
use mathlib.Core.Path.{refl}
use Rattle.lines.proofs.fields.put_number_field.Goals as goal

pub put_decimal-last-requires : goal.put_decimal-last-requires
put_decimal-last-requires c =
    let start = c in
    omega (arith, field_length start.args.number start.args.end)

pub bounds-out-last : goal.bounds-out-last
bounds-out-last c =
    let call = c in
    let start = call in
    omega (arith, call.put_decimal-last.ensures.0, call.put_decimal-last.auto.out, field_length start.args.number start.args.end)

pub overflow_add-result : goal.overflow_add-result
overflow_add-result c =
    let call = c in
    let start = call in
    omega (arith, call.put_decimal-last.ensures.0, call.put_decimal-last.auto.out, field_length start.args.number start.args.end)

pub returns : goal.returns
unfolding number_field
returns c =
    let call = c in
    let start = call in (
      omega (arith, call.put_decimal-last.ensures.0, field_length start.args.number start.args.end),
      sets_more start.args.out.now start.args.at (decimal start.args.number) start.args.end call.put_decimal-last.ensures.1 call.put_decimal-last.ensures.0 refl,
    )
