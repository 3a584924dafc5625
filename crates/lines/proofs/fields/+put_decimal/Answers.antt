-- `lines::fields::put_decimal` meets its contract: the digits of a tenth of the number, then the last digit; a number
-- below ten is its one digit.
-- Assumes nothing.
use Prim.Native.Nat.{ℕ, ◌/◌, ◌%◌}
use mathlib.Core.Path.{ap, sym, ◌∙◌}
use native.Mathlib.Omega.{arith}
use lib.ListN.{set}
use lib.Seq.{sets}
use Rattle.lines.specs.Digits.{digit, decimal}
use Rattle.lines.proofs.Laws.Buffer.{sets_more}
use Rattle.lines.proofs.Laws.Digits.{decimal_small, decimal_split, length_small, length_split}
use Rattle.lines.proofs.fields.+put_decimal.Goals as goal

pub bounds-out-at : goal.bounds-out-at
bounds-out-at t c = omega (arith, length_small c.args.number c.if-number-lt10.true)

pub returns-then-number-lt10 : goal.returns-then-number-lt10
returns-then-number-lt10 t c =
    let small = c.if-number-lt10.true in (
      omega (arith, length_small c.args.number small),
      ap (λ (b : ℕ). set c.args.out.now c.args.at b) c.hex_digit.ensures
          ∙ ap (sets c.args.out.now c.args.at) (sym (decimal_small c.args.number small)),
    )

pub put_decimal-last-requires : goal.put_decimal-last-requires
put_decimal-last-requires t c =
    let large = c.if-number-lt10.false in
    (omega arith, omega (arith, length_split c.args.number large))

pub bounds-out-last : goal.bounds-out-last
bounds-out-last t c =
    let call = c.put_decimal-last in
    omega (arith, call.ensures.0, call.auto.out, length_split c.args.number c.if-number-lt10.false)

pub overflow_add-result-2 : goal.overflow_add-result-2
overflow_add-result-2 t c =
    let call = c.put_decimal-last in
    omega (arith, call.ensures.0, call.auto.out, length_split c.args.number c.if-number-lt10.false)

pub returns : goal.returns
returns t c =
    let call = c.put_decimal-last in
    let large = c.if-number-lt10.false in
    let n = c.args.number in (
      omega (arith, call.ensures.0, length_split n large),
      sets_more c.args.out.now c.args.at (decimal (n / 10)) (digit (n % 10)) call.ensures.1 call.ensures.0 c.hex_digit-2.ensures
          ∙ ap (sets c.args.out.now c.args.at) (sym (decimal_split n large)),
    )
