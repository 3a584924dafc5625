-- `lines::text::put_number` meets its contract: a number of 64 bits has at most 20 digits, which are spelled first and then put.
-- Assumes nothing.
use mathlib.Core.Path.{◌≡◌, ap, ◌∙◌}
use Prim.Native.Nat.{ℕ}
use native.Mathlib.Omega.{arith}
use lib.ListN.{length, take, replicate}
use Rattle.lines.specs.Digits.{decimal}
use Rattle.lines.specs.Text.{put, putting}
use Rattle.lines.proofs.Laws.Buffer.{first_written}
use Rattle.lines.proofs.Laws.Digits.{decimal_length}
use Rattle.lines.proofs.text.put_number.Goals as goal

pub put_decimal-length-requires : goal.put_decimal-length-requires
put_decimal-length-requires c = omega (arith, decimal_length 19 c.args.number (omega arith))

pub returns : goal.returns
returns c =
    let made = c in
    let a = made.args in
    let text = decimal a.number in
    let long : made.put_decimal-length.result ≡ length text = omega (arith, made.put_decimal-length.ensures.0) in
    c.put_text.ensures
    ∙ ap (putting (put a.at a.out.now))
    (c.first.ensures
    ∙ ap (λ (n : ℕ). take n made.put_decimal-length.new.out) long
    ∙ ap (take (length text)) made.put_decimal-length.ensures.1
    ∙ first_written text (replicate 20 0) (omega (arith, decimal_length 19 a.number (omega arith))))
