-- Laws of lengths: how long a line and a row can be.
-- Assumes nothing.
use mathlib.Core.List.{◌++◌}
use mathlib.Core.Path.{◌≡◌, ◌∙◌, ap}
use Prim.Native.Nat.{ℕ, ◌+◌, ◌<◌, ◌≤◌, ◌^◌}
use native.Mathlib.Omega.{arith}
use lib.ListN.{length, length-append}
use Rattle.lines.specs.Digits.{tab, newline, byte_field, number_field}
use Rattle.lines.specs.Line.{line, kind_field, wait_limit}
use Rattle.lines.specs.ReportText.{row, row_size}
use Rattle.lines.proofs.Laws.Digits.{field_below}

pub line_length_lem : (kind byte wait : ℕ) → length (line kind byte wait) ≡ 5 + length (number_field wait newline)
unfolding line kind_field byte_field
line_length_lem kind byte wait = omega arith

-- a line is at most 16 bytes
pub line_fits : (kind byte wait : ℕ) → wait ≤ wait_limit → length (line kind byte wait) ≤ 16
line_fits kind byte wait below = omega (arith, line_length_lem kind byte wait, field_below 9 wait newline (omega arith))

pub row_length : (number answer byte busy : ℕ)
    → length (row number answer byte busy) ≡ length (number_field number tab) + (length (number_field answer tab) + (3 + length (number_field busy newline)))
unfolding row byte_field
row_length number answer byte busy =
    length-append (number_field number tab) (number_field answer tab ++ (byte_field byte ++ number_field busy newline))
    ∙ ap (λ (n : ℕ). length (number_field number tab) + n)
    (length-append (number_field answer tab) (byte_field byte ++ number_field busy newline)
    ∙ ap (λ (n : ℕ). length (number_field answer tab) + n) (omega arith))

-- a row is at most 42 bytes: a number of 20 digits, an answer of 3, a busy time of 10
pub row_fits : (number answer byte busy : ℕ) → number < 10 ^ 20 → answer < 10 ^ 3 → busy < 10 ^ 10 → length (row number answer byte busy) ≤ row_size
row_fits number answer byte busy a b c =
    omega (arith, row_length number answer byte busy, field_below 19 number tab a, field_below 2 answer tab b, field_below 9 busy newline c)
