-- The report of a session: its header and its rows (document 01, "Session lines").
-- Assumes nothing.
use Rattle.std.specs.Prelude.{List, ◌++◌, ℕ}
use Rattle.lines.specs.Text.{bytes_of}
use Rattle.lines.specs.Digits.{tab, newline, byte_field, number_field}

-- The header: the four columns' names, tab-parted, and a newline.
unfoldable pub header : List ℕ
header = bytes_of "no\tanswer\tbyte\tbusy\n"

-- A row: number, the answer's number, byte as two upper-case hex digits, busy left, tab-parted, and a newline.
unfoldable pub row : ℕ → ℕ → ℕ → ℕ → List ℕ
row number answer byte busy =
    number_field number tab ++ (number_field answer tab ++ (byte_field byte ++ number_field busy newline))

-- A buffer of this size takes any row.
abbrev pub row_size : ℕ
row_size = 42
