-- Numbers in fields of a fixed width.
-- Assumes nothing.
use Rattle.std.specs.Prelude.{cond, List, [], ◌∷◌, ℕ, zero, suc, ◌/◌, ◌%◌, ◌^◌, ltb}
use Prim.Native.Char.{code}
use Rattle.lines.specs.Digits.{digit}

-- The digit of a number at this power of ten; a blank where the number is smaller.
unfoldable pub padded : ℕ → ℕ → ℕ
padded number power = cond (ltb number power) (code " ") (digit (number / power % 10))

-- A number in two places, a blank before one digit.
abbrev pub two_wide : ℕ → List ℕ
two_wide number = padded number 10 ∷ digit (number % 10) ∷ []

-- A number in three places, blanks before it.
abbrev pub three_wide : ℕ → List ℕ
three_wide number = padded number 100 ∷ two_wide number

-- A number in four places, blanks before it.
abbrev pub four_wide : ℕ → List ℕ
four_wide number = padded number 1000 ∷ three_wide number

-- A number as four digits, with zeros before it.
abbrev pub four_digits : ℕ → List ℕ
four_digits number = digit (number / 1000 % 10) ∷ digit (number / 100 % 10) ∷ digit (number / 10 % 10) ∷ digit (number % 10) ∷ []

-- A number in five places, blanks before it.
abbrev pub five_wide : ℕ → List ℕ
five_wide number = padded number 10000 ∷ four_wide number

-- A place of a number with so many places after it: the last is always a digit, and any other this byte where the number is
-- smaller.
abbrev pub place_of : ℕ → ℕ → ℕ → ℕ
place_of blank number zero = digit (number % 10)
place_of blank number (suc after) = cond (ltb number (10 ^ suc after)) blank (digit (number / 10 ^ suc after % 10))

-- So many places of a number.
abbrev pub places : ℕ → ℕ → ℕ → List ℕ
places blank zero number = []
places blank (suc after) number = place_of blank number after ∷ places blank after number
