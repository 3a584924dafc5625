-- Numbers as text: hex digits, decimal digits, and the fields that lines and rows are made of (document 01, "Session lines").
-- Assumes nothing.
use Rattle.std.specs.Prelude.{Bool, cond, ◌&&◌, List, [], ◌∷◌, ◌++◌, ℕ, zero, suc, ◌+◌, ◌-◌, ◌*◌, ◌/◌, ◌%◌, ltb, leb, eqb, length}
use Rattle.std.specs.Prelude.{get_or, Option, Some, None}
use Prim.Native.Char.{code}

-- The tab that parts two fields.
abbrev pub tab : ℕ
tab = code "\t"

-- The newline that ends a line.
abbrev pub newline : ℕ
newline = code "\n"

-- The last hex digit of a number: `0` to `9`, then `A` to `F`. Of a number below ten it is its one digit.
unfoldable pub digit : ℕ → ℕ
digit number = cond (ltb (number % 16) 10) (0x30 + number % 16) (0x37 + number % 16)

-- The byte is one of these two or stands between them.
abbrev pub between : ℕ → ℕ → ℕ → Bool
between first last byte = leb first byte && leb byte last

-- What a byte is worth as an upper-case hex digit: `0` to `9` are 0 to 9, `A` to `F` 10 to 15, and any other byte, lower case
-- too, 16.
unfoldable pub worth_of : ℕ → ℕ
worth_of byte = cond (between 0x30 0x39 byte) (byte - 0x30) (cond (between 0x41 0x46 byte) (byte - 0x37) 16)

-- The same where it is such a digit, and nothing for any other byte.
abbrev pub worth_in : ℕ → Option ℕ
worth_in byte = cond (ltb (worth_of byte) 16) (Some (worth_of byte)) None

-- What a byte is worth as a decimal digit, where it is one.
abbrev pub decimal_in : ℕ → Option ℕ
decimal_in byte = cond (ltb (worth_of byte) 10) (Some (worth_of byte)) None

-- What three digits say: their worth in hundreds, tens and ones, and 0 where one of them is no decimal digit.
unfoldable pub three_say : ℕ → ℕ → ℕ → ℕ
three_say hundreds tens ones =
    cond (leb hundreds 9 && (leb tens 9 && leb ones 9)) (hundreds * 100 + tens * 10 + ones) 0

-- The number that three decimal digits say; any other word says 0.
unfoldable pub three_digits : List ℕ → ℕ
three_digits word =
    cond (eqb (length word) 3)
    (three_say (worth_of (get_or word 0 0)) (worth_of (get_or word 1 0)) (worth_of (get_or word 2 0))) 0

-- Three decimal digits.
unfoldable pub are_three : List ℕ → Bool
are_three word =
    eqb (length word) 3
    && (ltb (worth_of (get_or word 0 0)) 10 && (ltb (worth_of (get_or word 1 0)) 10 && ltb (worth_of (get_or word 2 0)) 10))

-- A number's digits above the last, then the last. The first argument, above the number, only bounds the recursion.
unfoldable pub spelled : ℕ → ℕ → List ℕ
spelled zero number = []
spelled (suc k) number = cond (ltb number 10) (digit number ∷ []) (spelled k (number / 10) ++ (digit (number % 10) ∷ []))

-- A number in decimal, without leading zeros.
unfoldable pub decimal : ℕ → List ℕ
decimal number = spelled (suc number) number

-- A field: a number in decimal, and the tab or newline that ends it.
unfoldable pub number_field : ℕ → ℕ → List ℕ
number_field number end = decimal number ++ (end ∷ [])

-- A byte as two upper-case hex digits.
abbrev pub hex_pair : ℕ → List ℕ
hex_pair byte = digit (byte / 16) ∷ digit (byte % 16) ∷ []

-- A field: a byte as two upper-case hex digits, and a tab.
unfoldable pub byte_field : ℕ → List ℕ
byte_field byte = hex_pair byte ++ (tab ∷ [])
