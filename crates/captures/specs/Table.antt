-- The table of short codes: what a change of each does to the lines. Only the code's own contracts cite these.
-- Assumes nothing.
use Rattle.std.specs.Prelude.{◌≡◌, ℕ, ◌+◌, ◌-◌, ◌*◌, ◌<◌, true, false, cond, ◌&&◌, List, [], ◌∷◌, length, drop, ◌==◌, ◌≢◌, nat_lt}
use Rattle.std.specs.Prelude.{slice_index_or, slice_set}
use Rattle.lines.specs.Digits.{between}
use Rattle.captures.specs.declared.form.Phase.{Phase}
use Rattle.captures.specs.declared.table.Entry.{Entry}
use Rattle.captures.specs.declared.table.Entry.TheVariants.{Line, Spare, Unknown, Several}
use Rattle.captures.specs.declared.form.Phase.TheVariants.{Section}
use Rattle.captures.specs.Words.{Word, same}
use Rattle.captures.specs.Form.{code_comes, changes_come, is_change}
use Rattle.captures.specs.Definitions.{declares}

-- How many codes have one or two characters, each 21h to 7Eh: 94, and 94 times 94.
abbrev pub short_codes : ℕ
short_codes = 8930

-- Where a character stands among 21h to 7Eh, from 0; 94 for any other byte.
unfoldable pub rank_of : ℕ → ℕ
rank_of byte = cond (between 0x21 0x7E byte) (byte - 0x21) 94

-- The place of a code of one character, and of two, by their ranks.
unfoldable pub place_of_one : ℕ → ℕ
place_of_one first = cond (nat_lt first 94) first short_codes

unfoldable pub place_of_two : ℕ → ℕ → ℕ
place_of_two first second = cond (nat_lt first 94) (cond (nat_lt second 94) (94 + first * 94 + second) short_codes) short_codes

-- The place of a code in the table: past its end for any but a short one.
unfoldable pub place_of : Word → ℕ
place_of [] = short_codes
place_of (first ∷ []) = place_of_one (rank_of first)
place_of (first ∷ second ∷ []) = place_of_two (rank_of first) (rank_of second)
place_of (first ∷ second ∷ third ∷ rest) = short_codes

-- What the table has of a code: the one line that it serves, 11 where it serves none, 13 where it serves several; 12 where
-- nothing is known of it.
abbrev pub entry_of : List ℕ → Word → ℕ
entry_of table code = slice_index_or table (place_of code) 12

-- An entry with a line more that the code serves.
unfoldable pub with_line : ℕ → ℕ → ℕ
with_line entry line = cond (entry == 12) 12 (cond (entry == 11) line 13)

-- A code that is declared is noted.
unfoldable pub noted : List ℕ → Phase → Word → List ℕ
noted table phase w = cond (code_comes phase) (slice_set table (place_of w) 11) table

-- What the table knows is declared.
abbrev pub Sound : List ℕ → List Word → Type 0
Sound table all = (code : Word) → (entry_of table code ≢ 12) → declares (Section false) all code ≡ true

-- What a table says is true: what it knows is declared, and which of the first lines each code serves.
pub record Tabled (table : List ℕ) (all codes : List Word) (lines : ℕ) : Type 0 where
  pub long : length table ≡ short_codes
  pub declared : Sound table all
  pub small : (code : Word) → entry_of table code < 11 → entry_of table code < lines
  pub serves : (code : Word) (line : ℕ) → line < lines → entry_of table code < 12
      → same (slice_index_or codes line []) code ≡ (line == entry_of table code)

-- An entry that is read: a line, 11 for none, 13 for several, 12 for what is not known.
abbrev pub IsEntry : ℕ → Entry → Type 0
IsEntry number (Line line) = (number ≡ line) × (line < 11)
IsEntry number Spare = number ≡ 11
IsEntry number Unknown = number ≡ 12
IsEntry number Several = 12 < number

-- The one line that a word sets, where the table has it: 11 where it sets none, 12 and more where the table does not tell.
unfoldable pub line_set : List ℕ → Phase → Word → ℕ
line_set table phase w = cond (changes_come phase && is_change w) (entry_of table (drop 1 w)) 12
