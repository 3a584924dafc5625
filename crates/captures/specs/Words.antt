-- The words of a capture's text (request b). Line ends and blanks only part them.
-- Assumes nothing.
use Rattle.std.specs.Prelude.{ℕ, suc, Bool, true, false, cond, ◌&&◌, ◌||◌, List, [], ◌∷◌, length, ◌==◌, nat_lt}
use Prim.Native.String.{String}
use Rattle.lines.specs.Digits.{between}
use Rattle.lines.specs.Text.{bytes_of}

-- A word: its bytes.
abbrev pub Word : Type 0
Word = List ℕ

-- The word is empty.
abbrev pub is_empty : Word → Bool
is_empty w = length w == 0

-- Blanks part words: space, tab, newline and carriage return.
unfoldable pub is_blank : ℕ → Bool
is_blank byte = byte == 0x20 || (byte == 0x09 || (byte == 0x0A || byte == 0x0D))

-- A byte before these words: a blank ends an empty word there, any other byte is the first of the next word.
unfoldable pub joined : Bool → ℕ → List Word → List Word
joined true byte ws = [] ∷ ws
joined false byte [] = (byte ∷ []) ∷ []
joined false byte (w ∷ ws) = (byte ∷ w) ∷ ws

-- The words of a text, each up to a blank or to the text's end. Between two blanks stands an empty word, which says nothing.
unfoldable pub words : List ℕ → List Word
words [] = []
words (byte ∷ rest) = joined (is_blank byte) byte (words rest)

-- Every byte of the word is one of 21h to 7Eh.
unfoldable pub is_plain : Word → Bool
is_plain [] = true
is_plain (byte ∷ rest) = between 0x21 0x7E byte && is_plain rest

-- Two words are the same, byte for byte.
unfoldable pub same : Word → Word → Bool
same [] [] = true
same [] (b ∷ y) = false
same (a ∷ x) [] = false
same (a ∷ x) (b ∷ y) = a == b && same x y

-- The word is this one.
abbrev pub is : String → Word → Bool
is text w = same w (bytes_of text)

-- Where a word stands among others, from 0; as many as they are where it is none of them.
unfoldable pub place_in : List Word → Word → ℕ
place_in [] w = 0
place_in (x ∷ xs) w = cond (same x w) 0 (suc (place_in xs w))

-- The word is one of those in this text.
abbrev pub is_one_of : String → Word → Bool
is_one_of text w = nat_lt (place_in (words (bytes_of text)) w) (length (words (bytes_of text)))
