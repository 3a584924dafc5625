-- The text of a session line (document 01, "Session lines").
-- Assumes nothing.
use Rattle.std.specs.Prelude.{cond, List, [], ◌∷◌, ◌++◌, ℕ, eqb, ltb, Option, Some, None}
use Prim.Native.Char.{code}
use Rattle.controller.specs.declared.sent.Sent.{Sent}
use Rattle.lines.specs.Digits.{tab, newline, byte_field, number_field}

-- The letter of a kind: `I`, `D`, `S` or `R`.
unfoldable pub letter_of : ℕ → ℕ
letter_of kind = cond (eqb kind 0) (code "I") (cond (eqb kind 1) (code "D") (cond (eqb kind 2) (code "S") (code "R")))

-- The kind of a letter; 4, which is no kind, for any other byte.
unfoldable pub kind_of : ℕ → ℕ
kind_of letter =
    cond (eqb letter (code "I")) 0
    (cond (eqb letter (code "D")) 1 (cond (eqb letter (code "S")) 2 (cond (eqb letter (code "R")) 3 4)))

-- The kind of a letter, where it has one.
abbrev pub kind_in : ℕ → Option ℕ
kind_in letter = cond (ltb 3 (kind_of letter)) None (Some (kind_of letter))

-- A field: the kind's letter, and a tab.
unfoldable pub kind_field : ℕ → List ℕ
kind_field kind = letter_of kind ∷ tab ∷ []

-- A line: kind, byte, wait, and a newline.
unfoldable pub line : ℕ → ℕ → ℕ → List ℕ
line kind byte wait = kind_field kind ++ (byte_field byte ++ number_field wait newline)

-- The lines of these transfers, one after the other.
unfoldable pub lines_of : List Sent → List ℕ
lines_of [] = []
lines_of (t ∷ ts) = line t.kind t.byte t.wait ++ lines_of ts

-- The largest wait.
abbrev pub wait_limit : ℕ
wait_limit = 4294967295
