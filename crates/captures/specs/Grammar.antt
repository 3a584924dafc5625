-- The subset as a grammar: which words follow which, part by part (request b). `Form` says it word by word.
-- Assumes nothing.
use Rattle.std.specs.Prelude.{◌≡◌, ℕ, ◌+◌, ◌<◌, ◌≤◌, Bool, true, false, cond, ◌↔◌, List, [], ◌∷◌, drop, slice_index_or}
use Rattle.lines.specs.Text.{bytes_of}
use Rattle.captures.specs.Words.{Word, words, is_plain, is, same}
use Rattle.captures.specs.Form.{is_scope_kind, is_var_type, is_stamp, is_change, is_whole}
use Rattle.captures.specs.Definitions.{names}
use Rattle.captures.specs.Import.{scan_of}
use Rattle.captures.specs.Unheeded.{said}

-- Behind the definitions: stamps and changes. The bool says whether this is inside `$dumpvars … $end`, where changes alone stand.
pub data Later : Bool → List Word → Type 0 where
  ended : Later false []
  stamp : (w : Word) (ws : List Word) → is_stamp w ≡ true → Later false ws → Later false (w ∷ ws)
  change : (inside : Bool) (w : Word) (ws : List Word) → is_change w ≡ true → Later inside ws → Later inside (w ∷ ws)
  dump : (ws : List Word) → Later true ws → Later false (bytes_of "$dumpvars" ∷ ws)
  dumped : (ws : List Word) → Later false ws → Later true (bytes_of "$end" ∷ ws)

-- A word that can stand for a name or a code.
abbrev pub NotEnd : Word → Type 0
NotEnd w = is "$end" w ≡ false

-- The definitions: sections in any order, the timescale once among them, then their end and what is behind it. The bool says
-- whether the timescale has been.
pub data Sections : Bool → List Word → Type 0 where
  scale : (ws : List Word) → Sections true ws
      → Sections false (bytes_of "$timescale" ∷ bytes_of "1" ∷ bytes_of "us" ∷ bytes_of "$end" ∷ ws)
  scale_joined : (ws : List Word) → Sections true ws
      → Sections false (bytes_of "$timescale" ∷ bytes_of "1us" ∷ bytes_of "$end" ∷ ws)
  scope : (scaled : Bool) (kind name : Word) (ws : List Word) → is_scope_kind kind ≡ true → NotEnd name → Sections scaled ws
      → Sections scaled (bytes_of "$scope" ∷ kind ∷ name ∷ bytes_of "$end" ∷ ws)
  upscope : (scaled : Bool) (ws : List Word) → Sections scaled ws → Sections scaled (bytes_of "$upscope" ∷ bytes_of "$end" ∷ ws)
  var : (scaled : Bool) (type code name : Word) (ws : List Word) → is_var_type type ≡ true → NotEnd code → NotEnd name
      → Sections scaled ws
      → Sections scaled (bytes_of "$var" ∷ type ∷ bytes_of "1" ∷ code ∷ name ∷ bytes_of "$end" ∷ ws)
  over : (ws : List Word) → Later false ws → Sections true (bytes_of "$enddefinitions" ∷ bytes_of "$end" ∷ ws)

-- Every byte of every word is one of 21h to 7Eh.
unfoldable pub AllPlain : List Word → Type 0
AllPlain [] = Unit {0}
AllPlain (w ∷ ws) = (is_plain w ≡ true) × AllPlain ws

-- The words of a capture stand as the grammar says.
abbrev pub Grammatical : List ℕ → Type 0
Grammatical capture = AllPlain (said (words capture)) × Sections false (said (words capture))

-- That is where its last word leaves it whole.
abbrev pub FormIsGrammar : Type 0
FormIsGrammar = (capture : List ℕ) → (is_whole (scan_of capture).phase ≡ true) ↔ Grammatical capture

-- The names that the sections declare, in their order, and the codes.
unfoldable pub names_of : {scaled : Bool} {ws : List Word} → Sections scaled ws → List Word
names_of (scale ws rest) = names_of rest
names_of (scale_joined ws rest) = names_of rest
names_of (scope scaled kind name ws k n rest) = names_of rest
names_of (upscope scaled ws rest) = names_of rest
names_of (var scaled type code name ws t c n rest) = name ∷ names_of rest
names_of (over ws rest) = []

unfoldable pub codes_of : {scaled : Bool} {ws : List Word} → Sections scaled ws → List Word
codes_of (scale ws rest) = codes_of rest
codes_of (scale_joined ws rest) = codes_of rest
codes_of (scope scaled kind name ws k n rest) = codes_of rest
codes_of (upscope scaled ws rest) = codes_of rest
codes_of (var scaled type code name ws t c n rest) = code ∷ codes_of rest
codes_of (over ws rest) = []

-- The codes that are changed behind them.
unfoldable pub changed_in : {inside : Bool} {ws : List Word} → Later inside ws → List Word
changed_in ended = []
changed_in (stamp w ws s rest) = changed_in rest
changed_in (change inside w ws c rest) = drop 1 w ∷ changed_in rest
changed_in (dump ws rest) = changed_in rest
changed_in (dumped ws rest) = changed_in rest

unfoldable pub changed_of : {scaled : Bool} {ws : List Word} → Sections scaled ws → List Word
changed_of (scale ws rest) = changed_of rest
changed_of (scale_joined ws rest) = changed_of rest
changed_of (scope scaled kind name ws k n rest) = changed_of rest
changed_of (upscope scaled ws rest) = changed_of rest
changed_of (var scaled type code name ws t c n rest) = changed_of rest
changed_of (over ws rest) = changed_in rest

-- How often a word is among others.
unfoldable pub times : Word → List Word → ℕ
times w [] = 0
times w (x ∷ xs) = cond (same x w) 1 0 + times w xs

-- Each of these words is among those.
unfoldable pub AllAmong : List Word → List Word → Type 0
AllAmong [] those = Unit {0}
AllAmong (w ∷ ws) those = (1 ≤ times w those) × AllAmong ws those

-- The needed signal of a line.
abbrev pub needed : ℕ → Word
needed line = slice_index_or names line []

-- A text in the subset: it is grammatical, no needed name is there twice, and every changed code is declared.
pub record InSubset (capture : List ℕ) : Type 0 where
  pub plain : AllPlain (said (words capture))
  pub form : Sections false (said (words capture))
  pub once : (line : ℕ) → line < 11 → times (needed line) (names_of form) ≤ 1
  pub declared : AllAmong (changed_of form) (codes_of form)

-- A needed signal is missing from such a text: no section declares its name.
abbrev pub Missing : List ℕ → Type 0
Missing capture =
    (line : ℕ) × (line < 11) × ((stands : InSubset capture) → times (needed line) (names_of stands.form) ≡ 0)
