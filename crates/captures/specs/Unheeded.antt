-- What an import takes no notice of: each theorem is a type here, and its proof stands in proofs/Theorems/Unheeded (request b).
-- Assumes nothing.
use Rattle.std.specs.Prelude.{◌≡◌, ℕ, true, false, ◌⊎◌, List, [], ◌∷◌, ◌++◌, drop, slice_index_or}
use Rattle.controller.specs.declared.answers.Answer.TheVariants.{OutsideSubset}
use Rattle.captures.specs.declared.form.Phase.{Phase}
use Rattle.captures.specs.declared.form.Phase.TheVariants.{Section}
use Rattle.captures.specs.Words.{Word, words, is_plain, same}
use Rattle.captures.specs.Form.{past, changes_come, is_whole, is_stamp, stamp_of, is_change}
use Rattle.captures.specs.Definitions.{blank_head, defined_by, declares}
use Rattle.captures.specs.Import.{in_subset, is_missing, importing}

-- Two captures import alike into every buffer.
abbrev pub ImportAlike : List ℕ → List ℕ → Type 0
ImportAlike a b = (out : List ℕ) → importing a out ≡ importing b out

-- The words that say something: all but the empty ones, which stand where two blanks meet.
unfoldable pub said : List Word → List Word
said [] = []
said ([] ∷ ws) = said ws
said ((byte ∷ w) ∷ ws) = (byte ∷ w) ∷ said ws

-- Line ends and blanks do not matter: captures that say the same words import alike.
abbrev pub BlanksUnheeded : Type 0
BlanksUnheeded = (a b : List ℕ) → said (words a) ≡ said (words b) → ImportAlike a b

-- The phase that these words lead to.
unfoldable pub reached : Phase → List Word → Phase
reached phase [] = phase
reached phase (w ∷ ws) = reached (past phase w) ws

-- The phase after the first words of a capture.
abbrev pub phase_after : List Word → Phase
phase_after ws = reached (Section false) ws

-- Two captures that begin with the same words and go on with others.
pub record GoOn (a b : List ℕ) (start x y : List Word) : Type 0 where
  pub one : words a ≡ start ++ x
  pub other : words b ≡ start ++ y

-- A change, where one can stand, of a scalar that is declared and is none of the eleven.
pub record OtherScalar (start : List Word) (w : Word) : Type 0 where
  pub place : changes_come (phase_after start) ≡ true
  pub change : is_change w ≡ true
  pub plain : is_plain w ≡ true
  pub declared : declares (Section false) start (drop 1 w) ≡ true
  pub not_needed : (line : ℕ) → same (slice_index_or (defined_by blank_head start).codes line []) (drop 1 w) ≡ false

-- Scalars that are not needed never alter the result: with a change of one, wherever it stands, and without it a capture imports
-- alike.
abbrev pub OthersUnheeded : Type 0
OthersUnheeded =
    (a b : List ℕ) (start rest : List Word) (w : Word) → GoOn a b start (w ∷ rest) rest → OtherScalar start w → ImportAlike a b

-- None of these words is a stamp.
unfoldable pub NoStamps : List Word → Type 0
NoStamps [] = Unit {0}
NoStamps (w ∷ ws) = (is_stamp w ≡ false) × NoStamps ws

-- A stamp, where one can stand.
pub record StampAfter (start : List Word) (s : Word) : Type 0 where
  pub place : is_whole (phase_after start) ≡ true
  pub stamp : is_stamp s ≡ true
  pub plain : is_plain s ≡ true

-- What stands before the first stamp counts as at it: a change just before it and just after it imports alike. So every change
-- can be carried over.
abbrev pub FirstStampUnheeded : Type 0
FirstStampUnheeded =
    (a b : List ℕ) (start rest : List Word) (w s : Word) → GoOn a b start (w ∷ s ∷ rest) (s ∷ w ∷ rest) → StampAfter start s
    → NoStamps start → is_change w ≡ true → is_plain w ≡ true → ImportAlike a b

-- A stamp repeated at once is one stamp, however its number is written.
abbrev pub RepeatedStampUnheeded : Type 0
RepeatedStampUnheeded =
    (a b : List ℕ) (start rest : List Word) (s again : Word) → GoOn a b start (s ∷ again ∷ rest) (s ∷ rest) → StampAfter start s
    → is_plain again ≡ true → stamp_of again ≡ stamp_of s → ImportAlike a b

-- Two words of one form: the same word, or changes of one code to any levels.
abbrev pub OneForm : Word → Word → Type 0
OneForm w v = (w ≡ v) ⊎ ((is_change w ≡ true) × (is_change v ≡ true) × (drop 1 w ≡ drop 1 v))

unfoldable pub AllOneForm : List Word → List Word → Type 0
AllOneForm [] [] = Unit {0}
AllOneForm [] (v ∷ vs) = ⊥
AllOneForm (w ∷ ws) [] = ⊥
AllOneForm (w ∷ ws) (v ∷ vs) = OneForm w v × AllOneForm ws vs

-- 14 looks at the text's form alone: neither at the buffer nor, behind the definitions, at the levels, and so not at 28. Nor does
-- 15, which looks at the definitions alone.
pub record FormAlone : Type 0 where
  pub buffer : (capture out other : List ℕ) → (importing capture out).answer ≡ OutsideSubset
      → (importing capture other).answer ≡ OutsideSubset
  pub levels : (a b : List ℕ) (start x y : List Word) → GoOn a b start x y → changes_come (phase_after start) ≡ true
      → AllOneForm x y
      → (in_subset a ≡ in_subset b) × (is_missing a ≡ is_missing b)
