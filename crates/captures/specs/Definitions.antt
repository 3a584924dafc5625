-- The definitions of a capture: which codes are declared, and which of them the eleven needed signals have (request b).
-- Assumes nothing.
use Rattle.std.specs.Prelude.{ℕ, zero, suc, Bool, false, cond, not, ◌&&◌, ◌||◌, List, [], ◌∷◌, replicate, nat_lt, slice_index_or}
use Rattle.std.specs.Prelude.{slice_set}
use Rattle.lines.specs.Text.{bytes_of}
use Rattle.captures.specs.declared.form.Phase.{Phase}
use Rattle.captures.specs.declared.form.Phase.TheVariants.{Section}
use Rattle.captures.specs.Words.{Word, words, is_empty, same, place_in}
use Rattle.captures.specs.Form.{past, code_comes, name_comes}

-- The signals that are needed, in the order of the eleven lines.
unfoldable pub names : List Word
names = words (bytes_of "RS RW E DB0 DB1 DB2 DB3 DB4 DB5 DB6 DB7")

-- What has been read of the definitions: the phase, the code of the section at hand, the code of each needed signal, empty
-- where it is not declared yet, and whether one of them was declared twice.
pub record Head : Type 0 where
  pub phase : Phase
  pub code : Word
  pub codes : List Word
  pub twice : Bool

-- Nothing is declared before the first word.
abbrev pub blank_head : Head
blank_head = record { phase = Section false; code = []; codes = replicate 11 []; twice = false }

-- With the code at hand for one of the eleven lines.
unfoldable pub placed : Head → ℕ → Head
placed head line =
    record {
      phase = head.phase;
      code = head.code;
      codes = slice_set head.codes line head.code;
      twice = head.twice || not (is_empty (slice_index_or head.codes line []));
    }

-- With a name more: a needed name gets the code before it; any other scalar is skipped.
unfoldable pub named : Head → Word → Head
named head w = cond (nat_lt (place_in names w) 11) (placed head (place_in names w)) head

-- With a code more.
abbrev pub coded : Head → Word → Head
coded head w = record { phase = head.phase; code = w; codes = head.codes; twice = head.twice }

-- In this phase.
abbrev pub entering : Phase → Head → Head
entering phase head = record { phase = phase; code = head.code; codes = head.codes; twice = head.twice }

-- With a word more; an empty one says nothing.
unfoldable pub defined : Head → Word → Head
defined head w =
    cond (is_empty w) head
    (cond (code_comes head.phase) (coded (entering (past head.phase w) head) w)
    (cond (name_comes head.phase) (named (entering (past head.phase w) head) w) (entering (past head.phase w) head)))

-- With all of these words more.
unfoldable pub defined_by : Head → List Word → Head
defined_by head [] = head
defined_by head (w ∷ ws) = defined_by (defined head w) ws

-- Some section among these words, from this phase on, declares the code.
unfoldable pub declares : Phase → List Word → Word → Bool
declares phase [] code = false
declares phase (w ∷ ws) code = (code_comes phase && same w code) || declares (past phase w) ws code

-- One of the signals before this place among the needed ones has no code.
unfoldable pub lacks_code : ℕ → List Word → Bool
lacks_code zero codes = false
lacks_code (suc line) codes = is_empty (slice_index_or codes line []) || lacks_code line codes
