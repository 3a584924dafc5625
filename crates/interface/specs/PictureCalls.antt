-- The picture for C: the answer's number, and every byte of the output.
-- Assumes nothing.
use Rattle.std.specs.Prelude.{Bool, cond, not, List, ℕ, eqb, length, Option, Some, None}
use Rattle.controller.specs.declared.answers.Answer.TheVariants.{Unsound}
use Rattle.controller.specs.declared.«record».Record.{Record}
use Rattle.controller.specs.Answers.{number_of}
use Rattle.dots.specs.declared.panel.Profile.{Profile}
use Rattle.dots.specs.declared.panel.Profile.TheVariants.{Plain, FourRows, Divided, Unknown}
use Rattle.dots.specs.Picture.{answered, output}
use Rattle.interface.specs.Filling.{Filling, declined}
use Rattle.interface.specs.RecordBytes.{record_in}

-- The picture of a record.
abbrev pub drawing_of : Record → List ℕ → Profile → Bool → List ℕ → Filling
drawing_of rec mem profile lit out =
    record { returned = number_of (answered rec mem profile (length out)); buffer = output rec mem profile lit out }

-- The picture of what the record's bytes say: bytes that say none are an unsound record.
unfoldable pub picture_from : Option Record → List ℕ → Profile → Bool → List ℕ → Filling
picture_from None mem profile lit out = declined Unsound out
picture_from (Some rec) mem profile lit out = drawing_of rec mem profile lit out

-- The panel that a number names: 0 the plain geometry of these columns and lines; 1 the 20 x 4 panel and 2 the divided 16 x 1
-- row, which take no notice of them. Any other is unknown.
unfoldable pub profile_of : ℕ → ℕ → ℕ → Profile
profile_of profile columns lines =
    cond (eqb profile 0) (Plain (record { columns = columns; lines = lines }))
    (cond (eqb profile 1) FourRows
    (cond (eqb profile 2) Divided
    Unknown))

-- What `yaropesk_picture` comes to. Any `lit` but 0 is the lit phase.
abbrev pub picture_call : List ℕ → List ℕ → ℕ → ℕ → ℕ → ℕ → List ℕ → Filling
picture_call bytes mem profile columns lines lit out =
    picture_from (record_in bytes) mem (profile_of profile columns lines) (not (eqb lit 0)) out
