-- Text: quoted, and put into a buffer.
-- Assumes nothing.
use Rattle.std.specs.Prelude.{List, [], ◌∷◌, ℕ, ◌+◌, ◌-◌, length, take}
use Prim.Native.Char.{code}
use Prim.Native.String as string
use Prim.Native.String.{String}
use Rattle.std.proofs.lemmas.List.Edits.{sets}

-- The bytes of a quoted text, whose letters are all of ASCII.
abbrev pub bytes_of : String → List ℕ
bytes_of string.[] = []
bytes_of (string.◌∷◌ letter rest) = code letter ∷ bytes_of rest

-- A buffer that is written up to a place.
pub record Put : Type 0 where
  pub at : ℕ
  pub out : List ℕ

-- This buffer, written up to this place.
abbrev pub put : ℕ → List ℕ → Put
put at out = record { at = at; out = out }

-- What of a text fits there.
abbrev pub fitting : Put → List ℕ → List ℕ
fitting p text = take (length p.out - p.at) text

-- The buffer with what fits of a text put at the place, and the place after it.
unfoldable pub putting : Put → List ℕ → Put
putting p text = put (p.at + length (fitting p text)) (sets p.out p.at (fitting p text))
