-- A wish as 16 bytes, and the wish that bytes say.
-- Assumes nothing.
use Rattle.std.specs.Prelude.{cond, List, [], ◌∷◌, ℕ, eqb, length, get_or, Option, Some, None}
use Rattle.planner.specs.declared.wish.Wish.{Wish}
use Rattle.interface.specs.RecordBytes.{bit_byte, frequency_from, high_byte, low_byte, same_bytes}

-- The 16 bytes of a wish: N, F, D, C, B, I/D, S, shift, cursor, the frequency little-endian, and five zeros.
unfoldable pub wish_bytes : Wish → List ℕ
wish_bytes wish =
    bit_byte wish.function.n ∷ bit_byte wish.function.f
    ∷ bit_byte wish.control.d ∷ bit_byte wish.control.c ∷ bit_byte wish.control.b
    ∷ bit_byte wish.entry.id ∷ bit_byte wish.entry.s
    ∷ wish.shift ∷ wish.cursor
    ∷ low_byte wish.frequency ∷ high_byte wish.frequency
    ∷ 0 ∷ 0 ∷ 0 ∷ 0 ∷ 0 ∷ []

-- The wish that 16 bytes say if they say one: a bit above 1 is read as 0.
abbrev pub wish_from : List ℕ → Wish
wish_from bytes =
    record {
      function = record { n = eqb (get_or bytes 0 0) 1; f = eqb (get_or bytes 1 0) 1 };
      control = record { d = eqb (get_or bytes 2 0) 1; c = eqb (get_or bytes 3 0) 1; b = eqb (get_or bytes 4 0) 1 };
      entry = record { id = eqb (get_or bytes 5 0) 1; s = eqb (get_or bytes 6 0) 1 };
      shift = get_or bytes 7 0;
      cursor = get_or bytes 8 0;
      frequency = frequency_from (get_or bytes 9 0) (get_or bytes 10 0);
    }

-- The wish if these bytes are its own.
unfoldable pub wish_as : Wish → List ℕ → Option Wish
wish_as wish bytes = cond (same_bytes bytes (wish_bytes wish)) (Some wish) None

-- What bytes say: the one wish whose 16 bytes they are. Any other length or value is none.
unfoldable pub wish_in : List ℕ → Option Wish
wish_in bytes = cond (eqb (length bytes) 16) (wish_as (wish_from bytes) bytes) None
