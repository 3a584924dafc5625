-- A transfer as it is sent, and its bytes in a plan (document 01, "One transfer", "The plan").
-- Assumes nothing.
use Rattle.std.specs.Prelude.{List, [], ◌∷◌, ℕ, ◌+◌, ◌*◌, ◌/◌, ◌%◌, get_or}
use Rattle.controller.specs.declared.sent.Sent.{Sent}

-- A number as four bytes, little-endian.
abbrev pub little_endian : ℕ → List ℕ
little_endian number = number % 256 ∷ number / 256 % 256 ∷ number / 65536 % 256 ∷ number / 16777216 % 256 ∷ []

-- The number of four bytes, little-endian.
abbrev pub number_from : ℕ → ℕ → ℕ → ℕ → ℕ
number_from first second third fourth = first + second * 256 + third * 65536 + fourth * 16777216

-- Records are six bytes: kind, byte, wait little-endian.
abbrev pub six_bytes : Sent → List ℕ
six_bytes t = t.kind ∷ t.byte ∷ little_endian t.wait

-- The record of six bytes at the start of a buffer, read as a transfer: kind, byte, wait little-endian.
abbrev pub sent_at : List ℕ → Sent
sent_at bytes =
    record {
      kind = get_or bytes 0 0;
      byte = get_or bytes 1 0;
      wait = number_from (get_or bytes 2 0) (get_or bytes 3 0) (get_or bytes 4 0) (get_or bytes 5 0);
    }
