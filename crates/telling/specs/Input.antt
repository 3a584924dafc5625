-- What was read of an input.
-- Assumes nothing.
use Rattle.std.specs.Prelude.{ℕ, Result, Ok, Err}
use Rattle.telling.specs.declared.input.Unread.{Unread}

-- How many bytes were read, also where a read failed.
abbrev pub read_of : Result ℕ Unread → ℕ
read_of (Ok length) = length
read_of (Err unread) = unread.length
