-- Walks over a capture's text: where they stand, and what is left. Only the code's own contracts cite these.
-- Assumes nothing.
use Rattle.std.specs.Prelude.{◌≡◌, ℕ, ◌+◌, Bool, true, false, cond, ◌&&◌, ◌||◌, List, [], ◌∷◌, length, map, nat_lt, Option, Some}
use Rattle.std.specs.Prelude.{None, Result, Ok, Err}
use Rattle.std.specs.Option.{is_some, unwrap_or}
use Rattle.controller.specs.declared.answers.Answer.{Answer}
use Rattle.controller.specs.Answers.{is_done}
use Rattle.lines.specs.Line.{line}
use Rattle.lines.specs.Text.{put, putting}
use denote.Ref.{Bor}
use Rattle.captures.specs.declared.falls.Tally.{Tally as KeptTally}
use Rattle.captures.specs.declared.definitions.Head.{Head as KeptHead}
use Rattle.captures.specs.declared.scan.Scan.{Scan as KeptScan}
use Rattle.captures.specs.declared.scan.Stamp.{Stamp as KeptStamp}
use Rattle.captures.specs.Words.{Word, words}
use Rattle.captures.specs.Form.{changes_come, number_of_level, numbers_of}
use Rattle.captures.specs.Definitions.{Head, blank_head, defined_by}
use Rattle.captures.specs.Falls.{Fall, Scan, blank_scan, ends_stamp, scanned_by, falls_from}
use Rattle.captures.specs.Import.{kind_of, byte_of, wait_from, unknown_at}

-- Texts that are lent.
abbrev pub Lent : Type 0
Lent = List (Bor (List ℕ))

-- The codes of the needed signals.
abbrev pub codes_in : Lent → List Word
codes_in codes = map (λ code. code.now) codes

-- The definitions as the code keeps them.
abbrev pub head_in : KeptHead → Head
head_in head =
    record { phase = head.phase; code = head.code.now; codes = codes_in head.codes; twice = head.twice }

-- The definitions of a text, read as far as they go: the codes, and whether a needed signal was declared twice.
pub record HeadRead (text : List ℕ) (head : KeptHead) : Type 0 where
  pub codes : codes_in head.codes ≡ (defined_by blank_head (words text)).codes
  pub twice : head.twice ≡ (defined_by blank_head (words text)).twice

-- A stamp, or 0 where none has come.
abbrev pub stamp_in : Option KeptStamp → ℕ
stamp_in None = 0
stamp_in (Some last) = last.number

-- E as it stood before a stamp, open where none has come.
abbrev pub before_in : Option KeptStamp → ℕ
before_in None = 2
before_in (Some last) = number_of_level last.before

-- What has been read of a capture, as the code keeps it.
abbrev pub scan_in : KeptScan → Scan
scan_in scan =
    record {
      phase = scan.phase;
      levels = numbers_of scan.levels;
      begun = is_some scan.stamp;
      stamp = stamp_in scan.stamp;
      before = before_in scan.stamp;
      strange = scan.strange;
    }

-- With these levels.
abbrev pub with_levels : Scan → List ℕ → Scan
with_levels scan levels =
    record {
      phase = scan.phase;
      levels = levels;
      begun = scan.begun;
      stamp = scan.stamp;
      before = scan.before;
      strange = scan.strange;
    }

-- The same, where there may be no stamp.
abbrev pub ends_at : Scan → Option ℕ → Bool
ends_at scan None = false
ends_at scan (Some stamp) = changes_come scan.phase && ends_stamp scan stamp

-- What is counted of the falls: whether there was one, the last one's stamp, whether a needed line was at x or z, and the length
-- of their lines.
pub record Tally : Type 0 where
  pub fell : Bool
  pub last : ℕ
  pub unknown : Bool
  pub length : ℕ

-- The same, as the code keeps it.
abbrev pub tally_in : KeptTally → Tally
tally_in tally =
    record { fell = is_some tally.last; last = unwrap_or tally.last 0; unknown = tally.unknown; length = tally.length }

-- The stamp that a transfer's wait counts from: that of the fall before, or its own where there is none.
abbrev pub since : Tally → ℕ → ℕ
since tally stamp = cond tally.fell tally.last stamp

-- The line of the transfer at a fall.
unfoldable pub line_at : Tally → Fall → List ℕ
line_at tally fall = line (kind_of fall.levels) (byte_of fall.levels) (wait_from (since tally fall.stamp) fall.stamp)

-- A length more; past 2^63, which no buffer has, it stays.
unfoldable pub longer : ℕ → ℕ → ℕ
longer length more = cond (nat_lt length 9223372036854775808) (length + more) length

-- A fall more.
unfoldable pub counted : Tally → Fall → Tally
counted tally fall =
    record {
      fell = true;
      last = fall.stamp;
      unknown = tally.unknown || unknown_at fall.levels;
      length = longer tally.length (length (line_at tally fall));
    }

-- What is counted, and the buffer.
pub record Told : Type 0 where
  pub tally : Tally
  pub out : List ℕ

-- Both together.
abbrev pub told : Tally → List ℕ → Told
told tally out = record { tally = tally; out = out }

-- A fall more, its line put where the lines before it end.
abbrev pub telling_one : Told → Fall → Told
telling_one t fall =
    told (counted t.tally fall) (putting (put t.tally.length t.out) (line_at t.tally fall)).out

-- All of these falls more.
unfoldable pub telling : Told → List Fall → Told
telling t [] = t
telling t (fall ∷ later) = telling (telling_one t fall) later

-- Nothing is counted yet.
abbrev pub no_tally : Tally
no_tally = record { fell = false; last = 0; unknown = false; length = 0 }

-- A fall at this stamp, with these levels.
abbrev pub fall_with : ℕ → List ℕ → Fall
fall_with stamp levels = record { stamp = stamp; levels = levels }

-- A capture read to its end: what was seen last, and its falls told.
pub record Walked (text : List ℕ) (codes : List Word) (out : List ℕ) (scan : Scan) (tally : Tally) (after : List ℕ) : Type 0 where
  pub seen : scan ≡ scanned_by (words text) codes blank_scan (words text)
  pub heard : told tally after ≡ telling (told no_tally out) (falls_from (words text) codes blank_scan (words text))

-- What is told of a capture that is judged: nothing where it is done, else the refusal.
abbrev pub verdict_of : Answer → Result Unit Answer
verdict_of answer = cond (is_done answer) (Ok tt) (Err answer)
