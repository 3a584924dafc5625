-- A capture as a session: each fall of E is a transfer, written as a session line (request b).
-- Assumes nothing.
use Rattle.std.specs.Prelude.{ℕ, ◌+◌, ◌-◌, ◌*◌, ◌%◌, Bool, false, cond, not, ◌&&◌, ◌||◌, List, [], ◌∷◌, length, ◌==◌}
use Rattle.controller.specs.declared.answers.Answer.{Answer}
use Rattle.controller.specs.Answers.{is_done}
use Rattle.controller.specs.declared.answers.Answer.TheVariants.{OutsideSubset, SignalMissing, LevelUnknown, Done}
use Rattle.controller.specs.declared.sent.Sent.{Sent}
use Rattle.lines.specs.Line.{lines_of}
use Rattle.lines.specs.Writing.{Writing, refusing, wanting}
use Rattle.captures.specs.Falls.{Scan}
use Rattle.captures.specs.Words.{words}
use Rattle.captures.specs.Form.{is_whole}
use Rattle.captures.specs.Definitions.{Head, blank_head, defined_by, lacks_code}
use Rattle.captures.specs.Falls.{Fall, blank_scan, level_at, scanned_by, falls_from}

-- A line counts where it is at 1.
unfoldable pub bit : ℕ → ℕ
bit level = cond (level == 1) 1 0

-- The kind: instruction write 0, data write 1 (RS), status read 2 (RW), data read 3 (both).
unfoldable pub kind_of : List ℕ → ℕ
kind_of levels = bit (level_at levels 0) + 2 * bit (level_at levels 1)

-- Four lines as a number, the first worth 1.
unfoldable pub four : ℕ → ℕ → ℕ → ℕ → ℕ
four first second third fourth = bit first + 2 * bit second + 4 * bit third + 8 * bit fourth

-- The byte on DB0 to DB7.
unfoldable pub bus_byte : List ℕ → ℕ
bus_byte levels =
    four (level_at levels 3) (level_at levels 4) (level_at levels 5) (level_at levels 6)
    + 16 * four (level_at levels 7) (level_at levels 8) (level_at levels 9) (level_at levels 10)

-- The byte of the transfer: a read's is written 00.
unfoldable pub byte_of : List ℕ → ℕ
byte_of levels = cond (level_at levels 1 == 1) 0 (bus_byte levels)

-- The wait from one stamp to another: our pod's stamp has 32 bits and starts again from 0.
unfoldable pub wait_from : ℕ → ℕ → ℕ
wait_from before stamp = (stamp + 4294967296 - before) % 4294967296

-- The transfer at a fall, the one before it at this stamp.
abbrev pub sent_at : ℕ → Fall → Sent
sent_at before fall =
    record { kind = kind_of fall.levels; byte = byte_of fall.levels; wait = wait_from before fall.stamp }

-- The transfers at these falls, the one before them at this stamp.
unfoldable pub sent_from : ℕ → List Fall → List Sent
sent_from before [] = []
sent_from before (fall ∷ later) = sent_at before fall ∷ sent_from fall.stamp later

-- The transfers at all falls; the first has wait 0.
unfoldable pub sent_by : List Fall → List Sent
sent_by [] = []
sent_by (fall ∷ later) = sent_from fall.stamp (fall ∷ later)

-- The level is x or z.
abbrev pub is_open : ℕ → Bool
is_open level = level == 2

-- One of four is.
unfoldable pub one_open : ℕ → ℕ → ℕ → ℕ → Bool
one_open first second third fourth = is_open first || (is_open second || (is_open third || is_open fourth))

-- x or z on one of DB0 to DB7.
unfoldable pub bus_open : List ℕ → Bool
bus_open levels =
    one_open (level_at levels 3) (level_at levels 4) (level_at levels 5) (level_at levels 6)
    || one_open (level_at levels 7) (level_at levels 8) (level_at levels 9) (level_at levels 10)

-- x or z on a needed line; on DB0 to DB7 for writes only.
unfoldable pub unknown_at : List ℕ → Bool
unknown_at levels =
    is_open (level_at levels 0) || (is_open (level_at levels 1) || (level_at levels 1 == 0 && bus_open levels))

-- At one of the falls a needed line is at x or z.
unfoldable pub unknown_in : List Fall → Bool
unknown_in [] = false
unknown_in (fall ∷ later) = unknown_at fall.levels || unknown_in later

-- The definitions of a capture, all of it read.
abbrev pub head_of : List ℕ → Head
head_of capture = defined_by blank_head (words capture)

-- A capture, all of it read.
abbrev pub scan_of : List ℕ → Scan
scan_of capture = scanned_by (words capture) (head_of capture).codes blank_scan (words capture)

-- The falls of E in a capture.
abbrev pub falls_of : List ℕ → List Fall
falls_of capture = falls_from (words capture) (head_of capture).codes blank_scan (words capture)

-- The text is in the subset: its words stand as they must, no needed name is there twice, and every changed code is declared.
unfoldable pub in_subset : List ℕ → Bool
in_subset capture = is_whole (scan_of capture).phase && (not (head_of capture).twice && not (scan_of capture).strange)

-- A needed signal is missing.
unfoldable pub is_missing : List ℕ → Bool
is_missing capture = lacks_code 11 (head_of capture).codes

-- The session's text: a line for each transfer.
unfoldable pub session_text : List ℕ → List ℕ
session_text capture = lines_of (sent_by (falls_of capture))

-- The refusals in their order, each over the whole text: 14, 15, 28.
unfoldable pub judged : Bool → Bool → Bool → Answer
judged inside missing unknown =
    cond (not inside) OutsideSubset (cond missing SignalMissing (cond unknown LevelUnknown Done))

-- What is said of a capture before its session's text is looked at.
abbrev pub judgement_of : List ℕ → Answer
judgement_of capture = judged (in_subset capture) (is_missing capture) (unknown_in (falls_of capture))

-- Importing a capture: refused by one of those, or by 11 where the buffer is shorter than the session's text.
unfoldable pub importing : List ℕ → List ℕ → Writing
importing capture out =
    cond (is_done (judgement_of capture)) (wanting (length (session_text capture)) (session_text capture) out)
    (refusing (judgement_of capture))
