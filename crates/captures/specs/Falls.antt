-- The lines as they stand, stamp by stamp, and the falls of E (request b).
-- Assumes nothing.
use Rattle.std.specs.Prelude.{ℕ, zero, suc, Bool, true, false, cond, not, ◌&&◌, ◌||◌, List, [], ◌∷◌, ◌++◌, drop, replicate, ◌==◌}
use Rattle.std.specs.Prelude.{slice_index, slice_index_or, slice_set}
use Rattle.captures.specs.declared.form.Phase.{Phase}
use Rattle.captures.specs.declared.form.Phase.TheVariants.{Section}
use Rattle.captures.specs.Words.{Word, same}
use Rattle.captures.specs.Form.{past, changes_come, is_stamp, stamp_of, is_change, level_set}
use Rattle.captures.specs.Definitions.{declares}

-- What has been read of a capture: the phase, the levels of the eleven lines, whether a stamp has come, the stamp, E as it stood
-- at the stamp before (2 where there was none), and whether a code was changed that is not declared.
pub record Scan : Type 0 where
  pub phase : Phase
  pub levels : List ℕ
  pub begun : Bool
  pub stamp : ℕ
  pub before : ℕ
  pub strange : Bool

-- Nothing is known of any line, and no stamp has come. The levels of the eleven lines are 0, 1, or 2 for x and z.
abbrev pub blank_scan : Scan
blank_scan =
    record { phase = Section false; levels = replicate 11 2; begun = false; stamp = 0; before = 2; strange = false }

-- The level of a line, by its place among the names: RS 0, RW 1, E 2, DB0 to DB7 3 to 10.
abbrev pub level_at : List ℕ → ℕ → ℕ
level_at levels line = slice_index levels line

-- Every line before this one gets the level where it has the code.
unfoldable pub changed : ℕ → List Word → Word → ℕ → List ℕ → List ℕ
changed zero codes code level levels = levels
changed (suc line) codes code level levels =
    slice_set (changed line codes code level levels) line
    (cond (same (slice_index_or codes line []) code) level (level_at (changed line codes code level levels) line))

-- This stamp ends the one before it. The first ends none, so that what stands before it counts as at it; one repeated at once
-- ends none either.
abbrev pub ends_stamp : Scan → ℕ → Bool
ends_stamp scan stamp = scan.begun && not (stamp == scan.stamp)

-- At a stamp: where it ends the one before it, E as it stood there is kept.
unfoldable pub stamped : Scan → ℕ → Scan
stamped scan stamp =
    record {
      phase = scan.phase;
      levels = scan.levels;
      begun = true;
      stamp = stamp;
      before = cond (ends_stamp scan stamp) (level_at scan.levels 2) scan.before;
      strange = scan.strange;
    }

-- After a change of this code: one that is not declared is noted.
abbrev pub altered : List Word → List Word → Scan → Word → ℕ → Scan
altered all codes scan code level =
    record {
      phase = scan.phase;
      levels = changed 11 codes code level scan.levels;
      begun = scan.begun;
      stamp = scan.stamp;
      before = scan.before;
      strange = scan.strange || not (declares (Section false) all code);
    }

-- In this phase.
abbrev pub in_phase : Phase → Scan → Scan
in_phase phase scan =
    record {
      phase = phase;
      levels = scan.levels;
      begun = scan.begun;
      stamp = scan.stamp;
      before = scan.before;
      strange = scan.strange;
    }

-- What a stamp or a change does, where one can come; any other word does nothing here.
unfoldable pub moved : List Word → List Word → Scan → Word → Scan
moved all codes scan w =
    cond (is_stamp w) (stamped scan (stamp_of w))
    (cond (is_change w) (altered all codes scan (drop 1 w) (level_set w)) scan)

-- With a word more, of a capture with all of these words, whose needed signals have these codes.
unfoldable pub scanned : List Word → List Word → Scan → Word → Scan
scanned all codes scan w =
    cond (changes_come scan.phase) (moved all codes (in_phase (past scan.phase w) scan) w)
    (in_phase (past scan.phase w) scan)

-- With all of these words more.
unfoldable pub scanned_by : List Word → List Word → Scan → List Word → Scan
scanned_by all codes scan [] = scan
scanned_by all codes scan (w ∷ ws) = scanned_by all codes (scanned all codes scan w) ws

-- A fall of E: its stamp, and the lines as they then stand.
pub record Fall : Type 0 where
  pub stamp : ℕ
  pub levels : List ℕ

-- At a stamp's end: E was 1 at the stamp before and is 0 now.
abbrev pub falls : Scan → Bool
falls scan = scan.before == 1 && level_at scan.levels 2 == 0

-- The fall at a stamp's end, if there is one.
unfoldable pub fall_at : Bool → Scan → List Fall
fall_at false scan = []
fall_at true scan = record { stamp = scan.stamp; levels = scan.levels } ∷ []

-- The word is a stamp that ends the one before it.
abbrev pub ends : Scan → Word → Bool
ends scan w = changes_come scan.phase && (is_stamp w && ends_stamp scan (stamp_of w))

-- The falls of E from here on; the text's end is the end of its last stamp.
unfoldable pub falls_from : List Word → List Word → Scan → List Word → List Fall
falls_from all codes scan [] = fall_at (falls scan) scan
falls_from all codes scan (w ∷ ws) =
    fall_at (ends scan w && falls scan) scan ++ falls_from all codes (scanned all codes scan w) ws
