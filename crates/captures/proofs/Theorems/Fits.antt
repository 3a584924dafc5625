-- How long a session's text can be: what E still needs for its next fall, counted in bytes of the capture.
-- Assumes nothing.
use Rattle.std.proofs.Common.{◌≡◌, ℕ, ◌+◌, ◌*◌, ◌≤◌, Bool, true, false, cond, ◌&&◌, eqb, List, [], ◌∷◌, ◌++◌, length, drop, refl, ap, ◌∙◌, arith, length-append, eqb-true}
use mathlib.Core.Bool.{false≢true}
use Rattle.controller.proofs.Laws.Choice.{and_left, and_right}
use Rattle.lines.specs.Line.{line, lines_of}
use Rattle.lines.proofs.Laws.Digits.{either}
use Rattle.lines.proofs.Theorems.Written.{lines_fit}
use Rattle.captures.specs.Falls.{Scan}
use Rattle.captures.specs.Words.{Word, is_blank, joined, words}
use Rattle.captures.specs.Form.{changes_come, is_change, is_stamp, level_set, stamp_of}
use Rattle.captures.specs.Falls.{Fall, blank_scan, changed, ends, ends_stamp, fall_at, falls, falls_from, level_at, moved, scanned, stamped}
use Rattle.captures.specs.Import.{falls_of, head_of, sent_at, sent_by, sent_from, session_text, wait_from}
use Rattle.captures.specs.Theorems.{ImportFits}
use Rattle.captures.proofs.Laws.Changes.{no_end_tells, no_stamp_tells}

-- the bytes that a capture has spent on its next fall, by E at the stamp before and E now
unfoldable credit : ℕ → ℕ → ℕ
credit before now = cond (eqb before 1) (cond (eqb now 0) 9 6) (cond (eqb now 1) 3 0)

-- a change brings it on by three at most
credit_change : (before now then : ℕ) → credit before then ≤ credit before now + 3
unfolding credit
credit_change before now then = go (eqb before 1) (eqb now 0) (eqb then 0) (eqb now 1) (eqb then 1)
  where
    go : (b n t m u : Bool) → cond b (cond t 9 6) (cond u 3 0) ≤ cond b (cond n 9 6) (cond m 3 0) + 3
    go true true true m u = omega arith
    go true true false m u = omega arith
    go true false true m u = omega arith
    go true false false m u = omega arith
    go false n t true true = omega arith
    go false n t true false = omega arith
    go false n t false true = omega arith
    go false n t false false = omega arith

-- so does a stamp that ends one
credit_end : (before now : ℕ) → credit now now ≤ credit before now + 3
unfolding credit
credit_end before now =
    either (eqb now 1) (λ e. let one = eqb-true now 1 e in rw one (go (eqb before 1)))
    (λ e. simp e (low (eqb before 1) (eqb now 0)))
  where
    go : (b : Bool) → 6 ≤ cond b 6 3 + 3
    go true = omega arith
    go false = omega arith

    low : (b n : Bool) → 0 ≤ cond b (cond n 9 6) 0 + 3
    low b n = omega arith

abbrev credit_of : Scan → ℕ
credit_of scan = credit scan.before (level_at scan.levels 2)

-- the bytes of words, each with the blank behind it
unfoldable weight : List Word → ℕ
weight [] = 0
weight (w ∷ ws) = length w + 1 + weight ws

weight_words : (text : List ℕ) → weight (words text) ≤ length text + 1
unfolding weight words joined
weight_words [] = omega arith
weight_words (byte ∷ rest) = go (is_blank byte) (words rest) (weight_words rest)
  where
    go : (b : Bool) (ws : List Word) → weight ws ≤ length rest + 1 → weight (joined b byte ws) ≤ length (byte ∷ rest) + 1
    go true ws less = omega arith
    go false [] less = omega arith
    go false (w ∷ ws) less = omega arith

-- a stamp and a change have two characters at least
stamp_long : (w : Word) → is_stamp w ≡ true → 2 ≤ length w
unfolding stamp_of
stamp_long [] is = absurd (false≢true is)
stamp_long (a ∷ []) is = absurd (false≢true is)
stamp_long (a ∷ b ∷ rest) is = omega arith

change_long : (w : Word) → is_change w ≡ true → 2 ≤ length w
unfolding level_set
change_long [] is = absurd (false≢true is)
change_long (a ∷ []) is = absurd (false≢true is)
change_long (a ∷ b ∷ rest) is = omega arith

-- the falls from here on, by what is left of the text and what has been spent
abbrev Within : List Word → List Word → Scan → List Word → Type 0
Within all codes scan ws = 12 * length (falls_from all codes scan ws) ≤ credit_of scan + weight ws + 3

module _ (all codes : List Word) (scan : Scan) (w : Word) (ws : List Word) (rest : (s : Scan) → Within all codes s ws) where
  -- no fall is told, and the word spends enough
  quiet : falls_from all codes scan (w ∷ ws) ≡ falls_from all codes (scanned all codes scan w) ws
      → credit_of (scanned all codes scan w) ≤ credit_of scan + length w + 1 → Within all codes scan (w ∷ ws)
  unfolding weight
  quiet none spent =
      let later = rest (scanned all codes scan w) in
      let same-falls = ap (λ (l : List Fall). length l) none in omega arith

  early : changes_come scan.phase ≡ false → Within all codes scan (w ∷ ws)
  unfolding falls_from scanned fall_at
  early none =
      quiet (ap (λ (b : Bool). fall_at ((b && (is_stamp w && ends_stamp scan (stamp_of w))) && falls scan) scan ++ falls_from all codes (scanned all codes scan w) ws) none)
      (simp none (omega arith))

  other : changes_come scan.phase ≡ true → is_stamp w ≡ false → is_change w ≡ false → Within all codes scan (w ∷ ws)
  unfolding scanned moved
  other come no_stamp_lem no_change = quiet (no_stamp_tells all codes scan w ws no_stamp_lem) (simp (come, no_stamp_lem, no_change) (omega arith))

  changes : changes_come scan.phase ≡ true → is_stamp w ≡ false → is_change w ≡ true → Within all codes scan (w ∷ ws)
  unfolding scanned moved
  changes come no_stamp_lem is =
      let long = change_long w is in
      let spent = credit_change scan.before (level_at scan.levels 2) (level_at (changed 11 codes (drop 1 w) (level_set w) scan.levels) 2) in
      quiet (no_stamp_tells all codes scan w ws no_stamp_lem) (simp (come, no_stamp_lem, is) (omega arith))

  repeats : changes_come scan.phase ≡ true → is_stamp w ≡ true → ends_stamp scan (stamp_of w) ≡ false → Within all codes scan (w ∷ ws)
  unfolding scanned moved stamped
  repeats come is no_end = quiet (no_end_tells all codes scan w ws no_end) (simp (come, is, no_end) (omega arith))

  ended : changes_come scan.phase ≡ true → is_stamp w ≡ true → ends_stamp scan (stamp_of w) ≡ true
      → credit_of (scanned all codes scan w) ≡ credit (level_at scan.levels 2) (level_at scan.levels 2)
  unfolding scanned moved stamped
  ended come is end = simp (come, is, end)

  stays_up : changes_come scan.phase ≡ true → is_stamp w ≡ true → ends_stamp scan (stamp_of w) ≡ true → falls scan ≡ false → Within all codes scan (w ∷ ws)
  unfolding falls_from fall_at
  stays_up come is end no-fall =
      let long = stamp_long w is in
      let spent = credit_end scan.before (level_at scan.levels 2) in
      let after = ended come is end in
      quiet (ap (λ (b : Bool). fall_at (ends scan w && b) scan ++ falls_from all codes (scanned all codes scan w) ws) no-fall ∙ none (ends scan w)) (omega arith)
    where
      none : (b : Bool) → (fall_at (b && false) scan ++ falls_from all codes (scanned all codes scan w) ws) ≡ falls_from all codes (scanned all codes scan w) ws
      none true = refl
      none false = refl

  goes_down : changes_come scan.phase ≡ true → is_stamp w ≡ true → ends_stamp scan (stamp_of w) ≡ true → falls scan ≡ true → Within all codes scan (w ∷ ws)
  unfolding falls_from fall_at weight credit
  goes_down come is end fall =
      let long = stamp_long w is in
      let high = eqb-true scan.before 1 (and_left _ _ fall) in
      let low = eqb-true (level_at scan.levels 2) 0 (and_right (eqb scan.before 1) _ fall) in
      let later = rest (scanned all codes scan w) in
      let nothing : credit_of (scanned all codes scan w) ≡ 0 = ended come is end ∙ ap (λ (n : ℕ). credit n n) low in
      let full : credit_of scan ≡ 9 = ap (λ (n : ℕ). credit n (level_at scan.levels 2)) high ∙ ap (credit 1) low in
      let one : length (falls_from all codes scan (w ∷ ws)) ≡ 1 + length (falls_from all codes (scanned all codes scan w) ws) = simp (come, is, end, fall) (omega arith) in
      omega arith

  -- one word more
  step : Within all codes scan (w ∷ ws)
  step =
      either (changes_come scan.phase)
      (λ come. either (is_stamp w)
      (λ is. either (ends_stamp scan (stamp_of w)) (λ end. either (falls scan) (goes_down come is end) (stays_up come is end)) (repeats come is))
      (λ no_stamp_lem. either (is_change w) (changes come no_stamp_lem) (other come no_stamp_lem)))
      early

within : (all codes : List Word) (scan : Scan) (ws : List Word) → Within all codes scan ws
unfolding falls_from fall_at weight credit
within all codes scan [] =
    either (falls scan)
    (λ fall. let full : credit_of scan ≡ 9 =
    ap (λ (n : ℕ). credit n (level_at scan.levels 2)) (eqb-true scan.before 1 (and_left _ _ fall))
    ∙ ap (credit 1) (eqb-true (level_at scan.levels 2) 0 (and_right (eqb scan.before 1) _ fall)) in
    let one : length (fall_at (falls scan) scan) ≡ 1 = simp fall in omega arith)
    (λ none. let zero : length (fall_at (falls scan) scan) ≡ 0 = simp none in omega arith)
within all codes scan (w ∷ ws) = step all codes scan w ws (λ s. within all codes s ws)

-- a line for each fall, of 16 bytes at most
from_fit : (before : ℕ) (fell : List Fall) → length (lines_of (sent_from before fell)) ≤ 16 * length fell
unfolding sent_from lines_of wait_from
from_fit before [] = omega arith
from_fit before (fall ∷ later) =
    let t = sent_at before fall in
    let own = lines_fit t.kind t.byte t.wait (omega arith) in
    let both = length-append (line t.kind t.byte t.wait) (lines_of (sent_from fall.stamp later)) in
    let rest = from_fit fall.stamp later in omega arith

lines_of_falls : (fell : List Fall) → length (lines_of (sent_by fell)) ≤ 16 * length fell
unfolding sent_by lines_of
lines_of_falls [] = omega arith
lines_of_falls (fall ∷ later) = from_fit fall.stamp (fall ∷ later)

pub import_fits : ImportFits
unfolding session_text credit
import_fits capture =
    let few = within (words capture) (head_of capture).codes blank_scan (words capture) in
    let lines = lines_of_falls (falls_of capture) in
    let text = weight_words capture in omega arith
