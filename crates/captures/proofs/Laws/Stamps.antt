-- Laws of single words: an empty one, the first stamp, a stamp repeated, and a change of a scalar that is skipped.
-- Assumes nothing.
use Rattle.std.proofs.Common.{◌≡◌, ℕ, zero, suc, Bool, false, cond, not, ◌&&◌, eqb, List, [], ◌∷◌, ◌++◌, get_or, set, refl, ap, ◌∙◌, eq-eqb}
use lib.Seq.{set-get_or}
use Rattle.controller.proofs.Laws.Choice.{cond-elim}
use Rattle.captures.specs.Falls.{Scan}
use Rattle.captures.specs.Words.{Word, same}
use Rattle.captures.specs.Form.{changes_come, stamp_of, level_set, past}
use Rattle.captures.specs.Definitions.{Head, defined, defined_by}
use Rattle.captures.specs.Falls.{Fall, altered, changed, ends_stamp, falls, falls_from, moved, scanned, scanned_by, stamped}
use Rattle.captures.proofs.Laws.Changes.{no_stamp_lem}

-- an empty word says nothing: neither to the definitions nor to the lines nor to the falls
pub empty_defines : (head : Head) (ws : List Word) → defined_by head ([] ∷ ws) ≡ defined_by head ws
unfolding defined_by defined
empty_defines head ws = refl

empty_scanned : (all codes : List Word) (scan : Scan) → scanned all codes scan [] ≡ scan
unfolding scanned moved past stamp_of level_set
empty_scanned all codes scan = cond-elim (λ (s : Scan). s ≡ scan) (changes_come scan.phase) _ _ (λ _. refl) (λ _. refl)

pub empty_shows : (all codes : List Word) (scan : Scan) (ws : List Word) → scanned_by all codes scan ([] ∷ ws) ≡ scanned_by all codes scan ws
unfolding scanned_by
empty_shows all codes scan ws = ap (λ (s : Scan). scanned_by all codes s ws) (empty_scanned all codes scan)

pub empty_tells : (all codes : List Word) (scan : Scan) (ws : List Word) → falls_from all codes scan ([] ∷ ws) ≡ falls_from all codes scan ws
unfolding falls_from stamp_of
empty_tells all codes scan ws =
    ap (λ (l : List Fall). l ++ falls_from all codes (scanned all codes scan []) ws)
    (no_stamp_lem (changes_come scan.phase) (ends_stamp scan (stamp_of [])) (falls scan) scan)
    ∙ ap (λ (s : Scan). falls_from all codes s ws) (empty_scanned all codes scan)

-- the first stamp ends none, and a change before it is the same as one behind it
pub first_ends_none : (scan : Scan) (stamp : ℕ) → scan.begun ≡ false → ends_stamp scan stamp ≡ false
first_ends_none scan stamp first = ap (λ (b : Bool). b && not (eqb stamp scan.stamp)) first

pub first_either_way : (all codes : List Word) (scan : Scan) (code : Word) (level stamp : ℕ) → scan.begun ≡ false
    → stamped (altered all codes scan code level) stamp ≡ altered all codes (stamped scan stamp) code level
unfolding stamped
first_either_way all codes scan code level stamp first = simp first

-- a stamp repeated at once ends none and alters nothing
pub again_ends_none : (scan : Scan) (stamp : ℕ) → ends_stamp (stamped scan stamp) stamp ≡ false
unfolding stamped
again_ends_none scan stamp = simp (eq-eqb stamp stamp refl)

pub again_same : (scan : Scan) (stamp : ℕ) → stamped (stamped scan stamp) stamp ≡ stamped scan stamp
unfolding stamped
again_same scan stamp = simp (eq-eqb stamp stamp refl)

-- a change of a code that no needed signal has alters no line
pub others_skipped : (lines : ℕ) (codes : List Word) (code : Word) (level : ℕ) (levels : List ℕ) → ((line : ℕ) → same (get_or codes line []) code ≡ false)
    → changed lines codes code level levels ≡ levels
unfolding changed
others_skipped zero codes code level levels none = refl
others_skipped (suc line) codes code level levels none =
    ap (λ (b : Bool). set (changed line codes code level levels) line (cond b level (get_or (changed line codes code level levels) line 0))) (none line)
    ∙ set-get_or (changed line codes code level levels) line 0
    ∙ others_skipped line codes code level levels none
