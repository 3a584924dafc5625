-- Laws of captures that begin with the same words: what stands behind the definitions defines nothing, and what comes of the rest
-- depends on the words before it through what was seen of them alone.
-- Assumes nothing.
use Rattle.std.proofs.Common.{◌≡◌, ℕ, Bool, true, false, cond, not, ◌&&◌, ◌||◌, ltb, List, [], ◌∷◌, ◌++◌, length, drop, sym, refl, ap, ◌∙◌, append_assoc, leb-true}
use Rattle.controller.proofs.Laws.Choice.{cond-elim}
use Rattle.controller.specs.Answers.{is_done}
use Rattle.lines.specs.Line.{lines_of}
use Rattle.lines.specs.Writing.{Writing, refusing, wanting}
use Rattle.captures.specs.declared.form.Phase.{Phase}
use Rattle.captures.specs.declared.form.Phase.TheVariants.{Section}
use Rattle.captures.specs.Falls.{Scan}
use Rattle.captures.specs.Words.{Word, words, is_empty, same, place_in}
use Rattle.captures.specs.Form.{asked, code_comes, name_comes, changes_come, is_whole, past, is_stamp, stamp_of, is_change, level_set}
use Rattle.captures.specs.Definitions.{Head, blank_head, names, placed, named, entering, defined, defined_by, declares, lacks_code}
use Rattle.captures.specs.Falls.{Fall, blank_scan, stamped, moved, scanned, scanned_by, ends, falls, fall_at, falls_from}
use Rattle.captures.specs.Import.{head_of, scan_of, falls_of, in_subset, is_missing, unknown_in, sent_by, session_text, judged, importing}
use Rattle.captures.specs.Unheeded.{reached, phase_after, GoOn, ImportAlike}
use Rattle.captures.proofs.Laws.Falls.{declares_never}
use Rattle.captures.proofs.Laws.Over.{over, over_asked}
use Rattle.captures.proofs.Laws.Session.{defined_over}

pub changes_over : (phase : Phase) → changes_come phase ≡ true → over phase ≡ true
changes_over phase come = over_asked phase (leb-true 3 (asked phase) come)

defined_append : (head : Head) (xs ys : List Word) → defined_by head (xs ++ ys) ≡ defined_by (defined_by head xs) ys
unfolding defined_by
defined_append head [] ys = refl
defined_append head (x ∷ xs) ys = defined_append (defined head x) xs ys

named_phase : (head : Head) (w : Word) → (named head w).phase ≡ head.phase
unfolding named placed
named_phase head w = cond-elim (λ (h : Head). h.phase ≡ head.phase) (ltb (place_in names w) 11) _ _ (λ _. refl) (λ _. refl)

defined_phase : (head : Head) (w : Word) → (defined head w).phase ≡ past head.phase w
unfolding defined past
defined_phase head w =
    cond-elim (λ (h : Head). h.phase ≡ past head.phase w) (is_empty w) _ _ (λ e. simp e)
    (λ _. cond-elim (λ (h : Head). h.phase ≡ past head.phase w) (code_comes head.phase) _ _ (λ _. refl)
    (λ _. cond-elim (λ (h : Head). h.phase ≡ past head.phase w) (name_comes head.phase) _ _
    (λ _. named_phase (entering (past head.phase w) head) w) (λ _. refl)))

defined_reached : (head : Head) (ws : List Word) → (defined_by head ws).phase ≡ reached head.phase ws
unfolding defined_by reached
defined_reached head [] = refl
defined_reached head (w ∷ ws) = defined_reached (defined head w) ws ∙ ap (λ (p : Phase). reached p ws) (defined_phase head w)

declares_start : (phase : Phase) (xs ys : List Word) (code : Word) → over (reached phase xs) ≡ true
    → declares phase (xs ++ ys) code ≡ declares phase xs code
unfolding declares reached
declares_start phase [] ys code is = declares_never phase ys code is
declares_start phase (x ∷ xs) ys code is = ap (λ (b : Bool). (code_comes phase && same x code) || b) (declares_start (past phase x) xs ys code is)

pub scanned_phase : (all codes : List Word) (scan : Scan) (w : Word) → (scanned all codes scan w).phase ≡ past scan.phase w
unfolding scanned moved stamped
scanned_phase all codes scan w =
    cond-elim (λ (s : Scan). s.phase ≡ past scan.phase w) (changes_come scan.phase) _ _
    (λ _. cond-elim (λ (s : Scan). s.phase ≡ past scan.phase w) (is_stamp w) _ _ (λ _. refl)
    (λ _. cond-elim (λ (s : Scan). s.phase ≡ past scan.phase w) (is_change w) _ _ (λ _. refl) (λ _. refl)))
    (λ _. refl)

-- whether a code was changed that is not declared: with a word more, in this phase
unfoldable pub stranger : List Word → Phase → Bool → Word → Bool
stranger all phase strange w =
    cond (changes_come phase)
    (cond (is_stamp w) strange (cond (is_change w) (strange || not (declares (Section false) all (drop 1 w))) strange)) strange

pub scanned_stranger : (all codes : List Word) (scan : Scan) (w : Word) → (scanned all codes scan w).strange ≡ stranger all scan.phase scan.strange w
unfolding scanned moved stamped stranger
scanned_stranger all codes scan w = go (changes_come scan.phase) (is_stamp w) (is_change w) _ _ _ _
  where
    go : (a b c : Bool) (x y z u : Scan) → (cond a (cond b x (cond c y z)) u).strange ≡ cond a (cond b x.strange (cond c y.strange z.strange)) u.strange
    go true true c x y z u = refl
    go true false true x y z u = refl
    go true false false x y z u = refl
    go false b c x y z u = refl

pub scanned_reached : (all codes : List Word) (scan : Scan) (ws : List Word) → (scanned_by all codes scan ws).phase ≡ reached scan.phase ws
unfolding scanned_by reached
scanned_reached all codes scan [] = refl
scanned_reached all codes scan (w ∷ ws) =
    scanned_reached all codes (scanned all codes scan w) ws ∙ ap (λ (p : Phase). reached p ws) (scanned_phase all codes scan w)

scanned_append : (all codes : List Word) (scan : Scan) (xs ys : List Word)
    → scanned_by all codes scan (xs ++ ys) ≡ scanned_by all codes (scanned_by all codes scan xs) ys
unfolding scanned_by
scanned_append all codes scan [] ys = refl
scanned_append all codes scan (x ∷ xs) ys = scanned_append all codes (scanned all codes scan x) xs ys

-- the falls that end among these words
unfoldable falls_in : List Word → List Word → Scan → List Word → List Fall
falls_in all codes scan [] = []
falls_in all codes scan (w ∷ ws) = fall_at (ends scan w && falls scan) scan ++ falls_in all codes (scanned all codes scan w) ws

falls_append : (all codes : List Word) (scan : Scan) (xs ys : List Word)
    → falls_from all codes scan (xs ++ ys) ≡ falls_in all codes scan xs ++ falls_from all codes (scanned_by all codes scan xs) ys
unfolding scanned_by falls_from falls_in
falls_append all codes scan [] ys = refl
falls_append all codes scan (x ∷ xs) ys =
    ap (λ (l : List Fall). fall_at (ends scan x && falls scan) scan ++ l) (falls_append all codes (scanned all codes scan x) xs ys)
    ∙ sym (append_assoc (fall_at (ends scan x && falls scan) scan) (falls_in all codes (scanned all codes scan x) xs) (falls_from all codes (scanned_by all codes (scanned all codes scan x) xs) ys))

-- two captures declare the same codes
abbrev pub SameDeclared : List Word → List Word → Type 0
SameDeclared all other = (byte : ℕ) (code : Word) → declares (Section false) all (byte ∷ code) ≡ declares (Section false) other (byte ∷ code)

module _ (all other codes : List Word) (alike : SameDeclared all other) where
  scanned_all : (scan : Scan) (w : Word) → scanned all codes scan w ≡ scanned other codes scan w
  unfolding scanned moved stamp_of level_set
  scanned_all scan [] = refl
  scanned_all scan (a ∷ []) = refl
  scanned_all scan (a ∷ b ∷ rest) = rw (alike b rest) refl

  pub scanned_by_all : (scan : Scan) (ws : List Word) → scanned_by all codes scan ws ≡ scanned_by other codes scan ws
  unfolding scanned_by
  scanned_by_all scan [] = refl
  scanned_by_all scan (w ∷ ws) =
      ap (λ (s : Scan). scanned_by all codes s ws) (scanned_all scan w) ∙ scanned_by_all (scanned other codes scan w) ws

  pub falls_all : (scan : Scan) (ws : List Word) → falls_from all codes scan ws ≡ falls_from other codes scan ws
  unfolding falls_from
  falls_all scan [] = refl
  falls_all scan (w ∷ ws) =
      ap (λ (l : List Fall). fall_at (ends scan w && falls scan) scan ++ l)
      (ap (λ (s : Scan). falls_from all codes s ws) (scanned_all scan w) ∙ falls_all (scanned other codes scan w) ws)

-- an import looks at a capture's form, its missing signals and its falls alone
unfoldable import_of : Bool → Bool → List Fall → List ℕ → Writing
import_of inside missing fell out =
    cond (is_done (judged inside missing (unknown_in fell))) (wanting (length (lines_of (sent_by fell))) (lines_of (sent_by fell)) out)
    (refusing (judged inside missing (unknown_in fell)))

import_of_lem : (capture out : List ℕ) → importing capture out ≡ import_of (in_subset capture) (is_missing capture) (falls_of capture) out
unfolding importing import_of session_text
import_of_lem capture out = refl

pub import_alike : (a b : List ℕ) → in_subset a ≡ in_subset b → is_missing a ≡ is_missing b → falls_of a ≡ falls_of b → ImportAlike a b
import_alike a b form missing fell out =
    import_of_lem a out
    ∙ ap (λ (i : Bool). import_of i (is_missing a) (falls_of a) out) form
    ∙ ap (λ (m : Bool). import_of (in_subset b) m (falls_of a) out) missing
    ∙ ap (λ (f : List Fall). import_of (in_subset b) (is_missing b) f out) fell
    ∙ sym (import_of_lem b out)

-- what was seen of the words that a capture begins with: its needed codes, whether a needed name was there twice, and its lines
abbrev pub codes_then : List Word → List Word
codes_then start = (defined_by blank_head start).codes

abbrev twice_then : List Word → Bool
twice_then start = (defined_by blank_head start).twice

-- whether a capture with this start, which ends in this phase, is in the subset
abbrev pub form_then : List Word → Phase → Bool → Bool
form_then start phase strange = is_whole phase && (not (twice_then start) && not strange)

abbrev pub scan_then : List Word → Scan
scan_then start = scanned_by start (codes_then start) blank_scan start

-- words that reach past the definitions say all that is defined
module _ (start : List Word) (past-them : over (phase_after start) ≡ true) where
  module _ (capture : List ℕ) (rest : List Word) (is : words capture ≡ start ++ rest) where
    codes_then_lem : ((head_of capture).codes ≡ codes_then start) × ((head_of capture).twice ≡ twice_then start)
    codes_then_lem =
        let parts : head_of capture ≡ defined_by (defined_by blank_head start) rest = ap (defined_by blank_head) is ∙ defined_append blank_head start rest in
        let reaches : over (defined_by blank_head start).phase ≡ true = ap over (defined_reached blank_head start) ∙ past-them in
        let none = defined_over (defined_by blank_head start) rest reaches in
        (ap (λ (h : Head). h.codes) parts ∙ sym none.0, ap (λ (h : Head). h.twice) parts ∙ sym none.1)

    declared_then : SameDeclared (words capture) start
    declared_then byte code =
        ap (λ (l : List Word). declares (Section false) l (byte ∷ code)) is ∙ declares_start (Section false) start rest (byte ∷ code) past-them

    pub scan_then_lem : scan_of capture ≡ scanned_by start (codes_then start) (scan_then start) rest
    scan_then_lem =
        ap (λ (codes : List Word). scanned_by (words capture) codes blank_scan (words capture)) codes_then_lem.0
        ∙ scanned_by_all (words capture) start (codes_then start) declared_then blank_scan (words capture)
        ∙ ap (scanned_by start (codes_then start) blank_scan) is
        ∙ scanned_append start (codes_then start) blank_scan start rest

    falls_then : falls_of capture ≡ falls_in start (codes_then start) blank_scan start ++ falls_from start (codes_then start) (scan_then start) rest
    falls_then =
        ap (λ (codes : List Word). falls_from (words capture) codes blank_scan (words capture)) codes_then_lem.0
        ∙ falls_all (words capture) start (codes_then start) declared_then blank_scan (words capture)
        ∙ ap (falls_from start (codes_then start) blank_scan) is
        ∙ falls_append start (codes_then start) blank_scan start rest

    pub subset_then : in_subset capture
        ≡ form_then start (scanned_by start (codes_then start) (scan_then start) rest).phase (scanned_by start (codes_then start) (scan_then start) rest).strange
    unfolding in_subset
    subset_then =
        let seen = scanned_by start (codes_then start) (scan_then start) rest in
        ap (λ (s : Scan). is_whole s.phase && (not (head_of capture).twice && not s.strange)) scan_then_lem
        ∙ ap (λ (t : Bool). is_whole seen.phase && (not t && not seen.strange)) codes_then_lem.1

    pub missing_then : is_missing capture ≡ lacks_code 11 (codes_then start)
    unfolding is_missing
    missing_then = ap (lacks_code 11) codes_then_lem.0

  -- so two of them import alike where the rest comes to the same
  pub rest_alike : (a b : List ℕ) (x y : List Word) → GoOn a b start x y
      → scanned_by start (codes_then start) (scan_then start) x ≡ scanned_by start (codes_then start) (scan_then start) y
      → falls_from start (codes_then start) (scan_then start) x ≡ falls_from start (codes_then start) (scan_then start) y → ImportAlike a b
  rest_alike a b x y go seen fell =
      import_alike a b
      (subset_then a x go.one
      ∙ ap (λ (s : Scan). form_then start s.phase s.strange) seen
      ∙ sym (subset_then b y go.other))
      (missing_then a x go.one ∙ sym (missing_then b y go.other))
      (falls_then a x go.one ∙ ap (λ (l : List Fall). falls_in start (codes_then start) blank_scan start ++ l) fell ∙ sym (falls_then b y go.other))
