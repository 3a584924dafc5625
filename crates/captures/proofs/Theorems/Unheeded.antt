-- What an import takes no notice of.
-- Assumes nothing.
use Rattle.std.proofs.Common.{◌≡◌, ℕ, Bool, true, false, not, ◌&&◌, ◌||◌, leb, List, [], ◌∷◌, ◌++◌, get_or, drop, sym, refl, ap, ◌∙◌}
use Rattle.captures.specs.declared.form.Phase.{Phase}
use Rattle.captures.specs.declared.form.Phase.TheVariants.{Section}
use Rattle.captures.specs.Falls.{Scan}
use Rattle.captures.specs.Words.{Word, words, same, is_plain}
use Rattle.captures.specs.Form.{code_comes, is_whole, past, changes_come, is_stamp, stamp_of, stamp_limit, is_change, level_set}
use Rattle.captures.specs.Definitions.{Head, blank_head, defined, defined_by, declares, lacks_code}
use Rattle.captures.specs.Falls.{Fall, blank_scan, ends, falls, fall_at, scanned, scanned_by, falls_from, altered, stamped, ends_stamp}
use Rattle.captures.specs.Import.{head_of, scan_of, falls_of, in_subset, is_missing}
use Rattle.captures.specs.Unheeded.{said, BlanksUnheeded, NoStamps, OthersUnheeded, StampAfter, FirstStampUnheeded, RepeatedStampUnheeded, phase_after}
use Rattle.captures.proofs.Laws.Behind.{SameDeclared, falls_all, import_alike, scanned_by_all, changes_over, codes_then, rest_alike, scan_then, scanned_reached}
use Rattle.captures.proofs.Laws.Changes.{change_no_stamp, change_scanned, no_end_tells, no_stamp_tells, scanned_begun, stamp_scanned, whole_come}
use Rattle.captures.proofs.Laws.Stamps.{again_ends_none, again_same, empty_defines, empty_shows, empty_tells, first_either_way, first_ends_none, others_skipped}

-- line ends and blanks: nothing that is asked of the words is changed by the empty ones

defined_said : (head : Head) (ws : List Word) → defined_by head ws ≡ defined_by head (said ws)
unfolding defined_by said
defined_said head [] = refl
defined_said head ([] ∷ ws) = empty_defines head ws ∙ defined_said head ws
defined_said head ((byte ∷ w) ∷ ws) = defined_said (defined head (byte ∷ w)) ws

declares_said : (phase : Phase) (ws : List Word) (byte : ℕ) (code : Word) → declares phase ws (byte ∷ code) ≡ declares phase (said ws) (byte ∷ code)
unfolding declares said same past
declares_said phase [] byte code = refl
declares_said phase ([] ∷ ws) byte code = neither (code_comes phase) _ ∙ declares_said phase ws byte code
  where
    neither : (a b : Bool) → ((a && false) || b) ≡ b
    neither true b = refl
    neither false b = refl
declares_said phase ((first ∷ w) ∷ ws) byte code =
    ap (λ (b : Bool). (code_comes phase && same (first ∷ w) (byte ∷ code)) || b) (declares_said (past phase (first ∷ w)) ws byte code)

scanned_said : (all codes : List Word) (scan : Scan) (ws : List Word) → scanned_by all codes scan ws ≡ scanned_by all codes scan (said ws)
unfolding scanned_by said
scanned_said all codes scan [] = refl
scanned_said all codes scan ([] ∷ ws) = empty_shows all codes scan ws ∙ scanned_said all codes scan ws
scanned_said all codes scan ((byte ∷ w) ∷ ws) = scanned_said all codes (scanned all codes scan (byte ∷ w)) ws

falls_said : (all codes : List Word) (scan : Scan) (ws : List Word) → falls_from all codes scan ws ≡ falls_from all codes scan (said ws)
unfolding falls_from said
falls_said all codes scan [] = refl
falls_said all codes scan ([] ∷ ws) = empty_tells all codes scan ws ∙ falls_said all codes scan ws
falls_said all codes scan ((byte ∷ w) ∷ ws) =
    ap (λ (l : List Fall). fall_at (ends scan (byte ∷ w) && falls scan) scan ++ l) (falls_said all codes (scanned all codes scan (byte ∷ w)) ws)

module _ (capture : List ℕ) where
  abbrev pub said_in : List Word
  said_in = said (words capture)

  pub head_said : head_of capture ≡ defined_by blank_head said_in
  head_said = defined_said blank_head (words capture)

  abbrev pub codes_said : List Word
  codes_said = (defined_by blank_head said_in).codes

  declared_said : SameDeclared (words capture) said_in
  declared_said byte code = declares_said (Section false) (words capture) byte code

  pub scan_said : scan_of capture ≡ scanned_by said_in codes_said blank_scan said_in
  scan_said =
      ap (λ (h : Head). scanned_by (words capture) h.codes blank_scan (words capture)) head_said
      ∙ scanned_by_all (words capture) said_in codes_said declared_said blank_scan (words capture)
      ∙ scanned_said said_in codes_said blank_scan (words capture)

  fell_said : falls_of capture ≡ falls_from said_in codes_said blank_scan said_in
  fell_said =
      ap (λ (h : Head). falls_from (words capture) h.codes blank_scan (words capture)) head_said
      ∙ falls_all (words capture) said_in codes_said declared_said blank_scan (words capture)
      ∙ falls_said said_in codes_said blank_scan (words capture)

  abbrev form_of : List Word → Bool
  form_of ws =
      let seen = scanned_by ws (defined_by blank_head ws).codes blank_scan ws in
      is_whole seen.phase && (not (defined_by blank_head ws).twice && not seen.strange)

  subset_said : in_subset capture ≡ form_of said_in
  unfolding in_subset
  subset_said =
      ap (λ (s : Scan). is_whole s.phase && (not (head_of capture).twice && not s.strange)) scan_said
      ∙ ap (λ (h : Head). is_whole (scanned_by said_in codes_said blank_scan said_in).phase && (not h.twice && not (scanned_by said_in codes_said blank_scan said_in).strange)) head_said

  missing_said : is_missing capture ≡ lacks_code 11 codes_said
  unfolding is_missing
  missing_said = ap (λ (h : Head). lacks_code 11 h.codes) head_said

pub blanks_unheeded : BlanksUnheeded
blanks_unheeded a b alike =
    import_alike a b
    (subset_said a ∙ ap (form_of a) alike ∙ sym (subset_said b))
    (missing_said a ∙ ap (λ (ws : List Word). lacks_code 11 (defined_by blank_head ws).codes) alike ∙ sym (missing_said b))
    (fell_said a ∙ ap (λ (ws : List Word). falls_from ws (defined_by blank_head ws).codes blank_scan ws) alike ∙ sym (fell_said b))

-- behind the start that two captures share

module _ (start : List Word) where
  then_phase : (scan_then start).phase ≡ phase_after start
  then_phase = scanned_reached start (codes_then start) blank_scan start

  then_come : changes_come (phase_after start) ≡ true → changes_come (scan_then start).phase ≡ true
  then_come come = ap changes_come then_phase ∙ come

  then_whole : is_whole (phase_after start) ≡ true → is_whole (scan_then start).phase ≡ true
  then_whole whole = ap is_whole then_phase ∙ whole

-- a change of another scalar leaves all as it was seen
other_scanned : (all codes : List Word) (scan : Scan) (w : Word) → changes_come scan.phase ≡ true → is_change w ≡ true → is_plain w ≡ true
    → declares (Section false) all (drop 1 w) ≡ true → ((line : ℕ) → same (get_or codes line []) (drop 1 w) ≡ false)
    → scanned all codes scan w ≡ scan
other_scanned all codes scan w come is plain declared none =
    let levels = others_skipped 11 codes (drop 1 w) (level_set w) scan.levels none in
    let strange : (scan.strange || not (declares (Section false) all (drop 1 w))) ≡ scan.strange =
    ap (λ (b : Bool). scan.strange || not b) declared ∙ or_false scan.strange in
    change_scanned all codes scan w come is plain
    ∙ (λ i. record {
      phase = scan.phase;
      levels = levels i;
      begun = scan.begun;
      stamp = scan.stamp;
      before = scan.before;
      strange = strange i;
    })
  where
    or_false : (b : Bool) → (b || false) ≡ b
    or_false true = refl
    or_false false = refl

pub others_unheeded : OthersUnheeded
unfolding scanned_by
others_unheeded a b start rest w go other =
    let codes = codes_then start in
    let scan = scan_then start in
    let seen = other_scanned start codes scan w (then_come start other.place) other.change other.plain other.declared other.not_needed in
    rest_alike start (changes_over (phase_after start) other.place) a b (w ∷ rest) rest go
    (ap (λ (s : Scan). scanned_by start codes s rest) seen)
    (no_stamp_tells start codes scan w rest (change_no_stamp w other.change) ∙ ap (λ (s : Scan). falls_from start codes s rest) seen)

-- no stamp has come
not_begun : (all codes : List Word) (scan : Scan) (ws : List Word) → NoStamps ws → scan.begun ≡ false → (scanned_by all codes scan ws).begun ≡ false
unfolding scanned_by NoStamps
not_begun all codes scan [] none is = is
not_begun all codes scan (w ∷ ws) none is =
    not_begun all codes (scanned all codes scan w) ws none.1 (scanned_begun all codes scan w none.0 ∙ is)

module _ (start : List Word) (w s : Word) (rest : List Word) (at : StampAfter start s) (first : NoStamps start) (is : is_change w ≡ true)
    (plain : is_plain w ≡ true) where
  abbrev codes : List Word
  codes = codes_then start

  abbrev scan : Scan
  scan = scan_then start

  whole : is_whole scan.phase ≡ true
  whole = then_whole start at.place

  come : changes_come scan.phase ≡ true
  come = whole_come scan.phase whole

  begun : scan.begun ≡ false
  begun = not_begun start codes blank_scan start first refl

  changed_first : scanned start codes scan w ≡ altered start codes scan (drop 1 w) (level_set w)
  changed_first = change_scanned start codes scan w come is plain

  stamped_first : scanned start codes scan s ≡ stamped scan (stamp_of s)
  stamped_first = stamp_scanned start codes scan s whole at.stamp at.plain

  both_ways : scanned start codes (scanned start codes scan w) s ≡ scanned start codes (scanned start codes scan s) w
  unfolding stamped
  both_ways =
      ap (λ (t : Scan). scanned start codes t s) changed_first
      ∙ stamp_scanned start codes (altered start codes scan (drop 1 w) (level_set w)) s whole at.stamp at.plain
      ∙ first_either_way start codes scan (drop 1 w) (level_set w) (stamp_of s) begun
      ∙ sym (change_scanned start codes (stamped scan (stamp_of s)) w come is plain)
      ∙ sym (ap (λ (t : Scan). scanned start codes t w) stamped_first)

  first_tells_none : falls_from start codes scan (w ∷ s ∷ rest) ≡ falls_from start codes scan (s ∷ w ∷ rest)
  first_tells_none =
      let none = change_no_stamp w is in
      no_stamp_tells start codes scan w (s ∷ rest) none
      ∙ no_end_tells start codes (scanned start codes scan w) s rest
      (first_ends_none (scanned start codes scan w) (stamp_of s) (scanned_begun start codes scan w none ∙ begun))
      ∙ ap (λ (t : Scan). falls_from start codes t rest) both_ways
      ∙ sym (no_stamp_tells start codes (scanned start codes scan s) w rest none)
      ∙ sym (no_end_tells start codes scan s (w ∷ rest) (first_ends_none scan (stamp_of s) begun))

pub first_stamp_unheeded : FirstStampUnheeded
unfolding scanned_by
first_stamp_unheeded a b start rest w s go at first is plain =
    rest_alike start (changes_over (phase_after start) (whole_come (phase_after start) at.place)) a b (w ∷ s ∷ rest) (s ∷ w ∷ rest) go
    (ap (λ (t : Scan). scanned_by start (codes_then start) t rest) (both_ways start w s rest at first is plain))
    (first_tells_none start w s rest at first is plain)

-- the same stamp again leaves all as it was seen
again_scanned : (all codes : List Word) (scan : Scan) (s again : Word) → is_whole scan.phase ≡ true → is_stamp s ≡ true → is_plain s ≡ true
    → is_plain again ≡ true → stamp_of again ≡ stamp_of s
    → scanned all codes (scanned all codes scan s) again ≡ scanned all codes scan s
unfolding stamped
again_scanned all codes scan s again whole is plain also same-stamp =
    let once = stamp_scanned all codes scan s whole is plain in
    let twice : stamped (stamped scan (stamp_of s)) (stamp_of again) ≡ stamped scan (stamp_of s) =
    ap (stamped (stamped scan (stamp_of s))) same-stamp ∙ again_same scan (stamp_of s) in
    ap (λ (t : Scan). scanned all codes t again) once
    ∙ stamp_scanned all codes (stamped scan (stamp_of s)) again whole (ap (λ (n : ℕ). leb n stamp_limit) same-stamp ∙ is) also
    ∙ twice
    ∙ sym once

pub repeated_stamp_unheeded : RepeatedStampUnheeded
unfolding scanned_by falls_from
repeated_stamp_unheeded a b start rest s again go at also same-stamp =
    let codes = codes_then start in
    let scan = scan_then start in
    let whole = then_whole start at.place in
    let once = stamp_scanned start codes scan s whole at.stamp at.plain in
    let seen = again_scanned start codes scan s again whole at.stamp at.plain also same-stamp in
    let none : ends_stamp (scanned start codes scan s) (stamp_of again) ≡ false =
    ap (λ (n : ℕ). ends_stamp (scanned start codes scan s) n) same-stamp
    ∙ ap (λ (t : Scan). ends_stamp t (stamp_of s)) once ∙ again_ends_none scan (stamp_of s) in
    rest_alike start (changes_over (phase_after start) (whole_come (phase_after start) at.place)) a b (s ∷ again ∷ rest) (s ∷ rest) go
    (ap (λ (t : Scan). scanned_by start codes t rest) seen)
    (ap (λ (l : List Fall). fall_at (ends scan s && falls scan) scan ++ l)
    (no_end_tells start codes (scanned start codes scan s) again rest none ∙ ap (λ (t : Scan). falls_from start codes t rest) seen))
