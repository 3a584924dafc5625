-- Laws of the walk over a whole capture: what is left comes to the same.
-- Assumes nothing.
use Rattle.std.proofs.Common.{◌≡◌, ℕ, zero, suc, ◌≤◌, Bool, true, false, cond, Some, None, ◌&&◌, ◌||◌, leb, ltb, List, [], ◌∷◌, ◌++◌, length, get_or, take, sym, refl, ap, ◌∙◌, arith, add-one, take_all}
use denote.Ref.{Bor}
use Rattle.std.specs.List.{list_any}
use Rattle.std.proofs.lemmas.List.{take_more}
use Rattle.std.proofs.lemmas.List.Folds.{list_any-append}
use Rattle.controller.proofs.Laws.Choice.{cond-elim}
use Rattle.captures.specs.declared.form.Phase.{Phase}
use Rattle.captures.specs.Falls.{Scan}
use Rattle.captures.specs.Words.{Word, is_empty, place_in}
use Rattle.captures.specs.Form.{changes_come, code_comes, name_comes, past, stamp_limit, stamp_of, stamp_said}
use Rattle.captures.proofs.Laws.Over.{over, over_past}
use Rattle.captures.specs.Definitions.{Head, names, placed, named, defined, defined_by, lacks_code}
use Rattle.captures.specs.Falls.{Fall, ends, ends_stamp, falls, fall_at, falls_from, scanned, scanned_by}
use Rattle.captures.proofs.Laws.Definitions.{code_at}
use Rattle.captures.specs.Walk.{Lent, Told, codes_in, ends_at, telling_one, telling}
use Rattle.captures.proofs.Laws.Tally.{and_second}

-- a word more of the definitions
pub defined_step : (h next : Head) (left : List Word) (w : Word) (ws : List Word) → left ≡ w ∷ ws → next ≡ defined h w → defined_by next ws ≡ defined_by h left
unfolding defined_by
defined_step h next left w ws is goes = ap (λ (x : Head). defined_by x ws) goes ∙ sym (ap (defined_by h) is)

pub defined_end : (h : Head) (left : List Word) → left ≡ [] → h ≡ defined_by h left
unfolding defined_by
defined_end h left is = sym (ap (defined_by h) is)

past_empty : (phase : Phase) (w : Word) → is_empty w ≡ true → phase ≡ past phase w
unfolding past
past_empty phase w none = simp none

-- a word more of the definitions leads to the phase after it
pub defined_phase : (h : Head) (w : Word) → (defined h w).phase ≡ past h.phase w
unfolding defined named placed
defined_phase h w =
    cond-elim Leads (is_empty w) _ _ (past_empty h.phase w)
    (λ some. cond-elim Leads (code_comes h.phase) _ _ (λ code. refl)
    (λ other. cond-elim Leads (name_comes h.phase) _ _ (λ name. cond-elim Leads (ltb (place_in names w) 11) _ _ (λ line. refl) (λ none. refl)) (λ rest. refl)))
  where
    Leads : Head → Type 0
    Leads next = next.phase ≡ past h.phase w

-- behind the definitions' end nothing more is defined
defined_keeps : (h : Head) (w : Word) → code_comes h.phase ≡ false → name_comes h.phase ≡ false
    → ((defined h w).codes ≡ h.codes) × ((defined h w).twice ≡ h.twice)
unfolding defined
defined_keeps h w not_code nor = go (is_empty w) refl
  where
    go : (b : Bool) → is_empty w ≡ b → ((defined h w).codes ≡ h.codes) × ((defined h w).twice ≡ h.twice)
    go true is = (simp is, simp is)
    go false is = (simp (is, not_code, nor), simp (is, not_code, nor))

pub defined_over : (h : Head) (ws : List Word) → over h.phase ≡ true → (h.codes ≡ (defined_by h ws).codes) × (h.twice ≡ (defined_by h ws).twice)
unfolding defined_by
defined_over h [] is = (refl, refl)
defined_over h (w ∷ ws) is =
    let kept = over_past h.phase w is in
    let same = defined_keeps h w kept.1 kept.2 in
    let rest = defined_over (defined h w) ws (ap over (defined_phase h w) ∙ kept.0) in
    (sym same.0 ∙ rest.0, sym same.1 ∙ rest.1)

pub telling_append : (t : Told) (xs ys : List Fall) → telling t (xs ++ ys) ≡ telling (telling t xs) ys
unfolding telling
telling_append t [] ys = refl
telling_append t (x ∷ xs) ys = telling_append (telling_one t x) xs ys

module _ (all codes : List Word) where
  -- a word more of the capture
  pub scanned_step : (scan next : Scan) (left : List Word) (v w : Word) (ws : List Word) → left ≡ w ∷ ws → v ≡ w → next ≡ scanned all codes scan v
      → scanned_by all codes next ws ≡ scanned_by all codes scan left
  unfolding scanned_by
  scanned_step scan next left v w ws is same goes =
      ap (λ (s : Scan). scanned_by all codes s ws) (goes ∙ ap (scanned all codes scan) same) ∙ sym (ap (scanned_by all codes scan) is)

  pub scanned_end : (scan : Scan) (left : List Word) → left ≡ [] → scan ≡ scanned_by all codes scan left
  unfolding scanned_by
  scanned_end scan left is = sym (ap (scanned_by all codes scan) is)

  pub told_step : (scan next : Scan) (t after : Told) (test : Bool) (left : List Word) (v w : Word) (ws : List Word) → left ≡ w ∷ ws → v ≡ w
      → next ≡ scanned all codes scan v → test ≡ ends scan v → after ≡ telling t (fall_at (test && falls scan) scan)
      → telling after (falls_from all codes next ws) ≡ telling t (falls_from all codes scan left)
  unfolding falls_from
  told_step scan next t after test left v w ws is same goes by tells =
      let now : after ≡ telling t (fall_at (ends scan w && falls scan) scan) =
      tells ∙ ap (λ (b : Bool). telling t (fall_at (b && falls scan) scan)) (by ∙ ap (ends scan) same) in
      ap (λ (s : Scan). telling after (falls_from all codes s ws)) (goes ∙ ap (scanned all codes scan) same)
      ∙ ap (λ (x : Told). telling x (falls_from all codes (scanned all codes scan w) ws)) now
      ∙ sym (telling_append t (fall_at (ends scan w && falls scan) scan) (falls_from all codes (scanned all codes scan w) ws))
      ∙ sym (ap (λ (l : List Word). telling t (falls_from all codes scan l)) is)

  pub told_end : (scan : Scan) (t after : Told) (left : List Word) → left ≡ [] → after ≡ telling t (fall_at (true && falls scan) scan)
      → after ≡ telling t (falls_from all codes scan left)
  unfolding falls_from
  told_end scan t after left is tells = tells ∙ sym (ap (λ (l : List Word). telling t (falls_from all codes scan l)) is)

-- whether a word ends a stamp, by the stamp that it says
pub ends_said : (scan : Scan) (w : Word) → ends_at scan (stamp_said w) ≡ ends scan w
ends_said scan w = go (leb (stamp_of w) stamp_limit)
  where
    go : (b : Bool) → ends_at scan (cond b (Some (stamp_of w)) None) ≡ changes_come scan.phase && (b && ends_stamp scan (stamp_of w))
    go true = refl
    go false = sym (and_second (changes_come scan.phase) false refl)

-- a needed signal has no code, by the codes as they stand in the text
or_both : (a b : Bool) → a || b ≡ b || a
or_both true true = refl
or_both true false = refl
or_both false true = refl
or_both false false = refl

pub lacks_take : (test : Bor (List ℕ) → Bool) → ((code : Bor (List ℕ)) → test code ≡ is_empty code.now) → (n : ℕ) (codes : Lent) → n ≤ length codes
    → list_any test (take n codes) ≡ lacks_code n (codes_in codes)
unfolding lacks_code
lacks_take test is zero codes less = refl
lacks_take test is (suc n) codes less =
    let last = get_or codes n (record { ref_ptr = (0, 0); now = [] }) in
    let more : take (suc n) codes ≡ take n codes ++ last ∷ [] = rw (sym (add-one n)) (take_more codes n (record { ref_ptr = (0, 0); now = [] }) (omega arith)) in
    ap (list_any test) more ∙ list_any-append test (take n codes) (last ∷ [])
    ∙ or_both (list_any test (take n codes)) (test last || false)
    ∙ ap (λ (b : Bool). b || list_any test (take n codes)) (or_end (test last) ∙ is last ∙ ap is_empty (sym (code_at codes n)))
    ∙ ap (λ (b : Bool). is_empty (get_or (codes_in codes) n []) || b) (lacks_take test is n codes (omega arith))
  where
    or_end : (b : Bool) → b || false ≡ b
    or_end true = refl
    or_end false = refl

pub lacks_tested : {test : Bor (List ℕ) → Bool} {r : Bool} (codes : Lent) → r ≡ list_any test codes
    → ((code : Bor (List ℕ)) → test code ≡ is_empty code.now) → length codes ≡ 11 → r ≡ lacks_code 11 (codes_in codes)
lacks_tested {test} codes tested is long =
    tested ∙ sym (ap (list_any test) (take_all 11 codes (omega (arith, long)))) ∙ lacks_take test is 11 codes (omega (arith, long))
