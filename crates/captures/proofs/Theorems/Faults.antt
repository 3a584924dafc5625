-- What the faults tell is so: what is wrong stays wrong to the end of the text.
-- Assumes nothing.
use Rattle.std.proofs.Common.{is_some, ◌≡◌, ℕ, ◌+◌, Bool, true, false, cond, not, ◌&&◌, ◌||◌, ltb, ◌⊎◌, List, [], ◌∷◌, ◌++◌, length, drop, sym, refl, ap, ◌∙◌, inl, inr, ⊎_elim, true≢false}
use mathlib.Core.Bool.{false≢true}
use Rattle.controller.proofs.Laws.Choice.{cond-elim}
use Rattle.lines.proofs.Laws.Digits.{either}
use Rattle.captures.specs.declared.form.Phase.{Phase}
use Rattle.captures.specs.Falls.{Scan}
use Rattle.captures.specs.Words.{Word, words, is_empty, place_in}
use Rattle.captures.specs.Form.{changes_come, code_comes, name_comes, is_change, is_stamp, is_whole, past}
use Rattle.captures.specs.Definitions.{Head, blank_head, defined, defined_by, declares, entering, named, names, placed}
use Rattle.captures.specs.Falls.{Fall, blank_scan, ends, fall_at, falls, falls_from, scanned, scanned_by}
use Rattle.captures.specs.Faults as Faults
use Rattle.captures.specs.Faults.{Unknown, fault_of, fault_with, is_undeclared, is_unfinished, is_wrong, unknown_from, unknown_of, unknown_told, wrong_from}
use Rattle.captures.specs.Unheeded.{reached}
use Rattle.captures.specs.Import.{head_of, in_subset, scan_of, unknown_at, unknown_in}
use Rattle.captures.specs.Theorems.{FaultsFound}
use Rattle.captures.proofs.Laws.Behind.{scanned_phase, scanned_reached, scanned_stranger, stranger}
use Rattle.captures.proofs.Laws.Changes.{change_no_stamp}
use Rattle.captures.proofs.Laws.Session.{defined_phase}
use Rattle.captures.proofs.Theorems.Form.{wrong_past}

-- a fall more, and whether it is the first with x or z
one_fall : (scan : Scan) (at : ℕ) (e f : Bool) (rest : List Fall) (r : Unknown) → r.found ≡ unknown_in rest
    → (cond (e && (f && unknown_at scan.levels)) (unknown_of true scan at) r).found ≡ unknown_in (fall_at (e && f) scan ++ rest)
unfolding fall_at unknown_in
one_fall scan at false f rest r is = is
one_fall scan at true false rest r is = is
one_fall scan at true true rest r is = pick (unknown_at scan.levels)
  where
    pick : (u : Bool) → (cond u (unknown_of true scan at) r).found ≡ (u || unknown_in rest)
    pick true = refl
    pick false = is

found_is : (all codes : List Word) (scan : Scan) (at place : ℕ) (ws : List Word)
    → (unknown_from all codes scan at place ws).found ≡ unknown_in (falls_from all codes scan ws)
unfolding unknown_from falls_from fall_at unknown_in
found_is all codes scan at place [] = last (falls scan)
  where
    or_none : (b : Bool) → b ≡ (b || false)
    or_none true = refl
    or_none false = refl

    last : (b : Bool) → (b && unknown_at scan.levels) ≡ unknown_in (fall_at b scan)
    last true = or_none (unknown_at scan.levels)
    last false = refl
found_is all codes scan at place (w ∷ ws) =
    one_fall scan at (ends scan w) (falls scan) (falls_from all codes (scanned all codes scan w) ws) _
    (found_is all codes (scanned all codes scan w) (cond (changes_come scan.phase && is_stamp w) place at) (place + length w + 1) ws)

-- what is wrong stays wrong

wrong_is : (phase : Phase) → is_wrong phase ≡ true → phase ≡ Phase.Wrong
wrong_is (Phase.Section scaled) is = absurd (false≢true is)
wrong_is Phase.Scale is = absurd (false≢true is)
wrong_is Phase.ScaleUnit is = absurd (false≢true is)
wrong_is (Phase.ScopeKind scaled) is = absurd (false≢true is)
wrong_is (Phase.ScopeName scaled) is = absurd (false≢true is)
wrong_is (Phase.VarType scaled) is = absurd (false≢true is)
wrong_is (Phase.VarSize scaled) is = absurd (false≢true is)
wrong_is (Phase.VarCode scaled) is = absurd (false≢true is)
wrong_is (Phase.VarName scaled) is = absurd (false≢true is)
wrong_is (Phase.Close scaled) is = absurd (false≢true is)
wrong_is Phase.Ending is = absurd (false≢true is)
wrong_is Phase.Changes is = absurd (false≢true is)
wrong_is Phase.Dump is = absurd (false≢true is)
wrong_is Phase.Wrong is = refl

stays_wrong : (ws : List Word) → reached Phase.Wrong ws ≡ Phase.Wrong
unfolding reached
stays_wrong [] = refl
stays_wrong (w ∷ ws) = ap (λ (p : Phase). reached p ws) (wrong_past w) ∙ stays_wrong ws

named_twice : (head : Head) (w : Word) → head.twice ≡ true → (named head w).twice ≡ true
unfolding named placed
named_twice head w is = cond-elim (λ (h : Head). h.twice ≡ true) (ltb (place_in names w) 11) _ _ (λ _. simp is) (λ _. is)

stays_twice : (head : Head) (ws : List Word) → head.twice ≡ true → (defined_by head ws).twice ≡ true
unfolding defined_by defined
stays_twice head [] is = is
stays_twice head (w ∷ ws) is = stays_twice (defined head w) ws
    (cond-elim (λ (h : Head). h.twice ≡ true) (is_empty w) _ _ (λ _. is)
    (λ _. cond-elim (λ (h : Head). h.twice ≡ true) (code_comes head.phase) _ _ (λ _. is)
    (λ _. cond-elim (λ (h : Head). h.twice ≡ true) (name_comes head.phase) _ _ (λ _. named_twice (entering (past head.phase w) head) w is) (λ _. is))))

stranger_stays : (all : List Word) (phase : Phase) (w : Word) → stranger all phase true w ≡ true
unfolding stranger
stranger_stays all phase w = go (changes_come phase) (is_stamp w) (is_change w)
  where
    go : (a b c : Bool) → cond a (cond b true (cond c true true)) true ≡ true
    go true true c = refl
    go true false true = refl
    go true false false = refl
    go false b c = refl

stays_strange : (all codes : List Word) (scan : Scan) (ws : List Word) → scan.strange ≡ true → (scanned_by all codes scan ws).strange ≡ true
unfolding scanned_by
stays_strange all codes scan [] is = is
stays_strange all codes scan (w ∷ ws) is =
    stays_strange all codes (scanned all codes scan w) ws
    (scanned_stranger all codes scan w ∙ ap (λ (b : Bool). stranger all scan.phase b w) is ∙ stranger_stays all scan.phase w)

-- the first change of a code that is not declared
stranger_first : (all : List Word) (phase : Phase) (w : Word) → stranger all phase false w ≡ is_undeclared all phase w
unfolding stranger
stranger_first all phase w =
    either (is_change w) (λ is. simp (is, change_no_stamp w is) (same_test (changes_come phase) (not (declares (Phase.Section false) all (drop 1 w)))))
    (λ none. simp none (no_test (changes_come phase) (is_stamp w)))
  where
    same_test : (a b : Bool) → cond a b false ≡ (a && b)
    same_test true b = refl
    same_test false b = refl

    no_test : (a b : Bool) → cond a (cond b false false) false ≡ (a && false)
    no_test true true = refl
    no_test true false = refl
    no_test false b = refl

-- no fault is all three tests false
unfinished_is : (a b c : Bool) → is_unfinished (fault_of a b c) ≡ true → (a ≡ false) × (b ≡ false) × (c ≡ false)
unfolding fault_of
unfinished_is true b c e = absurd (false≢true e)
unfinished_is false true c e = absurd (false≢true e)
unfinished_is false false true e = absurd (false≢true e)
unfinished_is false false false e = (refl, refl, refl)

finished_is : (a b c : Bool) → is_unfinished (fault_of a b c) ≡ false → (a ≡ true) ⊎ ((b ≡ true) ⊎ (c ≡ true))
unfolding fault_of
finished_is true b c e = inl refl
finished_is false true c e = inr (inl refl)
finished_is false false true e = inr (inr refl)
finished_is false false false e = absurd (true≢false e)

module _ (all codes : List Word) where
  step_phase : (head : Head) (scan : Scan) (w : Word) → scan.phase ≡ head.phase → (scanned all codes scan w).phase ≡ (defined head w).phase
  step_phase head scan w is = scanned_phase all codes scan w ∙ ap (λ (p : Phase). past p w) is ∙ sym (defined_phase head w)

  step_strange : (head : Head) (scan : Scan) (w : Word) → scan.phase ≡ head.phase → scan.strange ≡ false
      → (scanned all codes scan w).strange ≡ is_undeclared all head.phase w
  step_strange head scan w is none =
      scanned_stranger all codes scan w ∙ ap (λ (b : Bool). stranger all scan.phase b w) none
      ∙ stranger_first all scan.phase w ∙ ap (λ (p : Phase). is_undeclared all p w) is

  -- no word is at fault
  clean : (head : Head) (scan : Scan) (place : ℕ) (ws : List Word) → scan.phase ≡ head.phase → scan.strange ≡ false → head.twice ≡ false
      → is_unfinished (wrong_from all head place ws).fault ≡ true
      → ((defined_by head ws).twice ≡ false) × ((scanned_by all codes scan ws).strange ≡ false)
  unfolding wrong_from defined_by scanned_by
  clean head scan place [] is none once e = (once, none)
  clean head scan place (w ∷ ws) is none once e =
      either (is_unfinished (fault_with all head w))
      (λ fine. let parts = unfinished_is (is_wrong (defined head w).phase) (defined head w).twice (is_undeclared all head.phase w) fine in
      clean (defined head w) (scanned all codes scan w) (place + length w + 1) ws (step_phase head scan w is)
      (step_strange head scan w is none ∙ parts.2) parts.1 (sym (simp fine) ∙ e))
      (λ bad. absurd (true≢false (sym e ∙ at_word bad)))
    where
      at_word : is_unfinished (fault_with all head w) ≡ false → is_unfinished (wrong_from all head place (w ∷ ws)).fault ≡ false
      at_word bad = simp bad

  -- a word is, so that the text cannot be in the subset
  dirty : (head : Head) (scan : Scan) (place : ℕ) (ws : List Word) → scan.phase ≡ head.phase → scan.strange ≡ false
      → is_unfinished (wrong_from all head place ws).fault ≡ false
      → (is_whole (scanned_by all codes scan ws).phase && (not (defined_by head ws).twice && not (scanned_by all codes scan ws).strange)) ≡ false
  unfolding wrong_from defined_by scanned_by
  dirty head scan place [] is none e = absurd (true≢false e)
  dirty head scan place (w ∷ ws) is none e =
      either (is_unfinished (fault_with all head w))
      (λ fine. let parts = unfinished_is (is_wrong (defined head w).phase) (defined head w).twice (is_undeclared all head.phase w) fine in
      dirty (defined head w) (scanned all codes scan w) (place + length w + 1) ws (step_phase head scan w is)
      (step_strange head scan w is none ∙ parts.2) (sym (simp fine) ∙ e))
      (λ bad. ⊎_elim
      (λ wrong. first_no _ _ (ap is_whole (scanned_reached all codes (scanned all codes scan w) ws
      ∙ ap (λ (p : Phase). reached p ws) (step_phase head scan w is ∙ wrong_is (defined head w).phase wrong) ∙ stays_wrong ws)))
      (⊎_elim
      (λ twice. second_no (is_whole (scanned_by all codes (scanned all codes scan w) ws).phase) (defined_by (defined head w) ws).twice (scanned_by all codes (scanned all codes scan w) ws).strange (stays_twice (defined head w) ws twice))
      (λ strange. third_no (is_whole (scanned_by all codes (scanned all codes scan w) ws).phase) (defined_by (defined head w) ws).twice (scanned_by all codes (scanned all codes scan w) ws).strange
      (stays_strange all codes (scanned all codes scan w) ws (step_strange head scan w is none ∙ strange))))
      (finished_is (is_wrong (defined head w).phase) (defined head w).twice (is_undeclared all head.phase w) bad))
    where
      first_no : (a b : Bool) → a ≡ false → (a && b) ≡ false
      first_no a b e = ap (λ (t : Bool). t && b) e

      second_no : (a b c : Bool) → b ≡ true → (a && (not b && not c)) ≡ false
      second_no true b c e = ap (λ (t : Bool). not t && not c) e
      second_no false b c e = refl

      third_no : (a b c : Bool) → c ≡ true → (a && (not b && not c)) ≡ false
      third_no true true c e = refl
      third_no true false c e = ap not e
      third_no false b c e = refl

pub faults_found : FaultsFound
unfolding in_subset
faults_found =
    record {
      wrong = λ capture bad. dirty (words capture) (head_of capture).codes blank_head blank_scan 0 (words capture) refl refl bad;
      unfinished = λ capture fine.
          let parts = clean (words capture) (head_of capture).codes blank_head blank_scan 0 (words capture) refl refl refl fine in
          ap (λ (b : Bool). is_whole (scan_of capture).phase && (not b && not (scan_of capture).strange)) parts.0
          ∙ ap (λ (b : Bool). is_whole (scan_of capture).phase && not b) parts.1
          ∙ and-true (is_whole (scan_of capture).phase);
      unknown = λ capture. found_is (words capture) (head_of capture).codes blank_scan 0 0 (words capture);
      told = λ capture. some_told (Faults.unknown_in capture) ∙ found_is (words capture) (head_of capture).codes blank_scan 0 0 (words capture);
    }
  where
    some_told : (u : Unknown) → is_some (unknown_told u) ≡ u.found
    some_told u = go u.found refl
      where
        go : (b : Bool) → u.found ≡ b → is_some (unknown_told u) ≡ u.found
        go true e = rw e refl
        go false e = rw e refl

    and-true : (b : Bool) → (b && true) ≡ b
    and-true true = refl
    and-true false = refl
