-- Laws of one stamp and one change, where they can stand: what they lead to.
-- Assumes nothing.
use Rattle.std.proofs.Common.{◌≡◌, ℕ, ◌≤◌, Bool, true, false, cond, ◌&&◌, eqb, ltb, leb, List, [], ◌∷◌, ◌++◌, length, drop, sym, refl, ap, ◌∙◌, arith, ltb-true, ne_eqb, eqb-true, le-leb, leb-false, leb-true}
use mathlib.Core.Bool.{false≢true}
use Prim.Native.Char.{code}
use Rattle.controller.proofs.Laws.Choice.{and_right, cond-elim}
use Rattle.lines.specs.Digits.{between}
use Rattle.lines.proofs.Laws.Digits.{either}
use Rattle.captures.specs.declared.form.Phase.{Phase}
use Rattle.captures.specs.declared.form.Phase.TheVariants.{Section, Scale, ScaleUnit, ScopeKind, ScopeName, VarType, VarSize, VarCode, VarName, Close, Ending, Changes, Dump, Wrong}
use Rattle.captures.specs.Words.{Word, is_empty, is_plain, same}
use Rattle.captures.specs.Form.{after, asked, changes_come, changing, is_change, is_stamp, is_whole, level_of, level_set, past, stamp_of}
use Rattle.captures.specs.Falls.{Scan}
use Rattle.captures.specs.Falls.{Fall, altered, ends_stamp, fall_at, falls, falls_from, moved, scanned, stamped}

-- a byte outside `0` to `z` is no level
no_level : (byte : ℕ) → (0x30 ≤ byte → byte ≤ 0x7A → ⊥) → level_of byte ≡ 3
unfolding level_of
no_level byte out =
    let other : (letter : ℕ) → 0x30 ≤ letter → letter ≤ 0x7A → eqb byte letter ≡ false =
    λ letter low high. ne_eqb byte letter (λ is. out (omega arith) (omega arith)) in
    simp (
      other (code "0") (omega arith) (omega arith),
      other (code "1") (omega arith) (omega arith),
      other (code "x") (omega arith) (omega arith),
      other (code "X") (omega arith) (omega arith),
      other (code "z") (omega arith) (omega arith),
      other (code "Z") (omega arith) (omega arith),
    )

-- so a level is one of those
level_between : (byte : ℕ) → ltb (level_of byte) 3 ≡ true → (0x30 ≤ byte) × (byte ≤ 0x7A)
level_between byte is =
    let some = ltb-true (level_of byte) 3 is in (
      either (leb 0x30 byte) (λ e. leb-true 0x30 byte e)
          (λ e. let low = leb-false 0x30 byte e in let none = no_level byte (λ a b. omega arith) in absurd (omega arith)),
      either (leb byte 0x7A) (λ e. leb-true byte 0x7A e)
          (λ e. let high = leb-false byte 0x7A e in let none = no_level byte (λ a b. omega arith) in absurd (omega arith)),
    )

-- a change is no stamp
pub change_no_stamp : (w : Word) → is_change w ≡ true → is_stamp w ≡ false
unfolding level_set stamp_of
change_no_stamp [] is = absurd (false≢true is)
change_no_stamp (level ∷ []) is = absurd (false≢true is)
change_no_stamp (level ∷ first ∷ rest) is =
    let low = (level_between level is).0 in simp (ne_eqb level (code "#") (λ e. omega arith))

pub filled : (byte : ℕ) (w : Word) → is_empty (byte ∷ w) ≡ false
filled byte w = ne_eqb (length (byte ∷ w)) 0 (λ e. omega arith)

-- a change leaves the phase, if its code is plain
pub change_past : (phase : Phase) (w : Word) → changes_come phase ≡ true → is_change w ≡ true → past phase w ≡ cond (is_plain (drop 1 w)) phase Wrong
unfolding level_set past is_plain after changing same
change_past phase [] come is = absurd (false≢true is)
change_past phase (level ∷ []) come is = absurd (false≢true is)
change_past Changes (level ∷ first ∷ rest) come is =
    let at = level_between level is in
    simp (filled level (first ∷ rest), le-leb 0x21 level (omega arith), le-leb level 0x7E (omega arith), ne_eqb level (code "$") (λ e. omega arith), is)
change_past Dump (level ∷ first ∷ rest) come is =
    let at = level_between level is in
    simp (filled level (first ∷ rest), le-leb 0x21 level (omega arith), le-leb level 0x7E (omega arith), ne_eqb level (code "$") (λ e. omega arith), is)
change_past Wrong (level ∷ first ∷ rest) come is = absurd (false≢true come)
change_past (Section scaled) (level ∷ first ∷ rest) come is = absurd (false≢true come)
change_past Scale (level ∷ first ∷ rest) come is = absurd (false≢true come)
change_past ScaleUnit (level ∷ first ∷ rest) come is = absurd (false≢true come)
change_past (ScopeKind scaled) (level ∷ first ∷ rest) come is = absurd (false≢true come)
change_past (ScopeName scaled) (level ∷ first ∷ rest) come is = absurd (false≢true come)
change_past (VarType scaled) (level ∷ first ∷ rest) come is = absurd (false≢true come)
change_past (VarSize scaled) (level ∷ first ∷ rest) come is = absurd (false≢true come)
change_past (VarCode scaled) (level ∷ first ∷ rest) come is = absurd (false≢true come)
change_past (VarName scaled) (level ∷ first ∷ rest) come is = absurd (false≢true come)
change_past (Close scaled) (level ∷ first ∷ rest) come is = absurd (false≢true come)
change_past Ending (level ∷ first ∷ rest) come is = absurd (false≢true come)

-- and it is plain, if the change is
pub code_plain : (w : Word) → is_change w ≡ true → is_plain w ≡ true → is_plain (drop 1 w) ≡ true
unfolding level_set is_plain
code_plain [] is plain = absurd (false≢true is)
code_plain (level ∷ []) is plain = absurd (false≢true is)
code_plain (level ∷ first ∷ rest) is plain = and_right (between 0x21 0x7E level) (is_plain (first ∷ rest)) plain

-- a stamp begins with its sign
stamp_sign : (sign first : ℕ) (rest : Word) → is_stamp (sign ∷ first ∷ rest) ≡ true → sign ≡ code "#"
unfolding stamp_of
stamp_sign sign first rest is =
    either (eqb sign (code "#")) (λ e. eqb-true sign (code "#") e) (λ e. absurd (false≢true (sym (simp e) ∙ is)))

-- a stamp leaves the phase, where one can stand
pub stamp_past : (phase : Phase) (w : Word) → is_whole phase ≡ true → is_stamp w ≡ true → is_plain w ≡ true → past phase w ≡ phase
unfolding stamp_of level_set level_of past after changing same
stamp_past phase [] whole is plain = absurd (false≢true is)
stamp_past phase (sign ∷ []) whole is plain = absurd (false≢true is)
stamp_past Changes (sign ∷ first ∷ rest) whole is plain =
    let e = stamp_sign sign first rest is in
    simp (
      filled sign (first ∷ rest),
      plain,
      is,
      ne_eqb sign (code "$") (λ d. omega arith),
      ne_eqb sign (code "0") (λ d. omega arith),
      ne_eqb sign (code "1") (λ d. omega arith),
      ne_eqb sign (code "x") (λ d. omega arith),
      ne_eqb sign (code "X") (λ d. omega arith),
      ne_eqb sign (code "z") (λ d. omega arith),
      ne_eqb sign (code "Z") (λ d. omega arith),
    )
stamp_past Dump (sign ∷ first ∷ rest) whole is plain = absurd (false≢true whole)
stamp_past Wrong (sign ∷ first ∷ rest) whole is plain = absurd (false≢true whole)
stamp_past (Section scaled) (sign ∷ first ∷ rest) whole is plain = absurd (false≢true whole)
stamp_past Scale (sign ∷ first ∷ rest) whole is plain = absurd (false≢true whole)
stamp_past ScaleUnit (sign ∷ first ∷ rest) whole is plain = absurd (false≢true whole)
stamp_past (ScopeKind scaled) (sign ∷ first ∷ rest) whole is plain = absurd (false≢true whole)
stamp_past (ScopeName scaled) (sign ∷ first ∷ rest) whole is plain = absurd (false≢true whole)
stamp_past (VarType scaled) (sign ∷ first ∷ rest) whole is plain = absurd (false≢true whole)
stamp_past (VarSize scaled) (sign ∷ first ∷ rest) whole is plain = absurd (false≢true whole)
stamp_past (VarCode scaled) (sign ∷ first ∷ rest) whole is plain = absurd (false≢true whole)
stamp_past (VarName scaled) (sign ∷ first ∷ rest) whole is plain = absurd (false≢true whole)
stamp_past (Close scaled) (sign ∷ first ∷ rest) whole is plain = absurd (false≢true whole)
stamp_past Ending (sign ∷ first ∷ rest) whole is plain = absurd (false≢true whole)

-- where a stamp can come, changes can
pub whole_come : (phase : Phase) → is_whole phase ≡ true → changes_come phase ≡ true
whole_come phase whole = let three = eqb-true (asked phase) 3 whole in le-leb 3 (asked phase) (omega arith)

-- no fall where the word is no stamp, and none where it ends no stamp
pub no_stamp_lem : (a b c : Bool) (scan : Scan) → fall_at ((a && (false && b)) && c) scan ≡ []
unfolding fall_at
no_stamp_lem true b c scan = refl
no_stamp_lem false b c scan = refl

no_end : (a b c : Bool) (scan : Scan) → fall_at ((a && (b && false)) && c) scan ≡ []
unfolding fall_at
no_end true true c scan = refl
no_end true false c scan = refl
no_end false b c scan = refl

module _ (all codes : List Word) (scan : Scan) (w : Word) where
  pub change_scanned : changes_come scan.phase ≡ true → is_change w ≡ true → is_plain w ≡ true
      → scanned all codes scan w ≡ altered all codes scan (drop 1 w) (level_set w)
  unfolding scanned moved
  change_scanned come is plain =
      simp (come, change_no_stamp w is, is, change_past scan.phase w come is, code_plain w is plain)

  pub stamp_scanned : is_whole scan.phase ≡ true → is_stamp w ≡ true → is_plain w ≡ true → scanned all codes scan w ≡ stamped scan (stamp_of w)
  unfolding scanned moved stamped
  stamp_scanned whole is plain = simp (whole_come scan.phase whole, is, stamp_past scan.phase w whole is plain)

  -- no fall is told at a word that is no stamp, nor at the first stamp
  pub no_stamp_tells : (rest : List Word) → is_stamp w ≡ false → falls_from all codes scan (w ∷ rest) ≡ falls_from all codes (scanned all codes scan w) rest
  unfolding falls_from
  no_stamp_tells rest none =
      ap (λ (b : Bool). fall_at ((changes_come scan.phase && (b && ends_stamp scan (stamp_of w))) && falls scan) scan ++ falls_from all codes (scanned all codes scan w) rest) none
      ∙ ap (λ (l : List Fall). l ++ falls_from all codes (scanned all codes scan w) rest) (no_stamp_lem (changes_come scan.phase) (ends_stamp scan (stamp_of w)) (falls scan) scan)

  pub no_end_tells : (rest : List Word) → ends_stamp scan (stamp_of w) ≡ false
      → falls_from all codes scan (w ∷ rest) ≡ falls_from all codes (scanned all codes scan w) rest
  unfolding falls_from
  no_end_tells rest none =
      ap (λ (b : Bool). fall_at ((changes_come scan.phase && (is_stamp w && b)) && falls scan) scan ++ falls_from all codes (scanned all codes scan w) rest) none
      ∙ ap (λ (l : List Fall). l ++ falls_from all codes (scanned all codes scan w) rest) (no_end (changes_come scan.phase) (is_stamp w) (falls scan) scan)

  -- only a stamp begins the stamps
  pub scanned_begun : is_stamp w ≡ false → (scanned all codes scan w).begun ≡ scan.begun
  unfolding scanned moved
  scanned_begun none =
      cond-elim (λ (s : Scan). s.begun ≡ scan.begun) (changes_come scan.phase) _ _
      (λ _. cond-elim (λ (s : Scan). s.begun ≡ scan.begun) (is_stamp w) _ _ (λ e. absurd (false≢true (sym none ∙ e)))
      (λ _. cond-elim (λ (s : Scan). s.begun ≡ scan.begun) (is_change w) _ _ (λ _. refl) (λ _. refl)))
      (λ _. refl)
