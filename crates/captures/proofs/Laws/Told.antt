-- Laws of the changes that the table tells: they set one line or none, and end no stamp.
-- Assumes nothing.
use Rattle.std.proofs.Common.{◌≡◌, ℕ, suc, ◌<◌, ◌≤◌, Bool, true, false, cond, not, ◌||◌, eqb, ltb, List, [], ◌∷◌, length, get_or, drop, set, sym, refl, ap, ◌∙◌, arith, ltb-false, ltb-true, lt-ltb, ne_eqb, eqb-true, le-leb, leb-true}
use Rattle.std.proofs.lemmas.Bool.{le-ltb}
use mathlib.Core.Logic.{◌⊎◌, ⊎_elim}
use Prim.Native.Char.{code}
use lib.ListN.{get_or-eq_default}
use Rattle.captures.specs.declared.form.Phase.{Phase}
use Rattle.captures.specs.declared.form.Phase.TheVariants.{Section}
use Rattle.captures.specs.declared.table.Entry.{Entry}
use Rattle.captures.specs.declared.table.Entry.TheVariants.{Unknown, Several}
use Rattle.captures.specs.Falls.{Scan}
use Rattle.captures.specs.Words.{Word, is_empty, is_plain, same, is}
use Rattle.captures.specs.Form.{asked, changes_come, is_change, after, changing, past, stamp_of, no_stamp, level_of, level_set}
use Rattle.captures.specs.Definitions.{declares}
use Rattle.captures.specs.Falls.{ends, altered, in_phase, scanned}
use Rattle.captures.specs.Walk.{with_levels}
use Rattle.captures.specs.Table.{short_codes, place_of, entry_of, line_set, IsEntry, Tabled}
use Rattle.captures.proofs.Laws.Over.{late_phase}
use Rattle.captures.proofs.Laws.Falls.{or_none, scan_change}
use Rattle.captures.proofs.Laws.Table.{place_plain, changed_before, changed_one}

-- a byte that says a level is plain, and neither `#` nor `$`
level_plain : (byte : ℕ) → level_of byte < 3 → (0x25 ≤ byte) × (byte ≤ 0x7E)
unfolding level_of
level_plain byte =
    go (eqb byte (code "0")) (eqb byte (code "1")) (eqb byte (code "x")) (eqb byte (code "X")) (eqb byte (code "z")) (eqb byte (code "Z")) refl refl refl refl refl refl
  where
    go : (a b c d e f : Bool) → eqb byte (code "0") ≡ a → eqb byte (code "1") ≡ b → eqb byte (code "x") ≡ c → eqb byte (code "X") ≡ d
        → eqb byte (code "z") ≡ e → eqb byte (code "Z") ≡ f
        → cond (eqb byte (code "0")) 0
        (cond (eqb byte (code "1")) 1
        (cond (eqb byte (code "x") || (eqb byte (code "X") || (eqb byte (code "z") || eqb byte (code "Z")))) 2 3)) < 3
        → (0x25 ≤ byte) × (byte ≤ 0x7E)
    go true b c d e f i j k l m n small = let at = eqb-true byte (code "0") i in (omega arith, omega arith)
    go false true c d e f i j k l m n small = let at = eqb-true byte (code "1") j in (omega arith, omega arith)
    go false false true d e f i j k l m n small = let at = eqb-true byte (code "x") k in (omega arith, omega arith)
    go false false false true e f i j k l m n small = let at = eqb-true byte (code "X") l in (omega arith, omega arith)
    go false false false false true f i j k l m n small = let at = eqb-true byte (code "z") m in (omega arith, omega arith)
    go false false false false false true i j k l m n small = let at = eqb-true byte (code "Z") n in (omega arith, omega arith)
    go false false false false false false i j k l m n small = absurd (let large = simp (i, j, k, l, m, n) at small in omega (arith, large))

-- a change with a plain code is a plain word, and no keyword
record Changing (w : Word) : Type 0 where
  some : is_empty w ≡ false
  plain : is_plain w ≡ true
  no_dump : is "$dumpvars" w ≡ false
  no_end : is "$end" w ≡ false

change_word : (w : Word) → level_set w < 3 → is_plain (drop 1 w) ≡ true → Changing w
unfolding same level_set is_plain
change_word [] sets plain = absurd (omega arith)
change_word (a ∷ []) sets plain = absurd (omega arith)
change_word (a ∷ b ∷ w) sets plain =
    let at = level_plain a sets in
    let other = ne_eqb a 0x24 (λ one. omega arith) in
    record {
      some = ne_eqb (suc (suc (length w))) 0 (λ none. omega arith);
      plain = simp (le-leb 0x21 a (omega arith), le-leb a 0x7E (omega arith), plain);
      no_dump = simp other;
      no_end = simp other;
    }

-- where changes come, it leaves us in the phase
past_change : (phase : Phase) (w : Word) → 3 ≤ asked phase → level_set w < 3 → is_plain (drop 1 w) ≡ true → past phase w ≡ phase
unfolding past after changing
past_change phase w late sets plain =
    let word = change_word w sets plain in
    late_phase (λ (p : Phase). past p w ≡ p) phase late
    (simp (word.some, word.plain, word.no_dump, lt-ltb (level_set w) 3 sets)) (simp (word.some, word.plain, word.no_end, lt-ltb (level_set w) 3 sets))

-- a change is no stamp
no_stamp_lem : (w : Word) → level_set w < 3 → stamp_of w ≡ no_stamp
unfolding stamp_of level_set
no_stamp_lem [] sets = refl
no_stamp_lem (a ∷ []) sets = refl
no_stamp_lem (a ∷ b ∷ w) sets = simp (ne_eqb a (code "#") (λ one. let at = level_plain a sets in omega arith))

-- where the table does not tell: before the changes, a word that is none, and one with a code that is not known or serves
-- several lines
pub untold_phase : (table : List ℕ) (phase : Phase) (w : Word) → false ≡ changes_come phase → false ≡ ltb (line_set table phase w) 12
unfolding line_set
untold_phase table phase w late = simp (sym late)

pub untold_word : (table : List ℕ) (phase : Phase) (w : Word) → true ≡ changes_come phase → is_change w ≡ false
    → false ≡ ltb (line_set table phase w) 12
unfolding line_set
untold_word table phase w late sets = simp (sym late, sets)

pub untold_entry : (table : List ℕ) (phase : Phase) (w : Word) (number : ℕ) (entry : Entry) → true ≡ changes_come phase → is_change w ≡ true
    → number ≡ entry_of table (drop 1 w) → IsEntry number entry → (entry ≡ Unknown) ⊎ (entry ≡ Several) → false ≡ ltb (line_set table phase w) 12
unfolding line_set
untold_entry table phase w number entry late sets is read one =
    sym (simp (sym late, sets, sym is) (le-ltb number 12 (⊎_elim unknown several one)))
  where
    unknown : entry ≡ Unknown → 12 ≤ number
    unknown at = let none : number ≡ 12 = rw at at read in omega (arith, none)

    several : entry ≡ Several → 12 ≤ number
    several at = let past : 12 < number = rw at at read in omega (arith, past)

-- what the table tells of a word, from its parts
record Known (table : List ℕ) (phase : Phase) (w : Word) (line : ℕ) : Type 0 where
  late : 3 ≤ asked phase
  sets : level_set w < 3
  entry : line ≡ entry_of table (drop 1 w)

module _ (table : List ℕ) (all codes : List Word) (t : Tabled table all codes 11) (scan : Scan) (w : Word) (line : ℕ)
    (comes : changes_come scan.phase ≡ true) (change : is_change w ≡ true) (entry : line ≡ entry_of table (drop 1 w)) (known : line < 12) where
  known_as : Known table scan.phase w line
  known_as = record { late = leb-true 3 (asked scan.phase) comes; sets = ltb-true (level_set w) 3 change; entry = entry }

  -- the code is a short one, and plain
  plain : is_plain (drop 1 w) ≡ true
  plain = place_plain (drop 1 w) (go (ltb (place_of (drop 1 w)) short_codes) refl)
    where
      go : (b : Bool) → ltb (place_of (drop 1 w)) short_codes ≡ b → place_of (drop 1 w) < short_codes
      go true is = ltb-true (place_of (drop 1 w)) short_codes is
      go false is =
          let past = ltb-false (place_of (drop 1 w)) short_codes is in
          let long = t.long in
          let none = get_or-eq_default table 12 {n = place_of (drop 1 w)} (omega arith) in
          absurd (let entry = known_as.entry in omega arith)

  alters : altered all codes scan (drop 1 w) (level_set w) ≡ scanned all codes scan w
  alters =
      scan_change all codes scan w scan (ap (λ (p : Phase). in_phase p scan) (sym (past_change scan.phase w known_as.late known_as.sets plain))) comes
      (simp (no_stamp_lem w known_as.sets)) change

  declared : declares (Section false) all (drop 1 w) ≡ true
  declared = t.declared (drop 1 w) (λ un. let entry = known_as.entry in omega arith)

  strange : scan.strange ≡ scan.strange || not (declares (Section false) all (drop 1 w))
  strange = or_none scan.strange ∙ ap (λ (b : Bool). scan.strange || not b) (sym declared)

  serves : (n : ℕ) → n < 11 → same (get_or codes n []) (drop 1 w) ≡ eqb n line
  serves n less = t.serves (drop 1 w) n less (let entry = known_as.entry in omega arith) ∙ ap (eqb n) (sym known_as.entry)

  pub is_told : true ≡ ltb (line_set table scan.phase w) 12
  unfolding line_set
  is_told = sym (simp (comes, change, sym entry, lt-ltb line 12 known))

  pub set_one : line < 11 → with_levels scan (set scan.levels line (level_set w)) ≡ scanned all codes scan w
  set_one one =
      let levels = changed_one codes (drop 1 w) (level_set w) scan.levels line 11 serves one in
      let s = strange in
      (cc) ∙ alters

  pub set_none : line ≡ 11 → scan ≡ scanned all codes scan w
  set_none none =
      let levels = changed_before codes (drop 1 w) (level_set w) scan.levels line 11 serves (omega arith) in
      let s = strange in
      let same : with_levels scan scan.levels ≡ altered all codes scan (drop 1 w) (level_set w) = cc in
      same ∙ alters

  pub ends_none : ends scan w ≡ false
  ends_none = simp (le-leb 3 (asked scan.phase) known_as.late, no_stamp_lem w known_as.sets)

-- what the table has of a change's code is the line that the change sets
pub line_told_lem : (table : List ℕ) (phase : Phase) (w : Word) → 3 ≤ asked phase → level_set w < 3 → entry_of table (drop 1 w) ≡ line_set table phase w
unfolding line_set
line_told_lem table phase w late sets = simp (le-leb 3 (asked phase) late, lt-ltb (level_set w) 3 sets)
