-- Laws of the table of short codes: each has a place of its own, a code noted, a line more, and what a change then does.
-- Assumes nothing.
use Rattle.std.proofs.Common.{◌≡◌, ℕ, zero, suc, ◌+◌, ◌-◌, ◌*◌, ◌<◌, ◌≤◌, Bool, true, false, cond, eqb, ltb, ◌⊎◌, List, [], ◌∷◌, length, get_or, set, replicate, sym, refl, ap, ◌∙◌, inl, inr, ⊎_elim, arith, length-set, get_or-set_other, get_or-set_same, ltb-false, ltb-true, eq-eqb, ne_eqb, eqb-true, leb-true}
use lib.ListN.{length-replicate, get_or-replicate, get_or-eq_default}
use lib.Seq.{set_out, set-get_or}
use borrow.Author.Tests.{eqb-false}
use Rattle.controller.proofs.Laws.Choice.{cond-elim, and_left}
use Rattle.lines.specs.Digits.{between}
use Rattle.captures.specs.declared.form.Phase.{Phase}
use Rattle.captures.specs.declared.form.Phase.TheVariants.{Section}
use Rattle.captures.specs.Words.{Word, is_plain, same}
use Rattle.captures.specs.Form.{code_comes}
use Rattle.captures.specs.Definitions.{declares}
use Rattle.captures.specs.Falls.{changed}
use Rattle.captures.specs.Table.{short_codes, rank_of, place_of_one, place_of_two, place_of, entry_of, noted, with_line, Tabled}
use Rattle.captures.proofs.Laws.Words.{same_refl, same_true}
use Rattle.captures.proofs.Laws.Falls.{declares_here}

-- a byte with a rank is plain, and its rank tells it
rank_plain : (byte : ℕ) → rank_of byte < 94 → (between 0x21 0x7E byte ≡ true) × (byte ≡ rank_of byte + 0x21)
unfolding rank_of
rank_plain byte = go (between 0x21 0x7E byte) refl
  where
    go : (b : Bool) → between 0x21 0x7E byte ≡ b → cond (between 0x21 0x7E byte) (byte - 0x21) 94 < 94
        → (between 0x21 0x7E byte ≡ true) × (byte ≡ cond (between 0x21 0x7E byte) (byte - 0x21) 94 + 0x21)
    go true is small = (is, let low = leb-true 0x21 byte (and_left _ _ is) in rw is (omega arith))
    go false is small = absurd (let large = rw is at small in omega (arith, large))

-- ranks by a place below the table's end
one_ranks : (first : ℕ) → place_of_one first < short_codes → (first < 94) × (place_of_one first ≡ first)
unfolding place_of_one
one_ranks first = go (ltb first 94) refl
  where
    go : (b : Bool) → ltb first 94 ≡ b → cond (ltb first 94) first short_codes < short_codes → (first < 94) × (cond (ltb first 94) first short_codes ≡ first)
    go true is small = (ltb-true first 94 is, simp is)
    go false is small = absurd (let large = rw is at small in omega (arith, large))

two_ranks : (first second : ℕ) → place_of_two first second < short_codes
    → (first < 94) × (second < 94) × (place_of_two first second ≡ 94 + first * 94 + second)
unfolding place_of_two
two_ranks first second = go (ltb first 94) (ltb second 94) refl refl
  where
    go : (a b : Bool) → ltb first 94 ≡ a → ltb second 94 ≡ b
        → cond (ltb first 94) (cond (ltb second 94) (94 + first * 94 + second) short_codes) short_codes < short_codes
        → (first < 94) × (second < 94)
        × (cond (ltb first 94) (cond (ltb second 94) (94 + first * 94 + second) short_codes) short_codes ≡ 94 + first * 94 + second)
    go true true is also small = (ltb-true first 94 is, ltb-true second 94 also, simp (is, also))
    go true false is also small = absurd (let large = simp (is, also) at small in omega (arith, large))
    go false b is also small = absurd (let large = rw is at small in omega (arith, large))

-- two codes at one place are one
pub place_own : (v w : Word) → place_of w < short_codes → place_of v ≡ place_of w → v ≡ w
unfolding place_of
place_own [] [] short at = absurd (omega arith)
place_own [] (a ∷ []) short at = absurd (omega arith)
place_own [] (a ∷ b ∷ []) short at = absurd (omega arith)
place_own [] (a ∷ b ∷ c ∷ w) short at = absurd (omega arith)
place_own (x ∷ []) [] short at = absurd (omega arith)
place_own (x ∷ []) (a ∷ []) short at =
    let left = one_ranks (rank_of x) (omega arith) in
    let right = one_ranks (rank_of a) short in
    let one : rank_of x ≡ rank_of a = omega arith in
    let same_byte : x ≡ a = omega (arith, (rank_plain x left.0).1, (rank_plain a right.0).1) in
    ap (λ (n : ℕ). n ∷ []) same_byte
place_own (x ∷ []) (a ∷ b ∷ []) short at =
    absurd (let left = one_ranks (rank_of x) (omega arith) in let right = two_ranks (rank_of a) (rank_of b) short in omega arith)
place_own (x ∷ []) (a ∷ b ∷ c ∷ w) short at = absurd (omega arith)
place_own (x ∷ y ∷ []) [] short at = absurd (omega arith)
place_own (x ∷ y ∷ []) (a ∷ []) short at =
    absurd (let left = two_ranks (rank_of x) (rank_of y) (omega arith) in let right = one_ranks (rank_of a) short in omega arith)
place_own (x ∷ y ∷ []) (a ∷ b ∷ []) short at =
    let left = two_ranks (rank_of x) (rank_of y) (omega arith) in
    let right = two_ranks (rank_of a) (rank_of b) short in
    let first : rank_of x ≡ rank_of a = omega arith in
    let second : rank_of y ≡ rank_of b = omega arith in
    let one : x ≡ a = omega (arith, (rank_plain x left.0).1, (rank_plain a right.0).1) in
    let two : y ≡ b = omega (arith, (rank_plain y left.1).1, (rank_plain b right.1).1) in
    cc
place_own (x ∷ y ∷ []) (a ∷ b ∷ c ∷ w) short at = absurd (omega arith)
place_own (x ∷ y ∷ z ∷ v) [] short at = absurd (omega arith)
place_own (x ∷ y ∷ z ∷ v) (a ∷ []) short at = absurd (omega arith)
place_own (x ∷ y ∷ z ∷ v) (a ∷ b ∷ []) short at = absurd (omega arith)
place_own (x ∷ y ∷ z ∷ v) (a ∷ b ∷ c ∷ w) short at = absurd (omega arith)

-- a code with a place is plain
pub place_plain : (w : Word) → place_of w < short_codes → is_plain w ≡ true
unfolding place_of is_plain
place_plain [] short = refl
place_plain (a ∷ []) short = simp (rank_plain a (one_ranks (rank_of a) short).0).0
place_plain (a ∷ b ∷ []) short =
    let both = two_ranks (rank_of a) (rank_of b) short in
    simp ((rank_plain a both.0).0, (rank_plain b both.1).0)
place_plain (a ∷ b ∷ c ∷ w) short = absurd (omega arith)

-- an element that is there is the same whatever stands for those that are not
pub there : (l : List ℕ) (i d e : ℕ) → i < length l → get_or l i d ≡ get_or l i e
there [] i d e less = absurd (omega arith)
there (a ∷ l) zero d e less = refl
there (a ∷ l) (suc i) d e less = there l i d e (omega arith)

not_same : (v w : Word) → (v ≡ w → ⊥) → same v w ≡ false
not_same v w other = go (same v w) refl
  where
    go : (b : Bool) → same v w ≡ b → same v w ≡ false
    go true is = absurd (other (same_true v w is))
    go false is = is

-- the entry of a code after a store at another's place, or at its own
abbrev Stored : List ℕ → Word → ℕ → Word → Type 0
Stored table w value c =
    ((w ≡ c) × (entry_of (set table (place_of w) value) c ≡ value))
    ⊎ (((entry_of table c ≡ 12 → ⊥) → same w c ≡ false) × (entry_of (set table (place_of w) value) c ≡ entry_of table c))

stored : (table : List ℕ) (w : Word) (value : ℕ) (c : Word) → length table ≡ short_codes → Stored table w value c
stored table w value c long = go (ltb (place_of w) short_codes) (eqb (place_of w) (place_of c)) refl refl
  where
    go : (a b : Bool) → ltb (place_of w) short_codes ≡ a → eqb (place_of w) (place_of c) ≡ b → Stored table w value c
    go true true short is =
        let less = ltb-true (place_of w) short_codes short in
        let at = eqb-true _ _ is in
        inl (
          sym (place_own c w less (sym at)),
          ap (λ (n : ℕ). get_or (set table (place_of w) value) n 12) (sym at) ∙ get_or-set_same table (place_of w) value 12 (omega arith),
        )
    go true false short is =
        let apart = eqb-false _ _ is in
        inr (
          (λ known. not_same w c (λ one. apart (ap place_of one))),
          get_or-set_other table (place_of w) (place_of c) value 12 (λ one. apart (sym one)),
        )
    go false b short is =
        let past = ltb-false (place_of w) short_codes short in
        inr (
          (λ known. not_same w c (λ one. known (get_or-eq_default table 12 (let at = ap place_of one in omega arith)))),
          ap (λ (l : List ℕ). entry_of l c) (set_out table (place_of w) value (omega arith)),
        )

-- nothing is known before the first code
pub table_blank : (all codes : List Word) → Tabled (replicate short_codes 12) all codes 0
table_blank all codes =
    record {
      long = length-replicate {A = ℕ} short_codes 12;
      declared = λ c known. absurd (known (blank c));
      small = λ c less. absurd (let is = blank c in omega arith);
      serves = λ c line none less. absurd (omega arith);
    }
  where
    blank : (c : Word) → entry_of (replicate short_codes 12) c ≡ 12
    blank c = go (ltb (place_of c) short_codes) refl
      where
        go : (b : Bool) → ltb (place_of c) short_codes ≡ b → entry_of (replicate short_codes 12) c ≡ 12
        go true is = get_or-replicate short_codes (place_of c) 12 12 (ltb-true _ _ is)
        go false is = get_or-eq_default (replicate short_codes 12) 12 {n = place_of c} (let past = ltb-false (place_of c) short_codes is in rw (length-replicate {A = ℕ} short_codes 12) past)

-- a declared code is noted
pub table_note : (table : List ℕ) (all codes : List Word) (w : Word) → Tabled table all codes 0 → declares (Section false) all w ≡ true
    → Tabled (set table (place_of w) 11) all codes 0
table_note table all codes w t here =
    record {
      long = length-set table (place_of w) 11 ∙ t.long;
      declared = λ c known. ⊎_elim (λ own. rw own.0 at here) (λ other. t.declared c (λ is. known (other.1 ∙ is))) (stored table w 11 c t.long);
      small = λ c less.
          ⊎_elim (λ own. absurd (omega (arith, own.1))) (λ other. absurd (let old = t.small c (omega (arith, other.1)) in omega arith))
          (stored table w 11 c t.long);
      serves = λ c line none less. absurd (omega arith);
    }

-- a word of the definitions: a code is noted, any other word is not
pub table_word : (table : List ℕ) (all codes left : List Word) (phase : Phase) (v w : Word) (ws : List Word) → Tabled table all codes 0
    → ((c : Word) → declares phase left c ≡ true → declares (Section false) all c ≡ true) → left ≡ w ∷ ws → v ≡ w → Tabled (noted table phase v) all codes 0
unfolding noted
table_word table all codes left phase v w ws t of stands is =
    cond-elim (λ (l : List ℕ). Tabled l all codes 0) (code_comes phase) (set table (place_of v) 11) table
    (λ code. table_note table all codes v t (of v (sym (declares_here phase left v w ws v stands is (simp (code, same_refl v)))))) (λ other. t)

-- the codes do not matter where no line has been looked at
pub table_codes : (table : List ℕ) (all codes others : List Word) → Tabled table all codes 0 → Tabled table all others 0
table_codes table all codes others t =
    record { long = t.long; declared = t.declared; small = t.small; serves = λ c line none less. absurd (omega arith) }

-- an entry with a line more: still unknown, this line alone, or several
line_known : (entry line : ℕ) → (with_line entry line ≡ 12 → ⊥) → entry ≡ 12 → ⊥
unfolding with_line
line_known entry line known is = known (simp (eq-eqb entry 12 is))

line_first : (entry line : ℕ) → with_line entry line < 12 → (entry ≡ 11) × (with_line entry line ≡ line)
unfolding with_line
line_first entry line = go (eqb entry 12) (eqb entry 11) refl refl
  where
    go : (a b : Bool) → eqb entry 12 ≡ a → eqb entry 11 ≡ b → cond (eqb entry 12) 12 (cond (eqb entry 11) line 13) < 12
        → (entry ≡ 11) × (cond (eqb entry 12) 12 (cond (eqb entry 11) line 13) ≡ line)
    go true b is also small = absurd (let large = rw is at small in omega (arith, large))
    go false true is also small = (eqb-true entry 11 also, simp (is, also))
    go false false is also small = absurd (let large = simp (is, also) at small in omega (arith, large))

-- a line more
pub table_line : (table : List ℕ) (all codes : List Word) (i : ℕ) → i < 11 → Tabled table all codes i
    → Tabled (set table (place_of (get_or codes i [])) (with_line (entry_of table (get_or codes i [])) i)) all codes (i + 1)
table_line table all codes i below t =
    record {
      long = length-set table (place_of w) value ∙ t.long;
      declared = λ c known.
          ⊎_elim (λ own. rw own.0 at (t.declared w (line_known _ i (λ is. known (own.1 ∙ is)))))
          (λ other. t.declared c (λ is. known (other.1 ∙ is))) (stored table w value c t.long);
      small = λ c less.
          ⊎_elim (λ own. let first = line_first (entry_of table w) i (omega (arith, own.1)) in omega (arith, own.1, first.1))
          (λ other. let old = t.small c (omega (arith, other.1)) in omega (arith, other.1)) (stored table w value c t.long);
      serves = λ c line less known. ⊎_elim (own c line less known) (other c line less known) (stored table w value c t.long);
    }
  where
    w : Word
    w = get_or codes i []

    value : ℕ
    value = with_line (entry_of table w) i

    own : (c : Word) (line : ℕ) → line < i + 1 → entry_of (set table (place_of w) value) c < 12
        → (w ≡ c) × (entry_of (set table (place_of w) value) c ≡ value)
        → same (get_or codes line []) c ≡ eqb line (entry_of (set table (place_of w) value) c)
    own c line less known is =
        let first = line_first (entry_of table w) i (omega (arith, is.1)) in
        let now : entry_of (set table (place_of w) value) c ≡ i = is.1 ∙ first.1 in
        ap (same (get_or codes line [])) (sym is.0) ∙ by first.0 (eqb line i) refl ∙ ap (eqb line) (sym now)
      where
        by : entry_of table w ≡ 11 → (b : Bool) → eqb line i ≡ b → same (get_or codes line []) w ≡ eqb line i
        by none true at = ap (λ (n : ℕ). same (get_or codes n []) w) (eqb-true line i at) ∙ same_refl w ∙ sym at
        by none false at =
            let apart = eqb-false line i at in
            t.serves w line (omega arith) (omega arith) ∙ ap (eqb line) none ∙ ne_eqb line 11 (λ is. omega arith) ∙ sym at

    other : (c : Word) (line : ℕ) → line < i + 1 → entry_of (set table (place_of w) value) c < 12
        → ((entry_of table c ≡ 12 → ⊥) → same w c ≡ false) × (entry_of (set table (place_of w) value) c ≡ entry_of table c)
        → same (get_or codes line []) c ≡ eqb line (entry_of (set table (place_of w) value) c)
    other c line less known is = by (eqb line i) refl ∙ ap (eqb line) (sym is.1)
      where
        by : (b : Bool) → eqb line i ≡ b → same (get_or codes line []) c ≡ eqb line (entry_of table c)
        by true at =
            let here = eqb-true line i at in
            ap (λ (n : ℕ). same (get_or codes n []) c) here ∙ is.0 (λ un. omega (arith, is.1))
            ∙ sym (ne_eqb line (entry_of table c) (λ one. let old = t.small c (omega arith) in omega arith))
        by false at = let apart = eqb-false line i at in t.serves c line (omega arith) (omega (arith, is.1))

-- levels changed where just one line has the code, before it and from it on
module _ (codes : List Word) (c : Word) (level : ℕ) (levels : List ℕ) (one : ℕ) where
  pub changed_before : (n : ℕ) → ((line : ℕ) → line < n → same (get_or codes line []) c ≡ eqb line one) → n ≤ one → changed n codes c level levels ≡ levels
  unfolding changed
  changed_before zero serves before = refl
  changed_before (suc n) serves before =
      simp (serves n (omega arith), ne_eqb n one (λ is. omega arith), set-get_or) (changed_before n (λ line less. serves line (omega arith)) (omega arith))

  pub changed_one : (n : ℕ) → ((line : ℕ) → line < n → same (get_or codes line []) c ≡ eqb line one) → one < n
      → changed n codes c level levels ≡ set levels one level
  unfolding changed
  changed_one zero serves inside = absurd (omega arith)
  changed_one (suc n) serves inside = go (eqb n one) refl (changed_one n (λ line less. serves line (omega arith)))
    where
      go : (b : Bool) → eqb n one ≡ b → (one < n → changed n codes c level levels ≡ set levels one level)
          → set (changed n codes c level levels) n (cond (same (get_or codes n []) c) level (get_or (changed n codes c level levels) n 0)) ≡ set levels one level
      go true is later =
          let here = eqb-true n one is in
          simp (serves n (omega arith) ∙ is, changed_before n (λ line less. serves line (omega arith)) (omega arith)) (ap (λ (m : ℕ). set levels m level) here)
      go false is later =
          let apart = eqb-false n one is in
          simp (serves n (omega arith) ∙ is, set-get_or) (later (omega arith))
