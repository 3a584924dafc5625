-- What the definitions' flags say of a grammatical text: a needed name twice, an undeclared code, a missing signal.
-- Assumes nothing.
use Rattle.std.proofs.Common.{◌≡◌, ℕ, zero, suc, ◌+◌, ◌<◌, Bool, true, false, cond, not, ◌&&◌, ◌||◌, eqb, ltb, List, [], ◌∷◌, get_or, drop, replicate, sym, refl, ap, ◌∙◌, subst, arith, ltb-false, ltb-true, lt-ltb, eq-eqb, eqb-true}
use mathlib.Core.Bool.{false≢true}
use borrow.Author.Tests.{eqb-false, not-true, not-false}
use Rattle.controller.proofs.Laws.Choice.{and_left, and_right, cond-elim}
use Rattle.controller.proofs.Laws.Tests.{Tests}
use Rattle.lines.specs.Text.{bytes_of}
use Rattle.lines.proofs.Laws.Digits.{either}
use Rattle.captures.specs.declared.form.Phase.{Phase}
use Rattle.captures.specs.declared.form.Phase.TheVariants.{Section, ScopeKind, ScopeName, VarType, VarSize, VarCode, VarName, Close, Changes, Dump}
use Rattle.captures.specs.Falls.{Scan}
use Rattle.captures.specs.Words.{Word, words, is_empty, is_plain, place_in, same}
use Rattle.captures.specs.Form.{after, asked, is_whole, level_of, level_set, opened, past, stamp_of}
use Rattle.captures.specs.Definitions.{Head, names, placed, named, defined, defined_by, declares, lacks_code}
use Rattle.captures.specs.Falls.{blank_scan, scanned, scanned_by}
use Rattle.captures.specs.Import.{head_of, scan_of, in_subset, is_missing}
use Rattle.captures.specs.Unheeded.{said}
use Rattle.captures.specs.Grammar.{AllAmong, AllPlain, InSubset, Later, Missing, Sections, changed_in, changed_of, codes_of, names_of, needed, times}
use Rattle.captures.specs.Grammar as Grammar
use Rattle.captures.proofs.Laws.Behind.{scanned_phase, scanned_stranger, stranger}
use Rattle.captures.proofs.Laws.Changes.{change_no_stamp, change_past, code_plain, stamp_past}
use Rattle.captures.proofs.Laws.Counted.{Counted, counted_as, other_counted, own_counted}
use Rattle.captures.proofs.Laws.Falls.{declares_never}
use Rattle.captures.proofs.Laws.Over.{over}
use Rattle.captures.proofs.Laws.Session.{defined_over}
use Rattle.captures.proofs.Theorems.Grammar.{AllFilled, form_is_grammar, past_is, said_filled}
use Rattle.captures.proofs.Theorems.Unheeded.{head_said, scan_said, codes_said}

abbrev headed : Phase → Word → List Word → Bool → Head
headed phase code codes twice = record { phase = phase; code = code; codes = codes; twice = twice }

-- a word where neither a code nor a name comes
moves : (phase next : Phase) (code : Word) (codes : List Word) (twice : Bool) (w : Word) (ws : List Word) → asked phase ≡ 0 → is_empty w ≡ false
    → past phase w ≡ next → defined_by (headed phase code codes twice) (w ∷ ws) ≡ defined_by (headed next code codes twice) ws
unfolding defined_by defined
moves phase next code codes twice w ws quiet some goes = simp (some, quiet, goes)

-- a name, behind a code
counted_name : (phase : Phase) (code : Word) (codes : List Word) (twice : Bool) (often : ℕ → ℕ) (w : Word) → is_empty code ≡ false
    → Counted codes twice often
    → Counted (named (headed phase code codes twice) w).codes (named (headed phase code codes twice) w).twice (λ line. often line + cond (same w (needed line)) 1 0)
unfolding named placed
counted_name phase code codes twice often w some is =
    cond-elim (λ (h : Head). Counted h.codes h.twice (λ line. often line + cond (same w (needed line)) 1 0)) (ltb (place_in names w) 11) _ _
    (λ e. own_counted codes twice often code w some is (ltb-true (place_in names w) 11 e))
    (λ e. other_counted codes twice often code w some is (ltb-false (place_in names w) 11 e))

-- a code, and a name behind it
code_moves : (scaled : Bool) (old : Word) (codes : List Word) (twice : Bool) (w : Word) (ws : List Word) → is_empty w ≡ false
    → past (VarCode scaled) w ≡ VarName scaled
    → defined_by (headed (VarCode scaled) old codes twice) (w ∷ ws) ≡ defined_by (headed (VarName scaled) w codes twice) ws
unfolding defined_by defined
code_moves scaled old codes twice w ws some goes = simp (some, goes)

named_headed : (h : Head) (w : Word) → named h w ≡ headed h.phase h.code (named h w).codes (named h w).twice
unfolding named placed
named_headed h w = cond-elim (λ (r : Head). r ≡ headed h.phase h.code r.codes r.twice) (ltb (place_in names w) 11) _ _ (λ _. refl) (λ _. refl)

name_moves : (scaled : Bool) (code : Word) (codes : List Word) (twice : Bool) (w : Word) (ws : List Word) → is_empty w ≡ false
    → past (VarName scaled) w ≡ Close scaled
    → defined_by (headed (VarName scaled) code codes twice) (w ∷ ws)
    ≡ defined_by (headed (Close scaled) code (named (headed (Close scaled) code codes twice) w).codes (named (headed (Close scaled) code codes twice) w).twice) ws
unfolding defined_by defined
name_moves scaled code codes twice w ws some goes =
    simp (some, goes) (ap (λ (h : Head). defined_by h ws) (named_headed (headed (Close scaled) code codes twice) w))

-- the sections count each needed name as often as it stands in them
sections_counted : {scaled : Bool} {ws : List Word} (form : Sections scaled ws) → AllFilled ws → AllPlain ws → (code : Word) (codes : List Word)
    (twice : Bool) (often : ℕ → ℕ) → Counted codes twice often
    → Counted (defined_by (headed (Section scaled) code codes twice) ws).codes (defined_by (headed (Section scaled) code codes twice) ws).twice
    (λ line. often line + times (needed line) (names_of form))
unfolding AllFilled AllPlain defined_by defined past after opened is_plain same names_of times over
sections_counted (Grammar.scale ws rest) some plain code codes twice often is =
    sections_counted rest some.1.1.1.1 plain.1.1.1.1 code codes twice often is
sections_counted (Grammar.scale_joined ws rest) some plain code codes twice often is =
    sections_counted rest some.1.1.1 plain.1.1.1 code codes twice often is
sections_counted (Grammar.upscope scaled ws rest) some plain code codes twice often is =
    sections_counted rest some.1.1 plain.1.1 code codes twice often is
sections_counted (Grammar.scope scaled kind name ws e other rest) some plain code codes twice often is =
    let to-name = moves (ScopeKind scaled) (ScopeName scaled) code codes twice kind (name ∷ bytes_of "$end" ∷ ws) refl some.1.0
    (past_is (ScopeKind scaled) kind some.1.0 plain.1.0 ∙ simp e) in
    let to-close = moves (ScopeName scaled) (Close scaled) code codes twice name (bytes_of "$end" ∷ ws) refl some.1.1.0
    (past_is (ScopeName scaled) name some.1.1.0 plain.1.1.0 ∙ simp other) in
    subst (λ (h : Head). Counted h.codes h.twice (λ line. often line + times (needed line) (names_of rest))) (sym (to-name ∙ to-close))
    (sections_counted rest some.1.1.1.1 plain.1.1.1.1 code codes twice often is)
sections_counted (Grammar.var scaled type own name ws e other nor rest) some plain code codes twice often is =
    let to-size = moves (VarType scaled) (VarSize scaled) code codes twice type (bytes_of "1" ∷ own ∷ name ∷ bytes_of "$end" ∷ ws) refl some.1.0
    (past_is (VarType scaled) type some.1.0 plain.1.0 ∙ simp e) in
    let to-name = code_moves scaled code codes twice own (name ∷ bytes_of "$end" ∷ ws) some.1.1.1.0
    (past_is (VarCode scaled) own some.1.1.1.0 plain.1.1.1.0 ∙ simp other) in
    let to-close = name_moves scaled own codes twice name (bytes_of "$end" ∷ ws) some.1.1.1.1.0
    (past_is (VarName scaled) name some.1.1.1.1.0 plain.1.1.1.1.0 ∙ simp nor) in
    let head = named (headed (Close scaled) own codes twice) name in
    let one : ℕ → ℕ = λ line. cond (same name (needed line)) 1 0 in
    subst (λ (h : Head). Counted h.codes h.twice (λ line. often line + times (needed line) (name ∷ names_of rest))) (sym (to-size ∙ to-name ∙ to-close))
    (counted_as _ _ (λ line. (often line + one line) + times (needed line) (names_of rest)) _ (λ line. omega arith)
    (sections_counted rest some.1.1.1.1.1.1 plain.1.1.1.1.1.1 own head.codes head.twice (λ line. often line + one line)
    (counted_name (Close scaled) own codes twice often name some.1.1.1.0 is)))
sections_counted (Grammar.over ws rest) some plain code codes twice often is =
    let none = defined_over (headed Changes code codes twice) ws refl in
    subst (λ (l : List Word). Counted l (defined_by (headed Changes code codes twice) ws).twice (λ line. often line + 0)) none.0
    (subst (λ (t : Bool). Counted codes t (λ line. often line + 0)) none.1
    (counted_as codes twice often (λ line. often line + 0) (λ line. omega arith) is))

-- the sections declare a code where it stands in one of them
declares_moves : (phase next : Phase) (w : Word) (ws : List Word) (code : Word) → asked phase ≡ 0 → past phase w ≡ next
    → declares phase (w ∷ ws) code ≡ declares next ws code
unfolding declares
declares_moves phase next w ws code quiet goes = simp (quiet, goes)

sections_declare : {scaled : Bool} {ws : List Word} (form : Sections scaled ws) → AllFilled ws → AllPlain ws → (code : Word)
    → declares (Section scaled) ws code ≡ ltb 0 (times code (codes_of form))
unfolding AllFilled AllPlain declares past after opened is_plain same codes_of times over
sections_declare (Grammar.scale ws rest) some plain code = sections_declare rest some.1.1.1.1 plain.1.1.1.1 code
sections_declare (Grammar.scale_joined ws rest) some plain code = sections_declare rest some.1.1.1 plain.1.1.1 code
sections_declare (Grammar.upscope scaled ws rest) some plain code = sections_declare rest some.1.1 plain.1.1 code
sections_declare (Grammar.scope scaled kind name ws e other rest) some plain code =
    declares_moves (ScopeKind scaled) (ScopeName scaled) kind (name ∷ bytes_of "$end" ∷ ws) code refl (past_is (ScopeKind scaled) kind some.1.0 plain.1.0 ∙ simp e)
    ∙ declares_moves (ScopeName scaled) (Close scaled) name (bytes_of "$end" ∷ ws) code refl (past_is (ScopeName scaled) name some.1.1.0 plain.1.1.0 ∙ simp other)
    ∙ sections_declare rest some.1.1.1.1 plain.1.1.1.1 code
sections_declare (Grammar.var scaled type own name ws e other nor rest) some plain code =
    let to-name : past (VarCode scaled) own ≡ VarName scaled = past_is (VarCode scaled) own some.1.1.1.0 plain.1.1.1.0 ∙ simp other in
    let to-close : past (VarName scaled) name ≡ Close scaled = past_is (VarName scaled) name some.1.1.1.1.0 plain.1.1.1.1.0 ∙ simp nor in
    declares_moves (VarType scaled) (VarSize scaled) type (bytes_of "1" ∷ own ∷ name ∷ bytes_of "$end" ∷ ws) code refl
    (past_is (VarType scaled) type some.1.0 plain.1.0 ∙ simp e)
    ∙ ap (λ (b : Bool). same own code || b)
    (ap (λ (p : Phase). declares p (name ∷ bytes_of "$end" ∷ ws) code) to-name
    ∙ ap (λ (p : Phase). declares p (bytes_of "$end" ∷ ws) code) to-close
    ∙ sections_declare rest some.1.1.1.1.1.1 plain.1.1.1.1.1.1 code)
    ∙ first_or (same own code) (times code (codes_of rest))
  where
    first_or : (b : Bool) (n : ℕ) → (b || ltb 0 n) ≡ ltb 0 (cond b 1 0 + n)
    first_or true n = sym (lt-ltb 0 (1 + n) (omega arith))
    first_or false n = ap (ltb 0) (let same_number : n ≡ 0 + n = omega arith in same_number)
sections_declare (Grammar.over ws rest) some plain code = declares_never Changes ws code refl

-- whether a code was changed that is not declared, by the phases alone
unfoldable strange_by : List Word → Phase → Bool → List Word → Bool
strange_by all phase strange [] = strange
strange_by all phase strange (w ∷ ws) = strange_by all (past phase w) (stranger all phase strange w) ws

scanned_strange : (all codes : List Word) (scan : Scan) (ws : List Word) → (scanned_by all codes scan ws).strange ≡ strange_by all scan.phase scan.strange ws
unfolding scanned_by strange_by
scanned_strange all codes scan [] = refl
scanned_strange all codes scan (w ∷ ws) =
    scanned_strange all codes (scanned all codes scan w) ws
    ∙ ap (λ (p : Phase). strange_by all p (scanned all codes scan w).strange ws) (scanned_phase all codes scan w)
    ∙ ap (λ (b : Bool). strange_by all (past scan.phase w) b ws) (scanned_stranger all codes scan w)

-- every one of these codes is declared
unfoldable all_declared : List Word → List Word → Bool
all_declared all [] = true
all_declared all (code ∷ codes) = declares (Section false) all code && all_declared all codes

nothing_more : (b : Bool) → b ≡ (b || not true)
nothing_more true = refl
nothing_more false = refl

one_more : (b d r : Bool) → ((b || not d) || not r) ≡ (b || not (d && r))
one_more true d r = refl
one_more false true r = refl
one_more false false r = refl

later_strange : {inside : Bool} {ws : List Word} (rest : Later inside ws) → AllFilled ws → AllPlain ws → (all : List Word) (b : Bool)
    → strange_by all (cond inside Dump Changes) b ws ≡ (b || not (all_declared all (changed_in rest)))
unfolding AllFilled AllPlain strange_by stranger past after is_plain same stamp_of level_set level_of changed_in all_declared
later_strange Grammar.ended some plain all b = nothing_more b
later_strange (Grammar.stamp w ws e rest) some plain all b =
    let asks : stranger all Changes b w ≡ b = simp e in
    ap (λ (p : Phase). strange_by all p (stranger all Changes b w) ws) (stamp_past Changes w refl e plain.0)
    ∙ ap (λ (t : Bool). strange_by all Changes t ws) asks
    ∙ later_strange rest some.1 plain.1 all b
later_strange (Grammar.change true w ws e rest) some plain all b =
    let stays : past Dump w ≡ Dump = change_past Dump w refl e ∙ simp (code_plain w e plain.0) in
    let asks : stranger all Dump b w ≡ (b || not (declares (Section false) all (drop 1 w))) = simp (change_no_stamp w e, e) in
    ap (λ (p : Phase). strange_by all p (stranger all Dump b w) ws) stays
    ∙ ap (λ (t : Bool). strange_by all Dump t ws) asks
    ∙ later_strange rest some.1 plain.1 all (b || not (declares (Section false) all (drop 1 w)))
    ∙ one_more b (declares (Section false) all (drop 1 w)) (all_declared all (changed_in rest))
later_strange (Grammar.change false w ws e rest) some plain all b =
    let stays : past Changes w ≡ Changes = change_past Changes w refl e ∙ simp (code_plain w e plain.0) in
    let asks : stranger all Changes b w ≡ (b || not (declares (Section false) all (drop 1 w))) = simp (change_no_stamp w e, e) in
    ap (λ (p : Phase). strange_by all p (stranger all Changes b w) ws) stays
    ∙ ap (λ (t : Bool). strange_by all Changes t ws) asks
    ∙ later_strange rest some.1 plain.1 all (b || not (declares (Section false) all (drop 1 w)))
    ∙ one_more b (declares (Section false) all (drop 1 w)) (all_declared all (changed_in rest))
later_strange (Grammar.dump ws rest) some plain all b = later_strange rest some.1 plain.1 all b
later_strange (Grammar.dumped ws rest) some plain all b = later_strange rest some.1 plain.1 all b

sections_strange : {scaled : Bool} {ws : List Word} (form : Sections scaled ws) → AllFilled ws → AllPlain ws → (all : List Word) (b : Bool)
    → strange_by all (Section scaled) b ws ≡ (b || not (all_declared all (changed_of form)))
unfolding AllFilled AllPlain strange_by stranger past after opened is_plain same changed_of
sections_strange (Grammar.scale ws rest) some plain all b = sections_strange rest some.1.1.1.1 plain.1.1.1.1 all b
sections_strange (Grammar.scale_joined ws rest) some plain all b = sections_strange rest some.1.1.1 plain.1.1.1 all b
sections_strange (Grammar.upscope scaled ws rest) some plain all b = sections_strange rest some.1.1 plain.1.1 all b
sections_strange (Grammar.scope scaled kind name ws e other rest) some plain all b =
    let to-name : past (ScopeKind scaled) kind ≡ ScopeName scaled = past_is (ScopeKind scaled) kind some.1.0 plain.1.0 ∙ simp e in
    let to-close : past (ScopeName scaled) name ≡ Close scaled = past_is (ScopeName scaled) name some.1.1.0 plain.1.1.0 ∙ simp other in
    ap (λ (p : Phase). strange_by all p b (name ∷ bytes_of "$end" ∷ ws)) to-name
    ∙ ap (λ (p : Phase). strange_by all p b (bytes_of "$end" ∷ ws)) to-close
    ∙ sections_strange rest some.1.1.1.1 plain.1.1.1.1 all b
sections_strange (Grammar.var scaled type own name ws e other nor rest) some plain all b =
    let to-size : past (VarType scaled) type ≡ VarSize scaled = past_is (VarType scaled) type some.1.0 plain.1.0 ∙ simp e in
    let to-name : past (VarCode scaled) own ≡ VarName scaled = past_is (VarCode scaled) own some.1.1.1.0 plain.1.1.1.0 ∙ simp other in
    let to-close : past (VarName scaled) name ≡ Close scaled = past_is (VarName scaled) name some.1.1.1.1.0 plain.1.1.1.1.0 ∙ simp nor in
    ap (λ (p : Phase). strange_by all p b (bytes_of "1" ∷ own ∷ name ∷ bytes_of "$end" ∷ ws)) to-size
    ∙ ap (λ (p : Phase). strange_by all p b (name ∷ bytes_of "$end" ∷ ws)) to-name
    ∙ ap (λ (p : Phase). strange_by all p b (bytes_of "$end" ∷ ws)) to-close
    ∙ sections_strange rest some.1.1.1.1.1.1 plain.1.1.1.1.1.1 all b
sections_strange (Grammar.over ws rest) some plain all b = later_strange rest some.1.1 plain.1.1 all b

-- every code is declared where each is among those of the sections
module _ (ws : List Word) (form : Sections false ws) (some : AllFilled ws) (plain : AllPlain ws) where
  among : (codes : List Word) → all_declared ws codes ≡ true → AllAmong codes (codes_of form)
  unfolding all_declared AllAmong
  among [] e = tt
  among (code ∷ codes) e = (
    ltb-true 0 (times code (codes_of form)) (sym (sections_declare form some plain code) ∙ and_left _ _ e),
    among codes (and_right (declares (Section false) ws code) _ e),
  )

  among_all : (codes : List Word) → AllAmong codes (codes_of form) → all_declared ws codes ≡ true
  unfolding all_declared AllAmong
  among_all [] all = refl
  among_all (code ∷ codes) all =
      ap (λ (b : Bool). b && all_declared ws codes) (sections_declare form some plain code ∙ lt-ltb 0 (times code (codes_of form)) all.0)
      ∙ among_all codes all.1

-- before the first word no signal has been
none_yet : Counted (replicate 11 []) false (λ _. 0)
none_yet =
    record {
      long = refl;
      held = λ line less. ap is_empty (blank 11 line);
      more = λ e. absurd (false≢true e);
      less = λ _ line less. omega arith;
    }
  where
    blank : (n line : ℕ) → get_or {A = Word} (replicate n []) line [] ≡ []
    blank zero line = refl
    blank (suc n) zero = refl
    blank (suc n) (suc line) = blank n line

module _ (capture : List ℕ) where
  abbrev ws : List Word
  ws = said (words capture)

  -- what the flags of a grammatical text count
  counts : (form : Sections false ws) → AllPlain ws → Counted (head_of capture).codes (head_of capture).twice (λ line. 0 + times (needed line) (names_of form))
  counts form plain =
      subst (λ (h : Head). Counted h.codes h.twice (λ line. 0 + times (needed line) (names_of form))) (sym (head_said capture))
      (sections_counted form (said_filled (words capture)) plain [] (replicate 11 []) false (λ _. 0) none_yet)

  strange_is : (form : Sections false ws) → AllPlain ws → (scan_of capture).strange ≡ not (all_declared ws (changed_of form))
  strange_is form plain =
      ap (λ (s : Scan). s.strange) (scan_said capture)
      ∙ scanned_strange ws (codes_said capture) blank_scan ws
      ∙ sections_strange form (said_filled (words capture)) plain ws false

  pub inside : in_subset capture ≡ true → InSubset capture
  unfolding in_subset
  inside is =
      let whole = and_left (is_whole (scan_of capture).phase) _ is in
      let rest = and_right (is_whole (scan_of capture).phase) _ is in
      let once = not-true (head_of capture).twice (and_left _ _ rest) in
      let known = not-true (scan_of capture).strange (and_right (not (head_of capture).twice) _ rest) in
      let stands = (form_is_grammar capture).0 whole in
      record {
        plain = stands.0;
        form = stands.1;
        once = λ line less. let one = (counts stands.1 stands.0).less once line less in omega arith;
        declared = among ws stands.1 (said_filled (words capture)) stands.0 (changed_of stands.1)
            (not-false _ (sym (strange_is stands.1 stands.0) ∙ known));
      }

  pub is_inside : InSubset capture → in_subset capture ≡ true
  unfolding in_subset
  is_inside stands =
      let whole = (form_is_grammar capture).1 (stands.plain, stands.form) in
      let once : (head_of capture).twice ≡ false =
      either (head_of capture).twice
      (λ e. let two = (counts stands.form stands.plain).more e in let one = stands.once two.0 two.1 in absurd (omega (arith, two.2)))
      (λ e. e) in
      let known : (scan_of capture).strange ≡ false =
      strange_is stands.form stands.plain
      ∙ ap not (among_all ws stands.form (said_filled (words capture)) stands.plain (changed_of stands.form) stands.declared) in
      simp (whole, once, known)

-- a line without a code
lacks_some : (n : ℕ) (codes : List Word) → lacks_code n codes ≡ true → (line : ℕ) × (line < n) × (is_empty (get_or codes line []) ≡ true)
unfolding lacks_code
lacks_some zero codes e = absurd (false≢true e)
lacks_some (suc n) codes e =
    either (is_empty (get_or codes n [])) (λ here. (n, omega arith, here))
    (λ other. let there = lacks_some n codes (sym (simp other) ∙ e) in (there.0, omega (arith, there.1), there.2))

some_lacks : (n : ℕ) (codes : List Word) (line : ℕ) → line < n → is_empty (get_or codes line []) ≡ true → lacks_code n codes ≡ true
unfolding lacks_code
some_lacks zero codes line less e = absurd (omega arith)
some_lacks (suc n) codes line less e =
    either (eqb line n)
    (λ at. let same_line = eqb-true line n at in simp (ap (λ (k : ℕ). is_empty (get_or codes k [])) (sym same_line) ∙ e))
    (λ at. let apart = eqb-false line n at in or_true (is_empty (get_or codes n [])) (lacks_code n codes) (some_lacks n codes line (omega (arith, apart)) e))
  where
    or_true : (a b : Bool) → b ≡ true → (a || b) ≡ true
    or_true true b is = refl
    or_true false b is = is

-- 15 says what is missing of a text in the subset
pub missing_tests : (capture : List ℕ) → InSubset capture → Tests (is_missing capture) (Missing capture)
unfolding is_missing
missing_tests capture stands =
    record {
      yes = λ e. let some = lacks_some 11 (head_of capture).codes e in (
        some.0,
        some.1,
        λ other. let empty = (counts capture other.form other.plain).held some.0 some.1 in
            let none = eqb-true (0 + times (needed some.0) (names_of other.form)) 0 (sym empty ∙ some.2) in omega arith,
      );
      no = λ e is. let none = is.2 stands in
          let empty = (counts capture stands.form stands.plain).held is.0 is.1 in
          let lacks = some_lacks 11 (head_of capture).codes is.0 is.1 (empty ∙ eq-eqb (0 + times (needed is.0) (names_of stands.form)) 0 (omega arith)) in
          false≢true (sym e ∙ lacks);
    }
