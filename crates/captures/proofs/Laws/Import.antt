-- Laws of the whole: what the tally of a capture's falls says of its session's text, and what each answer leaves.
-- Assumes nothing.
use Rattle.std.proofs.Common.{◌≡◌, ℕ, ◌+◌, ◌<◌, ◌≤◌, Bool, true, false, cond, not, ◌&&◌, ◌||◌, ltb, Result, Ok, Err, ◌⊎◌, List, [], ◌∷◌, ◌++◌, length, sym, refl, ap, ◌∙◌, inl, inr, ⊎_elim, arith, length-append, ltb-false, le-ltb, lt-ltb}
use lib.Seq.{sets, length-sets}
use Rattle.controller.specs.declared.answers.Answer.{Answer}
use Rattle.controller.specs.declared.answers.Answer.TheVariants.{OutputShort}
use Rattle.controller.specs.Answers.{number_of, is_done}
use Rattle.lines.specs.Line.{line, lines_of}
use Rattle.lines.specs.Text.{Put, put, putting}
use Rattle.lines.specs.Writing.{Writes, Writing, answer_in, wanting, refusing, writing, written_of, onto}
use Rattle.lines.proofs.Laws.Told.{answer_told}
use Rattle.lines.proofs.Laws.Buffer.{sets_append, sets_onto, put_whole}
use Rattle.captures.specs.declared.definitions.Head.{Head as KeptHead}
use Rattle.captures.specs.Walk.{Tally}
use Rattle.captures.specs.Falls.{Scan}
use Rattle.captures.specs.Words.{Word, words}
use Rattle.captures.specs.Form.{is_whole}
use Rattle.captures.specs.Definitions.{lacks_code}
use Rattle.captures.specs.Falls.{Fall, blank_scan, scanned_by, falls_from}
use Rattle.captures.specs.Import.{kind_of, byte_of, wait_from, sent_from, sent_by, unknown_at, unknown_in, head_of, scan_of, falls_of, in_subset, is_missing, session_text, judged, judgement_of, importing}
use Rattle.lines.proofs.Laws.Digits.{either}
use Rattle.captures.proofs.Laws.Falls.{or_none}
use Rattle.captures.specs.Walk.{line_at, longer, counted, Told, told, telling_one, telling, no_tally, codes_in, verdict_of, HeadRead, Walked}

or_assoc : (a b c : Bool) → (a || b) || c ≡ a || (b || c)
or_assoc true b c = refl
or_assoc false b c = refl

-- the tally notes an unknown level just where one of the falls has it
pub unknown_told : (t : Told) (fs : List Fall) → (telling t fs).tally.unknown ≡ t.tally.unknown || unknown_in fs
unfolding telling counted unknown_in
unknown_told t [] = or_none t.tally.unknown
unknown_told t (f ∷ fs) = unknown_told (telling_one t f) fs ∙ or_assoc t.tally.unknown (unknown_at f.levels) (unknown_in fs)

-- the lines of these falls, told from this tally on
unfoldable pub text_from : Tally → List Fall → List ℕ
text_from tally [] = []
text_from tally (f ∷ fs) = line_at tally f ++ text_from (counted tally f) fs

text_later : (tally : Tally) (fs : List Fall) → tally.fell ≡ true → text_from tally fs ≡ lines_of (sent_from tally.last fs)
unfolding text_from lines_of sent_from line_at counted
text_later tally [] fell = refl
text_later tally (f ∷ fs) fell =
    ap (λ (b : Bool). line (kind_of f.levels) (byte_of f.levels) (wait_from (cond b tally.last f.stamp) f.stamp) ++ text_from (counted tally f) fs) fell
    ∙ ap (λ (l : List ℕ). line (kind_of f.levels) (byte_of f.levels) (wait_from tally.last f.stamp) ++ l) (text_later (counted tally f) fs refl)

pub text_session : (fs : List Fall) → text_from no_tally fs ≡ lines_of (sent_by fs)
unfolding text_from lines_of sent_by sent_from line_at counted
text_session [] = refl
text_session (f ∷ fs) =
    ap (λ (l : List ℕ). line (kind_of f.levels) (byte_of f.levels) (wait_from f.stamp f.stamp) ++ l) (text_later (counted no_tally f) fs refl)

-- a length as it is counted: the true one, or both past what any buffer has
abbrev pub Measured : ℕ → ℕ → Type 0
Measured counted total = (counted ≡ total) ⊎ ((9223372036854775808 ≤ counted) × (9223372036854775808 ≤ total))

measured_by : (t : Told) (f : Fall) (rest n : ℕ) (small : Bool) → ltb t.tally.length 9223372036854775808 ≡ small
    → Measured n ((counted t.tally f).length + rest) → Measured n (t.tally.length + (length (line_at t.tally f) + rest))
unfolding counted longer
measured_by t f rest n true is m =
    let next : (counted t.tally f).length ≡ t.tally.length + length (line_at t.tally f) = simp is in
    ⊎_elim (λ same. inl (omega (arith, same, next))) (λ big. inr (big.0, omega (arith, big.1, next))) m
measured_by t f rest n false is m =
    let next : (counted t.tally f).length ≡ t.tally.length = simp is in
    let large = ltb-false t.tally.length 9223372036854775808 is in
    ⊎_elim (λ same. inr (omega (arith, same, next, large), omega (arith, large))) (λ big. inr (big.0, omega (arith, large))) m

pub measured : (t : Told) (fs : List Fall) → Measured (telling t fs).tally.length (t.tally.length + length (text_from t.tally fs))
unfolding telling text_from
measured t [] = inl (omega arith)
measured t (f ∷ fs) =
    let long = length-append (line_at t.tally f) (text_from (counted t.tally f) fs) in
    rw long (measured_by t f (length (text_from (counted t.tally f) fs)) (telling (telling_one t f) fs).tally.length _ refl (measured (telling_one t f) fs))

-- where everything fits, the buffer has the lines one after the other
pub put_all : (t : Told) (fs : List Fall) → t.tally.length + length (text_from t.tally fs) ≤ length t.out → length t.out < 9223372036854775808
    → (telling t fs).out ≡ sets t.out t.tally.length (text_from t.tally fs)
unfolding telling text_from counted longer
put_all t [] fits small = refl
put_all t (f ∷ fs) fits small =
    let own = line_at t.tally f in
    let rest = text_from (counted t.tally f) fs in
    let long = length-append own rest in
    let one : (putting (put t.tally.length t.out) own).out ≡ sets t.out t.tally.length own =
    ap (λ (p : Put). p.out) (put_whole t.tally.length t.out own (omega (arith, long))) in
    let next : (counted t.tally f).length ≡ t.tally.length + length own =
    simp (lt-ltb t.tally.length 9223372036854775808 (omega (arith, long))) in
    let same_size : length (putting (put t.tally.length t.out) own).out ≡ length t.out = ap length one ∙ length-sets t.out t.tally.length own in
    put_all (telling_one t f) fs (omega (arith, long, next, same_size)) (omega (arith, same_size))
    ∙ ap (λ (l : List ℕ). sets l (counted t.tally f).length rest) one
    ∙ ap (λ (n : ℕ). sets (sets t.out t.tally.length own) n rest) next
    ∙ sets_append t.out t.tally.length own rest

-- from here on: a capture, its definitions as they were read, and what the first walk saw and counted
module _ (capture : List ℕ) (head : KeptHead) (defs : HeadRead capture head) where
  codes_are : codes_in head.codes ≡ (head_of capture).codes
  codes_are = defs.codes

  module _ (out after : List ℕ) (scan : Scan) (tally : Tally) (walked : Walked capture (codes_in head.codes) out scan tally after) where
    pub scan_is : scan ≡ scan_of capture
    scan_is = walked.seen ∙ ap (λ (cs : List Word). scanned_by (words capture) cs blank_scan (words capture)) codes_are

    pub told_is : told tally after ≡ telling (told no_tally out) (falls_of capture)
    told_is = walked.heard ∙ ap (λ (cs : List Word). telling (told no_tally out) (falls_from (words capture) cs blank_scan (words capture))) codes_are

    pub unknown_is : tally.unknown ≡ unknown_in (falls_of capture)
    unknown_is = ap (λ (t : Told). t.tally.unknown) told_is ∙ unknown_told (told no_tally out) (falls_of capture)

    pub inside_is : (inside : Bool) → inside ≡ is_whole scan.phase && (not head.twice && not scan.strange) → inside ≡ in_subset capture
    unfolding in_subset
    inside_is inside is =
        is ∙ ap (λ (s : Scan). is_whole s.phase && (not head.twice && not s.strange)) scan_is
        ∙ ap (λ (b : Bool). is_whole (scan_of capture).phase && (not b && not (scan_of capture).strange)) defs.twice

    pub length_is : Measured tally.length (length (session_text capture))
    unfolding session_text
    length_is =
        let counted : tally.length ≡ (telling (told no_tally out) (falls_of capture)).tally.length = ap (λ (t : Told). t.tally.length) told_is in
        let whole : length (text_from no_tally (falls_of capture)) ≡ length (lines_of (sent_by (falls_of capture))) = ap length (text_session (falls_of capture)) in
        ⊎_elim (λ same. inl (omega (arith, counted, whole, same))) (λ big. inr (omega (arith, counted, big.0), omega (arith, whole, big.1)))
        (measured (told no_tally out) (falls_of capture))

    pub out_is : length (session_text capture) ≤ length out → length out < 9223372036854775808 → after ≡ onto (session_text capture) out
    unfolding session_text
    out_is fits small =
        let whole = text_session (falls_of capture) in
        ap (λ (t : Told). t.out) told_is
        ∙ put_all (told no_tally out) (falls_of capture) (let same = ap length whole in omega (arith, same)) small
        ∙ ap (sets out 0) whole
        ∙ sets_onto (lines_of (sent_by (falls_of capture))) out fits

  pub missing_is : (missing : Bool) → missing ≡ lacks_code 11 (codes_in head.codes) → missing ≡ is_missing capture
  unfolding is_missing
  missing_is missing is = is ∙ ap (lacks_code 11) codes_are

-- what is judged, from all that was read
pub judged_is : (capture : List ℕ) (head : KeptHead) → HeadRead capture head → (out after : List ℕ) (scan : Scan) (tally : Tally)
    → Walked capture (codes_in head.codes) out scan tally after → (inside missing : Bool) (answer : Answer)
    → inside ≡ is_whole scan.phase && (not head.twice && not scan.strange) → missing ≡ lacks_code 11 (codes_in head.codes)
    → answer ≡ judged inside missing tally.unknown → answer ≡ judgement_of capture
judged_is capture head defs out after scan tally walked inside missing answer i m a =
    a ∙ ap (λ (b : Bool). judged b missing tally.unknown) (inside_is capture head defs out after scan tally walked inside i)
    ∙ ap (λ (b : Bool). judged (in_subset capture) b tally.unknown) (missing_is capture head defs missing m)
    ∙ ap (judged (in_subset capture) (is_missing capture)) (unknown_is capture head defs out after scan tally walked)

-- what is told of the judgement
pub verdict_done : {told : Unit} (answer : Answer) → Ok told ≡ verdict_of answer → is_done answer ≡ true
verdict_done answer is =
    either (is_done answer) (λ done. done) (λ not_done. let told = simp not_done at is in let no : ◌≡◌ {A = ℕ} 0 1 = cc in absurd (omega arith))

pub verdict_refused : {refusal : Answer} (answer : Answer) → Err refusal ≡ verdict_of answer → (is_done answer ≡ false) × (refusal ≡ answer)
verdict_refused answer is =
    either (is_done answer) (λ done. let told = simp done at is in let no : ◌≡◌ {A = ℕ} 0 1 = cc in absurd (omega arith))
    (λ not_done. let told = simp not_done at is in (not_done, cc))

-- a writing is met by what it tells and by the buffer
pub met : (w : Writing) (before after : List ℕ) (returned : Result ℕ Answer) → returned ≡ written_of w → after ≡ onto w.text before
    → Writes w before returned after
met w before after returned told buffer =
    record { told = told; number = ap number_of (ap answer_in told ∙ answer_told w); buffer = buffer }

module _ (capture out : List ℕ) (answer : Answer) (is : answer ≡ judgement_of capture) where
  pub refused : is_done answer ≡ false → Writes (importing capture out) out (Err answer) out
  unfolding importing
  refused not_done =
      let test : is_done (judgement_of capture) ≡ false = sym (ap is_done is) ∙ not_done in
      let comes : importing capture out ≡ refusing answer =
      ap (λ (b : Bool). cond b (wanting (length (session_text capture)) (session_text capture) out) (refusing (judgement_of capture))) test
      ∙ ap refusing (sym is) in
      rw comes (met (refusing answer) out out (Err answer) (simp not_done) refl)

  pub too_short_lem : is_done answer ≡ true → length out < length (session_text capture) → Writes (importing capture out) out (Err OutputShort) out
  unfolding importing wanting
  too_short_lem done short =
      let test : is_done (judgement_of capture) ≡ true = sym (ap is_done is) ∙ done in
      let comes : importing capture out ≡ refusing OutputShort = simp (test, lt-ltb (length out) (length (session_text capture)) short) in
      rw comes (met (refusing OutputShort) out out (Err OutputShort) refl refl)

  pub imported : (size : ℕ) (after : List ℕ) → is_done answer ≡ true → length (session_text capture) ≤ length out
      → size ≡ length (session_text capture) → after ≡ onto (session_text capture) out → Writes (importing capture out) out (Ok size) after
  unfolding importing wanting
  imported size after done fits same wrote =
      let test : is_done (judgement_of capture) ≡ true = sym (ap is_done is) ∙ done in
      let comes : importing capture out ≡ writing (session_text capture) = simp (test, le-ltb (length out) (length (session_text capture)) fits) in
      rw comes (met (writing (session_text capture)) out after (Ok size) (ap Ok same) wrote)
