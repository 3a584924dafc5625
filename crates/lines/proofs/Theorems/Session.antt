-- A session's text is read as the transfers of its lines, and is no session exactly where it does not end well.
-- Assumes nothing.
use mathlib.Core.Bool.{true, false, not, false≢true}
use mathlib.Core.List.{List, [], ◌∷◌, ◌++◌, append_assoc, append-nil}
use mathlib.Core.Logic.{⊎_elim}
use mathlib.Core.Path.{◌≡◌, refl, sym, ap, subst, ◌∙◌}
use Prim.Native.Nat.{ℕ, zero, suc, ◌<◌, ◌≤◌}
use native.Mathlib.Omega.{arith}
use lib.ListN.{length, drop, length-append, length-drop}
use lib.Seq.{drop-append_seam}
use borrow.Author.Tests.{eqb-true, ne_eqb, not-true, not-false}
use Rattle.controller.specs.declared.answers.Answer.TheVariants.{Done}
use Rattle.controller.specs.declared.answers.Answer.{Answer}
use Rattle.controller.specs.Answers.{is_done, number_of}
use Rattle.controller.specs.declared.sent.Sent.{Sent}
use Rattle.controller.proofs.Laws.Answers.{applies_later, done_is, given_alike, none_applies, tells_as}
use Rattle.controller.proofs.Laws.Tests.{Tests}
use Rattle.lines.specs.Line.{line, lines_of}
use Rattle.lines.specs.Reading.{Reading, sent_of, line_of}
use Rattle.lines.specs.Session.{Session, following, session_of}
use Rattle.lines.specs.Theorems.{AllSayable, Sayable, Starts, line_read, SessionReadsBack, NoSession}
use Rattle.lines.specs.Faults.{KindStands, ByteStands, WaitStands, fault_rows, IsFault, BadLineIn, SessionAnswers}
use Rattle.lines.proofs.Laws.Digits.{either}
use Rattle.lines.proofs.Laws.Lengths.{line_length_lem}
use Rattle.lines.proofs.Laws.Session.{line_long, session_none, session_more, session_bad}
use Rattle.lines.proofs.Laws.Parts.{line_wait, wait_byte, byte_kind}
use Rattle.lines.proofs.Theorems.One.{one_reading}
use Rattle.lines.proofs.Theorems.Read.{fault_not_done, read_or_refused, refused_rows}
use Rattle.lines.proofs.Theorems.Written.{written_reads_back}

-- done is the answer that ends a text well
pub is_done_lem : is_done Done ≡ true
is_done_lem = refl

pub session_reads_back : SessionReadsBack
unfolding lines_of AllSayable
session_reads_back [] more can = refl
session_reads_back (t ∷ ts) more can =
    let own = line t.kind t.byte t.wait in
    let rest = lines_of ts ++ more in
    let read = written_reads_back t.kind t.byte t.wait rest can.0 in
    let some : 0 < length (own ++ rest) = omega (arith, length-append own rest, line_length_lem t.kind t.byte t.wait) in
    ap session_of (append_assoc own (lines_of ts) more)
    ∙ session_more (own ++ rest) some (ap (λ (l : Reading). is_done l.answer) read ∙ is_done_lem)
    ∙ ap (λ (l : Reading). following (sent_of l) (session_of (drop l.length (own ++ rest)))) read
    ∙ ap (λ (l : List ℕ). following t (session_of l)) (drop-append_seam own rest)
    ∙ ap (following t) (session_reads_back ts more can.1)

-- the lines of transfers are those transfers, and end well
pub lines_read : (ts : List Sent) → AllSayable ts → session_of (lines_of ts) ≡ record { sent = ts; end = Done }
lines_read ts can =
    ap session_of (sym (append-nil (lines_of ts)))
    ∙ session_reads_back ts [] can
    ∙ ap (λ (s : Session). record { sent = ts ++ s.sent; end = s.end }) session_none
    ∙ ap (λ (l : List Sent). record { sent = l; end = Done }) (append-nil ts)

-- a line that stands, and what is after it
line_and_rest : (text : List ℕ) → is_done (line_of text).answer ≡ true
    → Sayable (line_of text).kind (line_of text).byte (line_of text).wait
    × (text ≡ line (line_of text).kind (line_of text).byte (line_of text).wait ++ drop (line_of text).length text)
line_and_rest text done =
    ⊎_elim
    (λ good.
    let s = good.0 in
    let own = line s.kind s.byte s.wait in
    let read : line_of text ≡ line_read s.kind s.byte s.wait =
    ap line_of s.stands ∙ written_reads_back s.kind s.byte s.wait s.more s.sayable in
    let rest : drop (length own) text ≡ s.more = ap (drop (length own)) s.stands ∙ drop-append_seam own s.more in
    rw (read, rest) (s.sayable, s.stands))
    (λ bad. absurd (fault_not_done (line_of text).answer bad.1.fault (done_is (line_of text).answer done)))
    (read_or_refused text)

-- a text that ends well is the lines of its transfers
lines_of_session : (k : ℕ) (text : List ℕ) → length text ≤ k → is_done (session_of text).end ≡ true
    → AllSayable (session_of text).sent × (text ≡ lines_of (session_of text).sent)
unfolding lines_of AllSayable
lines_of_session zero [] enough done = rw session_none (tt, refl)
lines_of_session zero (byte ∷ rest) enough done = absurd (omega arith)
lines_of_session (suc k) [] enough done = rw session_none (tt, refl)
lines_of_session (suc k) (byte ∷ rest) enough done =
    let text = byte ∷ rest in
    let some : 0 < length text = omega arith in
    either (is_done (line_of text).answer)
    (λ good.
    let more = session_more text some good in
    let long = (line_long text good).0 in
    let after = drop (line_of text).length text in
    let own = line_and_rest text good in
    let later = lines_of_session k after (omega (arith, length-drop (line_of text).length text))
    (ap (λ (s : Session). is_done s.end) (sym more) ∙ done) in
    rw more (
      (own.0, later.0),
      own.1 ∙ ap (λ (l : List ℕ). line (line_of text).kind (line_of text).byte (line_of text).wait ++ l) later.1,
    ))
    (λ bad. absurd (false≢true (sym bad ∙ sym (ap (λ (s : Session). is_done s.end) (session_bad text some bad)) ∙ done)))

-- the lines of transfers end well
session_of_lines : (text : List ℕ) (ts : List Sent) → AllSayable ts → text ≡ lines_of ts → is_done (session_of text).end ≡ true
session_of_lines text ts can is =
    let read = session_reads_back ts [] can ∙ ap (λ (s : Session). record { sent = ts ++ s.sent; end = s.end }) session_none in
    ap (λ (s : Session). is_done s.end) (ap session_of (is ∙ sym (append-nil (lines_of ts))) ∙ read)

-- a text is a session exactly where it ends well
pub no_session : (text : List ℕ) → Tests (not (is_done (session_of text).end)) (NoSession text)
no_session text =
    let done = is_done (session_of text).end in
    record {
      yes = λ e ts can is. false≢true (sym (not-true done e) ∙ session_of_lines text ts can is);
      no = λ e none.
          let own = lines_of_session (length text) text (omega arith) (not-false done e) in
          none (session_of text).sent own.0 own.1;
    }

-- what no line starts is refused
pub refuses : (text : List ℕ) → (Starts text → ⊥) → IsFault (line_of text).answer
refuses text none = ⊎_elim (λ good. absurd (none good.0)) (λ bad. bad.1.fault) (read_or_refused text)

pub fault_not_good : (answer : Answer) → IsFault answer → is_done answer ≡ false
fault_not_good answer fault = ne_eqb (number_of answer) 0 (λ e. let least = fault.least in omega arith)

-- transfers' lines, and then a text that no line starts: it ends the session
pub bad_ends : (ts : List Sent) (more : List ℕ) → AllSayable ts → 0 < length more → (Starts more → ⊥)
    → session_of (lines_of ts ++ more) ≡ record { sent = ts; end = (line_of more).answer }
bad_ends ts more can some none =
    session_reads_back ts more can
    ∙ ap (λ (s : Session). record { sent = ts ++ s.sent; end = s.end }) (session_bad more some (fault_not_good (line_of more).answer (refuses more none)))
    ∙ ap (λ (l : List Sent). record { sent = l; end = (line_of more).answer }) (append-nil ts)

-- a text that is the line of a transfer and something after it
starts_with : (t : Sent) (rest text : List ℕ) → Sayable t.kind t.byte t.wait → text ≡ line t.kind t.byte t.wait ++ rest → Starts text
starts_with t rest text can is = record { kind = t.kind; byte = t.byte; wait = t.wait; more = rest; sayable = can; stands = is }

-- a text's lines, and what is no line after them, stand in it once
one_split : (ts us : List Sent) (more rest : List ℕ) → AllSayable ts → AllSayable us → lines_of ts ++ more ≡ lines_of us ++ rest
    → (Starts more → ⊥) → (Starts rest → ⊥) → more ≡ rest
unfolding lines_of AllSayable
one_split [] [] more rest can can' same none none' = same
one_split [] (u ∷ us) more rest can can' same none none' =
    absurd (none (starts_with u (lines_of us ++ rest) more can'.0 (same ∙ append_assoc (line u.kind u.byte u.wait) (lines_of us) rest)))
one_split (t ∷ ts) [] more rest can can' same none none' =
    absurd (none' (starts_with t (lines_of ts ++ more) rest can.0 (sym same ∙ append_assoc (line t.kind t.byte t.wait) (lines_of ts) more)))
one_split (t ∷ ts) (u ∷ us) more rest can can' same none none' =
    let own = line t.kind t.byte t.wait in
    let other = line u.kind u.byte u.wait in
    let later = one_reading t.kind t.byte t.wait u.kind u.byte u.wait (lines_of ts ++ more) (lines_of us ++ rest) can.0 can'.0
    (sym (append_assoc own (lines_of ts) more) ∙ same ∙ append_assoc other (lines_of us) rest) in
    one_split ts us more rest can.1 can'.1 later.3 none none'

-- a text either ends well, or it has a bad line
bad_cases : {A : Type 0} (k : ℕ) (text : List ℕ) → length text ≤ k → (is_done (session_of text).end ≡ true → A) → (BadLineIn Starts text → A) → A
unfolding lines_of AllSayable
bad_cases zero [] enough well bad = well (ap (λ (s : Session). is_done s.end) session_none)
bad_cases (suc k) [] enough well bad = well (ap (λ (s : Session). is_done s.end) session_none)
bad_cases zero (byte ∷ rest) enough well bad = absurd (omega arith)
bad_cases (suc k) (byte ∷ rest) enough well bad =
    let text = byte ∷ rest in
    let some : 0 < length text = omega arith in
    either (is_done (line_of text).answer)
    (λ good.
    let long = (line_long text good).0 in
    let own = line_and_rest text good in
    bad_cases k (drop (line_of text).length text) (omega (arith, length-drop (line_of text).length text))
    (λ ends. well (ap (λ (s : Session). is_done s.end) (session_more text some good) ∙ ends))
    (λ b. bad (record {
      sent = sent_of (line_of text) ∷ b.sent;
      more = b.more;
      sayable = (own.0, b.sayable);
      parts = own.1
          ∙ ap (λ (l : List ℕ). line (line_of text).kind (line_of text).byte (line_of text).wait ++ l) b.parts
          ∙ sym (append_assoc (line (line_of text).kind (line_of text).byte (line_of text).wait) (lines_of b.sent) b.more);
      some = b.some;
      lacks = b.lacks;
    })))
    (λ refused. bad (record {
      sent = [];
      more = text;
      sayable = tt;
      parts = refl;
      some = some;
      lacks = λ s. ⊎_elim (λ good. false≢true (sym refused ∙ ap is_done good.1)) (λ none. none.0 s) (read_or_refused text);
    }))

-- a part that every line has
abbrev InLines : (List ℕ → Type 0) → Type 0
InLines Stands = (text : List ℕ) → Starts text → Stands text

kind_in : InLines KindStands
kind_in text s = byte_kind text (wait_byte text (line_wait text s))

byte_in : InLines ByteStands
byte_in text s = wait_byte text (line_wait text s)

line_in : InLines Starts
line_in text s = s

-- where a text ends well no such part is lacking
none_lacks : (Stands : List ℕ → Type 0) (text : List ℕ) → InLines Stands → is_done (session_of text).end ≡ true → BadLineIn Stands text → ⊥
none_lacks Stands text in_lines well b =
    let ends = ap session_of b.parts ∙ bad_ends b.sent b.more b.sayable b.some (λ s. b.lacks (in_lines b.more s)) in
    let bad = fault_not_good (line_of b.more).answer (refuses b.more (λ s. b.lacks (in_lines b.more s))) in
    false≢true (sym bad ∙ sym (ap (λ (s : Session). is_done s.end) ends) ∙ well)

-- in a bad line a part is lacking exactly where it does not stand there
module _ (text : List ℕ) (b : BadLineIn Starts text) (Stands : List ℕ → Type 0) where
  lacks_to : (Stands b.more → ⊥) → BadLineIn Stands text
  lacks_to none = record { sent = b.sent; more = b.more; sayable = b.sayable; parts = b.parts; some = b.some; lacks = none }

  lacks_from : InLines Stands → BadLineIn Stands text → Stands b.more → ⊥
  lacks_from in_lines other s =
      let same = one_split b.sent other.sent b.more other.more b.sayable other.sayable (sym b.parts ∙ other.parts) b.lacks
      (λ o. other.lacks (in_lines other.more o)) in
      other.lacks (subst Stands same s)

-- a session that does not end well ends with one of the four
pub session_faults : (text : List ℕ) → is_done (session_of text).end ≡ false → IsFault (session_of text).end
session_faults text bad =
    bad_cases (length text) text (omega arith) (λ well. absurd (false≢true (sym bad ∙ well)))
    (λ b.
    let ends = ap session_of b.parts ∙ bad_ends b.sent b.more b.sayable b.some b.lacks in
    rw ends (refuses b.more b.lacks))

pub session_answers : SessionAnswers
unfolding fault_rows
session_answers text =
    bad_cases (length text) text (omega arith)
    (λ well.
    tells_as _ 0 _ (eqb-true (number_of (session_of text).end) 0 well)
    (applies_later _ _ _ (none_lacks KindStands text kind_in well)
    (applies_later _ _ _ (none_lacks ByteStands text byte_in well)
    (applies_later _ _ _ (none_lacks WaitStands text line_wait well)
    (applies_later _ _ _ (none_lacks Starts text line_in well) none_applies)))))
    (λ b.
    let ends = ap session_of b.parts ∙ bad_ends b.sent b.more b.sayable b.some b.lacks in
    tells_as _ _ _ (ap (λ (s : Session). number_of s.end) ends) (λ n. (
      λ e. given_alike n _ _ _ _ refl (lacks_to text b KindStands) (lacks_from text b KindStands kind_in)
          (given_alike n _ _ _ _ refl (lacks_to text b ByteStands) (lacks_from text b ByteStands byte_in)
          (given_alike n _ _ _ _ refl (lacks_to text b WaitStands) (lacks_from text b WaitStands line_wait)
          (given_alike n _ _ _ _ refl (lacks_to text b Starts) (lacks_from text b Starts line_in) (λ g. g))))
          ((refused_rows b.more [] b.lacks n).0 e),
      λ g. (refused_rows b.more [] b.lacks n).1
          (given_alike n _ _ _ _ refl (lacks_from text b KindStands kind_in) (lacks_to text b KindStands)
          (given_alike n _ _ _ _ refl (lacks_from text b ByteStands byte_in) (lacks_to text b ByteStands)
          (given_alike n _ _ _ _ refl (lacks_from text b WaitStands line_wait) (lacks_to text b WaitStands)
          (given_alike n _ _ _ _ refl (lacks_from text b Starts line_in) (lacks_to text b Starts) (λ g. g)))) g),
    )))
