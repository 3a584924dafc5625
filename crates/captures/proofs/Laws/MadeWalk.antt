-- Laws of the walk that makes a capture: a pulse put piece by piece, one line more, and what the whole comes to.
-- Assumes nothing.
use Rattle.std.proofs.Common.{◌≡◌, ℕ, ◌+◌, ◌%◌, ◌<◌, ◌≤◌, Bool, true, false, ltb, Result, Ok, Err, List, [], ◌∷◌, ◌++◌, length, take, drop, replicate, sym, refl, ap, ◌∙◌, inl, inr, ⊎_elim, arith, length-append, ltb-false, le-ltb, lt-ltb}
use Prim.Native.Char.{code}
use lib.Seq.{sets, length-sets}
use Rattle.controller.specs.declared.answers.Answer.{Answer}
use Rattle.controller.specs.declared.answers.Answer.TheVariants.{Done, OutputShort}
use Rattle.controller.specs.declared.sent.Sent.{Sent}
use Rattle.controller.specs.Answers.{is_done}
use Rattle.lines.specs.declared.reader.Line.{Line}
use Rattle.lines.specs.Digits.{newline, digit, decimal}
use Rattle.lines.specs.Reading.{line_of, told_of}
use Rattle.lines.specs.Session.{Session, following, session_of}
use Rattle.lines.specs.Text.{Put, put, putting}
use Rattle.lines.specs.Writing.{Writes, onto, refusing, wanting, writing}
use mathlib.Core.Bool.{true≢false}
use Rattle.lines.proofs.Laws.Buffer.{sets_append, sets_next, sets_onto, put_next, put_whole, first_written}
use Rattle.lines.proofs.Laws.Digits.{decimal_length}
use Rattle.lines.proofs.Laws.Session.{line_long, session_none, session_more, session_bad}
use Rattle.lines.proofs.Laws.Told.{told_fault, told_line}
use Rattle.lines.specs.declared.reader.BadLine.{BadLine}
use Rattle.captures.specs.Made.{made_header, made_stamp, made_change, made_lines, made_pulse, made_pulses}
use Rattle.captures.specs.Made.{capture_of, capture_text, capturing}
use Rattle.captures.specs.MadeWalk.{pulse_size, Making, making, adding, adding_pulses, begun, Captured}
use Rattle.captures.specs.Walk.{longer}
use Rattle.captures.proofs.Laws.Import.{Measured, met}

-- a change, byte by byte
pub change_put : (p : Put) {q r s : Put} (value code : ℕ) {bit : ℕ} → bit ≡ digit (value % 2) → q ≡ putting p (bit ∷ [])
    → r ≡ putting q (code ∷ []) → s ≡ putting r (newline ∷ []) → s ≡ putting p (made_change value code)
unfolding made_change
change_put p {q} value code is first second third =
    put_next p (digit (value % 2) ∷ []) (code ∷ newline ∷ []) (first ∙ ap (λ (n : ℕ). putting p (n ∷ [])) is)
    (put_next q (code ∷ []) (newline ∷ []) second third)

-- a stamp of 32 bits: its sign, its number, its end
pub stamp_put : (p : Put) {q r s : Put} (stamp : ℕ) → stamp < 4294967296 → q ≡ putting p (code "#" ∷ [])
    → r ≡ putting q (decimal stamp) → s ≡ putting r (newline ∷ []) → s ≡ putting p (made_stamp stamp)
unfolding made_stamp
stamp_put p {q} {r} {s} stamp small first second third =
    let same : stamp % 4294967296 ≡ stamp = omega arith in
    rw same
    (put_next p (code "#" ∷ []) (decimal stamp ++ (newline ∷ [])) first (put_next q (decimal stamp) (newline ∷ []) second third))

-- a stamp is made from its 32 bits
stamp_wraps : (a b : ℕ) → a % 4294967296 ≡ b % 4294967296 → made_stamp a ≡ made_stamp b
unfolding made_stamp
stamp_wraps a b same = ap (λ (n : ℕ). code "#" ∷ (decimal n ++ (newline ∷ []))) same

-- and so is a pulse
pulse_wraps : (a b : ℕ) (t : Sent) → a % 4294967296 ≡ b % 4294967296 → made_pulse a t ≡ made_pulse b t
unfolding made_pulse
pulse_wraps a b t same =
    let rises = stamp_wraps (a + 4294967295) (b + 4294967295) (omega arith) in
    let falls = stamp_wraps a b same in
    let rest : List ℕ → List ℕ = λ l. made_lines t ++ (made_change 1 (code "c") ++ (l ++ made_change 0 (code "c"))) in
    ap (λ (l : List ℕ). l ++ rest (made_stamp a)) rises ∙ ap (λ (l : List ℕ). made_stamp (b + 4294967295) ++ rest l) falls

-- a stamp has at most twelve bytes
stamp_length : (stamp : ℕ) → length (made_stamp stamp) ≤ 12
unfolding made_stamp
stamp_length stamp =
    let digits = decimal_length 9 (stamp % 4294967296) (omega arith) in
    omega (arith, length-append (decimal (stamp % 4294967296)) (newline ∷ []))

-- a pulse at most sixty
pub pulse_length : (stamp : ℕ) (t : Sent) → length (made_pulse stamp t) ≤ pulse_size
unfolding made_pulse made_lines made_change
pulse_length stamp t =
    let falls = made_stamp stamp ++ made_change 0 (code "c") in
    omega (
      arith,
      length-append (made_stamp (stamp + 4294967295)) (made_lines t ++ (made_change 1 (code "c") ++ falls)),
      length-append (made_stamp stamp) (made_change 0 (code "c")),
      stamp_length stamp,
      stamp_length (stamp + 4294967295),
    )

-- a pulse put into a buffer of that size: its length, and its bytes at the start
pub record PulsePut (stamp : ℕ) (t : Sent) (size : ℕ) (after : List ℕ) : Type 0 where
  pub long : size ≡ length (made_pulse stamp t)
  pub fits : size ≤ pulse_size
  pub bytes : take size after ≡ made_pulse stamp t

-- the pieces of a pulse, one after the other
pub pulse_put : (stamp rise : ℕ) (t : Sent) {q₁ q₂ q₃ q₄ : Put} {size : ℕ} {after : List ℕ} → rise < 4294967296
    → stamp < 4294967296 → (rise + 1) % 4294967296 ≡ stamp
    → q₁ ≡ putting (put 0 (replicate 60 0)) (made_stamp rise) → q₂ ≡ putting q₁ (made_lines t)
    → q₃ ≡ putting q₂ (made_change 1 (code "c")) → q₄ ≡ putting q₃ (made_stamp stamp)
    → put size after ≡ putting q₄ (made_change 0 (code "c")) → PulsePut stamp t size after
unfolding made_pulse
pulse_put stamp rise t {q₁} {q₂} {q₃} {size = size} {after = after} small also before first second third fourth fifth =
    let p = put 0 (replicate 60 0) in
    let up = made_change 1 (code "c") in
    let down = made_change 0 (code "c") in
    let rises : made_stamp rise ≡ made_stamp (stamp + 4294967295) = stamp_wraps rise (stamp + 4294967295) (omega arith) in
    let whole : put size after ≡ putting p (made_pulse stamp t) =
    put_next p (made_stamp (stamp + 4294967295)) (made_lines t ++ (up ++ (made_stamp stamp ++ down))) (first ∙ ap (putting p) rises)
    (put_next q₁ (made_lines t) (up ++ (made_stamp stamp ++ down)) second
    (put_next q₂ up (made_stamp stamp ++ down) third (put_next q₃ (made_stamp stamp) down fourth fifth))) in
    let room = pulse_length stamp t in
    let is = whole ∙ put_whole 0 (replicate 60 0) (made_pulse stamp t) (omega arith) in
    let long : size ≡ length (made_pulse stamp t) = ap (λ (x : Put). x.at) is ∙ omega arith in
    record {
      long = long;
      fits = omega arith;
      bytes =
          ap (λ (n : ℕ). take n after) long
          ∙ ap (λ (x : Put). take (length (made_pulse stamp t)) x.out) is
          ∙ first_written (made_pulse stamp t) (replicate 60 0) (omega arith);
    }

-- what is added depends on the 32 bits of the stamp before
adding_wraps : (m : Making) (a b : ℕ) (ts : List Sent) → a % 4294967296 ≡ b % 4294967296
    → adding_pulses m a ts ≡ adding_pulses m b ts
unfolding adding_pulses
adding_wraps m a b [] same = refl
adding_wraps m a b (t ∷ later) same =
    let next : (a + t.wait) % 4294967296 ≡ (b + t.wait) % 4294967296 = omega arith in
    ap (λ (l : List ℕ). adding_pulses (adding m l) (a + t.wait) later) (pulse_wraps (a + t.wait) (b + t.wait) t next)
    ∙ adding_wraps (adding m (made_pulse (b + t.wait) t)) (a + t.wait) (b + t.wait) later next

-- what is left of a session's text comes to the whole, which ends so and is made so
pub record Left (session : List ℕ) (whole : Making) (rest : List ℕ) (stamp : ℕ) (m : Making) : Type 0 where
  pub ends : (session_of rest).end ≡ (session_of session).end
  pub made : adding_pulses m stamp (session_of rest).sent ≡ whole

-- at the end of the text
pub text_over : {session : List ℕ} {whole : Making} {rest : List ℕ} {stamp : ℕ} {m : Making} → Left session whole rest stamp m
    → length rest ≡ 0 → ((session_of session).end ≡ Done) × (m ≡ whole)
unfolding adding_pulses
text_over {rest = []} {stamp = stamp} {m = m} left over =
    (sym left.ends ∙ ap (λ (s : Session). s.end) session_none, sym (ap (λ (s : Session). adding_pulses m stamp s.sent) session_none) ∙ left.made)
text_over {rest = byte ∷ rest} left over = absurd (omega arith)

module _ (session : List ℕ) (whole : Making) (rest : List ℕ) (stamp : ℕ) (m : Making) (left : Left session whole rest stamp m) (some : 0 < length rest) where
  -- a bad line ends the session
  pub line_stops : {bad : BadLine} → Err bad ≡ told_of (line_of rest) → ((session_of session).end ≡ bad.answer) × (is_done bad.answer ≡ false)
  line_stops read =
      let told = told_fault (line_of rest) read in
      (sym left.ends ∙ ap (λ (s : Session). s.end) (session_bad rest some told.0) ∙ told.1, ap is_done (sym told.1) ∙ told.0)

  -- one that stands adds its pulse
  pub line_goes : {line : Line} → Ok line ≡ told_of (line_of rest) → {next size more : ℕ} {after : List ℕ} → next ≡ (stamp + line.sent.wait) % 4294967296
      → more ≡ length (made_pulse next line.sent) → after ≡ (putting (put m.size m.out) (made_pulse next line.sent)).out
      → size ≡ longer m.size more → Left session whole (drop line.length rest) next (making size after)
  unfolding adding adding_pulses
  line_goes {line} read {next} {size} {more} {after} stamps long puts counts =
      let t = line.sent in
      let later = session_of (drop line.length rest) in
      let told = told_line (line_of rest) read in
      let goes : session_of rest ≡ following t later =
      session_more rest some told.0 ∙ ap (λ (s : Sent). following s (session_of (drop (line_of rest).length rest))) told.1
      ∙ ap (λ (n : ℕ). following t (session_of (drop n rest))) told.2 in
      let same : next % 4294967296 ≡ (stamp + t.wait) % 4294967296 = omega (arith, stamps) in
      let one : making size after ≡ adding m (made_pulse (stamp + t.wait) t) =
      ap (λ (n : ℕ). making n after) (counts ∙ ap (longer m.size) long)
      ∙ ap (making (longer m.size (length (made_pulse next t)))) puts
      ∙ ap (adding m) (pulse_wraps next (stamp + t.wait) t same) in
      record {
        ends = sym (ap (λ (s : Session). s.end) goes) ∙ left.ends;
        made =
            ap (λ (x : Making). adding_pulses x next later.sent) one
            ∙ adding_wraps (adding m (made_pulse (stamp + t.wait) t)) next (stamp + t.wait) later.sent same
            ∙ sym (ap (λ (s : Session). adding_pulses m stamp s.sent) goes)
            ∙ left.made;
      }

  -- and lies in the text
  pub line_within : {line : Line} → Ok line ≡ told_of (line_of rest) → (0 < line.length) × (line.length ≤ length rest)
  line_within read =
      let told = told_line (line_of rest) read in
      let long = line_long rest told.0 in
      (omega (arith, long.0, told.2), omega (arith, long.1, told.2))

-- a walk that began behind the definitions, and ended
pub captured : (session out : List ℕ) {size₀ size : ℕ} {out₀ after : List ℕ} → size₀ ≡ length made_header
    → out₀ ≡ (putting (put 0 out) made_header).out
    → making size after ≡ adding_pulses (making size₀ out₀) 1 (session_of session).sent
    → making size after ≡ adding_pulses (begun out) 1 (session_of session).sent
captured session out {size₀ = size₀} long head made =
    made
    ∙ ap (λ (l : List ℕ). adding_pulses (making size₀ l) 1 (session_of session).sent) head
    ∙ ap (λ (n : ℕ). adding_pulses (making n (putting (put 0 out) made_header).out) 1 (session_of session).sent) long

-- a length counted on by a text: the true one, or both past what any buffer has
measured_by : (at more rest n : ℕ) (small : Bool) → ltb at 9223372036854775808 ≡ small → Measured n (longer at more + rest)
    → Measured n (at + (more + rest))
unfolding longer
measured_by at more rest n true is m =
    let next : longer at more ≡ at + more = simp is in
    ⊎_elim (λ same. inl (omega (arith, same, next))) (λ big. inr (big.0, omega (arith, big.1, next))) m
measured_by at more rest n false is m =
    let next : longer at more ≡ at = simp is in
    let large = ltb-false at 9223372036854775808 is in
    ⊎_elim (λ same. inr (omega (arith, same, next, large), omega (arith, large))) (λ big. inr (big.0, omega (arith, large))) m

-- the length of all pulses
pub measured : (m : Making) (before : ℕ) (ts : List Sent)
    → Measured (adding_pulses m before ts).size (m.size + length (made_pulses before ts))
unfolding adding_pulses made_pulses adding
measured m before [] = inl (omega arith)
measured m before (t ∷ later) =
    let stamp = before + t.wait in
    let pulse = made_pulse stamp t in
    rw (length-append pulse (made_pulses stamp later))
    (measured_by m.size (length pulse) (length (made_pulses stamp later)) (adding_pulses (adding m pulse) stamp later).size _
    refl (measured (adding m pulse) stamp later))

-- where everything fits, the buffer has the pulses one after the other
pub pulses_put : (m : Making) (before : ℕ) (ts : List Sent) → m.size + length (made_pulses before ts) ≤ length m.out
    → length m.out < 9223372036854775808 → (adding_pulses m before ts).out ≡ sets m.out m.size (made_pulses before ts)
unfolding adding_pulses made_pulses adding longer
pulses_put m before [] fits small = refl
pulses_put m before (t ∷ later) fits small =
    let stamp = before + t.wait in
    let pulse = made_pulse stamp t in
    let rest = made_pulses stamp later in
    let long = length-append pulse rest in
    let one : (adding m pulse).out ≡ sets m.out m.size pulse =
    ap (λ (p : Put). p.out) (put_whole m.size m.out pulse (omega (arith, long))) in
    let next : (adding m pulse).size ≡ m.size + length pulse =
    simp (lt-ltb m.size 9223372036854775808 (omega (arith, long))) in
    let same_size : length (adding m pulse).out ≡ length m.out = ap length one ∙ length-sets m.out m.size pulse in
    pulses_put (adding m pulse) stamp later (omega (arith, long, next, same_size)) (omega (arith, same_size))
    ∙ ap (λ (l : List ℕ). sets l (adding m pulse).size rest) one
    ∙ ap (λ (n : ℕ). sets (sets m.out m.size pulse) n rest) next
    ∙ sets_append m.out m.size pulse rest

-- from here on: a session's text, and what a walk over it came to
module _ (session out : List ℕ) {size : ℕ} {after : List ℕ}
    (made : making size after ≡ adding_pulses (begun out) 1 (session_of session).sent) where
  pub size_is : Measured size (length (capture_text session))
  unfolding capture_text capture_of
  size_is =
      let pulses = made_pulses 1 (session_of session).sent in
      let counted : size ≡ (adding_pulses (begun out) 1 (session_of session).sent).size =
      ap (λ (m : Making). m.size) made in
      let long : length (made_header ++ pulses) ≡ length made_header + length pulses = length-append made_header pulses in
      ⊎_elim (λ same. inl (omega (arith, counted, long, same)))
      (λ big. inr (omega (arith, counted, big.0), omega (arith, long, big.1)))
      (measured (begun out) 1 (session_of session).sent)

  pub out_is : length (capture_text session) ≤ length out → length out < 9223372036854775808
      → after ≡ onto (capture_text session) out
  unfolding capture_text capture_of
  out_is fits small =
      let pulses = made_pulses 1 (session_of session).sent in
      let long : length (made_header ++ pulses) ≡ length made_header + length pulses = length-append made_header pulses in
      let head : (putting (put 0 out) made_header).out ≡ sets out 0 made_header =
      ap (λ (p : Put). p.out) (put_whole 0 out made_header (omega (arith, long))) in
      let same_size : length (putting (put 0 out) made_header).out ≡ length out = ap length head ∙ length-sets out 0 made_header in
      ap (λ (m : Making). m.out) made
      ∙ pulses_put (begun out) 1 (session_of session).sent (omega (arith, long, same_size)) (omega (arith, same_size))
      ∙ sets_next out 0 made_header pulses head (omega arith)
      ∙ sets_onto (made_header ++ pulses) out fits

module _ (session out : List ℕ) where
  -- a bad line
  pub refused : {answer : Answer} → (session_of session).end ≡ answer → is_done answer ≡ false → Writes (capturing session out) out (Err answer) out
  unfolding capturing
  refused {answer} is bad =
      let test : is_done (session_of session).end ≡ false = ap is_done is ∙ bad in
      let comes : capturing session out ≡ refusing answer = simp test (ap refusing is) in
      rw comes (met (refusing answer) out out (Err answer) (simp bad) refl)

  -- a buffer too short
  pub too_short_lem : (session_of session).end ≡ Done → length out < length (capture_text session) → Writes (capturing session out) out (Err OutputShort) out
  unfolding capturing wanting
  too_short_lem done short =
      let comes : capturing session out ≡ refusing OutputShort =
      simp (done, lt-ltb (length out) (length (capture_text session)) short) in
      rw comes (met (refusing OutputShort) out out (Err OutputShort) refl refl)

  -- the capture, written
  written_whole : {size : ℕ} {after : List ℕ} → (session_of session).end ≡ Done → length (capture_text session) ≤ length out
      → size ≡ length (capture_text session) → after ≡ onto (capture_text session) out → Writes (capturing session out) out (Ok size) after
  unfolding capturing wanting
  written_whole {size} {after} done fits long wrote =
      let comes : capturing session out ≡ writing (capture_text session) =
      simp (done, le-ltb (length out) (length (capture_text session)) fits) in
      rw comes (met (writing (capture_text session)) out after (Ok size) (ap Ok long) wrote)

  -- where it fits, the second walk writes it, since the first one came to the end
  pub written : {result : Result ℕ Answer} {after : List ℕ} → Captured session out result after → (session_of session).end ≡ Done
      → length (capture_text session) ≤ length out → length out < 9223372036854775808 → Writes (capturing session out) out result after
  written {result = Ok size} {after = after} made done fits small =
      written_whole done fits
      (⊎_elim (λ same. same) (λ big. absurd (omega (arith, big.1, small, fits))) (size_is session out {size = size} {after = after} made.1))
      (out_is session out {size = size} {after = after} made.1 fits small)
  written {result = Err answer} made done fits small = absurd (true≢false (ap is_done (sym done ∙ made.0) ∙ made.1))
