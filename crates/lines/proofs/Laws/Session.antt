-- Laws of a session's text: line by line, up to its end, a bad line or so many lines.
-- Assumes nothing.
use mathlib.Core.Bool.{true, false}
use mathlib.Core.List.{List, [], ◌∷◌}
use mathlib.Core.Path.{◌≡◌, refl, ap}
use Prim.Native.Nat.{ℕ, zero, suc, ◌+◌, ◌-◌, ◌<◌, ◌≤◌}
use native.Mathlib.Omega.{arith}
use lib.ListN.{length, take, drop, length-drop}
use lib.Seq.{take_all}
use Rattle.controller.specs.declared.answers.Answer.TheVariants.{Done}
use Rattle.controller.specs.Answers.{is_done}
use Rattle.controller.proofs.Laws.Answers.{done_is}
use Rattle.std.specs.Prelude.{Ok, Err}
use Rattle.lines.specs.declared.reader.BadLine.{BadLine}
use Rattle.lines.specs.declared.reader.Line.{Line}
use Rattle.lines.specs.Reading.{sent_of, told_of, line_of}
use Rattle.lines.specs.Session.{ended_by, following, read_up_to, session_of}
use Rattle.lines.proofs.Laws.Digits.{either}
use Rattle.lines.proofs.Laws.Told.{told_line, told_fault}
use Rattle.lines.proofs.Theorems.Read.{read_is_sayable}

-- a line that stands has at least 7 bytes, all of them in the text
pub line_long : (text : List ℕ) → is_done (line_of text).answer ≡ true
    → (7 ≤ (line_of text).length) × ((line_of text).length ≤ length text)
line_long text done =
    let is = read_is_sayable text (done_is (line_of text).answer done) in (is.1, is.3)

-- the line at a place of a text, read from the part from there on
module _ (text : List ℕ) (from : ℕ) (some : from < length text) where
  part_at : line_of (take (length text - from) (drop from text)) ≡ line_of (drop from text)
  part_at = ap line_of (take_all (length text - from) (drop from text) (omega (arith, length-drop from text)))

  pub more_text : 0 < length (drop from text)
  more_text = omega (arith, length-drop from text)

  -- where it stands, it is the transfer and the length that were told, and it lies in the text
  module _ {line : Line} (read : Ok line ≡ told_of (line_of (take (length text - from) (drop from text)))) where
    pub line_good : is_done (line_of (drop from text)).answer ≡ true
    line_good = (told_line (line_of (drop from text)) (rw part_at at read)).0

    pub line_sent : sent_of (line_of (drop from text)) ≡ line.sent
    line_sent = (told_line (line_of (drop from text)) (rw part_at at read)).1

    pub line_size : (line_of (drop from text)).length ≡ line.length
    line_size = (told_line (line_of (drop from text)) (rw part_at at read)).2

    pub line_inside : (7 ≤ line.length) × (from + line.length ≤ length text)
    line_inside =
        let long = line_long (drop from text) line_good in
        let size = line_size in
        (omega arith, omega (arith, length-drop from text))

  -- and a bad one has the answer that was told
  module _ {bad : BadLine} (read : Err bad ≡ told_of (line_of (take (length text - from) (drop from text)))) where
    pub line_bad : is_done (line_of (drop from text)).answer ≡ false
    line_bad = (told_fault (line_of (drop from text)) (rw part_at at read)).0

    pub bad_answer : (line_of (drop from text)).answer ≡ bad.answer
    bad_answer = (told_fault (line_of (drop from text)) (rw part_at at read)).1

pub read_none : (most : ℕ) → read_up_to most [] ≡ ended_by Done
unfolding read_up_to
read_none zero = refl
read_none (suc k) = refl

pub read_enough : (text : List ℕ) → read_up_to 0 text ≡ ended_by Done
unfolding read_up_to
read_enough text = refl

pub read_more : (k : ℕ) (text : List ℕ) → 0 < length text → is_done (line_of text).answer ≡ true
    → read_up_to (suc k) text ≡ following (sent_of (line_of text)) (read_up_to k (drop (line_of text).length text))
unfolding read_up_to
read_more k [] some e = absurd (omega arith)
read_more k (byte ∷ rest) some e = simp e

pub read_bad : (k : ℕ) (text : List ℕ) → 0 < length text → is_done (line_of text).answer ≡ false
    → read_up_to (suc k) text ≡ ended_by (line_of text).answer
unfolding read_up_to
read_bad k [] some e = absurd (omega arith)
read_bad k (byte ∷ rest) some e = simp e

-- more lines than there are bytes change nothing
read_fuel : (k j : ℕ) (text : List ℕ) → length text ≤ k → length text ≤ j → read_up_to k text ≡ read_up_to j text
unfolding read_up_to
read_fuel zero zero text a b = refl
read_fuel zero (suc j) [] a b = refl
read_fuel zero (suc j) (byte ∷ rest) a b = absurd (omega arith)
read_fuel (suc k) zero [] a b = refl
read_fuel (suc k) zero (byte ∷ rest) a b = absurd (omega arith)
read_fuel (suc k) (suc j) [] a b = refl
read_fuel (suc k) (suc j) (byte ∷ rest) a b =
    let text = byte ∷ rest in
    either (is_done (line_of text).answer)
    (λ e.
    let long = (line_long text e).0 in
    let less = length-drop (line_of text).length text in
    simp e (ap (following (sent_of (line_of text))) (read_fuel k j (drop (line_of text).length text) (omega arith) (omega arith))))
    (λ e. simp e)

-- a text longer than so many lines is read whole
pub read_all : (most : ℕ) (text : List ℕ) → length text ≤ most → read_up_to most text ≡ session_of text
unfolding session_of
read_all most text enough = read_fuel most (length text) text enough (omega arith)

pub session_none : session_of [] ≡ ended_by Done
unfolding session_of read_up_to
session_none = refl

pub session_more : (text : List ℕ) → 0 < length text → is_done (line_of text).answer ≡ true
    → session_of text ≡ following (sent_of (line_of text)) (session_of (drop (line_of text).length text))
unfolding session_of read_up_to
session_more [] some e = absurd (omega arith)
session_more (byte ∷ rest) some e =
    let text = byte ∷ rest in
    let long = (line_long text e).0 in
    let less = length-drop (line_of text).length text in
    simp e
    (ap (following (sent_of (line_of text)))
    (read_fuel (length rest) (length (drop (line_of text).length text)) (drop (line_of text).length text)
    (omega arith) (omega arith)))

pub session_bad : (text : List ℕ) → 0 < length text → is_done (line_of text).answer ≡ false
    → session_of text ≡ ended_by (line_of text).answer
unfolding session_of read_up_to
session_bad [] some e = absurd (omega arith)
session_bad (byte ∷ rest) some e = simp e
