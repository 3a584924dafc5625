-- A line that was read stands at the start of its text, is that of a transfer that a line can say, and is written out the same; a
-- text that is refused has its fault at the first byte that cannot stand.
-- Assumes nothing.
use Rattle.std.specs.Prelude.{Ok}
use mathlib.Core.List.{List, [], ◌++◌, append_assoc, append-nil}
use mathlib.Core.Logic.{inl, inr, ⊎_elim}
use mathlib.Core.Path.{◌≡◌, refl, sym, ap, subst, ◌∙◌}
use Prim.Native.Nat.{ℕ, ◌+◌, ◌<◌, ◌≤◌}
use native.Mathlib.Numerals.{add-one}
use native.Mathlib.Omega.{arith}
use borrow.Author.Tests.{ltb-true, ltb-false, le-ltb}
use lib.Dec.{ltb}
use lib.ListN.{length, take, drop, length-append, take-append-drop}
use lib.Seq.{take_all, take_at, take-take}
use Rattle.controller.proofs.Laws.Answers.{applies_here, applies_later, none_applies}
use Rattle.controller.specs.declared.answers.Answer.{Answer}
use Rattle.controller.specs.declared.answers.Answer.TheVariants.{Done}
use Rattle.controller.specs.Answers.{number_of, Row, Tells}
use Rattle.lines.specs.Digits.{newline, number_field}
use Rattle.lines.specs.Line.{line}
use Rattle.lines.specs.Reading.{Reading, fault, wait_of, refused_line, with_wait, with_byte, with_kind, line_of}
use Rattle.lines.specs.Writing.{wanting, line_writing}
use Rattle.lines.specs.Theorems.{Sayable, Starts, ReadWritesBack, ReadIsSayable}
use Rattle.lines.specs.Faults.{ReaderAnswers, ReadOrRefused, FirstThatCannotStand, OneOffset, NumberByPlace}
use Rattle.lines.specs.Faults.{fault_rows, reader_rows, IsFault, Completes, FirstFault, number_at}
use Rattle.lines.proofs.Laws.Digits.{either, decimal_some, field_length}
use Rattle.lines.proofs.Laws.Lengths.{line_length_lem, line_fits}
use Rattle.lines.proofs.Laws.Fields.{ByteIs, FaultAt, Which, no_kind, no_byte, no_wait, no_end, line_cases}
use Rattle.lines.proofs.Laws.Parts.{line_wait, wait_byte, byte_kind}
use Rattle.lines.proofs.Laws.Waits.{wait_begun, ReadFrom, begun_good}
use Rattle.lines.proofs.Theorems.Written.{written_reads_back}

-- the line's own bytes are those of the transfer that was read
module _ (text : List ℕ) (kind byte wait end : ℕ) (is : ByteIs text kind byte) (good : wait_of text ≡ Ok (wait, end)) where
  from : ReadFrom (drop 5 text) 5 wait end
  from = begun_good (drop 5 text) 5 wait end (sym (wait_begun text) ∙ good)

  reads : line_of text ≡ record { answer = Done; kind = kind; byte = byte; wait = wait; length = end; offset = 0 }
  unfolding line_of with_kind with_byte with_wait
  reads = simp (is.of.reads, is.reads, good)

  stands : text ≡ line kind byte wait ++ from.more
  unfolding line number_field
  stands = sym (take-append-drop 5 text) ∙ simp (is.first, from.text, append_assoc)

  ends : end ≡ length (line kind byte wait)
  ends = omega (arith, from.ends, line_length_lem kind byte wait, field_length wait newline)

  sayable : Sayable kind byte wait
  sayable = record { transfer = is.good; is_byte = is.is_byte; is_wait = from.below }

  starts : Starts text
  starts = record { kind = kind; byte = byte; wait = wait; more = from.more; sayable = sayable; stands = stands }

  long : (7 ≤ end) × (end ≤ 16) × (end ≤ length text)
  long =
      let own = line kind byte wait in
      let whole : length text ≡ length own + length from.more = ap length stands ∙ length-append own from.more in
      let some = decimal_some wait in
      let most = line_fits kind byte wait from.below in (
        omega (arith, ends, line_length_lem kind byte wait, field_length wait newline),
        omega (arith, ends),
        omega (arith, ends),
      )

  own_bytes : take end text ≡ line kind byte wait
  own_bytes = ap (take end) stands ∙ take_at (line kind byte wait) from.more end (sym ends)

-- a text that starts with a line is read
starts_read : (text : List ℕ) → Starts text → (line_of text).answer ≡ Done
starts_read text s =
    ap (λ (l : Reading). l.answer) (ap line_of s.stands ∙ written_reads_back s.kind s.byte s.wait s.more s.sayable)

-- so one that is refused starts with none
not_started : (text : List ℕ) (answer : Answer) (place : ℕ) → (answer ≡ Done → ⊥) → line_of text ≡ refused_line answer place → Starts text → ⊥
not_started text answer place other bad s = other (ap (λ (l : Reading). l.answer) (sym bad) ∙ starts_read text s)

-- each fault has one of the four numbers
which_fault : (text : List ℕ) (answer : Answer) → Which text answer → IsFault answer
which_fault text answer (no_kind is _) = rw is (record { least = omega arith; most = omega arith })
which_fault text answer (no_byte is _ _) = rw is (record { least = omega arith; most = omega arith })
which_fault text answer (no_wait is _ _) = rw is (record { least = omega arith; most = omega arith })
which_fault text answer (no_end is _ _) = rw is (record { least = omega arith; most = omega arith })

-- which is not that of a line that is read
pub fault_not_done : (answer : Answer) → IsFault answer → answer ≡ Done → ⊥
fault_not_done answer fault done = let least = fault.least in let number = ap number_of done in omega arith

pub read_or_refused : ReadOrRefused
read_or_refused text =
    line_cases text
    (λ kind byte wait end is good.
    let read = reads text kind byte wait end is good in
    inl (starts text kind byte wait end is good, ap (λ (l : Reading). l.answer) read, ap (λ (l : Reading). l.offset) read))
    (λ answer place fault which _.
    let one = which_fault text answer which in
    inr (
      not_started text answer place (fault_not_done answer one) fault.reads,
      rw fault.reads (record { fault = one; zeros = refl }),
    ))

-- what is known of a text that is read
read_by : {A : Type 0} (text : List ℕ) → (line_of text).answer ≡ Done
    → ((kind byte wait end : ℕ) → ByteIs text kind byte → wait_of text ≡ Ok (wait, end) → A) → A
read_by text done by =
    line_cases text by
    (λ answer place fault which _.
    absurd (fault_not_done answer (which_fault text answer which) (sym (ap (λ (l : Reading). l.answer) fault.reads) ∙ done)))

-- and of one that is refused
refused_by : {A : Type 0} (text : List ℕ) → ((line_of text).answer ≡ Done → ⊥)
    → ((answer : Answer) (place : ℕ) → FaultAt text answer place → Which text answer → number_of answer ≡ number_at text place → A) → A
refused_by text refused by =
    line_cases text (λ kind byte wait end is good. absurd (refused (ap (λ (l : Reading). l.answer) (reads text kind byte wait end is good)))) by

pub read_is_sayable : ReadIsSayable
read_is_sayable text done =
    read_by text done
    (λ kind byte wait end is good.
    let l = long text kind byte wait end is good in
    rw (reads text kind byte wait end is good) (sayable text kind byte wait end is good, l.0, l.1, l.2))

-- its length is that of its line
pub read_length : (text : List ℕ) → (line_of text).answer ≡ Done
    → (line_of text).length ≡ length (line (line_of text).kind (line_of text).byte (line_of text).wait)
read_length text done =
    read_by text done (λ kind byte wait end is good. rw (reads text kind byte wait end is good) (ends text kind byte wait end is good))

pub read_writes_back : ReadWritesBack
unfolding line_writing wanting
read_writes_back text out done enough =
    read_by text done
    (λ kind byte wait end is good.
    rw (reads text kind byte wait end is good)
    (simp (is.good, le-ltb (length out) 16 enough, own_bytes text kind byte wait end is good)))

-- the bytes before a fault are the first of a line, so the rest of that line completes them
fault_before : (text : List ℕ) (answer : Answer) (place : ℕ) → FaultAt text answer place → Completes (take place text)
fault_before text answer place fault =
    let own = line fault.kind fault.byte fault.wait in
    record {
      more = drop place own;
      starts = record {
        kind = fault.kind;
        byte = fault.byte;
        wait = fault.wait;
        more = [];
        sayable = fault.sayable;
        stands = ap (λ (l : List ℕ). l ++ drop place own) fault.first ∙ take-append-drop place own ∙ sym (append-nil own);
      };
    }

pub first_that_cannot_stand : FirstThatCannotStand
first_that_cannot_stand text refused =
    refused_by text refused
    (λ answer place fault which _.
    let other = fault_not_done answer (which_fault text answer which) in
    rw fault.reads
    (record {
      inside = fault.inside;
      before = fault_before text answer place fault;
      there = λ inside c. not_started _ answer place other (rw (sym (add-one place)) at (fault.again inside c.more)) c.starts;
      early = λ end. rw (take_all place text (omega arith)) at (fault_before text answer place fault);
    }))

pub number_by_place : NumberByPlace
number_by_place text refused = refused_by text refused (λ answer place fault _ number. rw fault.reads number)

-- no fault is past the sixteenth byte, and a line that is read has none
offset_few : (text : List ℕ) → (line_of text).offset ≤ 15
offset_few text =
    line_cases text
    (λ kind byte wait end is good. rw (reads text kind byte wait end is good) (omega arith))
    (λ answer place fault _ _. rw fault.reads fault.few)

pub offset_told : (read : Reading) (text : List ℕ) → read ≡ line_of text → read.offset ≤ 15
offset_told read text is = rw is (offset_few text)

-- what completes a text completes its first bytes
completes_less : (text : List ℕ) (a b : ℕ) → a ≤ b → Completes (take b text) → Completes (take a text)
completes_less text a b less c =
    let whole : take a text ++ drop a (take b text) ≡ take b text =
    ap (λ (l : List ℕ). l ++ drop a (take b text)) (sym (take-take a b text less)) ∙ take-append-drop a (take b text) in
    record {
      more = drop a (take b text) ++ c.more;
      starts = subst Starts (sym (sym (append_assoc (take a text) (drop a (take b text)) c.more) ∙ ap (λ (l : List ℕ). l ++ c.more) whole)) c.starts;
    }

-- no fault is before another
not_before : (text : List ℕ) (a b : ℕ) → FirstFault text a → FirstFault text b → a < b → ⊥
not_before text a b first second less =
    let inside = second.inside in
    first.there (omega arith) (completes_less text (a + 1) b (omega arith) second.before)

pub one_offset : OneOffset
one_offset text a b first second =
    either (ltb a b) (λ e. absurd (not_before text a b first second (ltb-true a b e)))
    (λ e. either (ltb b a) (λ f. absurd (not_before text b a second first (ltb-true b a f)))
    (λ f. omega (arith, ltb-false a b e, ltb-false b a f)))

-- a line that is read has all its parts, so that the rows after the reader's give the number
pub read_rows_lem : (text : List ℕ) (number : ℕ) (rows : List Row) → Starts text → Tells number rows → Tells number (reader_rows text rows)
unfolding fault_rows
read_rows_lem text number rows s later =
    let wait = line_wait text s in
    let byte = wait_byte text wait in
    applies_later _ _ _ (λ none. none (byte_kind text byte))
    (applies_later _ _ _ (λ none. none byte) (applies_later _ _ _ (λ none. none wait) (applies_later _ _ _ (λ none. none s) later)))

-- a fault's row is the first that applies
which_rows : (text : List ℕ) (answer : Answer) (rows : List Row) → Which text answer → Tells (number_of answer) (reader_rows text rows)
unfolding fault_rows
which_rows text answer rows (no_kind is lacks) = rw is (applies_here _ _ lacks)
which_rows text answer rows (no_byte is kind lacks) = rw is (applies_later _ _ _ (λ none. none kind) (applies_here _ _ lacks))
which_rows text answer rows (no_wait is byte lacks) =
    rw is (applies_later _ _ _ (λ none. none (byte_kind text byte)) (applies_later _ _ _ (λ none. none byte) (applies_here _ _ lacks)))
which_rows text answer rows (no_end is wait lacks) =
    let byte = wait_byte text wait in
    rw is
    (applies_later _ _ _ (λ none. none (byte_kind text byte))
    (applies_later _ _ _ (λ none. none byte) (applies_later _ _ _ (λ none. none wait) (applies_here _ _ lacks))))

-- so the rows after it do not matter to a text that is refused
pub refused_rows : (text : List ℕ) (rows : List Row) → (Starts text → ⊥) → Tells (number_of (line_of text).answer) (reader_rows text rows)
refused_rows text rows none =
    line_cases text (λ kind byte wait end is good. absurd (none (starts text kind byte wait end is good)))
    (λ answer place fault which _. rw fault.reads (which_rows text answer rows which))

pub reader_answers : ReaderAnswers
reader_answers text =
    ⊎_elim (λ good. rw good.1 (read_rows_lem text 0 [] good.0 none_applies)) (λ bad. refused_rows text [] bad.0) (read_or_refused text)
