-- Laws of the parts of a line that a text starts with: a part that is written is read, and each part has the one before it.
-- Assumes nothing.
use Rattle.std.specs.Prelude.{Ok, Err}
use mathlib.Core.Bool.{false}
use mathlib.Core.List.{List, [], ◌∷◌, ◌++◌, append_assoc}
use mathlib.Core.Path.{◌≡◌, sym, ap, ◌∙◌}
use Prim.Native.Nat.{ℕ, ◌+◌, ◌/◌, ◌%◌, ◌<◌}
use native.Mathlib.Omega.{arith}
use borrow.Author.Tests.{ltb-false, le-ltb}
use lib.Dec.{ltb, eqb}
use lib.ListN.{length}
use Rattle.controller.specs.declared.answers.Answer.TheVariants.{BadWait}
use Rattle.controller.specs.Bus.{bad_transfer}
use Rattle.lines.specs.Digits.{newline, digit, worth_of, decimal, byte_field, number_field}
use Rattle.lines.specs.Line.{line, kind_field}
use Rattle.lines.specs.Reading.{fault, text_at, kind_read, byte_read, rest_of, wait_of}
use Rattle.lines.specs.Theorems.{Starts}
use Rattle.lines.specs.Faults.{KindStands, ByteStands, NoDigit, WaitStands}
use Rattle.lines.proofs.Laws.Digits.{either, worth_digit, digit_worth}
use Rattle.lines.proofs.Laws.Kinds.{kind_below, kind_letter}
use Rattle.lines.proofs.Laws.Steps.{digit_stands_lem, other_fault}
use Rattle.lines.proofs.Laws.Waits.{begun, digit_above, decimal_reads, wait_begun}

-- a kind that is written is read
pub kind_written : (kind : ℕ) (rest : List ℕ) → kind < 4 → kind_read (kind_field kind ++ rest) ≡ Ok kind
unfolding kind_read kind_field text_at
kind_written kind rest below = simp (kind_letter kind below, le-ltb 3 kind (omega arith))

-- and a byte
pub byte_written : (kind byte : ℕ) (rest : List ℕ) → bad_transfer kind byte ≡ false → byte < 256
    → byte_read kind ((kind_field kind ++ byte_field byte) ++ rest) ≡ Ok byte
unfolding byte_read kind_field byte_field text_at
byte_written kind byte rest good is_byte =
    let high : worth_of (digit (byte / 16)) ≡ byte / 16 = worth_digit (byte / 16) (omega arith) in
    let low : worth_of (digit (byte % 16)) ≡ byte % 16 = worth_digit (byte % 16) (omega arith) in
    let first = digit_stands_lem kind byte (byte / 16) good (omega arith) (omega arith) in
    let second = digit_stands_lem kind byte (byte % 16) good (omega arith) (omega arith) in
    simp (high, low, first, second) (ap (λ (n : ℕ). Ok n) (omega arith))

-- and behind them a wait is begun
pub wait_after : (kind byte : ℕ) (rest : List ℕ) → wait_of ((kind_field kind ++ byte_field byte) ++ rest) ≡ begun 5 rest
unfolding kind_field byte_field
wait_after kind byte rest = wait_begun ((kind_field kind ++ byte_field byte) ++ rest)

-- a whole line has its wait
pub line_wait : (text : List ℕ) → Starts text → WaitStands text
unfolding line number_field
line_wait text s =
    record {
      begins = record {
        kind = s.kind;
        byte = s.byte;
        wait = s.wait;
        more = newline ∷ s.more;
        sayable = s.sayable;
        stands = s.stands ∙ simp append_assoc;
      };
      all = λ number more small is. let same : newline ≡ digit number = cc in omega (arith, digit_above number);
    }

-- a wait in its parts
wait_parts : (text : List ℕ) (w : WaitStands text)
    → text ≡ (kind_field w.begins.kind ++ byte_field w.begins.byte) ++ (decimal w.begins.wait ++ w.begins.more)
wait_parts text w = w.begins.stands ∙ simp append_assoc

-- a wait has its byte
pub wait_byte : (text : List ℕ) → WaitStands text → ByteStands text
wait_byte text w =
    let b = w.begins in
    record {
      kind = b.kind;
      byte = b.byte;
      wait = b.wait;
      more = decimal b.wait ++ b.more;
      sayable = b.sayable;
      stands = wait_parts text w;
    }

-- a byte has its kind
pub byte_kind : (text : List ℕ) → ByteStands text → KindStands text
byte_kind text b =
    record {
      kind = b.kind;
      byte = b.byte;
      wait = b.wait;
      more = byte_field b.byte ++ b.more;
      sayable = b.sayable;
      stands = b.stands ∙ simp append_assoc;
    }

-- a kind that stands is read
pub kind_read_lem : (text : List ℕ) (b : KindStands text) → kind_read text ≡ Ok b.kind
kind_read_lem text b =
    ap kind_read b.stands ∙ kind_written b.kind b.more (kind_below b.kind b.byte b.sayable.transfer)

-- and so is the kind of a byte
pub byte_kind_read : (text : List ℕ) (b : ByteStands text) → kind_read text ≡ Ok b.kind
unfolding byte_kind
byte_kind_read text b = kind_read_lem text (byte_kind text b)

-- and the byte
pub byte_read_lem : (text : List ℕ) (b : ByteStands text) → byte_read b.kind text ≡ Ok b.byte
byte_read_lem text b =
    ap (byte_read b.kind) b.stands ∙ byte_written b.kind b.byte b.more b.sayable.transfer b.sayable.is_byte

-- where no digit comes next a wait's rest is not stopped by one
no_digit : (rest : List ℕ) (place value at : ℕ) → NoDigit rest → rest_of place value rest ≡ Err (fault BadWait at) → ⊥
unfolding rest_of
no_digit [] place value at none bad = other_fault bad
no_digit (byte ∷ rest) place value at none bad =
    either (eqb byte newline)
    (λ e. let good = simp e at bad in let no : ◌≡◌ {A = ℕ} 0 1 = cc in omega arith)
    (λ e. either (ltb 9 (worth_of byte))
    (λ f. other_fault (simp (e, f) at bad))
    (λ f.
    let small = ltb-false 9 (worth_of byte) f in
    none (worth_of byte) rest (omega arith) (ap (λ (b : ℕ). b ∷ rest) (sym (digit_worth byte (omega arith))))))

-- so a wait that stands is not 18
pub wait_not_bad : (text : List ℕ) (at : ℕ) → WaitStands text → wait_of text ≡ Err (fault BadWait at) → ⊥
wait_not_bad text at w bad =
    let b = w.begins in
    no_digit b.more (5 + length (decimal b.wait)) b.wait at w.all
    (sym (decimal_reads 5 b.wait b.more b.sayable.is_wait)
    ∙ sym (wait_after b.kind b.byte (decimal b.wait ++ b.more))
    ∙ ap wait_of (sym (wait_parts text w))
    ∙ bad)
