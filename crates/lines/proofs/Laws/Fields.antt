-- Laws of a line's fields as they are read: what stands before each place, and that the reader looks no further than the byte at
-- which it stops.
-- Assumes nothing.
use Rattle.std.specs.Prelude.{Ok, Err}
use mathlib.Core.Bool.{true, false}
use mathlib.Core.List.{List, [], ◌∷◌, ◌++◌, append_assoc}
use mathlib.Core.Logic.{⊎_elim}
use mathlib.Core.Path.{◌≡◌, refl, sym, ap, ◌∙◌}
use Prim.Native.Nat.{ℕ, suc, ◌+◌, ◌*◌, ◌/◌, ◌%◌, ◌<◌, ◌≤◌}
use native.Mathlib.Omega.{arith}
use native.Mathlib.Nat.{add-zero}
use borrow.Author.Tests.{ltb-true, ltb-false, eqb-true, le-ltb}
use lib.Dec.{ltb, leb, eqb}
use lib.ListN.{length, take, drop, get_or, length-drop, take-append-drop, get_or-append, get_or-eq_default}
use lib.Seq.{get_or-drop, get_or-take, length-take-le, take-suc, take-add, take-append-add}
use Rattle.controller.specs.declared.answers.Answer.{Answer}
use Rattle.controller.specs.declared.answers.Answer.TheVariants.{BadKind, BadByte, BadWait, NoNewline}
use Rattle.controller.specs.Bus.{bad_transfer}
use Rattle.controller.specs.Answers.{number_of}
use Rattle.lines.specs.Digits.{tab, newline, digit, worth_of, decimal, hex_pair, byte_field, number_field}
use Rattle.lines.specs.Line.{line, letter_of, kind_field, kind_of, wait_limit}
use Rattle.lines.specs.Reading.{WaitRead, fault, text_at, kind_read, digit_stands, byte_read, rest_of, wait_of, refused_line, with_wait, with_byte, with_kind, line_of}
use Rattle.lines.specs.Theorems.{Sayable, Starts}
use Rattle.lines.specs.Faults.{KindStands, ByteStands, NoDigit, WaitStands, number_at}
use Rattle.lines.proofs.Laws.Digits.{either, worth_digit, digit_worth}
use Rattle.lines.proofs.Laws.Kinds.{letter_kind}
use Rattle.lines.proofs.Laws.Steps.{digit_below, digits_stand, digit_stands_lem}
use Rattle.lines.proofs.Laws.Parts.{kind_read_lem, byte_kind_read, byte_read_lem, wait_after, wait_not_bad}
use Rattle.lines.proofs.Laws.Places.{number_kind, number_byte, number_wait}
use Rattle.lines.proofs.Laws.Waits.{begun, decimal_reads, wait_begun, Halts, begun_halts}

-- a byte that is not 00h stands in the text
inside_at : (text : List ℕ) (place byte : ℕ) → text_at text place ≡ byte → 0 < byte → place < length text
unfolding text_at
inside_at text place byte is some =
    either (ltb place (length text)) (λ e. ltb-true place (length text) e)
    (λ e. let past = get_or-eq_default text 0 (ltb-false place (length text) e) in absurd (omega arith))

-- one byte more of a text
take_more : (text : List ℕ) (place : ℕ) → place < length text → take (suc place) text ≡ take place text ++ (text_at text place ∷ [])
unfolding text_at
take_more text place inside = take-suc text place 0 inside

-- what stands up to a place stands there whatever is after it
at_same : (text more : List ℕ) (last place : ℕ) → last < length text → place ≤ last
    → text_at (take (suc last) text ++ more) place ≡ text_at text place
unfolding text_at
at_same text more last place inside within =
    get_or-append (take (suc last) text) more 0 place (omega (arith, length-take-le (suc last) text inside))
    ∙ get_or-take (suc last) text place 0 (omega arith)

-- a letter that has a kind is a byte above 00h, and so is a digit
letter_some : (letter : ℕ) → kind_of letter ≤ 3 → 0 < letter
unfolding kind_of
letter_some letter below = either (ltb 0 letter) (λ e. ltb-true 0 letter e) (λ e. let zero : letter ≡ 0 = omega (arith, ltb-false 0 letter e) in let no = rw zero at below in absurd (omega arith))

digit_some : (byte : ℕ) → worth_of byte < 16 → 0 < byte
unfolding worth_of
digit_some byte below = either (ltb 0 byte) (λ e. ltb-true 0 byte e) (λ e. let zero : byte ≡ 0 = omega (arith, ltb-false 0 byte e) in let no = rw zero at below in absurd (omega arith))

-- the byte that the third and fourth byte of a text say
abbrev pub byte_at : List ℕ → ℕ
byte_at text = worth_of (text_at text 2) * 16 + worth_of (text_at text 3)

-- where a text is at fault: the bytes before that place are the first of a line, and whatever is after the byte there, the
-- reader stops at it
pub record FaultAt (text : List ℕ) (answer : Answer) (place : ℕ) : Type 0 where
  pub kind : ℕ
  pub byte : ℕ
  pub wait : ℕ
  pub sayable : Sayable kind byte wait
  pub inside : place ≤ length text
  pub few : place ≤ 15
  pub first : take place text ≡ take place (line kind byte wait)
  pub reads : line_of text ≡ refused_line answer place
  pub again : place < length text → (more : List ℕ) → line_of (take (suc place) text ++ more) ≡ refused_line answer place

-- a kind that stands
pub record KindIs (text : List ℕ) (kind : ℕ) : Type 0 where
  pub below : kind < 4
  pub inside : 2 ≤ length text
  pub first : take 2 text ≡ kind_field kind
  pub reads : kind_read text ≡ Ok kind

-- a byte that stands after it
pub record ByteIs (text : List ℕ) (kind byte : ℕ) : Type 0 where
  pub of : KindIs text kind
  pub good : bad_transfer kind byte ≡ false
  pub is_byte : byte < 256
  pub inside : 5 ≤ length text
  pub first : take 5 text ≡ kind_field kind ++ byte_field byte
  pub reads : byte_read kind text ≡ Ok byte

zero_good : (kind : ℕ) → kind < 4 → bad_transfer kind 0 ≡ false
unfolding bad_transfer
zero_good kind below =
    let other : ltb 3 kind ≡ false = le-ltb 3 kind (omega arith) in
    either (leb 2 kind) (λ e. simp (other, e)) (λ e. simp (other, e))

-- a kind alone can be said
with_kind_lem : (kind : ℕ) → kind < 4 → Sayable kind 0 0
with_kind_lem kind below = record { transfer = zero_good kind below; is_byte = omega arith; is_wait = omega arith }

-- two texts whose first two bytes are the same have one kind, and whose next three are the same one byte
kind_same : (text other : List ℕ) → text_at other 0 ≡ text_at text 0 → text_at other 1 ≡ text_at text 1 → kind_read other ≡ kind_read text
unfolding kind_read
kind_same text other a b = simp (a, b)

byte_same : (kind : ℕ) (text other : List ℕ) → text_at other 2 ≡ text_at text 2 → text_at other 3 ≡ text_at text 3
    → text_at other 4 ≡ text_at text 4 → byte_read kind other ≡ byte_read kind text
unfolding byte_read
byte_same kind text other a b c = simp (a, b, c)

module _ (text : List ℕ) where
  -- a letter that cannot stand
  no_letter : ltb 3 (kind_of (text_at text 0)) ≡ true → FaultAt text BadKind 0
  unfolding line_of with_kind kind_read
  no_letter e =
      record {
        kind = 0;
        byte = 0;
        wait = 0;
        sayable = with_kind_lem 0 (omega arith);
        inside = omega arith;
        few = omega arith;
        first = refl;
        reads = simp e;
        again = λ inside more. simp (at_same text more 0 0 inside (omega arith), e);
      }

  module _ (letter : ltb 3 (kind_of (text_at text 0)) ≡ false) where
    is_kind : kind_of (text_at text 0) ≤ 3
    is_kind = ltb-false 3 (kind_of (text_at text 0)) letter

    is_letter : letter_of (kind_of (text_at text 0)) ≡ text_at text 0
    is_letter = let below = is_kind in letter_kind (text_at text 0) (omega arith)

    has_letter : 0 < length text
    has_letter = inside_at text 0 (text_at text 0) refl (letter_some (text_at text 0) is_kind)

    -- a tab that does not stand after it
    no_tab : eqb (text_at text 1) tab ≡ false → FaultAt text BadKind 1
    unfolding line_of with_kind kind_read line kind_field
    no_tab e =
        let below = is_kind in
        record {
          kind = kind_of (text_at text 0);
          byte = 0;
          wait = 0;
          sayable = with_kind_lem (kind_of (text_at text 0)) (omega arith);
          inside = let some = has_letter in omega arith;
          few = omega arith;
          first = take_more text 0 has_letter ∙ ap (λ (b : ℕ). b ∷ []) (sym is_letter);
          reads = simp (letter, e);
          again = λ inside more. simp (at_same text more 1 0 inside (omega arith), at_same text more 1 1 inside (omega arith), letter, e);
        }

    -- one that does
    kind_is : eqb (text_at text 1) tab ≡ true → KindIs text (kind_of (text_at text 0))
    unfolding kind_read kind_field
    kind_is e =
        let below = is_kind in
        let inside = inside_at text 1 tab (eqb-true (text_at text 1) tab e) (omega arith) in
        record {
          below = omega arith;
          inside = omega arith;
          first = take_more text 1 inside
              ∙ ap (λ (l : List ℕ). l ++ (text_at text 1 ∷ [])) (take_more text 0 has_letter)
              ∙ simp (eqb-true (text_at text 1) tab e, is_letter);
          reads = simp (letter, e);
        }

  -- a kind stands, or it has a fault
  kind_cases : {A : Type 0} → ((kind : ℕ) → KindIs text kind → A) → ((place : ℕ) → place ≤ 1 → kind_read text ≡ Err (fault BadKind place) → FaultAt text BadKind place → A) → A
  unfolding kind_read
  kind_cases stands faults =
      either (ltb 3 (kind_of (text_at text 0))) (λ e. faults 0 (omega arith) (simp e) (no_letter e))
      (λ e. either (eqb (text_at text 1) tab)
      (λ t. stands (kind_of (text_at text 0)) (kind_is e t))
      (λ t. faults 1 (omega arith) (simp (e, t)) (no_tab e t)))

  module _ (kind : ℕ) (of : KindIs text kind) where
    kind_again : (more : List ℕ) (place : ℕ) → place < length text → 1 ≤ place → kind_read (take (suc place) text ++ more) ≡ Ok kind
    kind_again more place inside after =
        kind_same text (take (suc place) text ++ more) (at_same text more place 0 inside (omega arith)) (at_same text more place 1 inside after)
        ∙ of.reads

    -- a first digit that cannot stand
    no_high : digit_stands kind (worth_of (text_at text 2)) ≡ false → FaultAt text BadByte 2
    unfolding line_of with_kind with_byte byte_read line kind_field
    no_high e =
        record {
          kind = kind;
          byte = 0;
          wait = 0;
          sayable = with_kind_lem kind of.below;
          inside = of.inside;
          few = omega arith;
          first = of.first;
          reads = simp (of.reads, e);
          again = λ inside more. simp (kind_again more 2 inside (omega arith), at_same text more 2 2 inside (omega arith), e);
        }

    module _ (first-stands : digit_stands kind (worth_of (text_at text 2)) ≡ true) where
      high_below : worth_of (text_at text 2) < 16
      high_below = digit_below kind (worth_of (text_at text 2)) first-stands

      has_high : 2 < length text
      has_high = inside_at text 2 (text_at text 2) refl (digit_some (text_at text 2) high_below)

      three : take 3 text ≡ kind_field kind ++ (digit (worth_of (text_at text 2)) ∷ [])
      three = take_more text 2 has_high ∙ simp (of.first, digit_worth (text_at text 2) high_below)

      -- a second one that cannot
      no_low : digit_stands kind (worth_of (text_at text 3)) ≡ false → FaultAt text BadByte 3
      unfolding line_of with_kind with_byte byte_read line kind_field byte_field
      no_low e =
          let below = high_below in
          let up : (worth_of (text_at text 2) * 16 + 0) / 16 ≡ worth_of (text_at text 2) = omega arith in
          record {
            kind = kind;
            byte = worth_of (text_at text 2) * 16 + 0;
            wait = 0;
            sayable = record {
              transfer = digits_stand kind (worth_of (text_at text 2)) 0 of.below first-stands
                  (digit_stands_lem kind 0 0 (zero_good kind of.below) (omega arith) (omega arith));
              is_byte = omega arith;
              is_wait = omega arith;
            };
            inside = let some = has_high in omega arith;
            few = omega arith;
            first = three ∙ simp up;
            reads = simp (of.reads, first-stands, e);
            again = λ inside more.
                simp (kind_again more 3 inside (omega arith), at_same text more 3 2 inside (omega arith), at_same text more 3 3 inside (omega arith), first-stands, e);
          }

      module _ (second-stands : digit_stands kind (worth_of (text_at text 3)) ≡ true) where
        low_below : worth_of (text_at text 3) < 16
        low_below = digit_below kind (worth_of (text_at text 3)) second-stands

        has_low : 3 < length text
        has_low = inside_at text 3 (text_at text 3) refl (digit_some (text_at text 3) low_below)

        four : take 4 text ≡ kind_field kind ++ hex_pair (byte_at text)
        four =
            let a = high_below in
            let b = low_below in
            let up : byte_at text / 16 ≡ worth_of (text_at text 2) = omega arith in
            let down : byte_at text % 16 ≡ worth_of (text_at text 3) = omega arith in
            take_more text 3 has_low ∙ simp (three, up, down, digit_worth (text_at text 3) low_below, append_assoc)

        sayable_byte : Sayable kind (byte_at text) 0
        sayable_byte =
            let a = high_below in
            let b = low_below in
            record {
              transfer = digits_stand kind (worth_of (text_at text 2)) (worth_of (text_at text 3)) of.below first-stands second-stands;
              is_byte = omega arith;
              is_wait = omega arith;
            }

        -- a tab that does not stand after them
        no_second_tab : eqb (text_at text 4) tab ≡ false → FaultAt text BadByte 4
        unfolding line_of with_kind with_byte byte_read line kind_field byte_field
        no_second_tab e =
            record {
              kind = kind;
              byte = byte_at text;
              wait = 0;
              sayable = sayable_byte;
              inside = let some = has_low in omega arith;
              few = omega arith;
              first = four;
              reads = simp (of.reads, first-stands, second-stands, e);
              again = λ inside more.
                  simp (kind_again more 4 inside (omega arith), at_same text more 4 2 inside (omega arith), at_same text more 4 3 inside (omega arith), at_same text more 4 4 inside (omega arith), first-stands, second-stands, e);
            }

        -- one that does
        byte_is : eqb (text_at text 4) tab ≡ true → ByteIs text kind (byte_at text)
        unfolding byte_read byte_field
        byte_is e =
            let inside = inside_at text 4 tab (eqb-true (text_at text 4) tab e) (omega arith) in
            record {
              of = of;
              good = sayable_byte.transfer;
              is_byte = sayable_byte.is_byte;
              inside = omega arith;
              first = take_more text 4 inside ∙ simp (four, eqb-true (text_at text 4) tab e, append_assoc);
              reads = simp (first-stands, second-stands, e);
            }

    -- a byte stands, or it has a fault
    byte_cases : {A : Type 0} → ((byte : ℕ) → ByteIs text kind byte → A)
        → ((place : ℕ) → 2 ≤ place → place ≤ 4 → byte_read kind text ≡ Err (fault BadByte place) → FaultAt text BadByte place → A) → A
    unfolding byte_read
    byte_cases stands faults =
        either (digit_stands kind (worth_of (text_at text 2)))
        (λ a. either (digit_stands kind (worth_of (text_at text 3)))
        (λ b. either (eqb (text_at text 4) tab)
        (λ t. stands (byte_at text) (byte_is a b t))
        (λ t. faults 4 (omega arith) (omega arith) (simp (a, b, t)) (no_second_tab a b t)))
        (λ b. faults 3 (omega arith) (omega arith) (simp (a, b)) (no_low a b)))
        (λ a. faults 2 (omega arith) (omega arith) (simp a) (no_high a))

-- a wait that has a fault
module _ (text : List ℕ) (kind byte : ℕ) (is : ByteIs text kind byte) (answer : Answer) (at : ℕ) (bad : wait_of text ≡ Err (fault answer at)) where
  halts : Halts (drop 5 text) 5 answer at
  halts = begun_halts (drop 5 text) 5 answer at (sym (wait_begun text) ∙ bad)

  -- the first bytes of the text, and those of the wait
  more_than_five : (n : ℕ) → take (5 + n) text ≡ (kind_field kind ++ byte_field byte) ++ take n (drop 5 text)
  more_than_five n = take-add 5 n text ∙ ap (λ (l : List ℕ). l ++ take n (drop 5 text)) is.first

  wait_again : halts.count < length (drop 5 text) → (more : List ℕ) → wait_of (take (5 + suc halts.count) text ++ more) ≡ Err (fault answer at)
  unfolding kind_field byte_field
  wait_again inside more =
      wait_begun (take (5 + suc halts.count) text ++ more)
      ∙ ap (λ (l : List ℕ). begun 5 (drop 5 (l ++ more))) (more_than_five (suc halts.count))
      ∙ halts.again inside more

  wait_faults : FaultAt text answer at
  unfolding line_of with_kind with_byte with_wait line kind_field byte_field
  wait_faults =
      let h = halts in
      let place = h.is_place in
      let long = is.inside in
      let left = length-drop 5 text in
      let few = h.few in
      let fits = h.inside in
      let next : 5 + suc h.count ≡ suc at = omega arith in
      record {
        kind = kind;
        byte = byte;
        wait = h.wait;
        sayable = record { transfer = is.good; is_byte = is.is_byte; is_wait = h.below };
        inside = omega arith;
        few = omega arith;
        first = ap (λ (n : ℕ). take n text) place
            ∙ more_than_five h.count
            ∙ ap (λ (l : List ℕ). (kind_field kind ++ byte_field byte) ++ l) h.first
            ∙ sym (take-append-add (kind_field kind ++ byte_field byte) (number_field h.wait newline) h.count)
            ∙ ap (λ (n : ℕ). take n (line kind byte h.wait)) (sym place);
        reads = simp (is.of.reads, is.reads, bad);
        again = λ inside more.
            let wait = rw next at (wait_again (omega arith) more) in
            simp (
              kind_again text kind is.of more at inside (omega arith),
              byte_same kind text (take (suc at) text ++ more)
                  (at_same text more at 2 inside (omega arith)) (at_same text more at 3 inside (omega arith)) (at_same text more at 4 inside (omega arith))
                  ∙ is.reads,
              wait,
            );
      }

-- which fault it is: the first part that does not stand
pub data Which (text : List ℕ) (answer : Answer) : Type 0 where
  no_kind : answer ≡ BadKind → (KindStands text → ⊥) → Which text answer
  no_byte : answer ≡ BadByte → KindStands text → (ByteStands text → ⊥) → Which text answer
  no_wait : answer ≡ BadWait → ByteStands text → (WaitStands text → ⊥) → Which text answer
  no_end : answer ≡ NoNewline → WaitStands text → (Starts text → ⊥) → Which text answer

-- a kind that stands begins the text
kind_begins : (text : List ℕ) (kind : ℕ) → KindIs text kind → KindStands text
kind_begins text kind of =
    record {
      kind = kind;
      byte = 0;
      wait = 0;
      more = drop 2 text;
      sayable = with_kind_lem kind of.below;
      stands = sym (take-append-drop 2 text) ∙ ap (λ (l : List ℕ). l ++ drop 2 text) of.first;
    }

-- and so does a byte
byte_begins : (text : List ℕ) (kind byte : ℕ) → ByteIs text kind byte → ByteStands text
byte_begins text kind byte is =
    record {
      kind = kind;
      byte = byte;
      wait = 0;
      more = drop 5 text;
      sayable = record { transfer = is.good; is_byte = is.is_byte; is_wait = omega arith };
      stands = sym (take-append-drop 5 text) ∙ ap (λ (l : List ℕ). l ++ drop 5 text) is.first;
    }

-- a kind at fault does not stand
kind_lacks : (text : List ℕ) (place : ℕ) → kind_read text ≡ Err (fault BadKind place) → KindStands text → ⊥
kind_lacks text place bad b = let good = kind_read_lem text b in let no : ◌≡◌ {A = ℕ} 0 1 = cc in omega arith

-- nor does a byte
byte_lacks : (text : List ℕ) (kind place : ℕ) → kind_read text ≡ Ok kind → byte_read kind text ≡ Err (fault BadByte place) → ByteStands text → ⊥
byte_lacks text kind place of bad b =
    let own = byte_kind_read text b in
    let same : kind ≡ b.kind = cc in
    let good = byte_read_lem text b in
    let no : ◌≡◌ {A = ℕ} 0 1 = cc in
    omega arith

-- where no digit is next none stands
next_no_digit : (rest : List ℕ) (count : ℕ) → 9 < worth_of (text_at rest count) → NoDigit (drop count rest)
unfolding text_at
next_no_digit rest count large number more small is =
    let there : get_or rest count 0 ≡ digit number =
    ap (λ (n : ℕ). get_or rest n 0) (sym (add-zero count)) ∙ sym (get_or-drop count rest 0 0) ∙ ap (λ (l : List ℕ). get_or l 0 0) is in
    let worth = ap worth_of there ∙ worth_digit number (omega arith) in
    omega arith

-- a wait whose digits all stand begins the text
wait_begins : (text : List ℕ) (kind byte count wait : ℕ) → ByteIs text kind byte → wait ≤ wait_limit → take count (drop 5 text) ≡ decimal wait
    → 9 < worth_of (text_at (drop 5 text) count) → WaitStands text
wait_begins text kind byte count wait is below digits large =
    record {
      begins = record {
        kind = kind;
        byte = byte;
        wait = wait;
        more = drop count (drop 5 text);
        sayable = record { transfer = is.good; is_byte = is.is_byte; is_wait = below };
        stands = sym (take-append-drop 5 text)
            ∙ ap (λ (l : List ℕ). take 5 text ++ l) (sym (take-append-drop count (drop 5 text)))
            ∙ simp (is.first, digits, append_assoc);
      };
      all = next_no_digit (drop 5 text) count large;
    }

-- no line starts a text whose wait is at fault
line_lacks : (text : List ℕ) (kind byte : ℕ) (answer : Answer) (at : ℕ) → ByteIs text kind byte → wait_of text ≡ Err (fault answer at) → Starts text → ⊥
unfolding line number_field rest_of
line_lacks text kind byte answer at is bad s =
    let good = ap wait_of (s.stands ∙ simp append_assoc) ∙ wait_after s.kind s.byte (decimal s.wait ++ (newline ∷ s.more))
    ∙ decimal_reads 5 s.wait (newline ∷ s.more) s.sayable.is_wait in
    go good
  where
    go : wait_of text ≡ rest_of (5 + length (decimal s.wait)) s.wait (newline ∷ s.more) → ⊥
    go good = let no : ◌≡◌ {A = ℕ} 0 1 = cc in omega arith

module _ (text : List ℕ) (kind byte : ℕ) (is : ByteIs text kind byte) (answer : Answer) (at : ℕ) (bad : wait_of text ≡ Err (fault answer at)) where
  wait_which : Which text answer
  wait_which =
      let h = halts text kind byte is answer at bad in
      let eighteen : answer ≡ BadWait → Which text answer =
      λ e. no_wait e (byte_begins text kind byte is) (λ w. wait_not_bad text at w (bad ∙ ap (λ (a : Answer). Err (fault a at)) e)) in
      ⊎_elim (λ none. eighteen none.0)
      (λ some. ⊎_elim (λ digit. eighteen digit.0)
      (λ other.
      no_end other.0 (wait_begins text kind byte h.count h.wait is h.below some.1 other.1) (line_lacks text kind byte answer at is bad))
      some.2)
      h.why

  wait_number : number_of answer ≡ number_at text at
  wait_number =
      let h = halts text kind byte is answer at bad in
      number_wait text kind byte h.count h.wait answer h.inside (more_than_five text kind byte is answer at bad h.count) h.why
      ∙ ap (number_at text) (sym h.is_place)

-- a line is read, or it has a fault: where it is, which it is, and its number by its place
pub line_cases : {A : Type 0} (text : List ℕ)
    → ((kind byte wait end : ℕ) → ByteIs text kind byte → wait_of text ≡ Ok (wait, end) → A)
    → ((answer : Answer) (place : ℕ) → FaultAt text answer place → Which text answer → number_of answer ≡ number_at text place → A) → A
line_cases {A} text stands faults =
    kind_cases text
    (λ kind of.
    byte_cases text kind of (λ byte is. go kind byte is (wait_of text) refl)
    (λ place many few bad fault.
    faults BadByte place fault (no_byte refl (kind_begins text kind of) (byte_lacks text kind place of.reads bad))
    (sym (number_byte text fault.kind fault.byte fault.wait place many few fault.first))))
    (λ place few bad fault.
    faults BadKind place fault (no_kind refl (kind_lacks text place bad))
    (sym (number_kind text fault.kind fault.byte fault.wait place few fault.first)))
  where
    go : (kind byte : ℕ) → ByteIs text kind byte → (w : WaitRead) → wait_of text ≡ w → A
    go kind byte is (Ok (wait, end)) e = stands kind byte wait end is e
    go kind byte is (Err bad) e =
        faults bad.answer bad.offset (wait_faults text kind byte is bad.answer bad.offset e) (wait_which text kind byte is bad.answer bad.offset e)
        (wait_number text kind byte is bad.answer bad.offset e)
