-- The bench cases, each by the rules that it runs through.
-- Assumes nothing.
use mathlib.Core.Bool.{Bool, true, false, cond, not}
use mathlib.Core.List.{List, [], ◌∷◌}
use mathlib.Core.Path.{◌≡◌, refl, sym, ap, subst, ◌∙◌}
use Prim.Native.Nat.{ℕ, ◌+◌, ◌-◌, ◌<◌, zero-le}
use lib.Dec.{ltb}
use native.Mathlib.Omega.{arith}
use lib.ListN.{length, get_or, set}
use lib.Seq.{get_or-set_same}
use borrow.Author.Tests.{eq-eqb}
use Rattle.controller.proofs.Laws.Cells.{place_below}
use Rattle.controller.proofs.Laws.Memory.{blanked_length, performed_length}
use Rattle.controller.proofs.Laws.Oscillator.{fitted_in, older_within}
use Rattle.controller.proofs.Laws.Taken.{taken_narrow, taken_wide}
use Rattle.controller.proofs.Theorems.Sound.{reset_sound, transfer_keeps_sound}
use Rattle.controller.proofs.Laws.Record.{sound_counter, waited_over}
use Rattle.controller.specs.declared.cells.Counter.{Counter}
use Rattle.controller.specs.declared.cells.Counter.TheVariants.{Display, Pattern}
use Rattle.controller.specs.declared.answers.Answer.TheVariants.{Unsound, BadTransfer}
use Rattle.controller.specs.declared.decision.Decision.{Decision}
use Rattle.controller.specs.declared.decision.Effect.TheVariants.{Keep}
use Rattle.controller.specs.declared.oscillator.Frequency.{Frequency}
use Rattle.controller.specs.declared.«record».Half.TheVariants.{Empty, InstructionWrite, DataWrite}
use Rattle.controller.specs.declared.«record».Record.{Record}
use Rattle.controller.specs.Bus.{decided, ordered, reset_decided, whole, bad_transfer, must_wait}
use Rattle.controller.specs.Cases.{Waits, after_reset, status_read, taking, data_write, P1, WriteLeads, P2, P3, Answers, P4, P6, P8, P9, P10, sent_in11, P11}
use Rattle.controller.specs.Cells.{on_cell, wrapped, stepped, place_of, address_of, add_of_cell, cell_of_add}
use Rattle.controller.specs.Answers.{number_of}
use Rattle.controller.specs.Decision.{blanked, performed, done, refused}
use Rattle.controller.specs.Execute.{short_time, long_time, status_of, completed, executed, addressed, carried, written, read_out, homed}
use Rattle.controller.specs.Halves.{accepted, narrow, begun, first_half, first_told, second_half, crossed}
use Rattle.controller.specs.Instruction.{decoded, bit}
use Rattle.controller.specs.Oscillator.{fitted, in_range, older, time_at}
use Rattle.controller.specs.Record.{reset_record, reset_time, sound, half_sound, waited, busy_over, with_half}
use Rattle.controller.specs.declared.sent.Sent.{Sent}
use Rattle.controller.specs.Rules.{Comes, Wide, at_width, beside, neighbour}
use Rattle.controller.proofs.Laws.Rows.{bad_tests}
use Rattle.controller.proofs.Theorems.Halves.{halves_make_whole, wide_waits}
use Rattle.controller.proofs.Theorems.Rules.{data_rules}
use Rattle.controller.specs.Runs.{State, Heard, decided_of, after, told_of, ran, heard}

-- what reset leaves
reset_state : (rec : Record) (mem : List ℕ) → length mem ≡ 144 → after_reset rec mem ≡ record { rec = reset_record rec.frequency; mem = blanked mem }
unfolding reset_decided performed whole
reset_state rec mem long = rw (eq-eqb (length mem) 144 long)

-- where 250 kHz is fitted, reset is as from 250 kHz
reset_at : (frequency : Frequency) → fitted frequency ≡ older → reset_record frequency ≡ reset_record older
unfolding reset_record
reset_at frequency is = simp (is, fitted_in older older_within)

pub p1 : P1
unfolding reset_record reset_time
p1 rec mem long =
    let state = reset_state rec mem long in
    let fresh : Record = reset_record rec.frequency in
    let wide : Wide fresh (blanked mem) = record { sound = reset_sound rec.frequency; whole = blanked_length mem long; wide = refl } in
    let told : (wait : ℕ) → Comes fresh (decided_of (after_reset rec mem) (status_read wait)) 0 (cond (ltb 0 (10000 - wait)) 0x80 0 + 0) (10000 - wait) =
    λ wait. subst (λ (s : State). Comes fresh (decided_of s (status_read wait)) 0 (cond (ltb 0 (10000 - wait)) 0x80 0 + 0) (10000 - wait)) (sym state)
    ((data_rules.status fresh (blanked mem) wait wide).byte 0 (refl, omega arith)) in
    (((told 9999).answer, (told 9999).byte), ((told 10000).answer, (told 10000).byte))

-- the counter's step, at either width
pub write_leads : (n : Bool) (counter : Counter) (from : ℕ) (next : Counter) (to : ℕ) → address_of n counter ≡ from → beside true counter ≡ next
    → address_of n next ≡ to → WriteLeads n counter from next to
unfolding bad_transfer
write_leads n counter from next to at steps there wide rec mem byte wait later w is_byte_lem lines up place = (at, go wide w, there)
  where
    wrote : (r : Record) → Waits r mem true Empty wait → r.entry.id ≡ true → r.counter ≡ counter → (decided r mem 1 byte wait).rec.counter ≡ next
    wrote r w rises here = (data_rules.write r mem byte wait w).counter ∙ rw (rises, here) steps

    go : (wide : Bool) → Waits rec mem wide Empty wait → (taking wide rec mem 1 byte wait later).rec.counter ≡ next
    go true w = wrote rec w up place
    go false w =
        ap (λ (r : Record). r.counter) (halves_make_whole rec mem 1 byte wait later w ((bad_tests 1 byte).no refl) is_byte_lem).alike.rec
        ∙ wrote (at_width true rec) (wide_waits rec mem wait w) up place

pub p2 : P2
unfolding address_of add_of_cell beside neighbour
p2 = write_leads true (Display 39) 0x27 (Display 40) 0x40 refl refl refl

pub p3 : P3
unfolding address_of add_of_cell beside neighbour
p3 = (write_leads true (Display 79) 0x67 (Display 0) 0x00 refl refl refl, write_leads false (Display 79) 0x4F (Display 0) 0x00 refl refl refl)

pub p6 : P6
unfolding address_of beside neighbour
p6 n = write_leads n (Pattern 63) 0x3F (Pattern 0) 0x00 refl refl refl

-- a display address, answered by the cell that it names
answers : (n : Bool) (byte number : ℕ) → byte < 256
    → ((mem : List ℕ) (rec : Record) → rec.function.n ≡ n → number_of (executed mem (decoded byte) rec).answer ≡ number) → Answers n byte number
unfolding bad_transfer begun completed
answers n byte number is_byte_lem told wide rec mem wait later w lines = go wide w
  where
    answered : (r : Record) → Waits r mem true Empty wait → r.function.n ≡ n → number_of (decided r mem 0 byte wait).answer ≡ number
    answered r w lines = ap (λ (d : Decision). number_of d.answer) (taken_wide r mem Empty 0 byte wait w refl) ∙ told mem (busy_over r) lines

    go : (wide : Bool) → Waits rec mem wide Empty wait → number_of (taking wide rec mem 0 byte wait later).answer ≡ number
    go true w = answered rec w lines
    go false w =
        ap number_of (halves_make_whole rec mem 0 byte wait later w ((bad_tests 0 byte).no refl) is_byte_lem).alike.answer
        ∙ answered (at_width true rec) (wide_waits rec mem wait w) lines

pub p4 : P4
unfolding executed decoded addressed cell_of_add
p4 = (
  answers true 0xA7 0 (omega arith) (λ mem rec lines. rw lines refl),
  answers true 0xA8 6 (omega arith) (λ mem rec lines. rw lines refl),
  answers true 0xBF 6 (omega arith) (λ mem rec lines. rw lines refl),
  answers true 0xE7 0 (omega arith) (λ mem rec lines. rw lines refl),
  answers true 0xE8 6 (omega arith) (λ mem rec lines. rw lines refl),
  answers false 0xCF 0 (omega arith) (λ mem rec lines. rw lines refl),
  answers false 0xD0 6 (omega arith) (λ mem rec lines. rw lines refl),
)

pub p9 : P9
unfolding bad_transfer narrow second_half completed executed decoded bit crossed
p9 rec mem wait w =
    taken_narrow rec mem (InstructionWrite 0) 0 0x30 wait w refl
    ∙ ap (λ (r : Record). done (long_time rec.frequency) Keep (homed (with_half Empty r))) (sym (waited_over wait rec w.over))

-- a stored byte is there
stored : (mem : List ℕ) (rec : Record) (byte : ℕ) → length mem ≡ 144 → sound rec ≡ true → get_or (set mem (place_of rec.counter) byte) (place_of rec.counter) 0 ≡ byte
stored mem rec byte long s =
    get_or-set_same mem (place_of rec.counter) byte 0 (omega (arith, place_below rec.counter (sound_counter rec s)))

pub p10 : P10
unfolding bad_transfer narrow second_half completed written crossed performed
p10 rec mem wait w =
    let d : decided rec mem 0 0x30 wait ≡ narrow mem 0 0x30 (DataWrite 4) (busy_over rec) = taken_narrow rec mem (DataWrite 4) 0 0x30 wait w refl in (
      ap (λ (x : Decision). number_of x.answer) d,
      ap (λ (x : Decision). get_or (performed x.effect mem) (place_of rec.counter) 0) d ∙ stored mem rec 0x43 w.whole w.sound,
    )

-- the first of P8's halves, and the controller that it leaves
p8_first : (rec : Record) (mem : List ℕ) (wait : ℕ) → Waits rec mem false Empty wait
    → decided rec mem 1 0x40 wait ≡ first_told 0 (DataWrite 4) (busy_over rec)
unfolding bad_transfer narrow begun first_half
p8_first rec mem wait w = taken_narrow rec mem Empty 1 0x40 wait w refl

p8_between : (rec : Record) (mem : List ℕ) (wait later : ℕ) → Waits rec mem false Empty wait
    → Waits (with_half (DataWrite 4) (busy_over rec)) mem false (DataWrite 4) later
p8_between rec mem wait later w =
    record {
      sound =
          sym (ap (λ (d : Decision). sound d.rec) (p8_first rec mem wait w))
          ∙ transfer_keeps_sound rec mem 1 0x40 wait (omega arith) w.sound;
      whole = w.whole;
      width = w.width;
      holds = refl;
      over = zero-le;
    }

-- the second half, from there
p8_second : (rec : Record) (mem : List ℕ) (wait later : ℕ) → Waits rec mem false Empty wait
    → decided (with_half (DataWrite 4) (busy_over rec)) mem 1 0x10 later
    ≡ narrow mem 1 0x10 (DataWrite 4) (busy_over (with_half (DataWrite 4) (busy_over rec)))
unfolding bad_transfer
p8_second rec mem wait later w = taken_narrow _ mem (DataWrite 4) 1 0x10 later (p8_between rec mem wait later w) refl

pub p8 : P8
unfolding narrow second_half completed written crossed performed ran
p8 rec mem wait later w =
    let s : State = record { rec = rec; mem = mem } in
    let first = p8_first rec mem wait w in
    let second = p8_second rec mem wait later w in (
      ap (λ (d : Decision). number_of d.answer) first,
      ap (λ (d : Decision). number_of (decided_of (after s d) (data_write 0x10 later)).answer) first ∙ ap (λ (d : Decision). number_of d.answer) second,
      ap (λ (d : Decision). get_or (after (after s d) (decided_of (after s d) (data_write 0x10 later))).mem (place_of rec.counter) 0) first
          ∙ ap (λ (d : Decision). get_or (performed d.effect mem) (place_of rec.counter) 0) second
          ∙ stored mem rec 0x41 w.whole w.sound,
    )

-- what a transfer comes to once the memory is known to be whole
openly : Record → List ℕ → ℕ → ℕ → ℕ → Decision
openly rec mem kind byte wait =
    cond (not (sound rec)) (refused Unsound rec) (cond (bad_transfer kind byte) (refused BadTransfer rec) (ordered mem kind byte rec (waited wait rec)))

opened : (rec : Record) (mem : List ℕ) (kind byte wait : ℕ) → length mem ≡ 144 → decided rec mem kind byte wait ≡ openly rec mem kind byte wait
unfolding decided openly whole
opened rec mem kind byte wait long = simp (eq-eqb (length mem) 144 long)

-- what is told of transfers to a memory that is known to be whole
open_heard : State → List Sent → List Heard
open_heard s [] = []
open_heard s (t ∷ ts) =
    let d = openly s.rec s.mem t.kind t.byte t.wait in
    told_of d ∷ open_heard (after s d) ts

heard_open : (s : State) (ts : List Sent) → length s.mem ≡ 144 → heard s ts ≡ open_heard s ts
unfolding heard open_heard
heard_open s [] long = refl
heard_open s (t ∷ ts) long =
    let d = openly s.rec s.mem t.kind t.byte t.wait in
    ap (λ (x : Decision). told_of x ∷ heard (after s x) ts) (opened s.rec s.mem t.kind t.byte t.wait long)
    ∙ ap (λ (l : List Heard). told_of d ∷ l) (heard_open (after s d) ts (performed_length d.effect s.mem long))

pub p11 : P11
unfolding open_heard openly ordered waited sound half_sound on_cell reset_record reset_time bad_transfer must_wait accepted begun completed status_of address_of add_of_cell executed decoded bit written carried stepped wrapped place_of read_out short_time time_at in_range fitted performed
p11 rec mem long older-one =
    ap (λ (s : State). heard s sent_in11) (reset_state rec mem long ∙ ap (λ (r : Record). record { rec = r; mem = blanked mem }) (reset_at rec.frequency older-one))
    ∙ heard_open _ sent_in11 (blanked_length mem long)
