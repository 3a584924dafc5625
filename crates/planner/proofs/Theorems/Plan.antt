-- The theorems of the plan: its length, P12, the exception, and the bytes read back.
-- Assumes nothing.
use mathlib.Core.Bool.{true, false, not, ◌&&◌}
use mathlib.Core.List.{List, [], ◌∷◌, ◌++◌}
use mathlib.Core.Path.{◌≡◌, refl, sym, ap, subst, ◌∙◌}
use Prim.Native.Nat.{ℕ, zero, suc, ◌<◌}
use native.Mathlib.Omega.{arith}
use lib.Dec.{eqb, ltb}
use borrow.Author.Tests.{not-false}
use Rattle.controller.proofs.Laws.Choice.{cond-elim}
use Rattle.controller.proofs.Laws.Completed.{short_bound, long_bound}
use lib.ListN.{length, get_or, drop, replicate}
use Rattle.controller.specs.Bus.{whole, bad_transfer, must_wait, decided, ordered}
use Rattle.controller.specs.Cells.{place_of, byte_under, on_cell, wrapped, stepped, cell_of_add, add_of_cell, address_set, address_of}
use Rattle.controller.specs.Answers.{number_of}
use Rattle.controller.specs.Decision.{performed, blanked}
use Rattle.controller.specs.Execute.{short_time, long_time, cursor_at, addressed, executed, carried, written, read_out, status_of, completed}
use Rattle.controller.specs.Halves.{begun, first_half, crossed, second_half, narrow, accepted}
use Rattle.controller.specs.Instruction.{bit, decoded}
use Rattle.controller.specs.Oscillator.{fitted, in_range, older, time_at}
use Rattle.controller.specs.Record.{reset_time, reset_record, half_sound, sound, waited, busy_over, with_half, with_function}
use Rattle.controller.specs.declared.sent.Sent.{Sent}
use Rattle.controller.specs.Runs.{State, heard, ran}
use Rattle.controller.specs.declared.answers.Answer.{Answer}
use Rattle.controller.specs.declared.answers.Answer.TheVariants.{Done}
use Rattle.controller.specs.declared.oscillator.Frequency.{Frequency}
use Rattle.controller.specs.declared.«record».Half.TheVariants.{DataWrite}
use Rattle.planner.proofs.Demand.Theorem.{cut_runs}
use Rattle.planner.proofs.Laws.Count.{plan_bound}
use Rattle.planner.specs.declared.wish.Wish.{Wish}
use Rattle.planner.specs.Call.{Planned, Reply, wanted, reply_to, laid_out}
use Rattle.planner.specs.Demand.{NoneBusy, Serves, at_frequency, half_write, excepted}
use Rattle.controller.proofs.Laws.Sent.{four_bytes}
use Rattle.planner.specs.Plan.{Command, worth, counter_at, address_byte, cell, cells_below, commands, time_of, times_at, in_halves, plan_of, encoded}
use Rattle.planner.specs.Theorems.{AtMost468, Reaches468, P12, PlanAt270, OpeningStays, PremiseNeeded, ExceptionNeeded, BoardSendsPlan, PlannedRuns, all, plain_wish, read_back}
use Rattle.planner.specs.Wish.{marks_fit, is_wish, marked, follows}

pub at_most_468 : AtMost468
at_most_468 = plan_bound

pub reaches_468 : Reaches468
unfolding is_wish marks_fit worth address_byte counter_at address_set add_of_cell cell cells_below commands time_of in_halves plan_of marked follows short_time long_time time_at fitted in_range
reaches_468 = (refl, refl)

pub p12 : P12
unfolding worth address_byte counter_at address_set add_of_cell cell cells_below commands time_of in_halves plan_of marked follows short_time long_time time_at fitted in_range
p12 values = refl

pub plan_at_270 : PlanAt270
unfolding worth address_byte counter_at address_set add_of_cell cell cells_below commands time_of in_halves plan_of marked follows short_time long_time time_at fitted in_range
plan_at_270 values = refl

pub opening_stays : OpeningStays
unfolding commands in_halves plan_of
opening_stays wish marks values = refl

-- nothing but zeros
zeros : (n place : ℕ) → ◌≡◌ {A = ℕ} (get_or (replicate n 0) place 0) 0
zeros zero place = refl
zeros (suc n) zero = refl
zeros (suc n) (suc place) = zeros n place

-- a controller at 190 kHz after reset, and P12's wish for 350
slow : State
slow = record { rec = reset_record (record { khz = 190 }); mem = all 0x20 }

abbrev fast : Wish
fast = at_frequency (record { khz = 350 }) plain_wish

pub premise_needed : PremiseNeeded
unfolding slow is_wish marks_fit worth address_byte counter_at address_set add_of_cell cell cells_below commands time_of in_halves plan_of marked follows short_time long_time time_at fitted in_range heard NoneBusy decided ordered waited sound half_sound on_cell reset_time reset_record bad_transfer must_wait accepted begun narrow first_half second_half crossed completed executed decoded bit performed blanked whole
premise_needed = (
  fast,
  slow,
  record { accepted = refl; bytes = λ place _. omega (arith, zeros 144 place); sound = refl; whole = refl },
  refl,
  refl,
  λ free. free.1.1.1.1.1.1.0 refl,
)

-- a controller that waits for the second half of a data write to display cell 0
waiting : State
waiting = record { rec = with_half (DataWrite 4) (busy_over (with_function false (record { n = false; f = false }) (reset_record older))); mem = all 0x20 }

pub exception_needed : ExceptionNeeded
unfolding waiting excepted half_write worth address_byte counter_at address_set add_of_cell cell cells_below commands time_of in_halves plan_of marked follows short_time long_time time_at fitted in_range ran decided ordered waited sound half_sound on_cell reset_time reset_record bad_transfer must_wait accepted begun narrow first_half second_half crossed completed executed decoded bit written carried stepped wrapped place_of byte_under read_out status_of address_of cell_of_add addressed cursor_at performed blanked whole
exception_needed = (waiting, refl, refl, refl, refl, refl)

-- every wait fits its four bytes
SmallWaits : List Sent → Type 0
SmallWaits [] = Unit {0}
SmallWaits (t ∷ ts) = (t.wait < 4294967296) × SmallWaits ts

time_small : (frequency : Frequency) (c : Command) → time_of (times_at frequency) c < 4294967296
unfolding time_of
time_small frequency c =
    cond-elim (λ (t : ℕ). t < 4294967296) (eqb c.kind 0 && eqb c.byte 0x02) _ _
    (λ _. omega (arith, long_bound frequency)) (λ _. omega (arith, short_bound frequency))

halves_small : (frequency : Frequency) (before : ℕ) (cs : List Command) → before < 4294967296 → SmallWaits (in_halves (times_at frequency) before cs)
unfolding in_halves SmallWaits
halves_small frequency before [] small = tt
halves_small frequency before (c ∷ cs) small = (small, (omega arith, halves_small frequency (time_of (times_at frequency) c) cs (time_small frequency c)))

plan_small : (wish : Wish) (marks values : List ℕ) → SmallWaits (plan_of wish marks values)
unfolding plan_of SmallWaits
plan_small wish marks values = (omega arith, (omega arith, (omega arith, (omega arith, halves_small wish.frequency 100 (commands wish marks values) (omega arith)))))

-- records read back
read_back_lem : (ts : List Sent) (rest : List ℕ) → SmallWaits ts → read_back (length ts) (encoded ts ++ rest) ≡ ts
unfolding read_back encoded SmallWaits
read_back_lem [] rest small = refl
read_back_lem (t ∷ ts) rest small =
    ap (λ (w : ℕ). record { kind = t.kind; byte = t.byte; wait = w } ∷ read_back (length ts) (encoded ts ++ rest)) (four_bytes t.wait small.0)
    ∙ ap (λ (l : List Sent). t ∷ l) (read_back_lem ts rest small.1)

-- an answer with another number than 0 is not Done
other_done : {A : Type 0} (answer : Answer) → answer ≡ Done → (number_of answer ≡ 0 → ⊥) → A
other_done answer e other = absurd (other (ap number_of e))

-- an accepted call
accepted_reply : (wish : Wish) (marks values out : List ℕ) → (reply_to wish marks values out).answer ≡ Done
    → (is_wish wish marks ≡ true) × ((reply_to wish marks values out).plan ≡ plan_of wish marks values)
unfolding reply_to
accepted_reply wish marks values out =
    let P : Reply → Type 0 = λ r. r.answer ≡ Done → (is_wish wish marks ≡ true) × (r.plan ≡ plan_of wish marks values) in
    cond-elim P (not (whole marks)) _ _ (λ _ e. other_done _ e (λ z. omega arith))
    (λ _. cond-elim P (not (whole values)) _ _ (λ _ e. other_done _ e (λ z. omega arith))
    (λ _. cond-elim P (not (is_wish wish marks)) _ _ (λ _ e. other_done _ e (λ z. omega arith))
    (λ is. cond-elim P (ltb (length out) wanted) _ _ (λ _ e. other_done _ e (λ z. omega arith))
    (λ _ _. (not-false _ is, refl)))))

pub board_sends_plan : BoardSendsPlan
unfolding laid_out
board_sends_plan wish marks values out returned after meets told =
    let reply = reply_to wish marks values out in
    let accepted = accepted_reply wish marks values out (sym (ap (λ (p : Planned). p.answer) meets.told) ∙ told) in
    let plan = plan_of wish marks values in (
      accepted.0,
      ap (λ (n : ℕ). read_back n after) (ap (λ (p : Planned). p.count) meets.told ∙ ap length accepted.1)
          ∙ ap (read_back (length plan)) (meets.buffer ∙ ap (λ (p : List Sent). laid_out p out) accepted.1)
          ∙ read_back_lem plan (drop (length (encoded plan)) out) (plan_small wish marks values),
    )

pub planned_runs : PlannedRuns
planned_runs wish marks values out returned after meets told bytes start s long same =
    let sends = board_sends_plan wish marks values out returned after meets told in
    subst (λ (plan : List Sent). Serves plan wish marks values start) (sym sends.1)
    (cut_runs wish marks values start (record { accepted = sends.0; bytes = bytes; sound = s; whole = long }) same)
