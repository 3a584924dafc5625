-- Laws of a session: its rows one by one, how it leaves the bench, and what it starts from.
-- Assumes nothing.
use mathlib.Core.Bool.{true, false}
use mathlib.Core.List.{List, [], ◌++◌, append_assoc}
use mathlib.Core.Path.{◌≡◌, refl, ap}
use Prim.Native.Nat.{ℕ, suc, ◌+◌, ◌<◌}
use native.Mathlib.Omega.{arith}
use native.Mathlib.Nat.{add-zero}
use lib.Dec.{eqb}
use lib.ListN.{length, replicate, length-append}
use Rattle.controller.specs.declared.answers.Answer.{Answer}
use Rattle.controller.specs.declared.answers.Answer.TheVariants.{Done}
use Rattle.controller.specs.Answers.{is_done, is_refusal, number_of}
use Rattle.controller.specs.declared.sent.Sent.{Sent}
use Rattle.controller.specs.Runs.{State, decided_of, after, told_of, heard, ran}
use Rattle.controller.proofs.Laws.Answers.{done_is}
use Rattle.controller.specs.declared.decision.Outcome.{Outcome}
use Rattle.controller.specs.declared.oscillator.Frequency.{Frequency}
use Rattle.controller.specs.declared.«record».Record.{Record}
use Rattle.controller.specs.Bus.{whole, reset_decided, Performs}
use Rattle.controller.specs.Decision.{performed, blanked}
use Rattle.controller.specs.Oscillator.{fitted}
use Rattle.controller.specs.Record.{sound, reset_record}
use Rattle.controller.proofs.Laws.Oscillator.{fitted_in, fitted_within}
use Rattle.controller.proofs.Theorems.Sound.{reset_sound, transfer_keeps_sound}
use Rattle.lines.specs.Line.{line, lines_of}
use Rattle.lines.specs.Reading.{sent_of, line_of}
use Rattle.lines.specs.ReportText.{header, row}
use Rattle.lines.specs.Session.{Session, ended_by, following}
use Rattle.lines.proofs.Laws.Digits.{either}
use Rattle.lines.proofs.Theorems.Read.{read_is_sayable}
use Rattle.player.specs.declared.tally.Tally.{Tally}
use Rattle.player.specs.Standing.{answers_to, counting, counting_all, leaving, stood}
use Rattle.player.specs.Report.{row_at, rows_from, last_row, rows_of, start}

-- a line that stands keeps the record sound
pub sent_sound : (state : State) (text : List ℕ) → is_done (line_of text).answer ≡ true → sound state.rec ≡ true
    → sound (decided_of state (sent_of (line_of text))).rec ≡ true
sent_sound state text good is =
    transfer_keeps_sound state.rec state.mem (line_of text).kind (line_of text).byte (line_of text).wait
    (read_is_sayable text (done_is (line_of text).answer good)).0.is_byte is

pub rows_none : (number : ℕ) (state : State) → rows_of number state (ended_by Done) ≡ []
unfolding rows_of rows_from heard last_row
rows_none number state = refl

pub rows_last : (number : ℕ) (state : State) (answer : Answer) → is_done answer ≡ false
    → rows_of number state (ended_by answer) ≡ row number (number_of answer) 0 state.rec.busy
unfolding rows_of rows_from heard ran last_row
rows_last number state answer e = simp (e, add-zero)

pub rows_more : (number : ℕ) (state : State) (t : Sent) (s : Session)
    → rows_of number state (following t s)
    ≡ row_at number (told_of (decided_of state t)) ++ rows_of (number + 1) (after state (decided_of state t)) s
unfolding rows_of rows_from heard ran
rows_more number state t s =
    let next : number + suc (length s.sent) ≡ number + 1 + length s.sent = omega arith in
    simp (next, append_assoc)

-- no transfer leaves the controller as it is
pub leaving_last : (number from : ℕ) (before : Tally) (state : State) (answer : Answer)
    → leaving number from before state (ended_by answer) ≡ stood answer number from state before
unfolding leaving ran answers_to counting_all lines_of
leaving_last number from before state answer = simp add-zero

-- one transfer more is one number and its line's bytes more, and a refusal more where it is refused
pub leaving_more : (number from : ℕ) (before : Tally) (state : State) (t : Sent) (s : Session)
    → leaving number from before state (following t s)
    ≡ leaving (number + 1) (from + length (line t.kind t.byte t.wait)) (counting before number (decided_of state t).answer)
    (after state (decided_of state t)) s
unfolding leaving ran answers_to counting_all lines_of
leaving_more number from before state t s =
    let next : number + suc (length s.sent) ≡ number + 1 + length s.sent = omega arith in
    let own = line t.kind t.byte t.wait in
    let further : from + length (own ++ lines_of s.sent) ≡ from + length own + length (lines_of s.sent) =
    omega (arith, length-append own (lines_of s.sent)) in
    simp (next, further)

-- there are fewer refusals than the next line's number
pub counting_below : (tally : Tally) (line : ℕ) (answer : Answer) → tally.count < line → (counting tally line answer).count < line + 1
unfolding counting
counting_below tally line answer few =
    either (is_refusal answer)
    (λ refused. either (eqb tally.count 0) (λ e. simp (refused, e) (omega arith)) (λ e. simp (refused, e) (omega arith)))
    (λ taken. simp taken (omega arith))

-- what a session starts from is sound
pub start_sound : (frequency : Frequency) → sound (start frequency).rec ≡ true
start_sound frequency = reset_sound frequency

-- and a reset of 144 zeros makes it
pub reset_starts : (frequency : Frequency) (rec : Record) {told : Outcome} {mem : List ℕ} → rec ≡ reset_record frequency
    → Performs (reset_decided rec (replicate 144 0)) (replicate 144 0) told mem → record { rec = told.rec; mem = mem } ≡ start frequency
unfolding reset_decided whole performed blanked reset_record
reset_starts frequency rec {told} {mem} is meets =
    simp (meets.told, meets.memory, ap (λ (r : Record). r.frequency) is, fitted_in (fitted frequency) (fitted_within frequency))

pub header_length : length header ≡ 20
unfolding header
header_length = refl
