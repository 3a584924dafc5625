-- A text leaves one standing, with a sound record and a memory of 144 bytes: reset makes both, and every line keeps them.
-- Assumes nothing.
use mathlib.Core.Bool.{true}
use mathlib.Core.List.{List, [], ◌∷◌}
use mathlib.Core.Path.{◌≡◌, refl, sym, ◌∙◌}
use Prim.Native.Nat.{ℕ, zero, suc, ◌<◌}
use native.Mathlib.Omega.{arith}
use lib.ListN.{length, drop}
use Rattle.controller.specs.declared.sent.Sent.{Sent}
use Rattle.controller.specs.Record.{reset_record, sound}
use Rattle.controller.specs.Runs.{State, decided_of, after, ran}
use Rattle.controller.proofs.Laws.Memory.{performed_length}
use Rattle.controller.proofs.Laws.Oscillator.{fitted_in}
use Rattle.controller.proofs.Theorems.Times.{transfer_keeps_frequency}
use Rattle.controller.specs.Answers.{is_done}
use Rattle.lines.specs.Reading.{sent_of, line_of}
use Rattle.lines.specs.Session.{read_up_to}
use Rattle.lines.proofs.Laws.Digits.{either}
use Rattle.lines.proofs.Laws.Session.{read_none, read_enough, read_more, read_bad}
use Rattle.player.specs.Report.{start}
use Rattle.player.specs.Standing.{leaving, standing}
use Rattle.player.specs.Theorems.{FrequencyStays, OneStanding, StandingTold}
use Rattle.player.proofs.Laws.Session.{sent_sound, start_sound}

-- a controller with a sound record and a whole memory
abbrev Good : State → Type 0
Good state = (sound state.rec ≡ true) × (length state.mem ≡ 144)

stays_good : (most : ℕ) (state : State) (text : List ℕ) → Good state → Good (ran state (read_up_to most text).sent)
unfolding ran
stays_good zero state text is = rw (read_enough text) is
stays_good (suc k) state [] is = rw (read_none (suc k)) is
stays_good (suc k) state (byte ∷ rest) is =
    let text = byte ∷ rest in
    let some : 0 < length text = omega arith in
    either (is_done (line_of text).answer)
    (λ good.
    let l = line_of text in
    let d = decided_of state (sent_of l) in
    rw (read_more k text some good)
    (stays_good k (after state d) (drop l.length text)
    (sent_sound state text good is.0, performed_length d.effect state.mem is.1)))
    (λ bad. rw (read_bad k text some bad) is)

pub standing_told : StandingTold
unfolding standing leaving
standing_told frequency text most = stays_good most (start frequency) text (start_sound frequency, refl)

-- no run of transfers alters the frequency
ran_keeps : (state : State) (ts : List Sent) → (ran state ts).rec.frequency ≡ state.rec.frequency
unfolding ran
ran_keeps state [] = refl
ran_keeps state (t ∷ ts) =
    ran_keeps (after state (decided_of state t)) ts ∙ transfer_keeps_frequency state.rec state.mem t.kind t.byte t.wait

pub frequency_stays : FrequencyStays
unfolding standing leaving reset_record
frequency_stays frequency text most is = ran_keeps (start frequency) (read_up_to most text).sent ∙ fitted_in frequency is

pub one_standing : OneStanding
one_standing frequency text most a b is also = is ∙ sym also
