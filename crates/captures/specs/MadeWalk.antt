-- The walk over a session's text that makes its capture: what is made so far. Only the code's own contracts cite these.
-- Assumes nothing.
use Rattle.std.specs.Prelude.{◌≡◌, ℕ, ◌+◌, false, List, [], ◌∷◌, length, Result, Ok, Err}
use Rattle.controller.specs.declared.answers.Answer.{Answer}
use Rattle.controller.specs.declared.answers.Answer.TheVariants.{Done}
use Rattle.controller.specs.Answers.{is_done}
use Rattle.controller.specs.declared.sent.Sent.{Sent}
use Rattle.lines.specs.Session.{session_of}
use Rattle.lines.specs.Text.{put, putting}
use Rattle.captures.specs.Made.{made_header, made_pulse}
use Rattle.captures.specs.Walk.{longer}

-- A buffer of this size takes any pulse: two stamps of at most ten digits, and twelve changes.
abbrev pub pulse_size : ℕ
pulse_size = 60

-- A capture as far as it is made: its length, and the buffer with what fits of it.
pub record Making : Type 0 where
  pub size : ℕ
  pub out : List ℕ

-- Both together.
abbrev pub making : ℕ → List ℕ → Making
making size out = record { size = size; out = out }

-- A text more, put where the capture ends so far.
unfoldable pub adding : Making → List ℕ → Making
adding m text = making (longer m.size (length text)) (putting (put m.size m.out) text).out

-- The pulses of these transfers more, the fall before them at this stamp.
unfoldable pub adding_pulses : Making → ℕ → List Sent → Making
adding_pulses m before [] = m
adding_pulses m before (t ∷ later) = adding_pulses (adding m (made_pulse (before + t.wait) t)) (before + t.wait) later

-- The definitions alone.
abbrev pub begun : List ℕ → Making
begun out = making (length made_header) (putting (put 0 out) made_header).out

-- A session read to its end, and its capture made; or the answer of its bad line.
abbrev pub Captured : List ℕ → List ℕ → Result ℕ Answer → List ℕ → Type 0
Captured session out (Ok size) after =
    ((session_of session).end ≡ Done) × (making size after ≡ adding_pulses (begun out) 1 (session_of session).sent)
Captured session out (Err answer) after = ((session_of session).end ≡ answer) × (is_done answer ≡ false)
