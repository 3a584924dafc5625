-- Demand 3, clause by clause: any accepted wish, any sound controller, cut runs as often as you like and a whole one.
-- Assumes nothing.
use Rattle.std.specs.Prelude.{Bool, true, false, ◌&&◌, List, [], ◌∷◌, ◌++◌, ◌≡◌, ℕ, ◌≤◌, ◌<◌, eqb, length, get_or}
use Rattle.controller.specs.Cells.{place_of}
use Rattle.controller.specs.Execute.{short_time}
use Rattle.controller.specs.Record.{sound}
use Rattle.controller.specs.declared.oscillator.Frequency.{Frequency}
use Rattle.controller.specs.declared.sent.Sent.{Sent}
use Rattle.controller.specs.Runs.{State, Heard, ran, heard}
use Rattle.controller.specs.declared.cells.Counter.TheVariants.{Display}
use Rattle.controller.specs.declared.«record».Half.{Half}
use Rattle.controller.specs.declared.«record».Half.TheVariants.{Empty, InstructionWrite, DataWrite, StatusRead, DataRead}
use Rattle.controller.specs.declared.«record».Record.{Record}
use Rattle.planner.specs.declared.wish.Wish.{Wish}
use Rattle.planner.specs.Plan.{plan_of}
use Rattle.planner.specs.Wish.{is_wish, marked}

-- A transfer sent as planned: the same kind and byte, the wait at least as long as asked.
pub record AsAsked (asked sent : Sent) : Type 0 where
  pub kind : sent.kind ≡ asked.kind
  pub byte : sent.byte ≡ asked.byte
  pub wait : asked.wait ≤ sent.wait

-- The run is let finish.
unfoldable pub Whole : List Sent → List Sent → Type 0
Whole [] [] = Unit {0}
Whole [] (t ∷ ts) = ⊥
Whole (asked ∷ plan) [] = ⊥
Whole (asked ∷ plan) (t ∷ ts) = AsAsked asked t × Whole plan ts

-- The run is stopped after any transfer, or before the first.
unfoldable pub Begun : List Sent → List Sent → Type 0
Begun [] [] = Unit {0}
Begun [] (t ∷ ts) = ⊥
Begun (asked ∷ plan) [] = Unit {0}
Begun (asked ∷ plan) (t ∷ ts) = AsAsked asked t × Begun plan ts

-- The same plan is begun as often as you like.
unfoldable pub EachBegun : List Sent → List (List Sent) → Type 0
EachBegun plan [] = Unit {0}
EachBegun plan (run ∷ runs) = Begun plan run × EachBegun plan runs

-- Nothing is sent between the runs.
unfoldable pub joined : List (List Sent) → List Sent → List Sent
joined [] last = last
joined (run ∷ runs) last = run ++ joined runs last

-- A data write is half sent and still waiting.
unfoldable pub half_write : Half → Bool
half_write Empty = false
half_write (InstructionWrite high) = false
half_write (DataWrite high) = true
half_write (StatusRead taken) = false
half_write (DataRead taken) = false

-- The cell that it was meant for is excepted.
unfoldable pub excepted : Record → ℕ → Bool
excepted rec place = half_write rec.half && eqb place (place_of rec.counter)

-- The record that stands as wished: every field of it.
abbrev pub wished_record : Wish → List ℕ → Record
wished_record wish mem =
    record {
      wide = false;
      function = wish.function;
      control = wish.control;
      entry = wish.entry;
      shift = wish.shift;
      counter = Display wish.cursor;
      reg = get_or mem wish.cursor 0;
      fresh = true;
      busy = short_time wish.frequency;
      frequency = wish.frequency;
      half = Empty;
    }

-- The panel stands as wished: its record, and each cell that the wish names.
pub record Stands (wish : Wish) (marks values : List ℕ) (s : State) : Type 0 where
  pub rec : s.rec ≡ wished_record wish s.mem
  pub cells : (place : ℕ) → place < 144 → marked marks place ≡ true → get_or s.mem place 0 ≡ get_or values place 0

-- No transfer was refused as busy.
unfoldable pub NoneBusy : List Heard → Type 0
NoneBusy [] = Unit {0}
NoneBusy (told ∷ more) = (told.answer ≡ 4 → ⊥) × NoneBusy more

-- Every cell the wish does not name holds what it held before the first run, save the excepted one.
abbrev pub Spared : List ℕ → State → List ℕ → Type 0
Spared marks start mem =
    (place : ℕ) → place < 144 → marked marks place ≡ false → excepted start.rec place ≡ false
    → get_or mem place 0 ≡ get_or start.mem place 0

-- The value of each cell that the wish names is a byte; the others are not read.
abbrev pub Bytes : List ℕ → List ℕ → Type 0
Bytes marks values = (place : ℕ) → marked marks place ≡ true → get_or values place 0 < 256

-- What a plan does for a wish on this controller: begun as often as you like and then let finish, it leaves the panel as wished.
abbrev pub Serves : List Sent → Wish → List ℕ → List ℕ → State → Type 0
Serves plan wish marks values start =
    (cut : List (List Sent)) (last : List Sent) → EachBegun plan cut → Whole plan last
    → Stands wish marks values (ran start (joined cut last))
    × NoneBusy (heard start (joined cut last))
    × Spared marks start (ran start (joined cut last)).mem

-- What demand 3 asks of the wish and of the controller: the wish is accepted, with bytes for values, and the controller is sound,
-- with its memory whole.
pub record Asked (wish : Wish) (marks values : List ℕ) (start : State) : Type 0 where
  pub accepted : is_wish wish marks ≡ true
  pub bytes : Bytes marks values
  pub sound : sound start.rec ≡ true
  pub whole : length start.mem ≡ 144

-- Demand 3: the wish's frequency is the record's.
abbrev pub CutRuns : Type 0
CutRuns =
    (wish : Wish) (marks values : List ℕ) (start : State) → Asked wish marks values start
    → start.rec.frequency ≡ wish.frequency → Serves (plan_of wish marks values) wish marks values start

-- The same wish for a module of this frequency.
abbrev pub at_frequency : Frequency → Wish → Wish
at_frequency frequency wish =
    record {
      function = wish.function;
      control = wish.control;
      entry = wish.entry;
      shift = wish.shift;
      cursor = wish.cursor;
      frequency = frequency;
    }

-- A plan for a frequency that is not above the controller's serves too: the panel stands as wished, at the controller's
-- frequency.
abbrev pub SlowerServes : Type 0
SlowerServes =
    (wish : Wish) (marks values : List ℕ) (start : State) → Asked wish marks values start
    → wish.frequency.khz ≤ start.rec.frequency.khz
    → Serves (plan_of wish marks values) (at_frequency start.rec.frequency wish) marks values start

-- So the plan for the lowest frequency, 190 kHz, serves on every module.
abbrev pub LowestServes : Type 0
LowestServes =
    (wish : Wish) (marks values : List ℕ) (start : State) → Asked wish marks values start → wish.frequency.khz ≡ 190
    → Serves (plan_of wish marks values) (at_frequency start.rec.frequency wish) marks values start
