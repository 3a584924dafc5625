-- What is proved of the definitions beside demand 3: each theorem is a type here, and its proof stands in proofs/Theorems.
-- Assumes nothing.
use Rattle.std.specs.Prelude.{true, false, cond, List, [], ◌∷◌, map, ◌⊎◌, ◌↔◌, ◌≡◌, ℕ, zero, suc, ◌≤◌, ◌<◌, length, get_or, take}
use Rattle.std.specs.Prelude.{drop, replicate, Result}
use Rattle.controller.specs.Answers.{number_of, Row, Tells}
use Rattle.controller.specs.Record.{sound}
use Rattle.controller.specs.Oscillator.{newer, older}
use Rattle.controller.specs.Rows.{NotLong, OutOfRange}
use Rattle.controller.specs.declared.sent.Sent.{Sent}
use Rattle.controller.specs.Runs.{State, heard, ran}
use Rattle.controller.specs.declared.answers.Answer.{Answer}
use Rattle.controller.specs.declared.answers.Answer.TheVariants.{Done}
use Rattle.planner.specs.declared.wish.Wish.{Wish}
use Rattle.planner.specs.Call.{Planned, reply_to, Plans, Returns}
use Rattle.planner.specs.Demand.{Asked, Bytes, NoneBusy, Serves, at_frequency, excepted}
use Rattle.controller.specs.Sent.{sent_at}
use Rattle.planner.specs.Plan.{single, plan_of}
use Rattle.planner.specs.Wish.{is_wish}

-- Some mark is above 1.
unfoldable pub MarkAbove : List ℕ → Type 0
MarkAbove [] = ⊥
MarkAbove (mark ∷ marks) = (1 < mark) ⊎ MarkAbove marks

-- Row 13: N=F=1, a shift of L or more, which is 40 with N=1 and else 80, a cursor of 80 or more, a frequency out of range, or a
-- mark above 1.
abbrev pub NotWished : Wish → List ℕ → Type 0
NotWished wish marks =
    ((wish.function.n ≡ true) × (wish.function.f ≡ true))
    ⊎ ((cond wish.function.n 40 80 ≤ wish.shift)
    ⊎ ((80 ≤ wish.cursor) ⊎ (OutOfRange wish.frequency ⊎ MarkAbove marks)))

-- The rows of plan in their order.
unfoldable pub plan_rows : Type 0 → List ℕ → List ℕ → List ℕ → List Row
plan_rows notWished marks values out =
    record { number = 2; applies = NotLong marks ⊎ NotLong values }
    ∷ record { number = 13; applies = notWished }
    ∷ record { number = 11; applies = length out < 2808 }
    ∷ []

-- Each number is given exactly where its row applies and none before it in the order.
abbrev pub PlanAnswers : Type 0
PlanAnswers =
    (wish : Wish) (marks values out : List ℕ)
    → Tells (number_of (reply_to wish marks values out).answer) (plan_rows (NotWished wish marks) marks values out)

-- What is not a wish is closed: these, and nothing else.
abbrev pub NotWishes : Type 0
NotWishes = (wish : Wish) (marks : List ℕ) → (is_wish wish marks ≡ false) ↔ NotWished wish marks

-- A refused call plans nothing and leaves the buffer as found.
abbrev pub PlanRefusals : Type 0
PlanRefusals =
    (wish : Wish) (marks values out : List ℕ) (returned : Planned) (after : List ℕ)
    → Plans (reply_to wish marks values out) out returned after
    → (number_of returned.answer ≡ 0 → ⊥) → (returned.count ≡ 0) × (after ≡ out)

-- No second answer fits: two results that both meet the promise of `plan` are one, and so are the buffers; and so it is of a
-- reply in full.
pub record OnePlan : Type 0 where
  pub result :
      (wish : Wish) (marks values out : List ℕ) (a b : Result ℕ Answer) (x y : List ℕ)
      → Returns (reply_to wish marks values out) out a x → Returns (reply_to wish marks values out) out b y → (a ≡ b) × (x ≡ y)
  pub reply :
      (wish : Wish) (marks values out : List ℕ) (a b : Planned) (x y : List ℕ)
      → Plans (reply_to wish marks values out) out a x → Plans (reply_to wish marks values out) out b y → (a ≡ b) × (x ≡ y)

-- At most 468 records.
abbrev pub AtMost468 : Type 0
AtMost468 = (wish : Wish) (marks values : List ℕ) → is_wish wish marks ≡ true → length (plan_of wish marks values) ≤ 468

-- The wish of P12: N=D=I/D=1, all else 0, for 250 kHz.
abbrev pub plain_wish : Wish
plain_wish =
    record {
      function = record { n = true; f = false };
      control = record { d = true; c = false; b = false };
      entry = record { id = true; s = false };
      shift = 0;
      cursor = 0;
      frequency = older;
    }

-- A list of 144, all this.
abbrev pub all : ℕ → List ℕ
all byte = replicate 144 byte

-- A wish that reaches 468: N=0, shift 79, every cell marked.
abbrev pub full_wish : Wish
full_wish =
    record {
      function = record { n = false; f = false };
      control = record { d = true; c = false; b = false };
      entry = record { id = true; s = false };
      shift = 79;
      cursor = 0;
      frequency = older;
    }

-- It is a wish, and its plan has 468 records.
abbrev pub Reaches468 : Type 0
Reaches468 = (is_wish full_wish (all 1) ≡ true) × (length (plan_of full_wish (all 1) (all 0)) ≡ 468)

-- P12: 18 records, with these instruction bytes and waits.
abbrev pub P12 : Type 0
P12 =
    (values : List ℕ)
    → plan_of plain_wish (all 0) values
    ≡ single 0x30 15000 ∷ single 0x30 4100 ∷ single 0x30 100 ∷ single 0x20 100 ∷ single 0x20 100 ∷ single 0x80 1
    ∷ single 0x00 40 ∷ single 0x80 1 ∷ single 0x00 40 ∷ single 0x60 1 ∷ single 0x00 40 ∷ single 0x20 1
    ∷ single 0x00 1640 ∷ single 0x60 1 ∷ single 0x80 40 ∷ single 0x00 1 ∷ single 0x00 40 ∷ single 0xC0 1 ∷ []

-- The same wish for a newer module: 40 is 38 there and 1,640 is 1,519, and the other waits are as they were.
abbrev pub PlanAt270 : Type 0
PlanAt270 =
    (values : List ℕ)
    → plan_of (at_frequency newer plain_wish) (all 0) values
    ≡ single 0x30 15000 ∷ single 0x30 4100 ∷ single 0x30 100 ∷ single 0x20 100 ∷ single 0x20 100 ∷ single 0x80 1
    ∷ single 0x00 38 ∷ single 0x80 1 ∷ single 0x00 38 ∷ single 0x60 1 ∷ single 0x00 38 ∷ single 0x20 1
    ∷ single 0x00 1519 ∷ single 0x60 1 ∷ single 0x80 38 ∷ single 0x00 1 ∷ single 0x00 38 ∷ single 0xC0 1 ∷ []

-- The opening is the same for every wish, its waits and the 100 after them too.
abbrev pub OpeningStays : Type 0
OpeningStays =
    (wish : Wish) (marks values : List ℕ)
    → map (λ (t : Sent). t.wait) (take 5 (plan_of wish marks values)) ≡ 15000 ∷ 4100 ∷ 100 ∷ 100 ∷ 100 ∷ []

-- The premise of demand 3 is needed: on a controller at 190 kHz a transfer of the plan for 350 is refused as busy.
abbrev pub PremiseNeeded : Type 0
PremiseNeeded =
    (wish : Wish) × (start : State) × Asked wish (all 0) (all 0) start × (wish.frequency.khz ≡ 350)
    × (start.rec.frequency.khz ≡ 190) × (NoneBusy (heard start (plan_of wish (all 0) (all 0))) → ⊥)

-- The exception of demand 3 is needed: a data write half sent before, and the plan that names no cell alters its cell.
abbrev pub ExceptionNeeded : Type 0
ExceptionNeeded =
    (start : State) × (sound start.rec ≡ true) × (length start.mem ≡ 144) × (excepted start.rec 0 ≡ true)
    × (get_or start.mem 0 0 ≡ 0x20) × (get_or (ran start (plan_of plain_wish (all 0) (all 0))).mem 0 0 ≡ 0x43)

-- The first records of a buffer, read as transfers.
unfoldable pub read_back : ℕ → List ℕ → List Sent
read_back zero bytes = []
read_back (suc count) bytes = sent_at bytes ∷ read_back count (drop 6 bytes)

-- What the buffer holds after an accepted call, read back as transfers, is the plan of demand 3.
abbrev pub BoardSendsPlan : Type 0
BoardSendsPlan =
    (wish : Wish) (marks values out : List ℕ) (returned : Planned) (after : List ℕ)
    → Plans (reply_to wish marks values out) out returned after → returned.answer ≡ Done
    → (is_wish wish marks ≡ true) × (read_back returned.count after ≡ plan_of wish marks values)

-- Demand 3, from an accepted call to the panel: what a board reads back from the buffer, begun as often as you like and then sent
-- whole, leaves the panel as wished.
abbrev pub PlannedRuns : Type 0
PlannedRuns =
    (wish : Wish) (marks values out : List ℕ) (returned : Planned) (after : List ℕ)
    → Plans (reply_to wish marks values out) out returned after → returned.answer ≡ Done → Bytes marks values
    → (start : State) → sound start.rec ≡ true → length start.mem ≡ 144 → start.rec.frequency ≡ wish.frequency
    → Serves (read_back returned.count after) wish marks values start
