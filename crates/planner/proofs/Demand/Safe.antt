-- What holds between any two transfers, and a list of transfers that is safe to send: whatever longer waits are taken, no
-- transfer is answered 4 and that holds after each.
-- Assumes nothing.
use mathlib.Core.Bool.{true, false}
use mathlib.Core.List.{List, [], ◌∷◌, ◌++◌}
use mathlib.Core.Logic.{◌⊎◌}
use mathlib.Core.Path.{◌≡◌, refl}
use Prim.Native.Nat.{ℕ, ◌+◌, ◌*◌, ◌<◌, ◌≤◌}
use lib.ListN.{length, get_or}
use Rattle.controller.specs.Cells.{place_of}
use Rattle.controller.specs.Execute.{short_time, long_time}
use Rattle.controller.specs.Halves.{high_half}
use Rattle.controller.specs.Record.{sound}
use Rattle.controller.specs.declared.sent.Sent.{Sent}
use Rattle.controller.specs.Runs.{State, decided_of, after, told_of, ran, heard}
use Rattle.controller.specs.declared.«record».Half.TheVariants.{DataWrite}
use Rattle.planner.specs.declared.pen.Times.{Times}
use Rattle.planner.specs.Demand.{AsAsked, Whole, Begun, EachBegun, joined, excepted, NoneBusy, Bytes}
use Rattle.planner.specs.Wish.{marked}

-- what is fixed before the first run: the controller as found, the times that the plan goes by, which are enough for it, the marks,
-- and the values, bytes where they are marked
pub record Scene : Type 0 where
  pub start : State
  pub times : Times
  pub short : short_time start.rec.frequency ≤ times.short
  pub long : long_time start.rec.frequency ≤ times.long
  pub marks : List ℕ
  pub values : List ℕ
  pub bytes : Bytes marks values

-- on the way a cell may hold its first byte, and if marked its wished byte or the wished high half with 3h
abbrev pub Holds : Scene → ℕ → ℕ → Type 0
Holds k place byte =
    (byte ≡ get_or k.start.mem place 0)
    ⊎ ((marked k.marks place ≡ true) × ((byte ≡ get_or k.values place 0) ⊎ (byte ≡ high_half (get_or k.values place 0) + 3)))

-- between any two transfers: a sound record of the same frequency, a whole memory, each cell that is not excepted with a byte that it may hold,
-- and a waiting data write that 3h would complete to such a byte
pub record Inv (k : Scene) (s : State) : Type 0 where
  pub sound : sound s.rec ≡ true
  pub frequency : s.rec.frequency ≡ k.start.rec.frequency
  pub whole : length s.mem ≡ 144
  pub cells : (place : ℕ) → place < 144 → excepted k.start.rec place ≡ false → Holds k place (get_or s.mem place 0)
  pub half : (high : ℕ) → s.rec.half ≡ DataWrite high → excepted k.start.rec (place_of s.rec.counter) ≡ false
      → Holds k (place_of s.rec.counter) (high * 16 + 3)

-- the plan's times are enough at each of them
pub short_enough : (k : Scene) (s : State) → Inv k s → short_time s.rec.frequency ≤ k.times.short
short_enough k s inv = rw inv.frequency k.short

pub long_enough : (k : Scene) (s : State) → Inv k s → long_time s.rec.frequency ≤ k.times.long
long_enough k s inv = rw inv.frequency k.long

-- the answer is not 4, and the invariant holds afterwards
pub record Fine (k : Scene) (s : State) (t : Sent) : Type 0 where
  pub free : (told_of (decided_of s t)).answer ≡ 4 → ⊥
  pub inv : Inv k (after s (decided_of s t))

-- these transfers may be sent from here, each waiting at least as long as asked, and then Q holds
pub Safe : Scene → (State → Type 0) → State → List Sent → Type 0
Safe k Q s [] = Q s
Safe k Q s (asked ∷ plan) = (t : Sent) → AsAsked asked t → Fine k s t × Safe k Q (after s (decided_of s t)) plan

pub safe_end : (k : Scene) (Q : State → Type 0) (s : State) → Q s → Safe k Q s []
unfolding Safe
safe_end k Q s q = q

pub safe_more : (k : Scene) (Q : State → Type 0) (s : State) (asked : Sent) (plan : List Sent)
    → ((t : Sent) → AsAsked asked t → Fine k s t × Safe k Q (after s (decided_of s t)) plan) → Safe k Q s (asked ∷ plan)
unfolding Safe
safe_more k Q s asked plan step = step

-- a run that is let finish
pub whole_run : (k : Scene) (Q : State → Type 0) (plan ts : List Sent) (s : State) → Safe k Q s plan → Whole plan ts
    → Q (ran s ts) × NoneBusy (heard s ts)
unfolding Safe Whole ran heard NoneBusy
whole_run k Q [] [] s safe w = (safe, tt)
whole_run k Q [] (t ∷ ts) s safe w = absurd w
whole_run k Q (asked ∷ plan) [] s safe w = absurd w
whole_run k Q (asked ∷ plan) (t ∷ ts) s safe w =
    let one = safe t w.0 in
    let rest = whole_run k Q plan ts (after s (decided_of s t)) one.1 w.1 in
    (rest.0, (one.0.free, rest.1))

-- a run that is stopped anywhere
pub cut_run : (k : Scene) (Q : State → Type 0) (plan ts : List Sent) (s : State) → Inv k s → Safe k Q s plan → Begun plan ts
    → Inv k (ran s ts) × NoneBusy (heard s ts)
unfolding Safe Begun ran heard NoneBusy
cut_run k Q [] [] s inv safe b = (inv, tt)
cut_run k Q [] (t ∷ ts) s inv safe b = absurd b
cut_run k Q (asked ∷ plan) [] s inv safe b = (inv, tt)
cut_run k Q (asked ∷ plan) (t ∷ ts) s inv safe b =
    let one = safe t b.0 in
    let rest = cut_run k Q plan ts (after s (decided_of s t)) one.0.inv one.1 b.1 in
    (rest.0, (one.0.free, rest.1))

-- one run after another
pub ran_append : (s : State) (a b : List Sent) → ran s (a ++ b) ≡ ran (ran s a) b
unfolding ran
ran_append s [] b = refl
ran_append s (t ∷ a) b = ran_append (after s (decided_of s t)) a b

pub free_append : (s : State) (a b : List Sent) → NoneBusy (heard s a) → NoneBusy (heard (ran s a) b) → NoneBusy (heard s (a ++ b))
unfolding ran heard NoneBusy
free_append s [] b first second = second
free_append s (t ∷ a) b first second = (first.0, free_append (after s (decided_of s t)) a b first.1 second)

-- any number of cut runs and a whole one: it is enough that the plan is safe from every state of the invariant
pub all_runs : (k : Scene) (Q : State → Type 0) (plan : List Sent) → ((s : State) → Inv k s → Safe k Q s plan)
    → (cut : List (List Sent)) (last : List Sent) (s : State) → Inv k s → EachBegun plan cut → Whole plan last
    → Q (ran s (joined cut last)) × NoneBusy (heard s (joined cut last))
unfolding EachBegun joined
all_runs k Q plan safe [] last s inv b w = whole_run k Q plan last s (safe s inv) w
all_runs k Q plan safe (run ∷ runs) last s inv b w =
    let one = cut_run k Q plan run s inv (safe s inv) b.0 in
    let rest = all_runs k Q plan safe runs last (ran s run) one.0 b.1 w in
    (rw ran_append rest.0, free_append s run (joined runs last) one.1 rest.1)
