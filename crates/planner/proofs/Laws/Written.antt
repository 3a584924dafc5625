-- Laws of writing: what is written in two goes is what is written in one.
-- Assumes nothing.
use mathlib.Core.Bool.{Bool, true, false}
use mathlib.Core.List.{List, [], ◌∷◌, ◌++◌}
use mathlib.Core.Path.{◌≡◌, refl, sym, ap, ◌∙◌}
use Prim.Native.Nat.{ℕ, suc, ◌+◌, ◌*◌, ◌≤◌}
use native.Mathlib.Nat.{zero-add, add-zero, add-suc, suc-add}
use native.Mathlib.Omega.{arith}
use native.Mathlib.Numerals.{add-one}
use lib.ListN.{length, set, drop, get_or, length-append}
use lib.Seq.{sets, length-sets, sets-eq}
use Rattle.controller.specs.declared.sent.Sent.{Sent}
use Rattle.planner.specs.Wish.{marked, follows}
use Rattle.planner.specs.declared.pen.Pen.{Pen}
use Rattle.planner.specs.declared.pen.Times.{Times}
use Rattle.planner.specs.declared.wish.Wish.{Wish}
use Rattle.planner.specs.Call.{laid_out}
use Rattle.planner.specs.Pen.{time_after, Wrote}
use Rattle.controller.specs.Sent.{six_bytes}
use Rattle.planner.specs.Plan.{Command, time_of, times_at, first_sent, second_sent, in_halves, encoded, instruction, write, address_byte, cell, cells_below, opening, commands, plan_of}

pub sets_append : (l : List ℕ) (i : ℕ) (a b : List ℕ) → sets l i (a ++ b) ≡ sets (sets l i a) (i + length a) b
sets_append l i [] b = ap (λ (k : ℕ). sets l k b) (sym (add-zero i))
sets_append l i (x ∷ a) b =
    sets_append (set l i x) (suc i) a b
    ∙ ap (λ (k : ℕ). sets (sets (set l i x) (suc i) a) k b) (suc-add i (length a) ∙ sym (add-suc i (length a)))

pub encoded_append : (a b : List Sent) → encoded (a ++ b) ≡ encoded a ++ encoded b
unfolding encoded
encoded_append [] b = refl
encoded_append (t ∷ a) b = ap (λ (l : List ℕ). six_bytes t ++ l) (encoded_append a b)

pub length_encoded : (a : List Sent) → length (encoded a) ≡ 6 * length a
unfolding encoded
length_encoded [] = refl
length_encoded (t ∷ a) = omega (arith, length_encoded a)

pub time_append : (times : Times) (before : ℕ) (a b : List Command) → time_after times before (a ++ b) ≡ time_after times (time_after times before a) b
unfolding time_after
time_append times before [] b = refl
time_append times before (c ∷ a) b = time_append times (time_of times c) a b

pub halves_append : (times : Times) (before : ℕ) (a b : List Command)
    → in_halves times before (a ++ b) ≡ in_halves times before a ++ in_halves times (time_after times before a) b
unfolding in_halves time_after
halves_append times before [] b = refl
halves_append times before (c ∷ a) b = ap (λ (l : List Sent). first_sent before c ∷ second_sent c ∷ l) (halves_append times (time_of times c) a b)

pub length_halves : (times : Times) (before : ℕ) (a : List Command) → length (in_halves times before a) ≡ 2 * length a
unfolding in_halves
length_halves times before [] = refl
length_halves times before (c ∷ a) = omega (arith, length_halves times (time_of times c) a)

-- nothing written
pub wrote_none : (pen : Pen) (out : List ℕ) → Wrote [] pen pen out out
unfolding time_after in_halves encoded
wrote_none pen out = record { at = omega arith; wait = refl; times = refl; buffer = refl }

-- written one after the other
pub wrote_append : {a b : List Command} {p q r : Pen} {x y z : List ℕ} → Wrote a p q x y → Wrote b q r y z → Wrote (a ++ b) p r x z
wrote_append {a} {b} {p} {q} {r} {x} {y} {z} first second =
    let times = p.times in
    let own = encoded (in_halves times p.wait a) in
    let next : q.at * 6 ≡ p.at * 6 + length own =
    omega (arith, first.at, length_encoded (in_halves times p.wait a), length_halves times p.wait a) in
    record {
      at = second.at ∙ omega (arith, first.at, length-append a b);
      wait =
          second.wait
          ∙ ap (λ (ts : Times). time_after ts q.wait b) first.times
          ∙ ap (λ (t : ℕ). time_after times t b) first.wait
          ∙ sym (time_append times p.wait a b);
      times = second.times ∙ first.times;
      buffer =
          second.buffer
          ∙ ap (λ (l : List ℕ). sets l (q.at * 6) (encoded (in_halves q.times q.wait b))) first.buffer
          ∙ ap (λ (ts : Times). sets (sets x (p.at * 6) own) (q.at * 6) (encoded (in_halves ts q.wait b))) first.times
          ∙ ap (λ (t : ℕ). sets (sets x (p.at * 6) own) (q.at * 6) (encoded (in_halves times t b))) first.wait
          ∙ ap (λ (k : ℕ). sets (sets x (p.at * 6) own) k (encoded (in_halves times (time_after times p.wait a) b))) next
          ∙ sym (sets_append x (p.at * 6) own (encoded (in_halves times (time_after times p.wait a) b)))
          ∙ ap (sets x (p.at * 6))
          (sym (encoded_append (in_halves times p.wait a) (in_halves times (time_after times p.wait a) b)) ∙ ap encoded (sym (halves_append times p.wait a b)));
    }

-- writing keeps the buffer's length
pub wrote_length : {a : List Command} {p q : Pen} {x y : List ℕ} → Wrote a p q x y → length y ≡ length x
wrote_length {a} {p} {q} {x} {y} w = ap length w.buffer ∙ length-sets x (p.at * 6) (encoded (in_halves p.times p.wait a))

-- what is written from the start on stands before the rest
pub laid_out_lem : (plan : List Sent) (out : List ℕ) → length (encoded plan) ≤ length out → sets out 0 (encoded plan) ≡ laid_out plan out
unfolding laid_out
laid_out_lem plan out room = sets-eq (encoded plan) out 0 (rw zero-add room) ∙ ap (λ (k : ℕ). encoded plan ++ drop k out) (zero-add (length (encoded plan)))

-- a record after others is one more of them
pub record_after : (l : List ℕ) (at : ℕ) (a : List Sent) (t : Sent) (next : ℕ) → next ≡ at + length a
    → sets (sets l (at * 6) (encoded a)) (next * 6) (six_bytes t) ≡ sets l (at * 6) (encoded (a ++ t ∷ []))
unfolding encoded
record_after l at a t next is =
    let place : next * 6 ≡ at * 6 + length (encoded a) = omega (arith, length_encoded a) in
    ap (λ (k : ℕ). sets (sets l (at * 6) (encoded a)) k (six_bytes t)) place
    ∙ sym (sets_append l (at * 6) (encoded a) (six_bytes t))
    ∙ ap (sets l (at * 6)) (sym (encoded_append a (t ∷ [])))

-- the commands of one cell
pub cell_none : (n : Bool) (marks values : List ℕ) (place : ℕ) → marked marks place ≡ false → cell n marks values place ≡ []
unfolding cell
cell_none n marks values place no-mark = rw no-mark

pub cell_next : (n : Bool) (marks values : List ℕ) (place : ℕ) → marked marks place ≡ true → follows marks place ≡ true
    → cell n marks values place ≡ write (get_or values place 0) ∷ []
unfolding cell
cell_next n marks values place mark after = rw (mark, after)

pub cell_first : (n : Bool) (marks values : List ℕ) (place : ℕ) → marked marks place ≡ true → follows marks place ≡ false
    → cell n marks values place ≡ instruction (address_byte n place) ∷ write (get_or values place 0) ∷ []
unfolding cell
cell_first n marks values place mark after = rw (mark, after)

-- one cell more
pub below_more : (n : Bool) (marks values : List ℕ) (place : ℕ)
    → cells_below n marks values place ++ cell n marks values place ≡ cells_below n marks values (place + 1)
unfolding cells_below
below_more n marks values place = ap (cells_below n marks values) (sym (add-one place))

pub below_none : (n : Bool) (marks values : List ℕ) → cells_below n marks values 0 ≡ []
unfolding cells_below
below_none n marks values = refl

-- a plan's records: four, and two for each command
pub length_plan : (wish : Wish) (marks values : List ℕ) → length (plan_of wish marks values) ≡ 4 + 2 * length (commands wish marks values)
unfolding plan_of
length_plan wish marks values =
    let times = times_at wish.frequency in
    length-append opening (in_halves times 100 (commands wish marks values)) ∙ ap (λ (n : ℕ). 4 + n) (length_halves times 100 (commands wish marks values))

-- the opening and then the commands are the plan
pub plan_laid : (wish : Wish) (marks values : List ℕ) (opened ended : Pen) (out mid end : List ℕ) → opened ≡ record { at = 4; wait = 100; times = times_at wish.frequency }
    → mid ≡ sets out 0 (encoded opening) → Wrote (commands wish marks values) opened ended mid end
    → length (plan_of wish marks values) ≤ 468 → 2808 ≤ length out
    → (ended.at ≡ length (plan_of wish marks values)) × (end ≡ laid_out (plan_of wish marks values) out)
unfolding plan_of laid_out encoded
plan_laid wish marks values opened ended out mid end starts laid wrote few room =
    let rest : List Sent = in_halves (times_at wish.frequency) 100 (commands wish marks values) in (
      wrote.at ∙ ap (λ (p : Pen). p.at + 2 * length (commands wish marks values)) starts ∙ sym (length_plan wish marks values),
      wrote.buffer
          ∙ ap (λ (l : List ℕ). sets l (opened.at * 6) (encoded (in_halves opened.times opened.wait (commands wish marks values)))) laid
          ∙ ap (λ (p : Pen). sets (sets out 0 (encoded opening)) (p.at * 6) (encoded (in_halves p.times p.wait (commands wish marks values)))) starts
          ∙ sym (sets_append out 0 (encoded opening) (encoded rest))
          ∙ ap (sets out 0) (sym (encoded_append opening rest))
          ∙ laid_out_lem (plan_of wish marks values) out (omega (arith, length_encoded (plan_of wish marks values))),
    )
