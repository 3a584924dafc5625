-- What a refused call leaves: two laws, one for the calls that fill a buffer and one for those over a record and a memory, and for
-- each call what its own refusals are.
-- Assumes nothing.
use Rattle.std.specs.Prelude.{Option, Some, None}
use mathlib.Core.Bool.{Bool, true, false, cond, not, ◌||◌, false≢true}
use mathlib.Core.List.{List, []}
use mathlib.Core.Logic.{⊎_elim}
use mathlib.Core.Path.{◌≡◌, refl, sym, ap, ◌∙◌}
use Prim.Native.Nat.{ℕ, ◌+◌, ◌*◌, ◌%◌}
use native.Mathlib.Omega.{arith}
use lib.Dec.{eqb, ltb}
use lib.ListN.{length}
use borrow.Author.Tests.{not-false}
use Rattle.controller.specs.declared.answers.Answer.{Answer}
use Rattle.controller.specs.declared.answers.Answer.TheVariants.{Done, Unsound, NotWhole, OutputShort}
use Rattle.controller.specs.declared.decision.Decision.{Decision}
use Rattle.controller.specs.declared.«record».Record.{Record}
use Rattle.controller.proofs.Laws.Answers.{one_answer}
use Rattle.controller.specs.Bus.{decided, reset_decided, whole}
use Rattle.controller.specs.Answers.{is_done, is_refusal, number_of}
use Rattle.controller.specs.Decision.{performed}
use Rattle.controller.specs.Theorems.{left}
use Rattle.controller.proofs.Laws.Choice.{cond-elim}
use Rattle.controller.proofs.Theorems.Refusals.{transfer_refusals}
use Rattle.captures.proofs.Theorems.Answers.{import_nothing}
use Rattle.captures.specs.Import.{importing}
use Rattle.dots.proofs.Theorems.{picture_refusals}
use Rattle.dots.specs.declared.panel.Profile.{Profile}
use Rattle.dots.specs.Picture.{answered}
use Rattle.lines.specs.Reading.{Reading, line_of}
use Rattle.lines.specs.Writing.{Writing, line_writing, onto}
use Rattle.lines.proofs.Laws.Digits.{either}
use Rattle.lines.proofs.Laws.Nothing.{WritesNothing, writer_nothing}
use Rattle.lines.proofs.Theorems.Read.{read_or_refused}
use Rattle.lines.proofs.Theorems.Session.{fault_not_good}
use Rattle.planner.specs.declared.wish.Wish.{Wish}
use Rattle.planner.specs.Call.{reply_to}
use Rattle.planner.proofs.Theorems.Wish.{plan_refusals}
use Rattle.interface.specs.CaptureCalls.{import_call}
use Rattle.interface.specs.ControllerCalls.{Call, reset_call, transfer_from}
use Rattle.interface.specs.Filling.{Filling}
use Rattle.interface.specs.LineCalls.{stored, write_call}
use Rattle.interface.specs.PictureCalls.{picture_from, profile_of}
use Rattle.interface.specs.PlanCalls.{plan_from, wishless}
use Rattle.interface.specs.RecordBytes.{record_bytes, record_from, is_record_long, record_in}
use Rattle.interface.specs.Theorems.{CallRefusals, KeepsBuffer, KeepsBufferAt, KeepsMemory, Refuses, answer_in, bytes_left}
use Rattle.interface.specs.WishBytes.{wish_in}
use Rattle.interface.proofs.Laws.Calls.{reset_done}
use Rattle.interface.proofs.Laws.Read.{read_own}
use Rattle.interface.proofs.Laws.Told.{answer_in_lem}

-- a refusal that is told is the one that was given, and where that tells nothing beside, it is told bare
bare : (told answer : Answer) (n returned : ℕ) → returned ≡ number_of told + 256 * n → (is_refusal told ≡ true → n ≡ 0) → Refuses answer returned
    → (told ≡ answer) × (is_refusal told ≡ true) × (returned ≡ number_of answer)
bare told answer n returned is nothing refuses =
    let same = one_answer told answer (sym (answer_in_lem told n) ∙ ap answer_in (sym is) ∙ refuses.told) in
    let refusing = ap is_refusal same ∙ refuses.refusal in
    let number = ap number_of same in
    let none = nothing refusing in
    (same, refusing, omega arith)

-- a call that fills a buffer: its answer, what it tells beside, and what it leaves where it refuses
buffer_kept : (call : Filling) (out : List ℕ) (told : Answer) (n : ℕ) → call.returned ≡ number_of told + 256 * n
    → (is_refusal told ≡ true → (n ≡ 0) × (call.buffer ≡ out)) → KeepsBuffer call out
buffer_kept call out told n is kept answer refuses =
    let b = bare told answer n call.returned is (λ r. (kept r).0) refuses in
    λ i. record { returned = b.2 i; buffer = (kept b.1).1 i }

-- the same of a call over a record and a memory
memory_kept : (call : Call) (mem : List ℕ) (bytes : Answer → List ℕ) (told : Answer) (n : ℕ) → call.returned ≡ number_of told + 256 * n
    → (is_refusal told ≡ true → (n ≡ 0) × (call.rec ≡ bytes told) × (call.memory ≡ mem)) → KeepsMemory call mem bytes
memory_kept call mem bytes told n is kept answer refuses =
    let b = bare told answer n call.returned is (λ r. (kept r).0) refuses in
    let record-left = (kept b.1).1 ∙ ap bytes b.0 in
    λ i. record { returned = b.2 i; rec = record-left i; memory = (kept b.1).2 i }

-- a number that is not 0
not_done : (answer : Answer) → is_refusal answer ≡ true → number_of answer ≡ 0 → ⊥
unfolding is_refusal
not_done answer r e = false≢true (ap is_refusal (sym (one_answer answer Done e)) ∙ r)

picture_kept : (read : Option Record) (mem : List ℕ) (profile : Profile) (lit : Bool) (out : List ℕ) → KeepsBuffer (picture_from read mem profile lit out) out
unfolding picture_from
picture_kept None mem profile lit out = buffer_kept _ out Unsound 0 (omega arith) (λ _. (refl, refl))
picture_kept (Some rec) mem profile lit out =
    buffer_kept _ out (answered rec mem profile (length out)) 0 (omega arith) (λ r. (refl, picture_refusals rec mem profile lit out r))

plan_kept : (read : Option Wish) (marks values out : List ℕ) → KeepsBuffer (plan_from read marks values out) out
unfolding plan_from
plan_kept None marks values out = buffer_kept _ out (wishless marks values) 0 (omega arith) (λ _. (refl, refl))
plan_kept (Some wish) marks values out =
    let reply = reply_to wish marks values out in
    buffer_kept _ out reply.answer (length reply.plan) refl
    (λ r. plan_refusals wish marks values out _ _ (record { told = refl; number = refl; buffer = refl }) (not_done reply.answer r))

-- a call that writes text, of which it tells a number that is 0 for none
text_kept : (w : Writing) (out : List ℕ) (tell : List ℕ → ℕ) → tell [] ≡ 0 → WritesNothing w
    → KeepsBuffer (record { returned = number_of w.answer + 256 * tell w.text; buffer = onto w.text out }) out
text_kept w out tell none nothing =
    buffer_kept _ out w.answer (tell w.text) refl
    (λ r. let empty = nothing (not_done w.answer r) in (ap tell empty ∙ none, ap (λ (t : List ℕ). onto t out) empty))

write_kept : (kind byte wait : ℕ) (out : List ℕ) → KeepsBuffer (write_call kind byte wait out) out
write_kept kind byte wait out = text_kept (line_writing kind byte wait out) out length refl (writer_nothing kind byte wait out)

import_kept : (capture out : List ℕ) → KeepsBuffer (import_call capture out) out
import_kept capture out =
    text_kept (importing capture out) out (λ t. length t % 72057594037927936) refl (import_nothing capture out)

-- a line's answer is told beside its length and its offset, and only a refusal has an offset
module _ (text out : List ℕ) where
  line_kept : (told answer : Answer) (n offset : ℕ) → (stored (line_of text) out).returned ≡ number_of told + 256 * n
      → (is_refusal told ≡ true → (n ≡ 256 * offset) × ((stored (line_of text) out).buffer ≡ out)) → Refuses answer (stored (line_of text) out).returned
      → stored (line_of text) out ≡ record { returned = number_of answer + 65536 * offset; buffer = out }
  line_kept told answer n offset is kept refuses =
      let same = one_answer told answer (sym (answer_in_lem told n) ∙ ap answer_in (sym is) ∙ refuses.told) in
      let left = kept (ap is_refusal same ∙ refuses.refusal) in
      let number = ap number_of same in
      let beside = left.0 in
      let returned : (stored (line_of text) out).returned ≡ number_of answer + 65536 * offset = omega arith in
      λ i. record { returned = returned i; buffer = left.1 i }

  read_kept : KeepsBufferAt (line_of text).offset (stored (line_of text) out) out
  unfolding stored is_refusal
  read_kept answer refuses =
      ⊎_elim
      (λ good. either (ltb (length out) 6)
      (λ short. line_kept OutputShort answer 0 (line_of text).offset (simp (ap is_done good.1, short)) (λ _. (omega (arith, good.2), simp (ap is_done good.1, short))) refuses)
      (λ enough.
      line_kept Done answer (line_of text).length (line_of text).offset (simp (ap is_done good.1, enough) (omega (arith, good.2, ap number_of good.1)))
      (λ r. absurd (false≢true r)) refuses))
      (λ bad.
      let other = fault_not_good (line_of text).answer bad.1.fault in
      let none : (line_of text).length ≡ 0 = ap (λ (l : Reading). l.length) bad.1.zeros in
      line_kept (line_of text).answer answer (256 * (line_of text).offset) (line_of text).offset (simp other (omega arith)) (λ _. (refl, simp other)) refuses)
      (read_or_refused text)

reset_kept : (bytes mem : List ℕ) → KeepsMemory (reset_call bytes mem) mem (λ _. bytes)
unfolding reset_call is_refusal
reset_kept bytes mem =
    let P : Call → Type 0 = λ call. KeepsMemory call mem (λ _. bytes) in
    let d = reset_decided (record_from bytes) mem in
    cond-elim P (not (is_record_long bytes)) _ _ (λ _. memory_kept _ mem _ Unsound 0 (omega arith) (λ _. (refl, refl, refl)))
    (λ _. cond-elim P (not (whole mem)) _ _ (λ _. memory_kept _ mem _ NotWhole 0 (omega arith) (λ _. (refl, refl, refl)))
    (λ is. memory_kept _ mem _ d.answer d.byte refl
    (λ r. absurd (false≢true (ap is_refusal (sym (reset_done (record_from bytes) mem (not-false _ is))) ∙ r)))))

-- what a refusal leaves of a record, in its bytes
left_bytes : (answer : Answer) (wait : ℕ) (rec : Record) (bytes : List ℕ) → record_bytes rec ≡ bytes
    → record_bytes (left answer wait rec) ≡ bytes_left (Some rec) bytes wait answer
unfolding left bytes_left
left_bytes answer wait rec bytes own = go (eqb (number_of answer) 4) (eqb (number_of answer) 6) _ _
  where
    go : (four six : Bool) (x y : Record)
        → record_bytes (cond four x (cond six y rec)) ≡ cond (four || six) (record_bytes (cond four x (cond six y rec))) bytes
    go true six x y = refl
    go false true x y = refl
    go false false x y = own

transfer_kept : (read : Option Record) (bytes mem : List ℕ) (kind byte wait : ℕ) → record_in bytes ≡ read
    → KeepsMemory (transfer_from read bytes mem kind byte wait) mem (bytes_left read bytes wait)
unfolding transfer_from bytes_left performed
transfer_kept None bytes mem kind byte wait is = memory_kept _ mem _ Unsound 0 (omega arith) (λ _. (refl, refl, refl))
transfer_kept (Some rec) bytes mem kind byte wait is =
    let d = decided rec mem kind byte wait in
    memory_kept _ mem (bytes_left (Some rec) bytes wait) d.answer d.byte refl
    (λ r. let e = transfer_refusals rec mem kind byte wait r in (
      ap (λ (x : Decision). x.byte) e,
      ap (λ (x : Decision). record_bytes x.rec) e ∙ left_bytes d.answer wait rec bytes (read_own bytes rec is),
      ap (λ (x : Decision). performed x.effect mem) e,
    ))

pub call_refusals : CallRefusals
call_refusals =
    record {
      reset = reset_kept;
      transfer = λ bytes mem kind byte wait. transfer_kept (record_in bytes) bytes mem kind byte wait refl;
      picture = λ bytes mem profile columns lines lit out. picture_kept (record_in bytes) mem (profile_of profile columns lines) (not (eqb lit 0)) out;
      plan = λ wish marks values out. plan_kept (wish_in wish) marks values out;
      write_line = write_kept;
      read_line = read_kept;
      import = import_kept;
    }
