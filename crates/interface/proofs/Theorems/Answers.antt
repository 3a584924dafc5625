-- Each call tells each number exactly where its row applies: that the answer can be taken out of what is returned, and then the
-- theorems of the crates beneath.
-- Assumes nothing.
use Rattle.std.specs.Prelude.{Option, Some, None}
use mathlib.Core.Bool.{Bool, true, false, cond, not, ◌&&◌, true≢false}
use mathlib.Core.List.{List, ◌∷◌}
use mathlib.Core.Logic.{inl, ⊎_elim}
use mathlib.Core.Path.{◌≡◌, refl, sym, ap, subst, ◌∙◌}
use Prim.Native.Nat.{ℕ, ◌+◌, ◌*◌, ◌%◌}
use native.Mathlib.Omega.{arith}
use lib.Dec.{eqb, ltb}
use lib.ListN.{length}
use borrow.Author.Tests.{not-false}
use Rattle.controller.specs.declared.answers.Answer.{Answer}
use Rattle.controller.specs.declared.answers.Answer.TheVariants.{Done, NotWhole, NotWish}
use Rattle.controller.specs.declared.«record».Record.{Record}
use Rattle.controller.specs.Bus.{decided, reset_decided, whole}
use Rattle.controller.specs.Answers.{is_done, number_of, Given, Row, Tells}
use Rattle.controller.specs.Record.{sound}
use Rattle.controller.specs.Rows.{Breaks, reset_rows, transfer_rows}
use Rattle.controller.proofs.Laws.Answers.{none_applies, row_applies, tells_as}
use Rattle.controller.proofs.Laws.Choice.{cond_map}
use Rattle.controller.proofs.Laws.Rows.{sound_tests, whole_tests}
use Rattle.controller.proofs.Laws.Tests.{Tests, fails_eq, tests_as, tests_fails, tests_lt}
use Rattle.controller.proofs.Theorems.Answers.{transfer_answers}
use Rattle.captures.specs.Import.{importing}
use Rattle.captures.specs.Theorems.{import_rows}
use Rattle.captures.proofs.Theorems.Answers.{import_answers}
use Rattle.dots.specs.declared.panel.Profile.{Profile}
use Rattle.dots.specs.Picture.{answered}
use Rattle.dots.specs.Theorems.{picture_rows, rows_for}
use Rattle.dots.proofs.Theorems.{picture_answers}
use Rattle.lines.specs.Reading.{Reading, line_of}
use Rattle.lines.specs.Theorems.{writer_rows}
use Rattle.lines.specs.Writing.{line_writing}
use Rattle.lines.proofs.Laws.Digits.{either}
use Rattle.lines.proofs.Theorems.One.{writer_answers}
use Rattle.lines.proofs.Theorems.Read.{read_or_refused, read_rows_lem, refused_rows}
use Rattle.lines.proofs.Theorems.Session.{fault_not_good}
use Rattle.planner.specs.declared.wish.Wish.{Wish}
use Rattle.planner.specs.Call.{reply_to}
use Rattle.planner.specs.Theorems.{NotWished, plan_rows}
use Rattle.planner.specs.Wish.{is_wish}
use Rattle.planner.proofs.Theorems.Wish.{lengths_fail, plan_given, wish_fails}
use Rattle.interface.specs.CaptureCalls.{import_call}
use Rattle.interface.specs.ControllerCalls.{Call, reset_call, transfer_call, transfer_from}
use Rattle.interface.specs.Filling.{Filling}
use Rattle.interface.specs.LineCalls.{line_told, stored, write_call}
use Rattle.interface.specs.PictureCalls.{picture_from, profile_of}
use Rattle.interface.specs.PlanCalls.{plan_from, wishless}
use Rattle.interface.specs.RecordBytes.{record_from, is_record_long, record_in}
use Rattle.interface.specs.Theorems.{AreOf, CallAnswers, NoneWished, OverRecord, answer_in, read_rows, reset_call_rows}
use Rattle.interface.specs.WishBytes.{wish_in}
use Rattle.interface.proofs.Laws.Calls.{reset_done}
use Rattle.interface.proofs.Laws.Told.{answer_in_lem}
use Rattle.interface.proofs.Theorems.Record.{record_reads_back, record_writes_back}
use Rattle.interface.proofs.Theorems.Wish.{wish_reads_back, wish_writes_back}

-- an answer that is given by these rows, told with a number beside
tells : (told : Answer) (m returned : ℕ) (rows : List Row) → returned ≡ number_of told + 256 * m → Tells (number_of told) rows
    → Tells (answer_in returned) rows
tells told m returned rows is by = tells_as _ _ rows (ap answer_in is ∙ answer_in_lem told m) by

-- the bytes of a sound record say it
reads_back : (bytes : List ℕ) (rec : Record) → AreOf bytes rec → record_in bytes ≡ Some rec
reads_back bytes rec are =
    ap record_in are.own
    ∙ record_reads_back rec (either (sound rec) (λ s. s) (λ s. absurd (are.sound ((sound_tests rec).yes (ap not s)))))

module _ (bytes : List ℕ) (returned : Option Record → ℕ) (rows : Record → List Row) (broken : answer_in (returned None) ≡ 1)
    (unsound : (rec : Record) → Breaks rec → answer_in (returned (Some rec)) ≡ 1)
    (by : (rec : Record) → Tells (answer_in (returned (Some rec))) (rows rec)) where
  -- bytes that are those of no sound record say none or an unsound one
  none_said : (read : Option Record) → record_in bytes ≡ read → ((rec : Record) → AreOf bytes rec → ⊥) → answer_in (returned read) ≡ 1
  none_said None is none = broken
  none_said (Some rec) is none =
      either (sound rec)
      (λ s. absurd (none rec (record { own = sym (record_writes_back bytes rec is); sound = (sound_tests rec).no (ap not s) })))
      (λ s. unsound rec ((sound_tests rec).yes (ap not s)))

  over-record : OverRecord bytes (returned (record_in bytes)) rows
  over-record =
      record {
        unsound = none_said (record_in bytes) refl;
        of = λ rec are. subst (λ (read : Option Record). Tells (answer_in (returned read)) (rows rec)) (sym (reads_back bytes rec are)) (by rec);
      }

-- the first row's number, where it applies
first_row : (number : ℕ) (row : Row) (rows : List Row) → Tells number (row ∷ rows) → row.applies → number ≡ row.number
unfolding Given
first_row number row rows by is = (by row.number).1 (inl (is, refl))

module _ (bytes mem : List ℕ) (kind byte wait : ℕ) where
  transfer-of : (rec : Record) → Tells (answer_in (transfer_from (Some rec) bytes mem kind byte wait).returned) (transfer_rows rec mem kind byte wait)
  unfolding transfer_from
  transfer-of rec =
      let d = decided rec mem kind byte wait in
      tells d.answer d.byte _ _ refl (transfer_answers rec mem kind byte wait)

  transfer-tells : OverRecord bytes (transfer_call bytes mem kind byte wait).returned (λ rec. transfer_rows rec mem kind byte wait)
  unfolding transfer_from transfer_rows
  transfer-tells =
      over-record bytes (λ read. (transfer_from read bytes mem kind byte wait).returned) (λ rec. transfer_rows rec mem kind byte wait) refl
      (λ rec breaks. first_row _ _ _ (transfer-of rec) breaks) transfer-of

module _ (bytes mem : List ℕ) (profile : Profile) (lit : Bool) (out : List ℕ) where
  picture-of : (rec : Record) → Tells (answer_in (picture_from (Some rec) mem profile lit out).returned) (picture_rows rec mem profile (length out))
  unfolding picture_from
  picture-of rec = tells (answered rec mem profile (length out)) 0 _ _ (omega arith) (picture_answers rec mem profile (length out))

  picture-tells : OverRecord bytes (picture_from (record_in bytes) mem profile lit out).returned (λ rec. picture_rows rec mem profile (length out))
  unfolding picture_from rows_for
  picture-tells =
      over-record bytes (λ read. (picture_from read mem profile lit out).returned) (λ rec. picture_rows rec mem profile (length out)) refl
      (λ rec breaks. first_row _ _ _ (picture-of rec) breaks) picture-of

reset_number : (bytes mem : List ℕ) → answer_in (reset_call bytes mem).returned ≡ cond (not (is_record_long bytes)) 1 (cond (not (whole mem)) 2 0)
unfolding reset_call
reset_number bytes mem =
    let d = reset_decided (record_from bytes) mem in
    let number : Call → ℕ = λ call. answer_in call.returned in
    cond_map number (not (is_record_long bytes)) _ _ 1 _ (λ _. refl)
    (λ _. cond_map number (not (whole mem)) _ _ 2 0 (λ _. refl)
    (λ is. answer_in_lem d.answer d.byte ∙ ap number_of (reset_done (record_from bytes) mem (not-false _ is))))

reset_tells : (bytes mem : List ℕ) → Tells (answer_in (reset_call bytes mem).returned) (reset_call_rows bytes mem)
unfolding reset_call_rows reset_rows
reset_tells bytes mem =
    tells_as _ _ _ (reset_number bytes mem)
    (row_applies _ _ _ _ (tests_fails (is_record_long bytes) (fails_eq (length bytes) 24))
    (λ _. row_applies _ _ _ _ (whole_tests mem) (λ _. none_applies)))

-- where there is no wish, 2 and then 13
wishless_number : (marks values : List ℕ) → number_of (wishless marks values) ≡ cond (not (whole marks && whole values)) 2 (cond true 13 0)
unfolding wishless
wishless_number marks values = go (whole marks) (whole values)
  where
    go : (a b : Bool) → number_of (cond (not a) NotWhole (cond (not b) NotWhole NotWish)) ≡ cond (not (a && b)) 2 13
    go true true = refl
    go true false = refl
    go false b = refl

-- bytes that say no wish are those of none
no_wish : (bytes marks : List ℕ) → wish_in bytes ≡ None → Tests true (NoneWished bytes marks)
no_wish bytes marks broken =
    record {
      yes = λ _ wish own.
          let said : None ≡ Some wish = sym broken ∙ ap wish_in own ∙ wish_reads_back wish in
          let z : ◌≡◌ {A = ℕ} 0 1 = cc in absurd (omega arith);
      no = λ e _. true≢false e;
    }

-- bytes that say a wish are those of this one alone
this_wish : (bytes marks : List ℕ) (wish : Wish) → wish_in bytes ≡ Some wish → Tests (not (is_wish wish marks)) (NoneWished bytes marks)
this_wish bytes marks wish says =
    tests_as
    (λ (none : NotWished wish marks) other own.
    let same : Some wish ≡ Some other = sym says ∙ ap wish_in own ∙ wish_reads_back other in
    let one : wish ≡ other = cc in subst (λ (w : Wish). NotWished w marks) one none)
    (λ none. none wish (sym (wish_writes_back bytes wish says)))
    (tests_fails (is_wish wish marks) (wish_fails wish marks))

plan_tells : (bytes marks values out : List ℕ) (read : Option Wish) → wish_in bytes ≡ read
    → Tells (answer_in (plan_from read marks values out).returned) (plan_rows (NoneWished bytes marks) marks values out)
unfolding plan_from plan_rows
plan_tells bytes marks values out None is =
    tells (wishless marks values) 0 _ _ (omega arith)
    (tells_as _ _ _ (wishless_number marks values)
    (row_applies _ _ _ _ (lengths_fail marks values)
    (λ _. row_applies _ _ true 0 (no_wish bytes marks is) (λ some. absurd (some ((no_wish bytes marks is).yes refl))))))
plan_tells bytes marks values out (Some wish) is =
    let reply = reply_to wish marks values out in
    tells reply.answer (length reply.plan) _ _ refl (plan_given wish marks values out (this_wish bytes marks wish is))

write_tells : (kind byte wait : ℕ) (out : List ℕ) → Tells (answer_in (write_call kind byte wait out).returned) (writer_rows kind byte out)
write_tells kind byte wait out =
    let w = line_writing kind byte wait out in
    tells w.answer (length w.text) _ _ refl (writer_answers kind byte wait out)

-- what is told of a line has its answer
line_answer : (line : Reading) → answer_in (line_told line) ≡ number_of line.answer
line_answer line =
    let same : line_told line ≡ number_of line.answer + 256 * (line.length + 256 * line.offset) = omega arith in
    ap answer_in same ∙ answer_in_lem line.answer (line.length + 256 * line.offset)

-- a line that was read
stored_number : (line : Reading) (out : List ℕ) → line.answer ≡ Done → answer_in (stored line out).returned ≡ cond (ltb (length out) 6) 11 0
unfolding stored
stored_number line out done =
    simp (ap is_done done)
    (cond_map (λ (call : Filling). answer_in call.returned) (ltb (length out) 6) _ _ 11 0 (λ _. refl)
    (λ _. line_answer line ∙ ap number_of done))

-- and one that was not
bad_number : (line : Reading) (out : List ℕ) → is_done line.answer ≡ false → answer_in (stored line out).returned ≡ number_of line.answer
unfolding stored
bad_number line out bad = simp bad (line_answer line)

read_tells : (text out : List ℕ) → Tells (answer_in (stored (line_of text) out).returned) (read_rows text out)
unfolding read_rows
read_tells text out =
    ⊎_elim
    (λ good.
    tells_as _ _ _ (stored_number (line_of text) out good.1)
    (read_rows_lem text _ _ good.0 (row_applies _ _ _ _ (tests_lt (length out) 6) (λ _. none_applies))))
    (λ bad.
    tells_as _ _ _ (bad_number (line_of text) out (fault_not_good (line_of text).answer bad.1.fault))
    (refused_rows text _ bad.0))
    (read_or_refused text)

import_tells : (capture out : List ℕ) → Tells (answer_in (import_call capture out).returned) (import_rows capture out)
import_tells capture out =
    let w = importing capture out in
    tells w.answer (length w.text % 72057594037927936) _ _ refl (import_answers capture out)

pub call_answers : CallAnswers
call_answers =
    record {
      reset = reset_tells;
      transfer = transfer-tells;
      picture = λ bytes mem profile columns lines lit out. picture-tells bytes mem (profile_of profile columns lines) (not (eqb lit 0)) out;
      plan = λ wish marks values out. plan_tells wish marks values out (wish_in wish) refl;
      write_line = write_tells;
      read_line = read_tells;
      import = import_tells;
    }
