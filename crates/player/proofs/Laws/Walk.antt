-- Laws of the walk: a row at its place, one line more, and the whole report.
-- Assumes nothing.
use mathlib.Core.Bool.{Bool, true, false, false≢true}
use mathlib.Core.List.{List, [], ◌++◌, append_assoc, append-nil}
use mathlib.Core.Path.{◌≡◌, refl, sym, ap, ◌∙◌}
use Prim.Native.Nat.{ℕ, suc, ◌+◌, ◌-◌, ◌^◌, ◌<◌, ◌≤◌}
use native.Mathlib.Omega.{arith}
use native.Mathlib.Nat.{add-zero}
use borrow.Author.Tests.{le-ltb}
use borrow.Rule.Slice.PartMut.{put_mid, Post-is}
use lib.ListN.{length, take, drop, length-append, length-drop, drop_of_length-le}
use lib.Seq.{sets, sets-eq, drop-drop, drop-length, take_all, length-sets}
use Rattle.controller.specs.declared.answers.Answer.{Answer}
use Rattle.controller.specs.declared.answers.Answer.TheVariants.{Done}
use Rattle.controller.specs.declared.decision.Outcome.{Outcome}
use Rattle.controller.specs.declared.oscillator.Frequency.{Frequency}
use Rattle.controller.specs.declared.«record».Record.{Record}
use Rattle.controller.specs.declared.sent.Sent.{Sent}
use Rattle.controller.specs.Answers.{is_done, number_of}
use Rattle.controller.specs.Bus.{Performs}
use Rattle.controller.proofs.Laws.Answers.{done_is, number_below}
use Rattle.controller.specs.Runs.{State, decided_of, after, told_of}
use Rattle.lines.specs.declared.reader.Line.{Line}
use Rattle.std.specs.Prelude.{Result, Ok, Err}
use Rattle.std.specs.Result.{result_unwrap_or}
use Rattle.lines.specs.declared.reader.BadLine.{BadLine}
use Rattle.lines.specs.Line.{line as lineText}
use Rattle.lines.specs.Reading.{sent_of, line_of}
use Rattle.lines.specs.Reading.{told_of as lineTold}
use Rattle.lines.specs.ReportText.{header, row, row_size}
use Rattle.lines.specs.Writing.{onto, writing, wanting, Writes}
use Rattle.lines.specs.Session.{Session, ended_by, following, read_up_to, session_of}
use Rattle.lines.proofs.Laws.Lengths.{row_fits}
use Rattle.lines.proofs.Laws.Buffer.{sets_append, sets_next, sets_onto}
use Rattle.lines.proofs.Theorems.Read.{read_length}
use Rattle.lines.proofs.Laws.Session.{more_text, line_good, line_sent, line_size, line_inside, line_bad, bad_answer, read_none, read_enough, read_more, read_bad, read_all}
use Rattle.player.specs.declared.walk.Ended.{Ended}
use Rattle.player.specs.declared.walk.Place.{Place}
use Rattle.player.specs.declared.tally.Tally.{Tally}
use Rattle.player.specs.Report.{row_at, rows_of, start, report, report_size}
use Rattle.player.specs.Standing.{counting, no_refusal}
use Rattle.player.specs.Walk.{bytes_wanted, state_at, Walked, ended_at, walked, walked_from, room, HasRoom, RowTold, Went, Played}
use Rattle.player.proofs.Laws.Session.{rows_none, rows_last, rows_more, leaving_last, leaving_more, counting_below, header_length}
use Rattle.player.proofs.Theorems.Fits.{report_fits}

-- a call that writes a text, with the buffer that it wants
pub writes : (size : ℕ) (text out : List ℕ) {told : Result ℕ Answer} {after : List ℕ} → size ≤ length out → Writes (wanting size text out) out told after
    → (told ≡ Ok (length text)) × (after ≡ onto text out)
unfolding wanting
writes size text out enough meets =
    let is : wanting size text out ≡ writing text = simp (le-ltb (length out) size enough) in
    let done = rw is at meets in
    (done.told, done.buffer)

-- a length that is told
ok_length : {n m : ℕ} → ◌≡◌ {A = Result ℕ Answer} (Ok n) (Ok m) → n ≡ m
ok_length is = cc

-- and with such a buffer it is not refused
pub takes : (size : ℕ) (text out : List ℕ) {answer : Answer} {after : List ℕ} → size ≤ length out
    → Writes (wanting size text out) out (Err answer) after → ⊥
takes size text out enough meets =
    let other = (writes size text out enough meets).0 in let no : ◌≡◌ {A = ℕ} 0 1 = cc in omega arith

-- the end of a list from a place on, lent as a part
pub tail : (l : List ℕ) (at : ℕ) → take (length l - at) (drop at l) ≡ drop at l
tail l at = take_all (length l - at) (drop at l) (omega (arith, length-drop at l))

-- and put back with a text at its start
put_back : (text out : List ℕ) (at : ℕ) → at + length text ≤ length out → put_mid at (length out - at) out (onto text (drop at out)) ≡ sets out at text
put_back text out at fits =
    ap (λ (rest : List ℕ). take at out ++ (onto text (drop at out) ++ rest)) (Post-is at (length out) out (omega arith) ∙ drop-length out)
    ∙ ap (λ (l : List ℕ). take at out ++ l) (append-nil (onto text (drop at out)) ∙ ap (λ (l : List ℕ). text ++ l) (drop-drop (length text) at out))
    ∙ sym (append_assoc (take at out) text (drop (at + length text) out))
    ∙ sym (sets-eq text out at fits)

-- no row
pub tells_nothing : {rows : Bool} {text : List ℕ} {at : ℕ} {out : List ℕ} → rows ≡ false → RowTold rows text at out at out
tells_nothing is = rw is (record { after = omega arith; small = omega arith; buffer = refl })

-- a row, written into the end of the buffer: with a number of 64 bits and a busy time of 32 it has at most 42 bytes
pub tells_row : {rows : Bool} {out : List ℕ} {at line busy n : ℕ} (answer : Answer) (byte : ℕ) {written : Result ℕ Answer} {part : List ℕ}
    → line < 2 ^ 64 → busy < 2 ^ 32 → rows ≡ true → n ≡ number_of answer → at + room rows 0 ≤ length out
    → Writes (wanting row_size (row line n byte busy) (take (length out - at) (drop at out))) (take (length out - at) (drop at out)) written part
    → RowTold rows (row line (number_of answer) byte busy) at out (at + result_unwrap_or written 0) (put_mid at (length out - at) out part)
tells_row {rows} {out} {at} {line} {busy} answer byte {written} few short is is_number enough meets =
    let text = row line (number_of answer) byte busy in
    let small = row_fits line (number_of answer) byte busy (omega arith) (omega (arith, number_below answer)) (omega arith) in
    let place : at + 42 ≤ length out = rw is at enough in
    let wrote = writes row_size text (drop at out) (omega (arith, length-drop at out)) (rw (is_number, tail out at) at meets) in
    let long : result_unwrap_or written 0 ≡ length text = ap (λ (r : Result ℕ Answer). result_unwrap_or r 0) wrote.0 in
    rw is
    (record {
      after = ap (λ (n : ℕ). at + n) long;
      small = omega (arith, long);
      buffer = ap (put_mid at (length out - at) out) wrote.1 ∙ put_back text out at (omega arith);
    })

-- what is wanted of no text, and of one text after another
wanted_none : (rows : Bool) → bytes_wanted rows [] ≡ []
wanted_none true = refl
wanted_none false = refl

wanted_more : (rows : Bool) (a b : List ℕ) → bytes_wanted rows (a ++ b) ≡ bytes_wanted rows a ++ bytes_wanted rows b
wanted_more true a b = refl
wanted_more false a b = refl

module _ (rows : Bool) (place : Place) (mem out : List ℕ) where
  -- at the end of the text
  walked_done : walked rows place mem out (ended_by Done) ≡ ended_at Done place mem out
  unfolding walked
  walked_done =
      simp (leaving_last place.number place.from place.tally (state_at place mem) Done, rows_none place.number (state_at place mem), wanted_none rows, add-zero)

  -- at a bad line
  walked_bad : (answer : Answer) {at : ℕ} {out' : List ℕ} → is_done answer ≡ false
      → RowTold rows (row place.number (number_of answer) 0 place.rec.busy) place.at out at out'
      → ended_at answer (record { from = place.from; at = at; number = place.number; rec = place.rec; tally = place.tally }) mem out' ≡ walked rows place mem out (ended_by answer)
  unfolding walked
  walked_bad answer bad tells =
      simp (leaving_last place.number place.from place.tally (state_at place mem) answer, rows_last place.number (state_at place mem) answer bad, tells.after, tells.buffer)

  -- one transfer more
  walked_more : (t : Sent) (s : Session) (next : Place) {mem' out' : List ℕ} → next.number ≡ place.number + 1
      → next.from ≡ place.from + length (lineText t.kind t.byte t.wait)
      → state_at next mem' ≡ after (state_at place mem) (decided_of (state_at place mem) t)
      → next.tally ≡ counting place.tally place.number (decided_of (state_at place mem) t).answer
      → RowTold rows (row_at place.number (told_of (decided_of (state_at place mem) t))) place.at out next.at out'
      → walked rows next mem' out' s ≡ walked rows place mem out (following t s)
  unfolding walked
  walked_more t s next {mem'} {out'} counted further runs refused tells =
      let state = state_at place mem in
      let own = bytes_wanted rows (row_at place.number (told_of (decided_of state t))) in
      let rest = rows_of (place.number + 1) (after state (decided_of state t)) s in
      let all : bytes_wanted rows (rows_of place.number state (following t s)) ≡ own ++ bytes_wanted rows rest =
      ap (bytes_wanted rows) (rows_more place.number state t s) ∙ wanted_more rows _ rest in
      let long : place.at + length own + length (bytes_wanted rows rest) ≡ place.at + length (own ++ bytes_wanted rows rest) =
      omega (arith, length-append own (bytes_wanted rows rest)) in
      simp (all, counted, further, runs, refused, tells.after, tells.buffer, leaving_more place.number place.from place.tally state t s, sets_append, long)

-- room for the rest after a line of at least 7 bytes, whose row took at most 42
room_after : (rows : Bool) (at next text line : ℕ) {out : ℕ} → 7 ≤ line → line ≤ text → at + room rows text ≤ out → next ≤ at + room rows 0
    → next + room rows (text - line) ≤ out
room_after true at next text line long inside enough small = omega arith
room_after false at next text line long inside enough small = omega arith

-- there is room for a row
pub room_row : (rows : Bool) (at text : ℕ) {out : ℕ} → at + room rows text ≤ out → at + room rows 0 ≤ out
room_row true at text enough = omega arith
room_row false at text enough = enough

module _ {rows : Bool} {text : List ℕ} {place : Place} {out : List ℕ} (fits : HasRoom rows text out place) (some : place.from < length text) where
  -- a bad line ends the walk
  pub line_stops : {bad : BadLine} {mem : List ℕ} {at : ℕ} {out' : List ℕ}
      → Err bad ≡ lineTold (line_of (take (length text - place.from) (drop place.from text)))
      → RowTold rows (row place.number (number_of bad.answer) 0 place.rec.busy) place.at out at out'
      → Played rows text place mem out
      (record { answer = bad.answer; place = record { from = place.from; at = at; number = place.number; rec = place.rec; tally = place.tally } }) mem out'
  line_stops {bad} {mem} read tells =
      let is = bad_answer text place.from some read in
      let refused = line_bad text place.from some read in
      let own : is_done bad.answer ≡ false = ap is_done (sym is) ∙ refused in
      record {
        goes = λ good. absurd (false≢true (sym own ∙ good));
        stops = λ _ k. walked_bad rows place mem out bad.answer own tells
            ∙ ap (λ (a : Answer). walked rows place mem out (ended_by a)) (sym is)
            ∙ ap (walked rows place mem out) (sym (read_bad k (drop place.from text) (more_text text place.from some) refused));
      }

  -- a line that stands carries it on
  pub line_goes : {line : Line} {mem : List ℕ} {told : Outcome} {mem' : List ℕ} {at : ℕ} {out' : List ℕ} {tally : Tally}
      → Ok line ≡ lineTold (line_of (take (length text - place.from) (drop place.from text)))
      → Performs (decided_of (state_at place mem) line.sent) mem told mem'
      → RowTold rows (row place.number (number_of told.answer) told.byte told.rec.busy) place.at out at out'
      → tally ≡ counting place.tally place.number told.answer
      → Played rows text place mem out
      (record {
        answer = Done;
        place = record { from = place.from + line.length; at = at; number = place.number + 1; rec = told.rec; tally = tally };
      }) mem' out'
  line_goes {line} {mem} {told} {mem'} {at} {out'} {tally} read performs tells refused =
      let rest = drop place.from text in
      let more = more_text text place.from some in
      let good = line_good text place.from some read in
      let sent = line_sent text place.from some read in
      let size = line_size text place.from some read in
      let inside = line_inside text place.from some read in
      let left = place.from + line.length in
      let next : Place = record { from = left; at = at; number = place.number + 1; rec = told.rec; tally = tally } in
      let less : length text - place.from - line.length ≡ length text - left = omega arith in
      let same : length out' ≡ length out = ap length tells.buffer ∙ simp length-sets in
      let own : line.length ≡ length (lineText line.sent.kind line.sent.byte line.sent.wait) =
      sym size ∙ read_length rest (done_is (line_of rest).answer good) ∙ ap (λ (t : Sent). length (lineText t.kind t.byte t.wait)) sent in
      record {
        goes = λ _. record {
          further = omega arith;
          fits = record {
            inside = inside.1;
            counted = let c = fits.counted in omega arith;
            fewer = rw refused (counting_below place.tally place.number told.answer fits.fewer);
            enough = rw (sym less, same) (room_after rows place.at at (length text - place.from) line.length inside.0 (omega arith) fits.enough tells.small);
          };
          left = λ k. ap (λ (t : List ℕ). walked rows next mem' out' (read_up_to k t)) (sym (drop-drop line.length place.from text))
              ∙ walked_more rows place mem out line.sent (read_up_to k (drop line.length rest)) next refl
              (ap (λ (n : ℕ). place.from + n) own) (simp (performs.told, performs.memory)) (rw performs.told at refused) (rw performs.told at tells)
              ∙ ap (λ (t : Sent). walked rows place mem out (following t (read_up_to k (drop line.length rest)))) (sym sent)
              ∙ ap (λ (n : ℕ). walked rows place mem out (following (sent_of (line_of rest)) (read_up_to k (drop n rest)))) (sym size)
              ∙ ap (walked rows place mem out) (sym (read_more k rest more good));
        };
        stops = λ bad. absurd (false≢true (sym bad));
      }

-- a walk of some lines more, after the first of them
pub walk_goes : {rows : Bool} {text : List ℕ} {place : Place} {mem out : List ℕ} {next : Place} {mem' out' : List ℕ} (lines : ℕ) → 0 < lines
    → Went rows text place mem out next mem' out' → walked_from rows (lines - 1) text next mem' out' ≡ walked_from rows lines text place mem out
walk_goes {rows} {text} {place} {mem} {out} lines some went =
    let one : suc (lines - 1) ≡ lines = omega arith in
    went.left (lines - 1) ∙ ap (λ (n : ℕ). walked_from rows n text place mem out) one

-- or at a bad line
pub walk_stops : {rows : Bool} {text : List ℕ} {place : Place} {mem out : List ℕ} {ended : Ended} {mem' out' : List ℕ} (lines : ℕ) → 0 < lines
    → Played rows text place mem out ended mem' out' → is_done ended.answer ≡ false
    → ended_at ended.answer ended.place mem' out' ≡ walked_from rows lines text place mem out
walk_stops {rows} {text} {place} {mem} {out} lines some played bad =
    let one : suc (lines - 1) ≡ lines = omega arith in
    played.stops bad (lines - 1) ∙ ap (λ (n : ℕ). walked_from rows n text place mem out) one

-- the end of the text
pub text_over : (rows : Bool) (lines : ℕ) (text : List ℕ) (place : Place) (mem out : List ℕ) → length text ≤ place.from
    → ended_at Done place mem out ≡ walked_from rows lines text place mem out
text_over rows lines text place mem out over =
    sym (walked_done rows place mem out)
    ∙ ap (walked rows place mem out) (sym (read_none lines) ∙ ap (read_up_to lines) (sym (drop_of_length-le text over)))

-- or so many lines were played
pub lines_over : (rows : Bool) (lines : ℕ) (text : List ℕ) (place : Place) (mem out : List ℕ) → lines ≡ 0
    → ended_at Done place mem out ≡ walked_from rows lines text place mem out
lines_over rows lines text place mem out none =
    sym (walked_done rows place mem out)
    ∙ ap (walked rows place mem out)
    (sym (read_enough (drop place.from text)) ∙ ap (λ (n : ℕ). read_up_to n (drop place.from text)) (sym none))

-- after the header there is room for the rows
pub report_begins : (text : List ℕ) (rec : Record) {out out₁ : List ℕ} {head : ℕ} {tally : Tally} → report_size text ≤ length out
    → length out₁ ≡ length out → Writes (wanting 20 header out) out (Ok head) out₁ → tally ≡ no_refusal
    → HasRoom true text out₁ (record { from = 0; at = head; number = 1; rec = rec; tally = tally })
report_begins text rec {out} enough same meets none =
    let long = ok_length (writes 20 header out (omega arith) meets).0 ∙ header_length in
    record { inside = omega arith; counted = omega arith; fewer = rw none (omega arith); enough = omega arith }

-- the header, and after it the rows, are the whole report
pub report_done : (frequency : Frequency) (text : List ℕ) (most : ℕ) (tally : Tally) {out out₁ : List ℕ} {head : ℕ} {rec : Record} {mem : List ℕ} (ended : Ended)
    {mem' out' : List ℕ} → report_size text ≤ length out → length text < 2 ^ 63 → length text ≤ most
    → Writes (wanting 20 header out) out (Ok head) out₁ → record { rec = rec; mem = mem } ≡ start frequency
    → ended_at ended.answer ended.place mem' out'
    ≡ walked_from true most text (record { from = 0; at = head; number = 1; rec = rec; tally = tally }) mem out₁
    → (ended.place.at ≡ length (report frequency text)) × (out' ≡ onto (report frequency text) out)
unfolding report walked
report_done frequency text most tally {out} {out₁} {head} {rec} {mem} ended enough few reaches meets begins walks =
    let fits = report_fits frequency text few in
    let all = rows_of 1 (start frequency) (session_of text) in
    let wrote = writes 20 header out (omega arith) meets in
    let first : head ≡ length header = ok_length wrote.0 in
    let own : rows_of 1 (record { rec = rec; mem = mem }) (read_up_to most text) ≡ all =
    ap (rows_of 1 (record { rec = rec; mem = mem })) (read_all most text reaches) ∙ ap (λ (s : State). rows_of 1 s (session_of text)) begins in
    let long : length (report frequency text) ≡ length header + length all = length-append header all in
    let begun : out₁ ≡ sets out 0 header = wrote.1 ∙ sym (sets_onto header out (omega (arith, header_length))) in (
      ap (λ (w : Walked). w.at) walks ∙ omega (arith, first, ap length own),
      ap (λ (w : Walked). w.out) walks
          ∙ ap (sets out₁ head) own
          ∙ sets_next out 0 header all begun (omega (arith, first))
          ∙ sets_onto (report frequency text) out (omega arith),
    )
