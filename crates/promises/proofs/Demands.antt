-- The demands, cited where their parts are proved; here only that a refused writer of text leaves its buffer, and what a panel
-- shows of a wish that stands.
-- Assumes nothing.
use mathlib.Core.Bool.{Bool, true, false}
use mathlib.Core.List.{List, []}
use mathlib.Core.Path.{◌≡◌, refl, ap, ◌∙◌}
use Prim.Native.Nat.{ℕ, ◌<◌}
use native.Mathlib.Omega.{arith}
use lib.ListN.{length}
use Rattle.controller.proofs.Theorems.Answers.{transfer_answers, loan_answers, reset_answers}
use Rattle.controller.proofs.Theorems.Halves.{halves_make_whole}
use Rattle.controller.proofs.Theorems.Clear.{clear_runs_right}
use Rattle.controller.proofs.Theorems.HalfRules.{half_rules}
use Rattle.controller.proofs.Theorems.Rules.{data_rules, instruction_rules}
use Rattle.controller.proofs.Theorems.Rules.{address_set_goes, clear_leaves_rest, function_moves_nothing, read_never_shifts, status_alters_nothing}
use Rattle.controller.proofs.Theorems.Refusals.{transfer_refusals, loan_refusals, reset_refusals}
use Rattle.controller.proofs.Theorems.Sound.{transfer_keeps_sound, reset_makes_sound, effects_fit}
use Rattle.controller.proofs.Theorems.Times.{oscillator_rules}
use Rattle.controller.specs.declared.oscillator.Frequency.{Frequency}
use Rattle.controller.specs.Answers.{number_of}
use Rattle.drawing.proofs.Theorems.{draw_answers, draw_refusals}
use Rattle.std.specs.Prelude.{Result, Some}
use Rattle.controller.specs.declared.answers.Answer.{Answer}
use Rattle.dots.specs.Font.{font}
use Rattle.dots.specs.Geometry.{cell_at}
use Rattle.dots.specs.Picture.{cell_row}
use Rattle.dots.proofs.Places.{in_within}
use Rattle.dots.proofs.Table.{table_rows, table_shapes, table_shows}
use Rattle.dots.proofs.Theorems.{cursor_shows, each_byte, eight_rows, f_alters_nothing, five_dots, later_stay, line_shows, off_dark}
use Rattle.dots.proofs.Theorems.{pattern_shows, picture_answers, picture_refusals, position_dots}
use Rattle.dots.proofs.Profiles.{first_line_reads, one_position, panel_sizes, rows_run, rows_start, second_line_dark}
use Rattle.interface.proofs.Theorems.Answers.{call_answers}
use Rattle.interface.proofs.Theorems.Refusals.{call_refusals}
use Rattle.lines.proofs.Laws.Nothing.{WritesNothing, wanting_nothing, writer_nothing}
use Rattle.lines.proofs.Theorems.One.{one_reading, writer_answers, text_answers}
use Rattle.lines.proofs.Theorems.Read.{read_or_refused, reader_answers, read_writes_back}
use Rattle.lines.proofs.Theorems.Written.{buffer_reads_back, written_reads_back}
use Rattle.lines.specs.Writing.{Writing, answer_in, length_in, onto}
use Rattle.lines.proofs.Laws.Told.{answer_told, length_told}
use Rattle.planner.specs.Demand.{wished_record}
use Rattle.planner.proofs.Theorems.Plan.{planned_runs}
use Rattle.planner.proofs.Theorems.Wish.{not_wishes, plan_answers, plan_refusals}
use Rattle.captures.proofs.Theorems.Answers.{import_answers, import_nothing}
use Rattle.captures.proofs.Theorems.Capture.{capture_answers, capture_nothing}
use Rattle.player.proofs.Theorems.Ends.{bad_line_ends, through_answers}
use Rattle.player.proofs.Theorems.One.{play_answers}
use Rattle.player.specs.Report.{report, report_size, playing}
use Rattle.promises.proofs.Determined.{each_determined}
use Rattle.promises.specs.Answers.{EachAnswer}
use Rattle.promises.specs.Demands.{LeavesBuffer, Demand1, DotRules, Demand2, Demand3, WishedOnGlass}

pub each_answer : EachAnswer
each_answer =
    record {
      transfer = transfer_answers;
      loan = loan_answers;
      reset = reset_answers;
      picture = picture_answers;
      plan = plan_answers;
      reader = reader_answers;
      writer = writer_answers;
      texts = text_answers;
      play = play_answers;
      through = through_answers;
      import = import_answers;
      capture = capture_answers;
      draw = draw_answers;
      c_calls = call_answers;
    }

leaves : (w : Writing) (out : List ℕ) → WritesNothing w → LeavesBuffer w out
leaves w out none returned after meets refused =
    let empty : w.text ≡ [] = none (λ e. refused (ap (λ (r : Result ℕ Answer). number_of (answer_in r)) meets.told ∙ ap number_of (answer_told w) ∙ e)) in
    (ap length_in meets.told ∙ length_told w none ∙ ap length empty, meets.buffer ∙ ap (λ (t : List ℕ). onto t out) empty)

play_nothing : (frequency : Frequency) (text out : List ℕ) → WritesNothing (playing frequency text out)
unfolding playing
play_nothing frequency text out = wanting_nothing (report_size text) (report frequency text) out

pub demand_1 : Demand1
demand_1 =
    record {
      answers = each_determined;
      numbers = each_answer;
      wishes = not_wishes;
      transfer = transfer_refusals;
      loan = loan_refusals;
      reset = reset_refusals;
      picture = picture_refusals;
      plan = plan_refusals;
      reader = read_or_refused;
      writer = λ kind byte wait out. leaves _ out (writer_nothing kind byte wait out);
      texts = λ size text out. leaves _ out (wanting_nothing size text out);
      play = λ frequency text out. leaves _ out (play_nothing frequency text out);
      through = bad_line_ends;
      import = λ capture out. leaves _ out (import_nothing capture out);
      capture = λ session out. leaves _ out (capture_nothing session out);
      draw = draw_refusals;
      c_calls = call_refusals;
    }

dot_rules : DotRules
dot_rules =
    record {
      bytes = each_byte;
      rows = eight_rows;
      five = five_dots;
      later = later_stay;
      lines = line_shows;
      sizes = panel_sizes;
      starts = rows_start;
      runs = rows_run;
      positions = position_dots;
      one_position = one_position;
      second_line = second_line_dark;
      first_line = first_line_reads;
      patterns = pattern_shows;
      table = table_shows;
      table_rows = table_rows;
      shapes = table_shapes;
      f = f_alters_nothing;
      cursor = cursor_shows;
      off = off_dark;
    }

pub demand_2 : Demand2
demand_2 =
    record {
      answers = transfer_answers;
      instructions = instruction_rules;
      transfers = data_rules;
      halves = halves_make_whole;
      half_rules = half_rules;
      named =
          record {
            read_never_shifts = read_never_shifts;
            status_alters_nothing = status_alters_nothing;
            function_moves_nothing = function_moves_nothing;
            clear_leaves_rest = clear_leaves_rest;
            clear_runs_right = clear_runs_right;
            address_set_goes = address_set_goes;
          };
      oscillator = oscillator_rules;
      kept = transfer_keeps_sound;
      reset = reset_makes_sound;
      effects = effects_fit;
      dots = dot_rules;
      written = written_reads_back;
      buffer = buffer_reads_back;
      read = read_writes_back;
      one_reading = one_reading;
    }

-- A cell that a position shows is one of the 80.
shown_below : (n : Bool) (shift line position cell : ℕ) → cell_at n shift line position ≡ Some cell → cell < 80
shown_below true shift line position cell is = rw is at (in_within 2 40 shift line position (omega arith) (omega arith))
shown_below false shift line position cell is = rw is at (in_within 1 80 shift line position (omega arith) (omega arith))

wished_on_glass : WishedOnGlass
unfolding cell_row
wished_on_glass wish marks values state profile lit line row column cell stands d shows named =
    let below = shown_below wish.function.n wish.shift _ _ cell shows in
    let same = stands.cells cell (omega arith) named in
    rw stands.rec (position_dots font (wished_record wish state.mem) state.mem lit profile line row column cell d shows ∙ rw same refl)

pub demand_3 : Demand3
demand_3 = record { runs = planned_runs; glass = wished_on_glass }
