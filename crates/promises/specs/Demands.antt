-- The three demands, each as one statement over all public calls.
-- Assumes nothing.
use Rattle.std.specs.Prelude.{Bool, true, cond, List, ◌≡◌, ℕ, get_or, Result, Some}
use Rattle.captures.specs.Import.{importing}
use Rattle.captures.specs.Made.{capturing}
use Rattle.controller.specs.declared.answers.Answer.{Answer}
use Rattle.controller.specs.declared.oscillator.Frequency.{Frequency}
use Rattle.controller.specs.HalfRules.{HalfRules}
use Rattle.controller.specs.Rules.{DataRules, HalvesMakeWhole, InstructionRules}
use Rattle.controller.specs.Rules.{AddressSetGoes, ClearLeavesRest, ClearRunsRight, FunctionMovesNothing}
use Rattle.controller.specs.Rules.{ReadNeverShifts, StatusAltersNothing}
use Rattle.controller.specs.Answers.{number_of}
use Rattle.controller.specs.Runs.{State}
use Rattle.controller.specs.Theorems.{TransferAnswers, TransferKeepsSound, ResetMakesSound, EffectsFit}
use Rattle.controller.specs.Theorems.{TransferRefusals, LoanRefusals, ResetRefusals}
use Rattle.controller.specs.Times.{OscillatorRules}
use Rattle.drawing.specs.Theorems.{DrawRefusals}
use Rattle.dots.specs.declared.panel.Profile.{Profile}
use Rattle.dots.specs.Font.{font}
use Rattle.dots.specs.Geometry.{shown_at}
use Rattle.dots.specs.Picture.{covered, dots_on, row_of}
use Rattle.dots.specs.Theorems.{CursorShows, EachByte, EightRows, FAltersNothing, FiveDots, LaterStay, LineShows, OffDark}
use Rattle.dots.specs.Theorems.{PatternShows, PictureRefusals, PositionDots, TableRows, TableShapes, TableShows}
use Rattle.dots.specs.Profiles.{FirstLineReads, OnePosition, PanelSizes, RowsRun, RowsStart, SecondLineDark}
use Rattle.interface.specs.Theorems.{CallRefusals}
use Rattle.lines.specs.Faults.{ReadOrRefused}
use Rattle.lines.specs.Theorems.{BufferReadsBack, WrittenReadsBack, ReadWritesBack, OneReading}
use Rattle.lines.specs.Writing.{Writing, Writes, answer_in, length_in, wanting, line_writing}
use Rattle.planner.specs.Demand.{Stands, wished_record}
use Rattle.planner.specs.Theorems.{NotWishes, PlanRefusals, PlannedRuns}
use Rattle.planner.specs.Wish.{marked}
use Rattle.planner.specs.declared.wish.Wish.{Wish}
use Rattle.player.specs.Report.{playing}
use Rattle.player.specs.Theorems.{BadLineEnds}
use Rattle.promises.specs.Answers.{EachAnswer}
use Rattle.promises.specs.Determined.{EachDetermined}

-- A refused call that writes text gives length 0 and leaves the buffer as found.
abbrev pub LeavesBuffer : Writing → List ℕ → Type 0
LeavesBuffer w out =
    (returned : Result ℕ Answer) (after : List ℕ) → Writes w out returned after → (number_of (answer_in returned) ≡ 0 → ⊥)
    → (length_in returned ≡ 0) × (after ≡ out)

-- 1. Every call answers every input. Nothing has to be checked first; bad input gets a numbered refusal, and no refusal alters a
-- memory cell or an output buffer. What it leaves in the controller's record is listed.
-- `loan` speaks of the loan call, `texts` of rows and header, `through` of a text that is played without a report, `c_calls` of
-- the calls for C.
pub record Demand1 : Type 0 where
  pub answers : EachDetermined
  pub numbers : EachAnswer
  pub wishes : NotWishes
  pub transfer : TransferRefusals
  pub loan : LoanRefusals
  pub reset : ResetRefusals
  pub picture : PictureRefusals
  pub plan : PlanRefusals
  pub reader : ReadOrRefused
  pub writer : (kind byte wait : ℕ) (out : List ℕ) → LeavesBuffer (line_writing kind byte wait out) out
  pub texts : (size : ℕ) (text out : List ℕ) → LeavesBuffer (wanting size text out) out
  pub play : (frequency : Frequency) (text out : List ℕ) → LeavesBuffer (playing frequency text out) out
  pub through : BadLineEnds
  pub import : (capture out : List ℕ) → LeavesBuffer (importing capture out) out
  pub capture : (session out : List ℕ) → LeavesBuffer (capturing session out) out
  pub draw : DrawRefusals
  pub c_calls : CallRefusals

-- What document 01 says by name of single transfers, each a line from the rules.
pub record NamedRules : Type 0 where
  pub read_never_shifts : ReadNeverShifts
  pub status_alters_nothing : StatusAltersNothing
  pub function_moves_nothing : FunctionMovesNothing
  pub clear_leaves_rest : ClearLeavesRest
  pub clear_runs_right : ClearRunsRight
  pub address_set_goes : AddressSetGoes

-- The dots on the glass of any panel: the place of each byte, the cell of each position, and the row that a code, the cursor or D
-- gives.
pub record DotRules : Type 0 where
  pub bytes : EachByte
  pub rows : EightRows
  pub five : FiveDots
  pub later : LaterStay
  pub lines : LineShows
  pub sizes : PanelSizes
  pub starts : RowsStart
  pub runs : RowsRun
  pub positions : PositionDots
  pub one_position : OnePosition
  pub second_line : SecondLineDark
  pub first_line : FirstLineReads
  pub patterns : PatternShows
  pub table : TableShows
  pub table_rows : TableRows
  pub shapes : TableShapes
  pub f : FAltersNothing
  pub cursor : CursorShows
  pub off : OffDark

-- 2. Each bus transfer answers and leaves its controller as set out in document 01: that is the promise of `transfer`, with the
-- definitions it cites, and here it is said once more. The answers by the table's rows; at width 8 each instruction, write and
-- read field by field; at width 4 by halves; the times at each frequency. A sound record is kept sound, and every effect within
-- the memory. The dots on the glass are said rule by rule. A session line, once written, reads back as the same transfer, and a
-- line that was read is written out the same.
pub record Demand2 : Type 0 where
  pub answers : TransferAnswers
  pub instructions : InstructionRules
  pub transfers : DataRules
  pub halves : HalvesMakeWhole
  pub half_rules : HalfRules
  pub named : NamedRules
  pub oscillator : OscillatorRules
  pub kept : TransferKeepsSound
  pub reset : ResetMakesSound
  pub effects : EffectsFit
  pub dots : DotRules
  pub written : WrittenReadsBack
  pub buffer : BufferReadsBack
  pub read : ReadWritesBack
  pub one_reading : OneReading

-- What any panel shows of a controller that stands as wished, with D=1: at a position whose cell the wish names, the dots of the
-- wished byte, and all five where the wished cursor or blinking covers them.
abbrev pub WishedOnGlass : Type 0
WishedOnGlass =
    (wish : Wish) (marks values : List ℕ) (state : State) (profile : Profile) (lit : Bool) (line row column cell : ℕ)
    → Stands wish marks values state → wish.control.d ≡ true
    → shown_at wish.function.n wish.shift profile line column ≡ Some cell → marked marks cell ≡ true
    → dots_on font state.rec state.mem lit profile line row column
    ≡ cond (covered (wished_record wish state.mem) lit row cell) 0b11111 (row_of font state.mem (get_or values cell 0) row)

-- 3. Any accepted wish, any sound controller of the wish's frequency, cut runs as often as you like and a whole one, of what a
-- board reads back from the bytes of the accepted call; and what then stands on the glass of any panel.
pub record Demand3 : Type 0 where
  pub runs : PlannedRuns
  pub glass : WishedOnGlass
