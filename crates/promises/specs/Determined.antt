-- "For each public function the promise determines the answer and the final content of every lent byte": for every input one
-- result meets the promise that its contract cites, and no second does. A result is what is returned, and with it each lent thing
-- as it is left.
-- Assumes nothing.
use Rattle.std.specs.Prelude.{Bool, List, ◌≡◌, ℕ, Option, Result, ⊤}
use Rattle.controller.specs.declared.cells.Counter.{Counter}
use Rattle.controller.specs.declared.answers.Answer.{Answer}
use Rattle.controller.specs.declared.decision.Outcome.{Outcome}
use Rattle.controller.specs.declared.loan.Told.{Told}
use Rattle.controller.specs.declared.oscillator.Frequency.{Frequency}
use Rattle.controller.specs.declared.sent.Sent.{Sent}
use Rattle.controller.specs.declared.«record».Record.{Record}
use Rattle.controller.specs.declared.«record».Function.{Function}
use Rattle.drawing.specs.declared.drawing.Form.{Form}
use Rattle.dots.specs.declared.panel.Profile.{Profile}
use Rattle.dots.specs.declared.panel.Size.{Size}
use Rattle.lines.specs.declared.reader.BadLine.{BadLine}
use Rattle.lines.specs.declared.reader.Line.{Line}
use Rattle.planner.specs.declared.wish.Wish.{Wish}
use Rattle.player.specs.declared.through.Standing.{Standing}
use Rattle.captures.specs.Promises.{ImportPromise, CapturePromise, LacksSignalPromise, UnknownFallPromise, WrongWordPromise}
use Rattle.captures.specs.declared.faults.Unknown.{Unknown}
use Rattle.captures.specs.declared.faults.Wrong.{Wrong}
use Rattle.controller.specs.Promises.{TransferPromise, TransferInPromise, ResetPromise, IsSoundPromise, NumberPromise}
use Rattle.controller.specs.Promises.{IsWholePromise, IsBadPromise, IsDonePromise, IsRefusalPromise, AfterResetPromise}
use Rattle.controller.specs.Promises.{AddressSetPromise, CellOfPromise, LittleEndianPromise, NumberFromPromise, SixBytesPromise}
use Rattle.controller.specs.Promises.{LineLengthPromise, IsInRangePromise, ShortTimePromise, LongTimePromise}
use Rattle.drawing.specs.Promises.{DrawPromise}
use Rattle.dots.specs.Promises.{PicturePromise, RowsOfPromise, IsShownPromise, ShownAtPromise, SizeOfPromise}
use Rattle.interface.specs.Promises.{YaropeskResetPromise, YaropeskTransferPromise, YaropeskPicturePromise, YaropeskPlanPromise}
use Rattle.interface.specs.Promises.{YaropeskWriteLinePromise, YaropeskReadLinePromise, YaropeskImportPromise}
use Rattle.lines.specs.Promises.{ReadLinePromise, WriteLinePromise, WriteRowPromise, WriteHeaderPromise, HexDigitPromise}
use Rattle.lines.specs.Promises.{WorthOfPromise, PutTextPromise, PutBytePromise, PutNumberPromise, PutHexPromise}
use Rattle.lines.specs.Promises.{PutAnswerPromise, FirstPromise, ThreeDigitsPromise, WordsOfPromise}
use Rattle.planner.specs.Promises.{PlanPromise}
use Rattle.player.specs.Promises.{PlayPromise, PlayThroughPromise}

-- One result fits, and no second.
abbrev pub ExactlyOne : {A : Type 0} → (A → Type 0) → Type 0
ExactlyOne {A} Fits = (a : A) × Fits a × ((b : A) → Fits b → b ≡ a)

-- Every public function of every crate.
pub record EachDetermined : Type 0 where
  pub transfer : (rec : Record) (mem : List ℕ) (kind byte wait : ℕ)
      → ExactlyOne (λ (x : Outcome × List ℕ). TransferPromise rec mem kind byte wait x.0 x.1)
  pub transfer_in : (rec : Record) (mem : List ℕ) (kind byte wait : ℕ)
      → ExactlyOne (λ (x : Told × Record × List ℕ). TransferInPromise rec mem kind byte wait x.0 x.1 x.2)
  pub reset : (rec : Record) (mem : List ℕ) → ExactlyOne (λ (x : Outcome × List ℕ). ResetPromise rec mem x.0 x.1)
  pub is_sound : (rec : Record) → ExactlyOne (λ (x : Bool). IsSoundPromise rec x)
  pub number : (answer : Answer) → ExactlyOne (λ (x : ℕ). NumberPromise answer x)
  pub is_whole : (mem : List ℕ) → ExactlyOne (λ (x : Bool). IsWholePromise mem x)
  pub is_bad : (kind byte : ℕ) → ExactlyOne (λ (x : Bool). IsBadPromise kind byte x)
  pub is_done : (answer : Answer) → ExactlyOne (λ (x : Bool). IsDonePromise answer x)
  pub is_refusal : (answer : Answer) → ExactlyOne (λ (x : Bool). IsRefusalPromise answer x)
  pub after_reset : (frequency : Frequency) → ExactlyOne (λ (x : Record). AfterResetPromise frequency x)
  pub cell_of : (counter : Counter) → ExactlyOne (λ (x : ℕ). CellOfPromise counter x)
  pub little_endian : (number : ℕ) → ExactlyOne (λ (x : List ℕ). LittleEndianPromise number x)
  pub number_from : (first second third fourth : ℕ) → ExactlyOne (λ (x : ℕ). NumberFromPromise first second third fourth x)
  pub six_bytes : (sent : Sent) → ExactlyOne (λ (x : List ℕ). SixBytesPromise sent x)
  pub address_set : (n : Bool) (counter : Counter) → ExactlyOne (λ (x : ℕ). AddressSetPromise n counter x)
  pub line_length : (n : Bool) → ExactlyOne (λ (x : ℕ). LineLengthPromise n x)
  pub is_in_range : (frequency : Frequency) → ExactlyOne (λ (x : Bool). IsInRangePromise frequency x)
  pub short_time : (frequency : Frequency) → ExactlyOne (λ (x : ℕ). ShortTimePromise frequency x)
  pub long_time : (frequency : Frequency) → ExactlyOne (λ (x : ℕ). LongTimePromise frequency x)
  pub picture : (rec : Record) (mem : List ℕ) (profile : Profile) (lit : Bool) (out : List ℕ)
      → ExactlyOne (λ (x : Result ⊤ Answer × List ℕ). PicturePromise rec mem profile lit out x.0 x.1)
  pub rows_of : (function : Function) → ExactlyOne (λ (x : ℕ). RowsOfPromise function x)
  pub is_shown : (n : Bool) (shift : ℕ) (profile : Profile) (cell : ℕ)
      → ExactlyOne (λ (x : Bool). IsShownPromise n shift profile cell x)
  pub shown_at : (n : Bool) (shift : ℕ) (profile : Profile) (line column : ℕ)
      → ExactlyOne (λ (x : Option ℕ). ShownAtPromise n shift profile line column x)
  pub size_of : (profile : Profile) → ExactlyOne (λ (x : Size). SizeOfPromise profile x)
  pub plan : (wish : Wish) (marks values out : List ℕ)
      → ExactlyOne (λ (x : Result ℕ Answer × List ℕ). PlanPromise wish marks values out x.0 x.1)
  pub hex_digit : (number : ℕ) → ExactlyOne (λ (x : ℕ). HexDigitPromise number x)
  pub worth_of : (byte : ℕ) → ExactlyOne (λ (x : Option ℕ). WorthOfPromise byte x)
  pub three_digits : (word : List ℕ) → ExactlyOne (λ (x : Option ℕ). ThreeDigitsPromise word x)
  pub put_byte : (out : List ℕ) (at byte : ℕ) → ExactlyOne (λ (x : ℕ × List ℕ). PutBytePromise out at byte x.0 x.1)
  pub put_text : (out : List ℕ) (at : ℕ) (text : List ℕ)
      → ExactlyOne (λ (x : ℕ × List ℕ). PutTextPromise out at text x.0 x.1)
  pub put_number : (out : List ℕ) (at number : ℕ) → ExactlyOne (λ (x : ℕ × List ℕ). PutNumberPromise out at number x.0 x.1)
  pub put_hex : (out : List ℕ) (at byte : ℕ) → ExactlyOne (λ (x : ℕ × List ℕ). PutHexPromise out at byte x.0 x.1)
  pub put_answer : (out : List ℕ) (at : ℕ) (answer : Answer)
      → ExactlyOne (λ (x : ℕ × List ℕ). PutAnswerPromise out at answer x.0 x.1)
  pub words_of : (answer : Answer) → ExactlyOne (λ (x : List ℕ). WordsOfPromise answer x)
  pub first : (bytes : List ℕ) (count : ℕ) → ExactlyOne (λ (x : List ℕ). FirstPromise bytes count x)
  pub read_line : (text : List ℕ) → ExactlyOne (λ (x : Result Line BadLine). ReadLinePromise text x)
  pub write_line : (kind byte wait : ℕ) (out : List ℕ)
      → ExactlyOne (λ (x : Result ℕ Answer × List ℕ). WriteLinePromise kind byte wait out x.0 x.1)
  pub write_row : (number answer byte busy : ℕ) (out : List ℕ)
      → ExactlyOne (λ (x : Result ℕ Answer × List ℕ). WriteRowPromise number answer byte busy out x.0 x.1)
  pub write_header : (out : List ℕ) → ExactlyOne (λ (x : Result ℕ Answer × List ℕ). WriteHeaderPromise out x.0 x.1)
  pub play : (text : List ℕ) (frequency : Frequency) (out : List ℕ)
      → ExactlyOne (λ (x : Result ℕ Answer × List ℕ). PlayPromise text frequency out x.0 x.1)
  pub play_through : (text : List ℕ) (frequency : Frequency) (most : ℕ)
      → ExactlyOne (λ (x : Standing). PlayThroughPromise text frequency most x)
  pub import : (capture out : List ℕ) → ExactlyOne (λ (x : Result ℕ Answer × List ℕ). ImportPromise capture out x.0 x.1)
  pub capture : (session out : List ℕ) → ExactlyOne (λ (x : Result ℕ Answer × List ℕ). CapturePromise session out x.0 x.1)
  pub wrong_word : (capture : List ℕ) → ExactlyOne (λ (x : Wrong). WrongWordPromise capture x)
  pub lacks_signal : (capture : List ℕ) (line : ℕ) → ExactlyOne (λ (x : Bool). LacksSignalPromise capture line x)
  pub unknown_fall : (capture : List ℕ) → ExactlyOne (λ (x : Option Unknown). UnknownFallPromise capture x)
  pub draw : (form : Form) (rec : Record) (mem : List ℕ) (profile : Profile) (lit : Bool) (out : List ℕ)
      → ExactlyOne (λ (x : Result ℕ Answer × List ℕ). DrawPromise form rec mem profile lit out x.0 x.1)
  pub yaropesk_reset : (bytes mem : List ℕ)
      → ExactlyOne (λ (x : ℕ × List ℕ × List ℕ). YaropeskResetPromise bytes mem x.0 x.1 x.2)
  pub yaropesk_transfer : (bytes mem : List ℕ) (kind byte wait : ℕ)
      → ExactlyOne (λ (x : ℕ × List ℕ × List ℕ). YaropeskTransferPromise bytes mem kind byte wait x.0 x.1 x.2)
  pub yaropesk_picture : (bytes mem : List ℕ) (profile columns lines lit : ℕ) (out : List ℕ)
      → ExactlyOne (λ (x : ℕ × List ℕ). YaropeskPicturePromise bytes mem profile columns lines lit out x.0 x.1)
  pub yaropesk_plan : (wish marks values out : List ℕ)
      → ExactlyOne (λ (x : ℕ × List ℕ). YaropeskPlanPromise wish marks values out x.0 x.1)
  pub yaropesk_write_line : (kind byte wait : ℕ) (out : List ℕ)
      → ExactlyOne (λ (x : ℕ × List ℕ). YaropeskWriteLinePromise kind byte wait out x.0 x.1)
  pub yaropesk_read_line : (text out : List ℕ) → ExactlyOne (λ (x : ℕ × List ℕ). YaropeskReadLinePromise text out x.0 x.1)
  pub yaropesk_import : (capture out : List ℕ) → ExactlyOne (λ (x : ℕ × List ℕ). YaropeskImportPromise capture out x.0 x.1)
