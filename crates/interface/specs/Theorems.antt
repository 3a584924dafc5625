-- What is proved of the bytes of a record and of a wish, and of the calls: each theorem is a type here, and its proof stands in
-- proofs/Theorems.
-- Assumes nothing.
use Rattle.std.specs.Prelude.{true, cond, ◌||◌, List, [], ◌∷◌, ◌⊎◌, ◌≡◌, ℕ, ◌+◌, ◌*◌, ◌%◌, ◌<◌, ◌≤◌, eqb, length, get_or, Option}
use Rattle.std.specs.Prelude.{Some, None}
use Rattle.controller.specs.declared.answers.Answer.{Answer}
use Rattle.controller.specs.declared.«record».Record.{Record}
use Rattle.controller.specs.Answers.{is_refusal, number_of, Row, Tells}
use Rattle.controller.specs.Record.{sound}
use Rattle.controller.specs.Rows.{Breaks, reset_rows, transfer_rows}
use Rattle.controller.specs.Theorems.{left}
use Rattle.captures.specs.Theorems.{import_rows}
use Rattle.dots.specs.declared.panel.Profile.TheVariants.{Plain, FourRows, Divided, Unknown}
use Rattle.dots.specs.Theorems.{picture_rows}
use Rattle.lines.specs.Faults.{reader_rows}
use Rattle.lines.specs.Reading.{line_of}
use Rattle.lines.specs.Theorems.{writer_rows}
use Rattle.planner.specs.declared.wish.Wish.{Wish}
use Rattle.planner.specs.Theorems.{NotWished, plan_rows}
use Rattle.interface.specs.CaptureCalls.{import_call}
use Rattle.interface.specs.ControllerCalls.{Call, refusal, reset_call, transfer_call}
use Rattle.interface.specs.Filling.{Filling, declined}
use Rattle.interface.specs.LineCalls.{read_call, write_call}
use Rattle.interface.specs.PictureCalls.{picture_call, profile_of}
use Rattle.interface.specs.PlanCalls.{plan_call}
use Rattle.interface.specs.RecordBytes.{record_bytes, record_in}
use Rattle.interface.specs.WishBytes.{wish_bytes, wish_in}

-- The bytes of a sound record say that record.
abbrev pub RecordReadsBack : Type 0
RecordReadsBack = (rec : Record) → sound rec ≡ true → record_in (record_bytes rec) ≡ Some rec

-- Bytes that say a record are its bytes: no two buffers say the same record.
abbrev pub RecordWritesBack : Type 0
RecordWritesBack = (bytes : List ℕ) (rec : Record) → record_in bytes ≡ Some rec → record_bytes rec ≡ bytes

-- The bytes of any wish say that wish.
abbrev pub WishReadsBack : Type 0
WishReadsBack = (wish : Wish) → wish_in (wish_bytes wish) ≡ Some wish

-- Bytes that say a wish are its bytes.
abbrev pub WishWritesBack : Type 0
WishWritesBack = (bytes : List ℕ) (wish : Wish) → wish_in bytes ≡ Some wish → wish_bytes wish ≡ bytes

-- The frequency that these two bytes say, the lower first.
abbrev pub says_khz : List ℕ → ℕ → ℕ → ℕ
says_khz bytes low high = get_or bytes low 0 + 256 * get_or bytes high 0

-- A record's frequency stands in bytes 20 and 21, and a wish's in 9 and 10.
pub record FrequencySaid : Type 0 where
  pub record_says : (bytes : List ℕ) (rec : Record) → record_in bytes ≡ Some rec → rec.frequency.khz ≡ says_khz bytes 20 21
  pub wish_says : (bytes : List ℕ) (wish : Wish) → wish_in bytes ≡ Some wish → wish.frequency.khz ≡ says_khz bytes 9 10

-- Whatever else its 24 bytes say, `yaropesk_reset` leaves there a frequency in range as it was, and FAh and 00h, which is 250,
-- for any other.
pub record ResetSays (bytes mem : List ℕ) : Type 0 where
  pub kept : 190 ≤ says_khz bytes 20 21 → says_khz bytes 20 21 ≤ 350
      → (get_or (reset_call bytes mem).rec 20 0 ≡ get_or bytes 20 0)
      × (get_or (reset_call bytes mem).rec 21 0 ≡ get_or bytes 21 0)
  pub put : (says_khz bytes 20 21 < 190) ⊎ (350 < says_khz bytes 20 21)
      → (get_or (reset_call bytes mem).rec 20 0 ≡ 0xFA) × (get_or (reset_call bytes mem).rec 21 0 ≡ 0x00)

-- So with every record and memory of the right length.
abbrev pub ResetLeavesFrequency : Type 0
ResetLeavesFrequency =
    (bytes mem : List ℕ) → length bytes ≡ 24 → length mem ≡ 144 → get_or bytes 20 0 < 256 → ResetSays bytes mem

-- The answer's number in what a call returns. Above it stands 256 times a byte, a count or a length, and for a line 65,536 times
-- the offset of its fault.
abbrev pub answer_in : ℕ → ℕ
answer_in returned = returned % 256

-- What is returned tells this refusal.
pub record Refuses (answer : Answer) (returned : ℕ) : Type 0 where
  pub refusal : is_refusal answer ≡ true
  pub told : answer_in returned ≡ number_of answer

-- A refused call that fills a buffer returns the bare number, and leaves the buffer as found.
abbrev pub KeepsBuffer : Filling → List ℕ → Type 0
KeepsBuffer call out = (answer : Answer) → Refuses answer call.returned → call ≡ declined answer out

-- A refused call for a line returns the number and 65,536 times this offset, and leaves the buffer as found.
abbrev pub KeepsBufferAt : ℕ → Filling → List ℕ → Type 0
KeepsBufferAt offset call out =
    (answer : Answer) → Refuses answer call.returned
    → call ≡ record { returned = number_of answer + 65536 * offset; buffer = out }

-- A refused call over a record and a memory returns the bare number, and leaves the memory as found and these bytes of the
-- record.
abbrev pub KeepsMemory : Call → List ℕ → (Answer → List ℕ) → Type 0
KeepsMemory call mem bytes = (answer : Answer) → Refuses answer call.returned → call ≡ refusal answer (bytes answer) mem

-- The record's bytes after a refused transfer: as found, but for two. 4 leaves there the record with only busy reduced, 6 with
-- the wait counted and the half gone.
unfoldable pub bytes_left : Option Record → List ℕ → ℕ → Answer → List ℕ
bytes_left None bytes wait answer = bytes
bytes_left (Some rec) bytes wait answer =
    cond (eqb (number_of answer) 4 || eqb (number_of answer) 6) (record_bytes (left answer wait rec)) bytes

-- What a refusal leaves, call by call. The offset of a line that is read is 0, so that 11 is told bare.
pub record CallRefusals : Type 0 where
  pub reset : (bytes mem : List ℕ) → KeepsMemory (reset_call bytes mem) mem (λ _. bytes)
  pub transfer : (bytes mem : List ℕ) (kind byte wait : ℕ)
      → KeepsMemory (transfer_call bytes mem kind byte wait) mem (bytes_left (record_in bytes) bytes wait)
  pub picture : (bytes mem : List ℕ) (profile columns lines lit : ℕ) (out : List ℕ)
      → KeepsBuffer (picture_call bytes mem profile columns lines lit out) out
  pub plan : (wish marks values out : List ℕ) → KeepsBuffer (plan_call wish marks values out) out
  pub write_line : (kind byte wait : ℕ) (out : List ℕ) → KeepsBuffer (write_call kind byte wait out) out
  pub read_line : (text out : List ℕ) → KeepsBufferAt (line_of text).offset (read_call text out) out
  pub import : (capture out : List ℕ) → KeepsBuffer (import_call capture out) out

-- These are the 24 bytes of this record, which is sound.
pub record AreOf (bytes : List ℕ) (rec : Record) : Type 0 where
  pub own : bytes ≡ record_bytes rec
  pub sound : Breaks rec → ⊥

-- A call over a record's bytes: 1 where they are those of no sound record, else what the rows of their record give.
pub record OverRecord (bytes : List ℕ) (returned : ℕ) (rows : Record → List Row) : Type 0 where
  pub unsound : ((rec : Record) → AreOf bytes rec → ⊥) → answer_in returned ≡ 1
  pub of : (rec : Record) → AreOf bytes rec → Tells (answer_in returned) (rows rec)

-- The rows of `yaropesk_reset`: 1 where the record's bytes are not 24, then 2.
unfoldable pub reset_call_rows : List ℕ → List ℕ → List Row
reset_call_rows bytes mem = record { number = 1; applies = length bytes ≡ 24 → ⊥ } ∷ reset_rows mem

-- Row 13 of `yaropesk_plan`: the 16 bytes of no wish, or of one that is none with these marks.
abbrev pub NoneWished : List ℕ → List ℕ → Type 0
NoneWished bytes marks = (wish : Wish) → bytes ≡ wish_bytes wish → NotWished wish marks

-- The rows of `yaropesk_read_line`: those of the reader, 16 to 19, then 11, six bytes being wanted.
unfoldable pub read_rows : List ℕ → List ℕ → List Row
read_rows text out = reader_rows text (record { number = 11; applies = length out < 6 } ∷ [])

-- What each call answers.
pub record CallAnswers : Type 0 where
  pub reset : (bytes mem : List ℕ) → Tells (answer_in (reset_call bytes mem).returned) (reset_call_rows bytes mem)
  pub transfer : (bytes mem : List ℕ) (kind byte wait : ℕ)
      → OverRecord bytes (transfer_call bytes mem kind byte wait).returned (λ rec. transfer_rows rec mem kind byte wait)
  pub picture : (bytes mem : List ℕ) (profile columns lines lit : ℕ) (out : List ℕ)
      → OverRecord bytes (picture_call bytes mem profile columns lines lit out).returned
      (λ rec. picture_rows rec mem (profile_of profile columns lines) (length out))
  pub plan : (wish marks values out : List ℕ)
      → Tells (answer_in (plan_call wish marks values out).returned) (plan_rows (NoneWished wish marks) marks values out)
  pub write_line : (kind byte wait : ℕ) (out : List ℕ)
      → Tells (answer_in (write_call kind byte wait out).returned) (writer_rows kind byte out)
  pub read_line : (text out : List ℕ) → Tells (answer_in (read_call text out).returned) (read_rows text out)
  pub import : (capture out : List ℕ) → Tells (answer_in (import_call capture out).returned) (import_rows capture out)

-- The numbers of the panels. Of row 10 that means: columns or lines out of range at 0, and any number above 2.
pub record ProfileNumbers : Type 0 where
  pub plain : (columns lines : ℕ) → profile_of 0 columns lines ≡ Plain (record { columns = columns; lines = lines })
  pub four_rows : (columns lines : ℕ) → profile_of 1 columns lines ≡ FourRows
  pub divided : (columns lines : ℕ) → profile_of 2 columns lines ≡ Divided
  pub unknown : (profile columns lines : ℕ) → 2 < profile → profile_of profile columns lines ≡ Unknown
