-- The answers in words (document 01, "What each number says"; document 02).
-- Assumes nothing.
use Rattle.std.specs.Prelude.{List, ℕ}
use Rattle.controller.specs.declared.answers.Answer.{Answer}
use Rattle.controller.specs.declared.answers.Answer.TheVariants.{Done, Unsound, NotWhole, BadTransfer, Busy, FirstHalf}
use Rattle.controller.specs.declared.answers.Answer.TheVariants.{NoCell, StaleRead, CrossedHalves, CounterOff, BadSize}
use Rattle.controller.specs.declared.answers.Answer.TheVariants.{OutputShort, NotWish}
use Rattle.controller.specs.declared.answers.Answer.TheVariants.{OutsideSubset, SignalMissing, LevelUnknown}
use Rattle.controller.specs.declared.answers.Answer.TheVariants.{BadKind, BadByte, BadWait, NoNewline}
use Rattle.lines.specs.Text.{bytes_of}

-- What the table says of each answer.
unfoldable pub answer_words : Answer → List ℕ
answer_words Done = bytes_of "done"
answer_words Unsound = bytes_of "record unsound"
answer_words NotWhole = bytes_of "memory, marks or values not 144 long"
answer_words BadTransfer = bytes_of "kind above 3, or a read with a byte"
answer_words Busy = bytes_of "busy"
answer_words FirstHalf = bytes_of "first half taken"
answer_words NoCell = bytes_of "display address without a cell"
answer_words StaleRead = bytes_of "stale read, done"
answer_words CrossedHalves = bytes_of "crossed halves, done"
answer_words CounterOff = bytes_of "counter on no cell"
answer_words BadSize = bytes_of "columns or lines out of range"
answer_words OutputShort = bytes_of "output too short"
answer_words NotWish = bytes_of "not a wish"
answer_words OutsideSubset = bytes_of "text outside the subset"
answer_words SignalMissing = bytes_of "needed signal missing"
answer_words BadKind = bytes_of "kind or its tab"
answer_words BadByte = bytes_of "byte or its tab"
answer_words BadWait = bytes_of "wait"
answer_words NoNewline = bytes_of "no newline where one must stand"
answer_words LevelUnknown = bytes_of "x or z on a needed line at a fall"
