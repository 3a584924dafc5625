-- What each public function promises: the one predicate that its contract cites.
-- Assumes nothing.
use Rattle.std.specs.Prelude.{◌≡◌, ℕ, Bool, List, Option, Result}
use Rattle.controller.specs.declared.answers.Answer.{Answer}
use Rattle.lines.specs.Writing.{Writes}
use Rattle.captures.specs.declared.faults.Unknown.{Unknown}
use Rattle.captures.specs.declared.faults.Wrong.{Wrong}
use Rattle.captures.specs.Faults.{lacks_line, unknown_in, unknown_told, wrong_in}
use Rattle.captures.specs.Import.{importing}
use Rattle.captures.specs.Made.{capturing}

-- `import`: the length of the session's text or the refusal, and every byte of the buffer.
abbrev pub ImportPromise : List ℕ → List ℕ → Result ℕ Answer → List ℕ → Type 0
ImportPromise capture out returned after = Writes (importing capture out) out returned after

-- `capture`: the length of the capture or the refusal, and every byte of the buffer.
abbrev pub CapturePromise : List ℕ → List ℕ → Result ℕ Answer → List ℕ → Type 0
CapturePromise session out returned after = Writes (capturing session out) out returned after

-- `wrong_word`: the first word at fault, and where it begins.
abbrev pub WrongWordPromise : List ℕ → Wrong → Type 0
WrongWordPromise capture returned = returned ≡ wrong_in capture

-- `lacks_signal`: whether a line's signal is not declared.
abbrev pub LacksSignalPromise : List ℕ → ℕ → Bool → Type 0
LacksSignalPromise capture line returned = returned ≡ lacks_line capture line

-- `unknown_fall`: the first fall with x or z on a needed line, if there is one.
abbrev pub UnknownFallPromise : List ℕ → Option Unknown → Type 0
UnknownFallPromise capture returned = returned ≡ unknown_told (unknown_in capture)
