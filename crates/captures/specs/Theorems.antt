-- What is proved of captures: each theorem is a type here, and its proof stands in proofs/Theorems (request b).
-- Assumes nothing.
use Rattle.std.specs.Prelude.{is_some, ◌≡◌, ℕ, ◌+◌, ◌*◌, ◌<◌, ◌≤◌, true, false, ◌⊎◌, List, [], ◌∷◌, ◌++◌, length, replicate}
use Rattle.std.specs.Prelude.{Result}
use Rattle.controller.specs.Answers.{number_of, Row, Tells}
use Rattle.controller.specs.declared.answers.Answer.{Answer}
use Rattle.lines.specs.Session.{session_of}
use Rattle.lines.specs.Text.{bytes_of}
use Rattle.lines.specs.Theorems.{NoSession}
use Rattle.lines.specs.Writing.{Writes, writing}
use Rattle.captures.specs.Falls.{Fall, level_at}
use Rattle.captures.specs.Form.{is_whole}
use Rattle.captures.specs.Import.{falls_of, in_subset, scan_of, session_text, importing}
use Rattle.captures.specs.Import as Import
use Rattle.captures.specs.Faults.{is_unfinished, unknown_in, unknown_told, wrong_in}
use Rattle.captures.specs.Grammar.{InSubset, Missing}
use Rattle.captures.specs.Made.{capture_text, capturing}

-- One of these is so.
unfoldable pub Some : {A : Type 0} → (A → Type 0) → List A → Type 0
Some P [] = ⊥
Some P (x ∷ xs) = P x ⊎ Some P xs

-- At a fall RS or RW is at x or z, or the transfer is a write and one of DB0 to DB7 is.
abbrev pub UnknownAt : Fall → Type 0
UnknownAt fall =
    (level_at fall.levels 0 ≡ 2) ⊎ ((level_at fall.levels 1 ≡ 2)
    ⊎ ((level_at fall.levels 1 ≡ 0) × Some (λ line. level_at fall.levels line ≡ 2) (3 ∷ 4 ∷ 5 ∷ 6 ∷ 7 ∷ 8 ∷ 9 ∷ 10 ∷ [])))

-- The rows of import: 14 text outside the subset, 15 needed signal missing, 28 x or z on a needed line at a fall, then 11, a
-- buffer shorter than the session's text.
unfoldable pub import_rows : List ℕ → List ℕ → List Row
import_rows capture out =
    record { number = 14; applies = InSubset capture → ⊥ }
    ∷ record { number = 15; applies = Missing capture }
    ∷ record { number = 28; applies = Some UnknownAt (falls_of capture) }
    ∷ record { number = 11; applies = length out < length (session_text capture) }
    ∷ []

-- Each number is given exactly where its row applies and none before it in the order.
abbrev pub ImportAnswers : Type 0
ImportAnswers = (capture out : List ℕ) → Tells (number_of (importing capture out).answer) (import_rows capture out)

-- The rows of capture: the answer of the bad line where the text is no session, then 11, a buffer shorter than the capture.
unfoldable pub capture_rows : List ℕ → List ℕ → List Row
capture_rows session out =
    record { number = number_of (session_of session).end; applies = NoSession session }
    ∷ record { number = 11; applies = length out < length (capture_text session) }
    ∷ []

-- Each is given exactly where its row applies and none before it in the order.
abbrev pub CaptureAnswers : Type 0
CaptureAnswers = (session out : List ℕ) → Tells (number_of (capturing session out).answer) (capture_rows session out)

-- No second answer fits: two outcomes that both meet the promise are one, and so are the buffers.
abbrev pub OneImport : Type 0
OneImport =
    (capture out : List ℕ) (a b : Result ℕ Answer) (x y : List ℕ)
    → Writes (importing capture out) out a x → Writes (importing capture out) out b y → (a ≡ b) × (x ≡ y)

-- The definitions of a capture by hand; another scalar stands among them and is skipped.
abbrev pub some_definitions : List ℕ
some_definitions =
    bytes_of "$timescale 1 us $end $scope module pod $end $var wire 1 ! RS $end $var wire 1 w RW $end\n"
    ++ (bytes_of "$var reg 1 e E $end $var wire 1 a DB0 $end $var wire 1 b DB1 $end $var wire 1 c DB2 $end\n"
    ++ (bytes_of "$var wire 1 d DB3 $end $var wire 1 # DB4 $end $var wire 1 $ DB5 $end $var wire 1 % DB6 $end\r\n"
    ++ bytes_of "$var wire 1 & DB7 $end $var tri 1 long-code spare $end $upscope $end $enddefinitions $end\n"))

-- Its stamps and changes: Function Set 38h, and a status read 40 microseconds later, with x on a data line.
abbrev pub some_changes : List ℕ
some_changes = bytes_of "#7 $dumpvars 0! 0w 1e 0a 0b 0c 1d 1# 1$ 0% 0& $end #8 0e #47 1w 1e xa zlong-code #48 0e"

-- It imports as these two lines.
abbrev pub OneCapture : Type 0
OneCapture = importing (some_definitions ++ some_changes) (replicate 16 0) ≡ writing (bytes_of "I\t38\t0\nS\t00\t40\n")

-- Stamps that start again from 0 between two falls of E, 36 microseconds apart.
abbrev pub StampStartsAgain : Type 0
StampStartsAgain =
    importing
    (some_definitions ++ bytes_of "#4294967289 0! 0w 1e 0a 0b 0c 1d 1# 1$ 0% 0& #4294967290 0e #29 1e #30 0e")
    (replicate 16 0)
    ≡ writing (bytes_of "I\t38\t0\nI\t38\t36\n")

-- What the faults tell is so: where a word is at fault the text is outside the subset, where none is it lacks its end alone, and
-- a fall with x or z is found exactly where there is one.
pub record FaultsFound : Type 0 where
  pub wrong : (capture : List ℕ) → is_unfinished (wrong_in capture).fault ≡ false → in_subset capture ≡ false
  pub unfinished : (capture : List ℕ) → is_unfinished (wrong_in capture).fault ≡ true
      → in_subset capture ≡ is_whole (scan_of capture).phase
  pub unknown : (capture : List ℕ) → (unknown_in capture).found ≡ Import.unknown_in (falls_of capture)
  pub told : (capture : List ℕ) → is_some (unknown_told (unknown_in capture)) ≡ Import.unknown_in (falls_of capture)

-- A transfer takes 12 bytes of a capture at least, two stamps and two changes of E, and its line has 16 at most: so the session's
-- text has at most 4 bytes for each 3 of the capture, and 6 more.
abbrev pub ImportFits : Type 0
ImportFits = (capture : List ℕ) → 3 * length (session_text capture) ≤ 4 * length capture + 16
