-- What is at fault in a capture that is refused, and where, for people who mend it (request b).
-- Assumes nothing.
use Rattle.std.specs.Prelude.{ℕ, ◌+◌, Bool, true, false, cond, not, ◌&&◌, List, [], ◌∷◌, length, drop, nat_lt, slice_index_or}
use Rattle.std.specs.Prelude.{Option, Some, None}
use Rattle.captures.specs.declared.faults.Fault.{Fault}
use Rattle.captures.specs.declared.faults.Fault.TheVariants.{Unfinished, Misplaced, Twice, Undeclared}
use Rattle.captures.specs.declared.faults.Wrong.{Wrong}
use Rattle.captures.specs.declared.form.Phase.{Phase}
use Rattle.captures.specs.Words.{Word, words, is_empty}
use Rattle.captures.specs.declared.faults.Unknown.{Unknown as KeptUnknown}
use Rattle.captures.specs.Falls.{Scan}
use Rattle.captures.specs.Form.{changes_come, is_change, is_stamp, levels_of}
use Rattle.captures.specs.Definitions.{Head, blank_head, defined, declares}
use Rattle.captures.specs.Falls.{blank_scan, ends, falls, scanned}
use Rattle.captures.specs.Import.{head_of, unknown_at}

-- No word can stand here any more.
abbrev pub is_wrong : Phase → Bool
is_wrong (Phase.Section scaled) = false
is_wrong Phase.Scale = false
is_wrong Phase.ScaleUnit = false
is_wrong (Phase.ScopeKind scaled) = false
is_wrong (Phase.ScopeName scaled) = false
is_wrong (Phase.VarType scaled) = false
is_wrong (Phase.VarSize scaled) = false
is_wrong (Phase.VarCode scaled) = false
is_wrong (Phase.VarName scaled) = false
is_wrong (Phase.Close scaled) = false
is_wrong Phase.Ending = false
is_wrong Phase.Changes = false
is_wrong Phase.Dump = false
is_wrong Phase.Wrong = true

-- The word changes a code that no section declares.
abbrev pub is_undeclared : List Word → Phase → Word → Bool
is_undeclared all phase w = changes_come phase && (is_change w && not (declares (Phase.Section false) all (drop 1 w)))

-- What is wrong with a word: it cannot stand there, it is a needed name for the second time, or its code is not declared. Where
-- nothing is, the text is only unfinished.
unfoldable pub fault_of : Bool → Bool → Bool → Fault
fault_of wrong twice undeclared = cond wrong Misplaced (cond twice Twice (cond undeclared Undeclared Unfinished))

abbrev pub fault_with : List Word → Head → Word → Fault
fault_with all head w = fault_of (is_wrong (defined head w).phase) (defined head w).twice (is_undeclared all head.phase w)

-- No word is at fault.
abbrev pub is_unfinished : Fault → Bool
is_unfinished Unfinished = true
is_unfinished Misplaced = false
is_unfinished Twice = false
is_unfinished Undeclared = false

-- What is wrong, if anything is.
abbrev pub fault_said : Fault → Option Fault
fault_said fault = cond (is_unfinished fault) None (Some fault)

-- The first word at fault, and where it begins. Where there is none, the place is behind the text.
unfoldable pub wrong_from : List Word → Head → ℕ → List Word → Wrong
wrong_from all head place [] = record { fault = Unfinished; place = place }
wrong_from all head place (w ∷ ws) =
    cond (is_unfinished (fault_with all head w)) (wrong_from all (defined head w) (place + length w + 1) ws)
    (record { fault = fault_with all head w; place = place })

-- What is at fault in a capture outside the subset.
abbrev pub wrong_in : List ℕ → Wrong
wrong_in capture = wrong_from (words capture) blank_head 0 (words capture)

-- The needed signal of a line is not declared.
unfoldable pub lacks_line : List ℕ → ℕ → Bool
lacks_line capture line = nat_lt line 11 && is_empty (slice_index_or (head_of capture).codes line [])

-- At a stamp's end: E falls, and a needed line is at x or z.
abbrev pub falls_unknown : Scan → Bool
falls_unknown scan = falls scan && unknown_at scan.levels

-- The first fall with x or z on a needed line, or none: its stamp, where that stands in the text, and the levels of the eleven
-- lines.
pub record Unknown : Type 0 where
  pub found : Bool
  pub place : ℕ
  pub stamp : ℕ
  pub levels : List ℕ

-- What the caller is told of it.
abbrev pub unknown_told : Unknown → Option KeptUnknown
unknown_told u =
    cond u.found (Some (record { place = u.place; stamp = u.stamp; levels = levels_of u.levels })) None

-- Such a fall, or none: its stamp, where that stands in the text, and the levels of the lines.
abbrev pub unknown_of : Bool → Scan → ℕ → Unknown
unknown_of found scan at = record { found = found; place = at; stamp = scan.stamp; levels = scan.levels }

-- The first such fall from here on, where the stamp before stands at a place and these words at another.
unfoldable pub unknown_from : List Word → List Word → Scan → ℕ → ℕ → List Word → Unknown
unknown_from all codes scan at place [] = unknown_of (falls_unknown scan) scan at
unknown_from all codes scan at place (w ∷ ws) =
    cond (ends scan w && falls_unknown scan) (unknown_of true scan at)
    (unknown_from all codes (scanned all codes scan w) (cond (changes_come scan.phase && is_stamp w) place at)
    (place + length w + 1) ws)

-- The first such fall of a capture.
abbrev pub unknown_in : List ℕ → Unknown
unknown_in capture = unknown_from (words capture) (head_of capture).codes blank_scan 0 0 (words capture)
