-- Laws of the definitions of a made capture: they are read to their end, and nothing behind them defines anything.
-- Assumes nothing.
use Rattle.std.proofs.Common.{◌≡◌, ℕ, ◌<◌, true, false, List, [], ◌∷◌, ◌++◌, get_or, sym, refl, ap, ◌∙◌, arith}
use Rattle.lines.specs.Text.{bytes_of}
use Rattle.captures.specs.declared.form.Phase.TheVariants.{Section}
use Rattle.captures.specs.declared.form.Phase.TheVariants.{Changes}
use Rattle.captures.specs.Words.{Word, is_blank, joined, words, is_plain, same, place_in}
use Rattle.captures.specs.Form.{is_var_type, opened, after, past}
use Rattle.captures.specs.Definitions.{Head, blank_head, names, placed, named, defined, defined_by, declares}
use Rattle.captures.specs.Falls.{blank_scan, in_phase, scanned, scanned_by, fall_at, falls_from}
use Rattle.captures.specs.Made.{made_header}
use Rattle.captures.proofs.Laws.Over.{over}
use Rattle.captures.proofs.Laws.Session.{defined_over}
use Rattle.captures.proofs.Laws.Words.{below_next}

-- the codes of the eleven lines
abbrev pub made_codes : List Word
made_codes =
    bytes_of "a" ∷ bytes_of "b" ∷ bytes_of "c" ∷ bytes_of "d" ∷ bytes_of "e" ∷ bytes_of "f" ∷ bytes_of "g" ∷ bytes_of "h" ∷ bytes_of "i"
    ∷ bytes_of "j" ∷ bytes_of "k" ∷ []

-- the definitions, read to their end
abbrev pub made_head : Head
made_head = record { phase = Changes; code = bytes_of "k"; codes = made_codes; twice = false }

-- the definitions end with a newline, so what is behind them is read from there on
header_defines : (rest : List ℕ) → defined_by blank_head (words (made_header ++ rest)) ≡ defined_by made_head (words rest)
unfolding made_header is_blank joined words is_plain same place_in is_var_type opened after past names placed named defined defined_by
header_defines rest = refl

pub header_scanned : (all codes : List Word) (rest : List ℕ)
    → scanned_by all codes blank_scan (words (made_header ++ rest)) ≡ scanned_by all codes (in_phase Changes blank_scan) (words rest)
unfolding made_header is_blank joined words is_plain same place_in is_var_type opened after past scanned scanned_by
header_scanned all codes rest = refl

pub header_falls : (all codes : List Word) (rest : List ℕ)
    → falls_from all codes blank_scan (words (made_header ++ rest)) ≡ falls_from all codes (in_phase Changes blank_scan) (words rest)
unfolding made_header is_blank joined words is_plain same place_in is_var_type opened after past scanned fall_at falls_from
header_falls all codes rest = refl

-- a section among these words declares the code of each of the eleven lines
abbrev pub DeclaresAll : List Word → Type 0
DeclaresAll all = (line : ℕ) → line < 11 → declares (Section false) all (get_or made_codes line []) ≡ true

-- each of the eleven codes is declared
pub header_declares : (rest : List ℕ) → DeclaresAll (words (made_header ++ rest))
unfolding made_header is_blank joined words is_plain same place_in is_var_type opened after past declares
header_declares rest =
    let P : ℕ → Type 0 = λ line. declares (Section false) (words (made_header ++ rest)) (get_or made_codes line []) ≡ true in
    let first : (line : ℕ) → line < 4 → P line =
    below_next P 3 (below_next P 2 (below_next P 1 (below_next P 0 (λ line less. absurd (omega arith)) refl) refl) refl) refl in
    let half : (line : ℕ) → line < 8 → P line =
    below_next P 7 (below_next P 6 (below_next P 5 (below_next P 4 first refl) refl) refl) refl in
    below_next P 10 (below_next P 9 (below_next P 8 half refl) refl) refl

-- the codes of a made capture, whatever is behind its definitions, and none of them is there twice
pub codes_made : (rest : List ℕ) → (defined_by blank_head (words (made_header ++ rest))).codes ≡ made_codes
unfolding over
codes_made rest = ap (λ (h : Head). h.codes) (header_defines rest) ∙ sym (defined_over made_head (words rest) refl).0

pub once_made : (rest : List ℕ) → (defined_by blank_head (words (made_header ++ rest))).twice ≡ false
unfolding over
once_made rest = ap (λ (h : Head). h.twice) (header_defines rest) ∙ sym (defined_over made_head (words rest) refl).1
