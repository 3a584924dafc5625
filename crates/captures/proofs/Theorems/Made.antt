-- A capture made from a session imports as that session; with a wait of 1 it does not.
-- Assumes nothing.
use Rattle.std.proofs.Common.{◌≡◌, ℕ, ◌+◌, ◌%◌, ◌<◌, ◌≤◌, true, false, List, [], ◌∷◌, ◌++◌, length, replicate, refl, ap, ◌∙◌, arith, le-ltb}
use Rattle.controller.specs.Bus.{bad_transfer}
use Rattle.controller.specs.declared.sent.Sent.{Sent}
use Rattle.lines.specs.Digits.{digit, spelled, decimal, number_field, byte_field}
use Rattle.lines.specs.Line.{letter_of, kind_field, line, lines_of}
use Rattle.lines.specs.Theorems.{Sayable, AllSayable}
use Rattle.lines.specs.Writing.{writing, wanting}
use Rattle.lines.proofs.Laws.Kinds.{kind_below}
use Rattle.captures.specs.declared.form.Phase.TheVariants.{Changes}
use Rattle.captures.specs.Falls.{Scan}
use Rattle.captures.specs.Words.{Word, words}
use Rattle.captures.specs.Definitions.{lacks_code}
use Rattle.captures.specs.Falls.{Fall, blank_scan, in_phase, fall_at, scanned_by, falls_from}
use Rattle.captures.specs.Import.{head_of, scan_of, falls_of, sent_at, sent_from, sent_by, unknown_in}
use Rattle.captures.specs.Import.{in_subset, is_missing, session_text, judged, importing}
use Rattle.captures.specs.Made.{made_header, made_pulses, capture_of, LaterWaits, Capturable}
use Rattle.captures.specs.Made.{MadeImports, some_session, MadeStartsAgain}
use Rattle.captures.proofs.Laws.MadeLevels.{made_levels, kind_made, byte_made, known_made, wait_made}
use Rattle.captures.proofs.Laws.MadeHeader.{made_codes, DeclaresAll, header_scanned, header_falls, header_declares}
use Rattle.captures.proofs.Laws.MadeHeader.{codes_made, once_made}
use Rattle.captures.proofs.Laws.MadePulse.{at, first_pulse, later_pulse}

-- the fall of a transfer's pulse
abbrev made_fall : ℕ → Sent → Fall
made_fall stamp t = record { stamp = stamp % 4294967296; levels = made_levels t.kind t.byte 0 }

-- the falls of a transfer's pulse at this stamp and of the later ones
unfoldable made_falls : ℕ → Sent → List Sent → List Fall
made_falls stamp t [] = made_fall stamp t ∷ []
made_falls stamp t (u ∷ later) = made_fall stamp t ∷ made_falls (stamp + u.wait) u later

-- behind a transfer's pulse
abbrev behind : ℕ → Sent → Scan
behind stamp t = at true (stamp % 4294967296) 1 (made_levels t.kind t.byte 0)

-- read to its end, nothing strange was met
abbrev Ends : Scan → Type 0
Ends scan = (scan.phase ≡ Changes) × (scan.strange ≡ false)

-- the later pulses, read to the end; the text's end is the end of the last fall's stamp
module _ (all : List Word) (declared : DeclaresAll all) where
  falls_made : (stamp : ℕ) (t : Sent) (later : List Sent) → LaterWaits later → AllSayable later
      → falls_from all made_codes (behind stamp t) (words (made_pulses stamp later)) ≡ made_falls stamp t later
  unfolding made_pulses made_falls LaterWaits AllSayable words falls_from fall_at made_levels
  falls_made stamp t [] waits can = refl
  falls_made stamp t (u ∷ later) waits can =
      let next = stamp + u.wait in
      (later_pulse all declared stamp t.kind t.byte u (made_pulses next later) waits.0 can.0.is_wait).fell
      ∙ ap (λ (l : List Fall). made_fall stamp t ∷ l) (falls_made next u later waits.1 can.1)

  ends_made : (stamp : ℕ) (t : Sent) (later : List Sent) → LaterWaits later → AllSayable later
      → Ends (scanned_by all made_codes (behind stamp t) (words (made_pulses stamp later)))
  unfolding made_pulses LaterWaits AllSayable words scanned_by
  ends_made stamp t [] waits can = (refl, refl)
  ends_made stamp t (u ∷ later) waits can =
      let next = stamp + u.wait in
      rw (later_pulse all declared stamp t.kind t.byte u (made_pulses next later) waits.0 can.0.is_wait).seen
      (ends_made next u later waits.1 can.1)

-- the transfer at a fall is the one that it was made from
sent_at_lem : (before : ℕ) (t : Sent) → Sayable t.kind t.byte t.wait
    → sent_at (before % 4294967296) (made_fall (before + t.wait) t) ≡ t
sent_at_lem before t can =
    simp (
      kind_made t.kind t.byte (kind_below t.kind t.byte can.transfer),
      byte_made t.kind t.byte can.transfer can.is_byte,
      wait_made before t.wait can.is_wait,
    )

-- and so are the transfers at all of these falls
sent_made : (before : ℕ) (t : Sent) (later : List Sent) → AllSayable (t ∷ later)
    → sent_from (before % 4294967296) (made_falls (before + t.wait) t later) ≡ t ∷ later
unfolding sent_from made_falls AllSayable
sent_made before t [] can = ap (λ (s : Sent). s ∷ []) (sent_at_lem before t can.0)
sent_made before t (u ∷ later) can =
    let stamp = before + t.wait in
    ap (λ (s : Sent). s ∷ sent_from (stamp % 4294967296) (made_falls (stamp + u.wait) u later)) (sent_at_lem before t can.0)
    ∙ ap (λ (l : List Sent). t ∷ l) (sent_made stamp u later can.1)

-- the first transfer, whose wait is 0, counts from its own stamp
sent_all : (first : ℕ) (t : Sent) (later : List Sent) → t.wait ≡ 0 → AllSayable (t ∷ later)
    → sent_by (made_falls (first + t.wait) t later) ≡ t ∷ later
unfolding sent_by made_falls
sent_all first t [] none can =
    let own : (first + t.wait) % 4294967296 ≡ first % 4294967296 = omega arith in
    ap (λ (n : ℕ). sent_from n (made_falls (first + t.wait) t [])) own ∙ sent_made first t [] can
sent_all first t (u ∷ later) none can =
    let own : (first + t.wait) % 4294967296 ≡ first % 4294967296 = omega arith in
    ap (λ (n : ℕ). sent_from n (made_falls (first + t.wait) t (u ∷ later))) own ∙ sent_made first t (u ∷ later) can

-- no line is open at any of these falls
known_falls : (stamp : ℕ) (t : Sent) (later : List Sent) → unknown_in (made_falls stamp t later) ≡ false
unfolding unknown_in made_falls
known_falls stamp t [] = simp (known_made t.kind t.byte)
known_falls stamp t (u ∷ later) = simp (known_made t.kind t.byte, known_falls (stamp + u.wait) u later)

-- a capture that none of the refusals meets imports as the session at its falls
imports_as : (capture out : List ℕ) (ts : List Sent) → Ends (scan_of capture) → (head_of capture).twice ≡ false
    → lacks_code 11 (head_of capture).codes ≡ false
    → unknown_in (falls_of capture) ≡ false → sent_by (falls_of capture) ≡ ts → length (lines_of ts) ≤ length out
    → importing capture out ≡ writing (lines_of ts)
unfolding importing judged wanting in_subset is_missing session_text
imports_as capture out ts ends once none known sent room =
    simp (ends.0, ends.1, once, none, known, sent, le-ltb (length out) (length (lines_of ts)) room)

-- the made capture, by its scan and its falls behind the definitions
made_as : (rest out : List ℕ) (ts : List Sent) (fallen : List Fall)
    → Ends (scanned_by (words (made_header ++ rest)) made_codes (in_phase Changes blank_scan) (words rest))
    → falls_from (words (made_header ++ rest)) made_codes (in_phase Changes blank_scan) (words rest) ≡ fallen
    → unknown_in fallen ≡ false → sent_by fallen ≡ ts → length (lines_of ts) ≤ length out
    → importing (made_header ++ rest) out ≡ writing (lines_of ts)
unfolding lacks_code
made_as rest out ts fallen ends is known sent room =
    let capture = made_header ++ rest in
    let seen : scan_of capture ≡ scanned_by (words capture) made_codes (in_phase Changes blank_scan) (words rest) =
    ap (λ (codes : List Word). scanned_by (words capture) codes blank_scan (words capture)) (codes_made rest)
    ∙ header_scanned (words capture) made_codes rest in
    let fell : falls_of capture ≡ fallen =
    ap (λ (codes : List Word). falls_from (words capture) codes blank_scan (words capture)) (codes_made rest)
    ∙ header_falls (words capture) made_codes rest ∙ is in
    imports_as capture out ts
    (ap (λ (s : Scan). s.phase) seen ∙ ends.0, ap (λ (s : Scan). s.strange) seen ∙ ends.1)
    (once_made rest)
    (ap (lacks_code 11) (codes_made rest))
    (ap unknown_in fell ∙ known)
    (ap sent_by fell ∙ sent)
    room

-- the definitions, the first pulse, the later ones; each fall's transfer is the session's
pub made_imports : MadeImports
unfolding capture_of made_pulses Capturable AllSayable words scanned_by falls_from fall_at unknown_in sent_by
made_imports first [] out can room = made_as [] out [] [] (refl, refl) refl refl refl room
made_imports first (t ∷ later) out can room =
    let rest = made_pulses first (t ∷ later) in
    let all = words (made_header ++ rest) in
    let declared = header_declares rest in
    let stamp = first + t.wait in
    let pulse = first_pulse all declared stamp t (made_pulses stamp later) in
    made_as rest out (t ∷ later) (made_falls stamp t later)
    (rw pulse.seen (ends_made all declared stamp t later can.1 can.2.1))
    (pulse.fell ∙ falls_made all declared stamp t later can.1 can.2.1)
    (known_falls stamp t later)
    (sent_all first t later can.0 can.2)
    room

-- a transfer that can be said, from its three facts
said : (kind byte wait : ℕ) → bad_transfer kind byte ≡ false → byte < 256 → wait ≤ 4294967295 → Sayable kind byte wait
said kind byte wait good is_byte is_wait = record { transfer = good; is_byte = is_byte; is_wait = is_wait }

-- one case of it: the stamps, too large to compute, need not be
pub made_starts_again : MadeStartsAgain
unfolding Capturable LaterWaits AllSayable bad_transfer lines_of line kind_field letter_of byte_field number_field decimal spelled digit
made_starts_again =
    made_imports 4294967290 some_session (replicate 60 0) (
      refl,
      (omega arith, (omega arith, (omega arith, tt))),
      (
        said 0 0x38 0 refl (omega arith) (omega arith),
        (
          said 1 0xA5 2 refl (omega arith) (omega arith),
          (said 2 0 40 refl (omega arith) (omega arith), (said 3 0 3 refl (omega arith) (omega arith), tt)),
        ),
      ),
    )
    (omega arith)
