-- A capture by hand, and captures made from a session, computed.
-- Assumes nothing.
use Rattle.std.proofs.Common.{◌≡◌, ℕ, length, refl, ap, arith}
use Rattle.lines.specs.Digits.{decimal, spelled, digit, worth_of, number_field, byte_field}
use Rattle.lines.specs.Line.{letter_of, kind_field, line, lines_of}
use Rattle.lines.specs.Line as text
use Rattle.lines.specs.Reading.{text_at, kind_read, digit_stands, byte_read, may_follow, rest_of, wait_of, with_wait, with_byte, with_kind, line_of}
use Rattle.lines.specs.Session.{read_up_to, session_of}
use Rattle.lines.specs.Writing.{Writing, wanting}
use Rattle.captures.specs.Words.{is_blank, joined, words, is_plain, same, place_in}
use Rattle.captures.specs.Form.{is_scope_kind, is_var_type, with_digit, number_of, stamp_of, level_of, level_set, opened, changing, after, past}
use Rattle.captures.specs.Definitions.{names, placed, named, defined, defined_by, declares, lacks_code}
use Rattle.captures.specs.Falls.{changed, stamped, moved, scanned, scanned_by, fall_at, falls_from}
use Rattle.captures.specs.Import.{bit, kind_of, four, bus_byte, byte_of, wait_from, sent_from, sent_by, one_open, bus_open, unknown_at, unknown_in, in_subset, is_missing, session_text, judged, importing}
use Rattle.captures.specs.Made.{made_header, made_stamp, made_change, made_lines, made_pulse, made_pulses, capture_of, capture_text}
use Rattle.captures.specs.Made.{SomeMade, LineCaptured, CloseIsLost}
use Rattle.captures.specs.Theorems.{OneCapture, StampStartsAgain}

pub one_capture : OneCapture
unfolding decimal spelled digit number_field byte_field letter_of kind_field line lines_of wanting is_blank joined words is_plain same place_in is_scope_kind is_var_type with_digit number_of stamp_of level_of level_set opened changing after past names placed named defined defined_by declares lacks_code changed stamped moved scanned scanned_by fall_at falls_from bit kind_of four bus_byte byte_of wait_from sent_from sent_by one_open bus_open unknown_at unknown_in in_subset is_missing session_text judged importing
one_capture = refl

pub some_made : SomeMade
unfolding decimal spelled digit number_field byte_field letter_of kind_field line lines_of wanting is_blank joined words is_plain same place_in is_scope_kind is_var_type with_digit number_of stamp_of level_of level_set opened changing after past names placed named defined defined_by declares lacks_code changed stamped moved scanned scanned_by fall_at falls_from bit kind_of four bus_byte byte_of wait_from sent_from sent_by one_open bus_open unknown_at unknown_in in_subset is_missing session_text judged importing made_header made_stamp made_change made_lines made_pulse made_pulses capture_of
some_made = refl

pub line_captured : LineCaptured
unfolding text.kind_of text_at kind_read digit_stands byte_read worth_of may_follow rest_of wait_of with_wait with_byte with_kind line_of read_up_to session_of decimal spelled digit made_stamp made_change made_lines made_pulse made_pulses capture_of capture_text
line_captured = refl

pub close_is_lost : CloseIsLost
unfolding decimal spelled digit number_field byte_field letter_of kind_field line lines_of wanting is_blank joined words is_plain same place_in is_scope_kind is_var_type with_digit number_of stamp_of level_of level_set opened changing after past names placed named defined defined_by declares lacks_code changed stamped moved scanned scanned_by fall_at falls_from bit kind_of four bus_byte byte_of wait_from sent_from sent_by one_open bus_open unknown_at unknown_in in_subset is_missing session_text judged importing made_header made_stamp made_change made_lines made_pulse made_pulses capture_of
close_is_lost =
    record {
      comes_to = refl;
      is_other = λ same. let short : ◌≡◌ {A = ℕ} 7 14 = ap (λ (w : Writing). length w.text) same in omega arith;
    }

pub stamp_starts_again : StampStartsAgain
unfolding decimal spelled digit number_field byte_field letter_of kind_field line lines_of wanting is_blank joined words is_plain same place_in is_scope_kind is_var_type with_digit number_of stamp_of level_of level_set opened changing after past names placed named defined defined_by declares lacks_code changed stamped moved scanned scanned_by fall_at falls_from bit kind_of four bus_byte byte_of wait_from sent_from sent_by one_open bus_open unknown_at unknown_in in_subset is_missing session_text judged importing
stamp_starts_again = refl
