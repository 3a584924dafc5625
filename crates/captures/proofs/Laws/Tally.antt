-- Laws of waits and lines: the wait of two stamps, and a line put into a buffer.
-- Assumes nothing.
use Rattle.std.proofs.Common.{◌≡◌, ℕ, ◌<◌, ◌≤◌, Bool, true, false, ◌&&◌, ◌||◌, eqb, List, Result, length, take, drop, sym, refl, ap, ◌∙◌, arith, take_at, le-ltb}
use Rattle.controller.specs.Bus.{bad_transfer}
use Rattle.controller.specs.declared.answers.Answer.{Answer}
use Rattle.std.specs.Result.{result_unwrap_or}
use Rattle.lines.specs.Line.{line}
use Rattle.lines.specs.Writing.{Writing, Writes, onto, writing, wanting, written_of, line_writing}
use Rattle.lines.proofs.Laws.Lengths.{line_fits}
use Rattle.lines.specs.Text.{put, putting}
use Rattle.captures.specs.Walk.{Tally}
use Rattle.captures.specs.Falls.{Scan}
use Rattle.captures.specs.Falls.{level_at, fall_at}
use Rattle.captures.specs.Import.{bit, kind_of, byte_of, wait_from, unknown_at}
use Rattle.captures.specs.Walk.{since, line_at, longer, counted, Told, told, telling_one, telling, fall_with}

-- a line as it was written into a buffer of at least 16 bytes: its length, and its bytes at the start
pub record LineWritten (kind byte wait size : ℕ) (after : List ℕ) : Type 0 where
  pub long : size ≡ length (line kind byte wait)
  pub fits : size ≤ 16
  pub bytes : take size after ≡ line kind byte wait

pub line_written : (kind byte wait : ℕ) (out : List ℕ) (told : Result ℕ Answer) (after : List ℕ) → bad_transfer kind byte ≡ false → 16 ≤ length out
    → wait < 4294967296 → Writes (line_writing kind byte wait out) out told after → LineWritten kind byte wait (result_unwrap_or told 0) after
unfolding line_writing wanting
line_written kind byte wait out told after good enough small meets =
    let wrote : line_writing kind byte wait out ≡ writing (line kind byte wait) = simp (good, le-ltb (length out) 16 enough) in
    let long : result_unwrap_or told 0 ≡ length (line kind byte wait) =
    ap (λ (r : Result ℕ Answer). result_unwrap_or r 0) (meets.told ∙ ap written_of wrote) in
    let fits = line_fits kind byte wait (omega arith) in
    record {
      long = long;
      fits = omega (arith, long, fits);
      bytes =
          ap (take (result_unwrap_or told 0)) (meets.buffer ∙ ap (λ (w : Writing). onto w.text out) wrote)
          ∙ take_at (line kind byte wait) (drop (length (line kind byte wait)) out) (result_unwrap_or told 0) (sym long);
    }

-- the transfer at a fall is never a bad one
good_by : (levels : List ℕ) (a b : Bool) → eqb (level_at levels 0) 1 ≡ a → eqb (level_at levels 1) 1 ≡ b → bad_transfer (kind_of levels) (byte_of levels) ≡ false
unfolding kind_of byte_of bit bad_transfer
good_by levels true true is also = simp (is, also)
good_by levels true false is also = simp (is, also)
good_by levels false true is also = simp (is, also)
good_by levels false false is also = simp (is, also)

pub fall_good : (levels : List ℕ) → bad_transfer (kind_of levels) (byte_of levels) ≡ false
fall_good levels = good_by levels _ _ refl refl

-- a fall told, from its parts
pub tell_is : (stamp : ℕ) (levels : List ℕ) (tally : Tally) (out after : List ℕ) (kind byte wait long total : ℕ) (either : Bool)
    → kind ≡ kind_of levels → byte ≡ byte_of levels → wait ≡ wait_from (since tally stamp) stamp → long ≡ length (line kind byte wait)
    → after ≡ (putting (put tally.length out) (line kind byte wait)).out → either ≡ tally.unknown || unknown_at levels
    → total ≡ longer tally.length long
    → told (record { fell = true; last = stamp; unknown = either; length = total }) after ≡ telling_one (told tally out) (fall_with stamp levels)
unfolding line_at counted
tell_is stamp levels tally out after kind byte wait long total either k b w l o e t =
    let same_line : line kind byte wait ≡ line (kind_of levels) (byte_of levels) (wait_from (since tally stamp) stamp) =
    ap (λ (n : ℕ). line n byte wait) k ∙ ap (λ (n : ℕ). line (kind_of levels) n wait) b ∙ ap (line (kind_of levels) (byte_of levels)) w in
    let lengths : total ≡ longer tally.length (length (line (kind_of levels) (byte_of levels) (wait_from (since tally stamp) stamp))) =
    t ∙ ap (longer tally.length) (l ∙ ap length same_line) in
    let outs : after ≡ (putting (put tally.length out) (line (kind_of levels) (byte_of levels) (wait_from (since tally stamp) stamp))).out =
    o ∙ ap (λ (text : List ℕ). (putting (put tally.length out) text).out) same_line in
    cc

-- where no stamp ends, or no fall is there, nothing is told
pub end_none : (t : Told) (scan : Scan) (test : Bool) → test ≡ false → t ≡ telling t (fall_at test scan)
unfolding telling fall_at
end_none t scan test is = sym (ap (λ (b : Bool). telling t (fall_at b scan)) is)

pub end_one : (t : Told) (scan : Scan) (test : Bool) → test ≡ true → telling_one t (fall_with scan.stamp scan.levels) ≡ telling t (fall_at test scan)
unfolding telling fall_at
end_one t scan test is = sym (ap (λ (b : Bool). telling t (fall_at b scan)) is)

pub and_second : (a b : Bool) → b ≡ false → (a && b) ≡ false
and_second true b is = is
and_second false b is = refl
