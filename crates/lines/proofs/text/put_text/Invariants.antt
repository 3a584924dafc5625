-- `lines::text::put_text`: what is left of the text, put from here on, comes to what the whole text comes to.
-- Assumes nothing.
use mathlib.Core.Path.{◌≡◌}
use lib.ListN.{drop}
use Rattle.lines.specs.Text.{put, putting}
use Rattle.lines.proofs.text.put_text.Given as goal

abbrev pub invariant-loop-byte : goal.invariant-loop-byte
invariant-loop-byte l = putting (put l.next l.out) (drop l.byte-index l.text) ≡ putting (put l.fn.at l.fn.out) l.text
