-- `captures::falls::put_line` meets its contract: the line is written into a buffer of its own, which it fits, and put from there. Assumes
-- nothing.
use Rattle.std.proofs.Common.{ℕ, List, ap, ◌∙◌, rules}
use Rattle.lines.specs.Text.{Put, put, putting}
use Rattle.captures.proofs.Laws.Tally.{LineWritten, line_written}
use Rattle.captures.proofs.falls.put_line.Goals as goal

pub returns : goal.returns
returns c =
    let args = c.args in
    let line : LineWritten args.kind args.byte args.wait c.unwrap_or-length.result c.write_line.new.out =
    rw c.unwrap_or-length.ensures (line_written args.kind args.byte args.wait _ _ _ c.requires (search rules) (search rules) c.write_line.ensures) in (
      line.long,
      line.fits,
      ap (λ (p : Put). p.out) c.put_text.ensures ∙ ap (λ (l : List ℕ). (putting (put args.at args.out.now) l).out) (c.first.ensures ∙ line.bytes),
    )
