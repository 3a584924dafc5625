-- `lines::text::put_text`: a byte put, and then what is left, is what was left put at once.
-- Assumes nothing.
use mathlib.Core.List.{◌∷◌}
use mathlib.Core.Path.{◌≡◌, sym, ap, ◌∙◌}
use Prim.Native.Nat.{◌+◌}
use native.Mathlib.Numerals.{add-one}
use lib.ListN.{get_or, drop, drop_of_length-le}
use lib.Seq.{drop-cons}
use native.Mathlib.Omega.{arith}
use Rattle.lines.specs.Text.{Put, put, putting}
use Rattle.lines.proofs.Laws.Buffer.{put_none, put_cons}
use Rattle.lines.proofs.text.put_text.Goals as goal

pub loop-byte-preserved : goal.loop-byte-preserved
loop-byte-preserved c =
    let loop = c.loop-byte in
    let text = c.args.text.now in
    let left : drop loop.byte-index text ≡ get_or text loop.byte-index 0 ∷ drop (loop.byte-index + 1) text =
    rw (add-one, drop-cons text loop.byte-index 0 (omega arith)) in
    ap (λ (p : Put). putting p (drop (loop.byte-index + 1) text)) c.put_byte-next.ensures
    ∙ sym (put_cons (put loop.next loop.out) (get_or text loop.byte-index 0) (drop (loop.byte-index + 1) text))
    ∙ ap (putting (put loop.next loop.out)) (sym left)
    ∙ loop.invariant

pub returns : goal.returns
returns c =
    let loop = c.loop-byte in
    sym (put_none (put loop.next loop.out))
    ∙ ap (putting (put loop.next loop.out)) (sym (drop_of_length-le _ c.loop-byte-test.false))
    ∙ loop.invariant
