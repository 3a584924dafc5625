-- `lines::text::put_byte` meets its contract: past the end of the buffer nothing is put, and before it the byte is. Assumes nothing.
use mathlib.Core.List.{[], ◌∷◌}
use mathlib.Core.Path.{sym, ◌∙◌}
use Prim.Native.Nat.{◌+◌}
use lib.ListN.{set}
use Rattle.lines.specs.Text.{put}
use Rattle.lines.proofs.Laws.Buffer.{put_past, put_one, put_none}
use Rattle.lines.proofs.text.put_byte.Goals as goal

pub returns-then-out-at : goal.returns-then-out-at
returns-then-out-at c = let a = c.args in sym (put_past a.at a.out.now (a.byte ∷ []) c.if-out-at.true)

pub returns : goal.returns
returns c = let a = c.args in sym (put_one a.at a.out.now [] a.byte c.if-out-at.false ∙ put_none (put (a.at + 1) (set a.out.now a.at a.byte)))
