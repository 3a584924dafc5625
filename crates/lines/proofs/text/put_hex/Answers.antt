-- `lines::text::put_hex` meets its contract: one digit put after the other is both put at once. Assumes nothing.
use mathlib.Core.List.{[], ◌∷◌}
use mathlib.Core.Path.{sym, ap, ◌∙◌}
use Prim.Native.Nat.{ℕ, ◌/◌, ◌%◌}
use Rattle.lines.specs.Text.{Put, put, putting}
use Rattle.lines.proofs.Laws.Buffer.{put_cons}
use Rattle.lines.specs.Digits.{digit}
use Rattle.lines.proofs.text.put_hex.Goals as goal

pub returns : goal.returns
returns c =
    let second = c in
    let first = second in
    let a = first.args in
    second.put_byte.ensures
    ∙ ap (λ (n : ℕ). putting (put first.put_byte-low.result first.put_byte-low.new.out) (n ∷ [])) second.hex_digit-2.ensures
    ∙ ap (λ (p : Put). putting p (digit (a.byte % 16) ∷ [])) first.put_byte-low.ensures
    ∙ ap (λ (n : ℕ). putting (putting (put a.at a.out.now) (n ∷ [])) (digit (a.byte % 16) ∷ [])) first.hex_digit.ensures
    ∙ sym (put_cons (put a.at a.out.now) (digit (a.byte / 16)) (digit (a.byte % 16) ∷ []))
