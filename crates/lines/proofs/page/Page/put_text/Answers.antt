-- `lines::page::Page::put_text` meets its contract: behind what stood there comes as much of the text as there is room for.
-- Assumes nothing.
use Rattle.std.proofs.Common.{◌≡◌, ◌≤◌, ℕ, ◌-◌, ◌+◌, ◌++◌, length, take, ap, sym, ◌∙◌, arith, length-take, length-take-le}
use Rattle.std.proofs.lemmas.List.{take_min}
use Rattle.std.proofs.lemmas.Slice.{take-put_mid}
use Rattle.std.proofs.Math.Seq.{take-append-add}
use Rattle.lines.proofs.page.Page.put_text.Goals as goal

pub returns : goal.returns
returns g c =
    let page = c.self.inside in
    let text = c.args.text.now in
    let room = g.row.N - page.length in
    let within : page.length ≤ length page.bytes = omega (arith, c.self.told, c.self.invariant) in
    let old = take page.length page.bytes in
    let copied : c.copy_from_slice.new.self ≡ take room text =
    c.copy_from_slice.ensures.after
    ∙ ap (λ (n : ℕ). take n text) (omega (arith, c.min.ensures)) ∙ take_min room text in
    let long : page.length + c.min.result ≡ page.length + length c.copy_from_slice.new.self =
    ap (λ (n : ℕ). page.length + n) (c.min.ensures ∙ sym (length-take room text) ∙ sym (ap length copied)) in
    let full : g.row.N ≡ length old + room = omega (arith, c.self.invariant, length-take-le page.length page.bytes within) in
    take-put_mid page.length _ page.bytes _ _ long within
    ∙ ap (λ rest. old ++ rest) copied
    ∙ sym (take-append-add old text room)
    ∙ ap (λ (n : ℕ). take n (old ++ text)) (sym full)
    ∙ ap (λ all. take g.row.N (all ++ text)) c.self.view_is
