-- `telling::input::read_input`: what one read more puts behind what stands there is what the input loses. Assumes nothing.
use Rattle.std.proofs.Common.{◌≡◌, ℕ, ◌+◌, ◌-◌, ◌≤◌, List, ◌++◌, rules, arith, length, take, slice_range}
use Rattle.std.proofs.Common.{sym, ap, ◌∙◌, subst, le_refl, drop_at, length-take-le}
use Rattle.std.proofs.lemmas.Slice.{take-put_mid_below}
use Rattle.std.specs.Io.KnownBytes.{Consumes}
use Rattle.std.proofs.KnownBytes.{Consumes-trans}
use borrow.Rule.Slice.PartMut.{put_mid, post_of}
use lib.Seq.{take-add, take-append-le}
use Rattle.telling.proofs.input.read_input.Goals as goal

take_split : (a b : ℕ) (old new : List ℕ) → a ≤ b → take a new ≡ take a old → take a old ++ slice_range new a b ≡ take b new
take_split a b old new h front =
    let same : a + (b - a) ≡ b = omega arith in
    ap (λ l. l ++ slice_range new a b) (sym front) ∙ sym (take-add a (b - a) new) ∙ ap (λ n. take n new) same

part_put : (a k n : ℕ) (xs ys : List ℕ) → a ≤ length xs → n ≤ length ys → slice_range (put_mid a k xs ys) a (a + n) ≡ take n ys
part_put a k n xs ys within fits =
    let same : (a + n) - a ≡ n = omega arith in
    let after = post_of a k xs in
    ap (take ((a + n) - a)) (drop_at (take a xs) (ys ++ after) a (length-take-le a xs within))
    ∙ ap (λ m. take m (ys ++ after)) same
    ∙ take-append-le n ys after fits

pub loop-length-preserved : goal.loop-length-preserved
loop-length-preserved g c =
    let from = c.loop-length.length in
    let input = c.loop-length.input in
    let read = c.read.new.buf in
    let room = length input - from in
    let within = c.loop-length.invariant.1 in
    let behind = part_put from room c.in-Ok.more input read within c.in-Ok.ensures.bound.0 in
    let before = take-put_mid_below _ _ _ _ _ (le_refl _) within in
    let joined = take_split from (from + c.in-Ok.more) input (put_mid from room input read) (omega arith) before in
    let lost = Consumes-trans _ _ _ _ _ c.loop-length.invariant.2 c.in-Ok.ensures.bytes.0 in
    (search rules, search rules, subst (Consumes _ _) (ap (λ l. take from input ++ l) (sym behind) ∙ joined) lost)
