-- Laws of `painted`: one more byte, a part written by itself, and what each byte holds.
-- Assumes nothing.
use mathlib.Core.Bool.{Bool, true, false}
use mathlib.Core.List.{List, ◌++◌}
use mathlib.Core.Path.{◌≡◌, refl, sym, ap, ◌∙◌}
use Prim.Native.Nat.{ℕ, zero, suc, ◌+◌, ◌-◌, ◌≤◌, ◌<◌}
use native.Mathlib.Nat.{add-zero, add-suc, zero-add}
use native.Mathlib.Numerals.{add-one}
use native.Mathlib.Omega.{arith}
use borrow.Author.Tests.{eqb-true, eqb-false, ltb-true, ltb-false}
use borrow.Rule.Slice.PartMut.{put_mid, same_len_mid}
use lib.Dec.{eqb, ltb}
use lib.ListN.{length, get_or, get_or-append, set, drop, take, length-set, length-take, length-drop}
use lib.Seq.{ext_get_or, get_or-drop, get_or-take, get_or-set_same, get_or-set_other}
use Rattle.std.proofs.lemmas.List.{get_or-append_right}
use Rattle.std.proofs.lemmas.Slice.{drop-put_mid}
use Rattle.dots.specs.Picture.{painted}

-- What a byte holds after a store: the byte stored, where that is its place, and else what it held.
after_set : (l : List ℕ) (place at byte value : ℕ) → at < length l → (at ≡ place → byte ≡ value) → ((at ≡ place → ⊥) → get_or l at 0 ≡ value) → get_or (set l place byte) at 0 ≡ value
after_set l place at byte value room here there = go (eqb at place) refl
  where
    go : (b : Bool) → eqb at place ≡ b → get_or (set l place byte) at 0 ≡ value
    go true e =
        let same : at ≡ place = eqb-true at place e in
        let within : place < length l = rw same at room in
        rw same (get_or-set_same l place byte 0 within) ∙ here same
    go false e = get_or-set_other l place at byte 0 (eqb-false at place e) ∙ there (eqb-false at place e)

module _ (f : ℕ → ℕ) (start : ℕ) (out : List ℕ) where
  pub painted_none : out ≡ painted f start 0 out
  unfolding painted
  painted_none = refl

  pub painted_more : (count : ℕ) → set (painted f start count out) (start + count) (f (start + count)) ≡ painted f start (count + 1) out
  unfolding painted
  painted_more count = rw add-one refl

  pub painted_length : (count : ℕ) → length (painted f start count out) ≡ length out
  unfolding painted
  painted_length zero = refl
  painted_length (suc count) = simp length-set (painted_length count)

  -- One more byte, where the list and the byte are known by equations.
  pub painted_next : (count byte : ℕ) (now : List ℕ) → now ≡ painted f start count out → byte ≡ f (start + count) → set now (start + count) byte ≡ painted f start (count + 1) out
  painted_next count byte now was is = rw (was, is) (painted_more count)

  -- A byte within the stretch holds f of its place.
  pub painted_at : (count at : ℕ) → start ≤ at → at < start + count → at < length out → get_or (painted f start count out) at 0 ≡ f at
  unfolding painted
  painted_at zero at low high room = absurd (omega (arith, add-zero start))
  painted_at (suc count) at low high room =
      after_set (painted f start count out) (start + count) at (f (start + count)) (f at)
      (rw (painted_length count) room)
      (λ same. sym (ap f same))
      (λ other. painted_at count at low (omega (arith, add-suc start count)) room)

  -- A byte past the stretch stays.
  pub painted_past : (count at : ℕ) → start + count ≤ at → get_or (painted f start count out) at 0 ≡ get_or out at 0
  unfolding painted
  painted_past zero at past = refl
  painted_past (suc count) at past =
      let less : start + count < at = omega (arith, add-suc start count) in
      get_or-set_other (painted f start count out) (start + count) at (f (start + count)) 0 (λ e. omega arith)
      ∙ painted_past count at (omega arith)

-- Where a part behind what is painted was written by itself, byte by byte, that part is painted too.
module _ (f : ℕ → ℕ) (start count : ℕ) (out part : List ℕ) (room : start + count ≤ length out) (long : length part ≡ count)
    (same : (i : ℕ) → i < count → get_or part i 0 ≡ f (start + i)) where
  before_part : (i : ℕ) → i < start → get_or (put_mid start count (painted f 0 start out) part) i 0 ≡ f i
  before_part i h =
      let all : length (painted f 0 start out) ≡ length out = painted_length f 0 out start in
      get_or-append (take start (painted f 0 start out)) _ 0 i (rw length-take (omega arith))
      ∙ get_or-take start (painted f 0 start out) i 0 h
      ∙ painted_at f 0 out start i (omega arith) (omega arith) (omega arith)

  in_part : (i : ℕ) → start ≤ i → i < start + count → get_or (put_mid start count (painted f 0 start out) part) i 0 ≡ f i
  in_part i low high =
      let all : length (painted f 0 start out) ≡ length out = painted_length f 0 out start in
      let there : start + (i - start) ≡ i = omega arith in
      get_or-append_right (take start (painted f 0 start out)) _ start i 0 (rw length-take (omega arith)) low
      ∙ get_or-append part _ 0 (i - start) (omega arith)
      ∙ same (i - start) (omega arith)
      ∙ ap f there

  past_part : (i : ℕ) → start + count ≤ i → get_or (put_mid start count (painted f 0 start out) part) i 0 ≡ get_or out i 0
  past_part i past =
      let all : length (painted f 0 start out) ≡ length out = painted_length f 0 out start in
      let there : start + count + (i - (start + count)) ≡ i = omega arith in
      rw there at (sym (get_or-drop (start + count) (put_mid start count (painted f 0 start out) part) (i - (start + count)) 0)
      ∙ ap (λ (l : List ℕ). get_or l (i - (start + count)) 0) (drop-put_mid start count (painted f 0 start out) part (start + count) (omega arith) (omega arith) long)
      ∙ get_or-drop (start + count) (painted f 0 start out) (i - (start + count)) 0)
      ∙ painted_past f 0 out start i (omega arith)

  pub painted_part : put_mid start count (painted f 0 start out) part ≡ painted f 0 (start + count) out
  painted_part = ext_get_or 0 _ _ lengths (λ i h. pick i (rw (lengths, painted_length f 0 out (start + count)) at h) (ltb i start) (ltb i (start + count)) refl refl)
    where
      lengths : length (put_mid start count (painted f 0 start out) part) ≡ length (painted f 0 (start + count) out)
      lengths =
          let all : length (painted f 0 start out) ≡ length out = painted_length f 0 out start in
          same_len_mid start count (painted f 0 start out) part (long ∙ sym (rw (length-take, length-drop) (omega arith)))
          ∙ all ∙ sym (painted_length f 0 out (start + count))

      pick : (i : ℕ) → i < length out → (b c : Bool) → ltb i start ≡ b → ltb i (start + count) ≡ c
          → get_or (put_mid start count (painted f 0 start out) part) i 0 ≡ get_or (painted f 0 (start + count) out) i 0
      pick i h true c e d =
          let low = ltb-true i start e in
          before_part i low ∙ sym (painted_at f 0 out (start + count) i (omega arith) (omega arith) h)
      pick i h false true e d =
          let low = ltb-false i start e in
          let high = ltb-true i (start + count) d in
          in_part i low high ∙ sym (painted_at f 0 out (start + count) i (omega arith) (omega arith) h)
      pick i h false false e d =
          let past = ltb-false i (start + count) d in
          past_part i past ∙ sym (painted_past f 0 out (start + count) i (omega arith))

-- The first bytes, written by themselves.
pub painted_front : (f : ℕ → ℕ) (count : ℕ) (out : List ℕ) → count ≤ length out → painted f 0 count (take count out) ++ drop count out ≡ painted f 0 count out
unfolding painted
painted_front f count out room =
    let long : length (take count out) ≡ count = rw length-take (omega arith) in
    rw zero-add at (painted_part f 0 count out (painted f 0 count (take count out)) (omega arith) (painted_length f 0 (take count out) count ∙ long)
    (λ i h. painted_at f 0 (take count out) count i (omega arith) (omega arith) (omega arith) ∙ ap f (sym (zero-add i))))

-- Two functions that agree on a stretch paint it alike.
pub painted_alike : (f g : ℕ → ℕ) (start count : ℕ) (out : List ℕ) → ((i : ℕ) → i < count → f (start + i) ≡ g (start + i))
    → painted f start count out ≡ painted g start count out
unfolding painted
painted_alike f g start zero out same = refl
painted_alike f g start (suc count) out same =
    rw (painted_alike f g start count out (λ i h. same i (omega arith)), same count (omega arith)) refl
