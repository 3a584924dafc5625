-- Laws of the comparison of bytes and of bytes written over others.
-- Assumes nothing.
use mathlib.Core.Bool.{Bool, true, false, false≢true, ◌&&◌}
use mathlib.Core.List.{List, [], ◌∷◌, ◌++◌, append-nil}
use mathlib.Core.Path.{◌≡◌, refl, ap, ◌∙◌}
use Prim.Native.Nat.{ℕ, suc, ◌<◌, ◌≤◌}
use lib.Dec.{eqb}
use native.Mathlib.Omega.{arith}
use lib.ListN.{length, get_or, take, drop, drop_of_length-le}
use lib.Seq.{drop-cons, take-length}
use borrow.Author.Tests.{eq-eqb, eqb-true, ne_eqb}
use Rattle.std.proofs.lemmas.List.{drop_all}
use Rattle.std.specs.Cmp.Lexicographic.{pointwise}
use Rattle.controller.proofs.Laws.Choice.{and_left, and_right}
use Rattle.controller.specs.declared.«record».Record.{Record}
use mir.Val.{bool_byte}
use Rattle.interface.specs.RecordBytes.{bit_byte, record_bytes, same_bytes}

-- any bytes are the same as themselves
pub same_refl : (xs : List ℕ) → same_bytes xs xs ≡ true
unfolding same_bytes
same_refl [] = refl
same_refl (x ∷ xs) = simp (eq-eqb x x refl) (same_refl xs)

-- bytes that are found the same are one list
pub same_eq : (xs ys : List ℕ) → same_bytes xs ys ≡ true → xs ≡ ys
unfolding same_bytes
same_eq [] [] h = refl
same_eq [] (y ∷ ys) h = absurd (false≢true h)
same_eq (x ∷ xs) [] h = absurd (false≢true h)
same_eq (x ∷ xs) (y ∷ ys) h =
    let head = eqb-true x y (and_left (eqb x y) (same_bytes xs ys) h) in
    let tail = same_eq xs ys (and_right (eqb x y) (same_bytes xs ys) h) in
    cc

-- and the comparison of slices finds it
pub same_pointwise : (xs ys : List ℕ) → pointwise eqb xs ys ≡ same_bytes xs ys
unfolding same_bytes
same_pointwise [] [] = refl
same_pointwise [] (y ∷ ys) = refl
same_pointwise (x ∷ xs) [] = refl
same_pointwise (x ∷ xs) (y ∷ ys) = ap (λ (t : Bool). eqb x y && t) (same_pointwise xs ys)

-- what is left of two lists of bytes is the same where the next bytes are equal and what is behind them is the same
pub same_next : (xs ys : List ℕ) (at : ℕ) → at < length xs → at < length ys → get_or xs at 0 ≡ get_or ys at 0
    → same_bytes (drop (suc at) xs) (drop (suc at) ys) ≡ same_bytes (drop at xs) (drop at ys)
unfolding same_bytes
same_next xs ys at some also equal =
    rw (drop-cons xs at 0 some, drop-cons ys at 0 also) (simp (eq-eqb (get_or xs at 0) (get_or ys at 0) equal))

-- it is not where they differ
pub same_not : (xs ys : List ℕ) (at : ℕ) → at < length xs → at < length ys → (get_or xs at 0 ≡ get_or ys at 0 → ⊥)
    → same_bytes (drop at xs) (drop at ys) ≡ false
unfolding same_bytes
same_not xs ys at some also other =
    rw (drop-cons xs at 0 some, drop-cons ys at 0 also) (simp (ne_eqb (get_or xs at 0) (get_or ys at 0) other))

-- and it is where nothing is left
pub same_end : (xs ys : List ℕ) (at : ℕ) → length xs ≤ at → length ys ≤ at → same_bytes (drop at xs) (drop at ys) ≡ true
unfolding same_bytes
same_end xs ys at none also = rw (drop_all at xs none, drop_all at ys also) refl

-- the bytes of a record are 24
pub bytes_length : (rec : Record) → length (record_bytes rec) ≡ 24
unfolding record_bytes
bytes_length rec = refl

-- a bit as a byte
pub bit_told : (bit : Bool) → bool_byte bit ≡ bit_byte bit
bit_told true = refl
bit_told false = refl

-- bytes written over as many others
pub over : (src dst own : List ℕ) {out : List ℕ} → out ≡ take (length src) src ++ drop (length src) dst → src ≡ own → length dst ≡ length own → out ≡ own
over src dst own is same long =
    let size = ap length same in
    let h : length dst ≤ length src = omega arith in
    is ∙ simp (take-length, drop_of_length-le dst h, append-nil) same
