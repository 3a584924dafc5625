-- Laws of a buffer that is written piece by piece.
-- Assumes nothing.
use mathlib.Core.List.{List, [], ◌∷◌, ◌++◌}
use mathlib.Core.Path.{◌≡◌, sym, ap, ◌∙◌}
use Prim.Native.Nat.{ℕ, suc, ◌+◌, ◌-◌, ◌<◌, ◌≤◌}
use native.Mathlib.Omega.{arith}
use native.Mathlib.Nat.{add-zero, zero-add}
use native.Mathlib.Numerals.{add-one}
use borrow.Author.Tests.{ltb-true, ltb-false}
use lib.Dec.{ltb}
use lib.ListN.{length, set, take, drop, length-set}
use lib.Seq.{sets, sets-eq, take-nil, take_all, take-append_seam}
use Rattle.lines.specs.Text.{Put, put, putting}
use Rattle.lines.proofs.Laws.Digits.{either}

-- one text after another is both at once
pub sets_append : (out : List ℕ) (place : ℕ) (a b : List ℕ) → sets (sets out place a) (place + length a) b ≡ sets out place (a ++ b)
sets_append out place [] b = ap (λ (n : ℕ). sets out n b) (add-zero place)
sets_append out place (x ∷ a) b =
    let e : place + suc (length a) ≡ suc place + length a = omega arith in
    ap (λ (n : ℕ). sets (sets (set out place x) (suc place) a) n b) e ∙ sets_append (set out place x) (suc place) a b

-- a text written at the start
pub sets_onto : (text out : List ℕ) → length text ≤ length out → sets out 0 text ≡ text ++ drop (length text) out
sets_onto text out fits = let h : 0 + length text ≤ length out = omega arith in
    sets-eq text out 0 h ∙ ap (λ (n : ℕ). text ++ drop n out) (zero-add (length text))

-- a text and one byte after it
pub sets_more : (out : List ℕ) (place : ℕ) (a : List ℕ) (x : ℕ) {last : List ℕ} {next byte : ℕ}
    → last ≡ sets out place a → next ≡ place + length a → byte ≡ x → set last next byte ≡ sets out place (a ++ (x ∷ []))
sets_more out place a x {last} {next} {byte} was at is = simp (was, at, is) (sets_append out place a (x ∷ []))

-- a text and another after it
pub sets_next : (out : List ℕ) (place : ℕ) (a b : List ℕ) {last : List ℕ} {next : ℕ}
    → last ≡ sets out place a → next ≡ place + length a → sets last next b ≡ sets out place (a ++ b)
sets_next out place a b {last} {next} was at = simp (was, at) (sets_append out place a b)

-- past the end of a buffer nothing is put
pub put_past : (at : ℕ) (out text : List ℕ) → length out ≤ at → putting (put at out) text ≡ put at out
unfolding putting
put_past at out text past =
    let none : length out - at ≡ 0 = omega arith in simp (none, add-zero)

-- before it a byte is
pub put_one : (at : ℕ) (out rest : List ℕ) (byte : ℕ) → at < length out → putting (put at out) (byte ∷ rest) ≡ putting (put (at + 1) (set out at byte)) rest
unfolding putting
put_one at out rest byte before =
    let some : length out - at ≡ suc (length out - suc at) = omega arith in
    let next : at + suc (length (take (length out - suc at) rest)) ≡ suc at + length (take (length out - suc at) rest) = omega arith in
    simp (some, length-set, add-one, next)

pub put_none : (p : Put) → putting p [] ≡ p
unfolding putting
put_none p = simp (take-nil, add-zero)

-- one byte after the other
pub put_cons : (p : Put) (byte : ℕ) (rest : List ℕ) → putting p (byte ∷ rest) ≡ putting (putting p (byte ∷ [])) rest
put_cons p byte rest =
    either (ltb p.at (length p.out))
    (λ e.
    let before = ltb-true p.at (length p.out) e in
    put_one p.at p.out rest byte before
    ∙ ap (λ (q : Put). putting q rest) (sym (put_one p.at p.out [] byte before ∙ put_none (put (p.at + 1) (set p.out p.at byte)))))
    (λ e.
    let past = ltb-false p.at (length p.out) e in
    put_past p.at p.out (byte ∷ rest) past
    ∙ sym (ap (λ (q : Put). putting q rest) (put_past p.at p.out (byte ∷ []) past) ∙ put_past p.at p.out rest past))

-- one text put after another is both put at once
put_append : (p : Put) (a b : List ℕ) → putting (putting p a) b ≡ putting p (a ++ b)
put_append p [] b = ap (λ (q : Put). putting q b) (put_none p)
put_append p (byte ∷ a) b =
    ap (λ (q : Put). putting q b) (put_cons p byte a) ∙ put_append (putting p (byte ∷ [])) a b ∙ sym (put_cons p byte (a ++ b))

-- a text put, and another after it
pub put_next : (p : Put) {q r : Put} (a b : List ℕ) → q ≡ putting p a → r ≡ putting q b → r ≡ putting p (a ++ b)
put_next p a b first second = second ∙ ap (λ (x : Put). putting x b) first ∙ put_append p a b

-- a text written at the start is what stands there first
pub first_written : (text out : List ℕ) → length text ≤ length out → take (length text) (sets out 0 text) ≡ text
first_written text out fits = ap (take (length text)) (sets_onto text out fits) ∙ take-append_seam text (drop (length text) out)

-- a text that fits is put whole
pub put_whole : (at : ℕ) (out text : List ℕ) → at + length text ≤ length out → putting (put at out) text ≡ put (at + length text) (sets out at text)
unfolding putting
put_whole at out text fits = simp (take_all (length out - at) text (omega arith))
