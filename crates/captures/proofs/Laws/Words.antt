-- Laws of words: the first word of a text and the words behind it, and when two words are the same.
-- Assumes nothing.
use Rattle.std.proofs.Common.{◌≡◌, ℕ, zero, suc, ◌+◌, ◌<◌, ◌≤◌, Bool, true, false, ◌&&◌, cond, Some, None, eqb, ltb, List, [], ◌∷◌, length, get_or, take, drop, sym, refl, ap, ◌∙◌, subst, add-one, arith, drop_of_length-le, eq-eqb, eqb-true}
use Rattle.std.specs.List.{position, position_or_len}
use Rattle.std.specs.Option.{is_some}
use Rattle.std.proofs.lemmas.List.Sums.{fails_before_first, passes_at_first, prefix_len-le-length}
use Rattle.std.specs.List.{list_all}
use Rattle.std.specs.Cmp.Lexicographic.{pointwise}
use Rattle.std.proofs.lemmas.List.Recursion.{is_position_or_len}
use borrow.Author.Tests.{eqb-false}
use Rattle.lines.specs.Digits.{between}
use Rattle.controller.proofs.Laws.Choice.{and_left, and_right}
use Rattle.captures.specs.Words.{Word, is_blank, joined, words, is_plain, same, place_in}

-- the first word, where its bytes are no blanks and what is behind it is a blank or the end
pub words_at : (n : ℕ) (text : List ℕ) → n ≤ length text → 0 < length text → ((k : ℕ) → k < n → is_blank (get_or text k 0) ≡ false)
    → (n < length text → is_blank (get_or text n 0) ≡ true) → words text ≡ take n text ∷ words (drop (suc n) text)
unfolding words joined
words_at n [] inside some none stop = absurd (omega arith)
words_at zero (b ∷ rest) inside some none stop = simp (stop (omega arith))
words_at (suc n) (b ∷ []) inside some none stop =
    let is : n ≡ 0 = omega arith in rw is (simp (none 0 (omega arith)))
words_at (suc n) (b ∷ c ∷ rest) inside some none stop =
    simp (none 0 (omega arith), words_at n (c ∷ rest) (omega arith) (omega arith) (λ k less. none (suc k) (omega arith)) (λ less. stop (omega arith)))

-- the first word of a text that is not empty, and the words behind it
pub first_word : (text : List ℕ) → 0 < length text
    → words text ≡ take (position_or_len is_blank text) text ∷ words (drop (position_or_len is_blank text + 1) text)
first_word text some =
    words_at (position_or_len is_blank text) text (prefix_len-le-length _ text) some
    (λ k less. fails_before_first is_blank text k 0 less)
    (λ less. passes_at_first is_blank text 0 less)
    ∙ ap (λ (n : ℕ). take (position_or_len is_blank text) text ∷ words (drop n text)) (sym (add-one _))

pub same_refl : (w : Word) → same w w ≡ true
unfolding same
same_refl [] = refl
same_refl (b ∷ w) = simp (eq-eqb b b refl, same_refl w)

pub same_true : (v w : Word) → same v w ≡ true → v ≡ w
unfolding same
same_true [] [] is = refl
same_true [] (b ∷ w) is = let no : ◌≡◌ {A = ℕ} 0 1 = cc in absurd (omega arith)
same_true (a ∷ v) [] is = let no : ◌≡◌ {A = ℕ} 0 1 = cc in absurd (omega arith)
same_true (a ∷ v) (b ∷ w) is =
    let first = eqb-true a b (and_left _ _ is) in let rest = same_true v w (and_right (eqb a b) _ is) in cc

-- a bool that is true exactly where the words are one says whether they are the same
pub same_by : (test : Bool) (v w : Word) → (test ≡ true → v ≡ w) → (v ≡ w → test ≡ true) → test ≡ same v w
same_by true v w one back = sym (ap (same v) (sym (one refl)) ∙ same_refl v)
same_by false v w one back = go (same v w) refl
  where
    go : (b : Bool) → same v w ≡ b → false ≡ same v w
    go true is = back (same_true v w is) ∙ sym is
    go false is = sym is

-- what holds of each number below n, and of n, holds of each below n + 1
pub below_next : (P : ℕ → Type 0) (n : ℕ) → ((k : ℕ) → k < n → P k) → P n → (k : ℕ) → k < n + 1 → P k
below_next P n below at k less = go (eqb k n) refl
  where
    go : (b : Bool) → eqb k n ≡ b → P k
    go true is = subst P (sym (eqb-true k n is)) at
    go false is = below k (let other = eqb-false k n is in omega (arith, other))

-- no words are left past the text's end
pub words_over : (from : ℕ) (text : List ℕ) → length text ≤ from → words (drop from text) ≡ []
unfolding words
words_over from text past = ap words (drop_of_length-le text past)

-- each byte of a plain word is one of 21h to 7Eh
pub plain_all : (w : Word) → is_plain w ≡ list_all (between 0x21 0x7E) w
unfolding is_plain
plain_all [] = refl
plain_all (b ∷ w) = ap (λ (t : Bool). between 0x21 0x7E b && t) (plain_all w)

-- two words are the same where they are byte for byte
pub same_pointwise : (v w : Word) → pointwise eqb v w ≡ same v w
unfolding same
same_pointwise [] [] = refl
same_pointwise [] (b ∷ w) = refl
same_pointwise (a ∷ v) [] = refl
same_pointwise (a ∷ v) (b ∷ w) = ap (λ (t : Bool). eqb a b && t) (same_pointwise v w)

-- a byte more makes one word more at most
length_joined : (blank : Bool) (byte : ℕ) (ws : List Word) → length (joined blank byte ws) ≤ length ws + 1
unfolding joined
length_joined true byte ws = omega arith
length_joined false byte [] = omega arith
length_joined false byte (w ∷ ws) = omega arith

-- a text has no more words than bytes
pub few_words : (text : List ℕ) → length (words text) ≤ length text
unfolding words
few_words [] = omega arith
few_words (byte ∷ rest) = omega (arith, length_joined (is_blank byte) byte (words rest), few_words rest)

-- where a word stands among others is the first place at which it is the same
pub place_position : (ws : List Word) (w : Word) → place_in ws w ≡ position_or_len (λ (x : Word). same x w) ws
unfolding place_in
place_position ws w = is_position_or_len (λ (l : List Word). place_in l w) (λ (x : Word). same x w) refl (λ x xs. ap (cond (same x w) 0) (omega arith)) ws

-- a word is one of others where it stands at some place among them
pub is_some_position : (ws : List Word) (w : Word) → is_some (position (λ (x : Word). same x w) ws) ≡ ltb (place_in ws w) (length ws)
is_some_position ws w =
    is_some_cond (ltb (position_or_len (λ (x : Word). same x w) ws) (length ws)) _ ∙ ap (λ (n : ℕ). ltb n (length ws)) (sym (place_position ws w))
  where
    is_some_cond : (b : Bool) (n : ℕ) → is_some (cond b (Some n) None) ≡ b
    is_some_cond true n = refl
    is_some_cond false n = refl

-- what is not there does not pass
pub none_said : {A : Type 0} (b : Bool) (x : A) → None ≡ cond b (Some x) None → b ≡ false
none_said true x is = let no : ◌≡◌ {A = ℕ} 0 1 = cc in absurd (omega arith)
none_said false x is = refl

-- the bytes of words, and of a blank behind each: one more than the text has, at most
unfoldable pub total : List Word → ℕ
total [] = 0
total (w ∷ ws) = length w + 1 + total ws

total_joined : (blank : Bool) (byte : ℕ) (ws : List Word) (most : ℕ) → total ws ≤ most → 1 ≤ most → total (joined blank byte ws) ≤ most + 1
unfolding total joined
total_joined true byte ws most less some = omega (arith, less)
total_joined false byte [] most less some = omega (arith, less)
total_joined false byte (w ∷ ws) most less some = omega (arith, less)

pub total_words : (text : List ℕ) → total (words text) ≤ length text + 1
unfolding total words
total_words [] = omega arith
total_words (byte ∷ rest) =
    let more = total_joined (is_blank byte) byte (words rest) (length rest + 1) (total_words rest) (omega arith) in omega (arith, more)

-- a word more
pub total_step : (left : List Word) (w : Word) (ws : List Word) → left ≡ w ∷ ws → total left ≡ length w + 1 + total ws
unfolding total
total_step left w ws is = ap total is
