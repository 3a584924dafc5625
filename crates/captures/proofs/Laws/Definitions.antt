-- Laws of the definitions as the code keeps them.
-- Assumes nothing.
use Rattle.std.proofs.Common.{◌≡◌, ℕ, ◌<◌, Some, None, ltb, [], length, get_or, ◌∙◌, sym, refl, arith, lt-ltb, le-ltb, ltb-true, ltb-false}
use Rattle.std.specs.Prelude.{position}
use Rattle.std.specs.List.{position_or_len}
use Rattle.std.proofs.lemmas.Option.{cond_some}
use Rattle.std.proofs.Math.ListN.{get_or-map}
use Rattle.captures.specs.Words.{Word, is_blank, joined, place_in, same, words}
use Rattle.captures.specs.Walk.{Lent, codes_in}
use Rattle.captures.specs.Definitions.{Head, names, placed, named}
use Rattle.captures.proofs.Laws.Words.{none_said, place_position}

-- a code, as it stands in the text
pub code_at : (codes : Lent) (line : ℕ) → get_or (codes_in codes) line [] ≡ (get_or codes line (record { ref_ptr = (0, 0); now = [] })).now
code_at codes line = get_or-map (λ code. code.now) codes line (record { ref_ptr = (0, 0); now = [] })

names_are : length names ≡ 11
unfolding names words joined is_blank
names_are = refl

-- a name more, where its line is one of the eleven, and where it has none
pub name_line : (h : Head) (w : Word) (line : ℕ) → Some line ≡ position (λ (needed : Word). same needed w) names
    → (line < 11) × (placed h line ≡ named h w)
unfolding named
name_line h w line is =
    let said = cond_some (ltb (position_or_len (λ (needed : Word). same needed w) names) (length names)) _ _ (sym is) in
    let place : place_in names w ≡ line = place_position names w ∙ said.1 in
    let less = ltb-true _ _ said.0 in
    let below : line < 11 = omega (arith, less, place, said.1, names_are) in
    (below, rw place (simp (lt-ltb line 11 below)))

pub name_other : (h : Head) (w : Word) → None ≡ position (λ (needed : Word). same needed w) names → h ≡ named h w
unfolding named
name_other h w is =
    let past = ltb-false _ _ (none_said _ _ is) in
    let place = place_position names w in
    simp (le-ltb (place_in names w) 11 (omega (arith, past, place, names_are)))
