-- Laws of the definitions' names: which needed signal a name is, and how often it has been.
-- Assumes nothing.
use Rattle.std.proofs.Common.{◌≡◌, ℕ, zero, suc, ◌+◌, ◌<◌, ◌≤◌, Bool, true, false, cond, not, ◌||◌, eqb, List, [], ◌∷◌, length, get_or, set, sym, refl, ap, ◌∙◌, true≢false, arith, length-set, get_or-set_other, get_or-set_same, eq-eqb, ne_eqb, eqb-true}
use borrow.Author.Tests.{eqb-false, not-true, not-false}
use Rattle.lines.proofs.Laws.Digits.{either}
use Rattle.captures.specs.Words.{Word, is_blank, is_empty, joined, place_in, same, words}
use Rattle.captures.specs.Definitions.{names}
use Rattle.captures.specs.Grammar.{needed}
use Rattle.captures.proofs.Laws.Words.{same_by, same_true}

own_place : (line : ℕ) → line < 11 → place_in names (needed line) ≡ line
unfolding names place_in same words joined is_blank
own_place zero less = refl
own_place (suc zero) less = refl
own_place (suc (suc zero)) less = refl
own_place (suc (suc (suc zero))) less = refl
own_place (suc (suc (suc (suc zero)))) less = refl
own_place (suc (suc (suc (suc (suc zero))))) less = refl
own_place (suc (suc (suc (suc (suc (suc zero)))))) less = refl
own_place (suc (suc (suc (suc (suc (suc (suc zero))))))) less = refl
own_place (suc (suc (suc (suc (suc (suc (suc (suc zero)))))))) less = refl
own_place (suc (suc (suc (suc (suc (suc (suc (suc (suc zero))))))))) less = refl
own_place (suc (suc (suc (suc (suc (suc (suc (suc (suc (suc zero)))))))))) less = refl
own_place (suc (suc (suc (suc (suc (suc (suc (suc (suc (suc (suc line))))))))))) less = absurd (omega arith)

place_get : (xs : List Word) (w : Word) → place_in xs w < length xs → get_or xs (place_in xs w) [] ≡ w
unfolding place_in
place_get [] w less = absurd (omega arith)
place_get (x ∷ xs) w less =
    either (same x w) (λ e. simp e (same_true x w e))
    (λ e. simp e (place_get xs w (let there : place_in (x ∷ xs) w ≡ suc (place_in xs w) = simp e in omega arith)))

eleven : length names ≡ 11
unfolding names words joined is_blank
eleven = refl

-- a name is the needed one of a line exactly where its place is that line
pub is_needed : (w : Word) (line : ℕ) → line < 11 → eqb (place_in names w) line ≡ same w (needed line)
is_needed w line less =
    same_by (eqb (place_in names w) line) w (needed line)
    (λ e. let at = eqb-true (place_in names w) line e in sym (place_get names w (omega (arith, eleven))) ∙ ap (λ (n : ℕ). get_or names n []) at)
    (λ e. eq-eqb (place_in names w) line (ap (place_in names) e ∙ own_place line less))

-- the codes of the needed signals and whether one was declared twice, where each has been so often
pub record Counted (codes : List Word) (twice : Bool) (often : ℕ → ℕ) : Type 0 where
  pub long : length codes ≡ 11
  pub held : (line : ℕ) → line < 11 → is_empty (get_or codes line []) ≡ eqb (often line) 0
  pub more : twice ≡ true → (line : ℕ) × (line < 11) × (2 ≤ often line)
  pub less : twice ≡ false → (line : ℕ) → line < 11 → often line ≤ 1

pub counted_as : (codes : List Word) (twice : Bool) (a b : ℕ → ℕ) → ((line : ℕ) → a line ≡ b line) → Counted codes twice a → Counted codes twice b
counted_as codes twice a b same_count is =
    record {
      long = is.long;
      held = λ line less. is.held line less ∙ ap (λ (n : ℕ). eqb n 0) (same_count line);
      more = λ e. let some = is.more e in let same_here = same_count some.0 in let two = some.2 in (some.0, some.1, omega arith);
      less = λ e line less. let same_here = same_count line in let one = is.less e line less in omega arith;
    }

-- a name more, with its code
module _ (codes : List Word) (twice : Bool) (often : ℕ → ℕ) (code w : Word) (some : is_empty code ≡ false) (is : Counted codes twice often) where
  abbrev own : ℕ
  own = place_in names w

  abbrev after : ℕ → ℕ
  after line = often line + cond (same w (needed line)) 1 0

  here : (line : ℕ) → line < 11 → own ≡ line → after line ≡ often line + 1
  here line less at = ap (λ (b : Bool). often line + cond b 1 0) (sym (is_needed w line less) ∙ eq-eqb own line at)

  elsewhere : (line : ℕ) → line < 11 → (own ≡ line → ⊥) → after line ≡ often line
  elsewhere line less other =
      let none = ap (λ (b : Bool). often line + cond b 1 0) (sym (is_needed w line less) ∙ ne_eqb own line other) in omega arith

  pub other_counted : 11 ≤ own → Counted codes twice after
  other_counted beyond =
      record {
        long = is.long;
        held = λ line less. is.held line less ∙ ap (λ (n : ℕ). eqb n 0) (sym (elsewhere line less (λ e. omega arith)));
        more = λ e. let two = is.more e in let same_here = elsewhere two.0 two.1 (λ at. omega (arith, two.1)) in (two.0, two.1, omega (arith, two.2));
        less = λ e line less. let one = is.less e line less in let same_here = elsewhere line less (λ at. omega arith) in omega arith;
      }

  pub own_counted : own < 11 → Counted (set codes own code) (twice || not (is_empty (get_or codes own []))) after
  own_counted below =
      record {
        long = length-set codes own code ∙ is.long;
        held = λ line less. either (eqb own line)
            (λ e. let at = eqb-true own line e in
            ap (λ (n : ℕ). is_empty (get_or (set codes own code) n [])) (sym at)
            ∙ ap is_empty (get_or-set_same codes own code [] (omega (arith, is.long))) ∙ some
            ∙ sym (ne_eqb (after line) 0 (λ none. let one = here line less at in omega arith)))
            (λ e. let apart = eqb-false own line e in
            ap is_empty (get_or-set_other codes own line code [] (λ e. apart (sym e))) ∙ is.held line less ∙ ap (λ (n : ℕ). eqb n 0) (sym (elsewhere line less apart)));
        more = λ e. either twice
            (λ t. let two = is.more t in let grown = grows two.0 in (two.0, two.1, omega (arith, two.2)))
            (λ t. let before : is_empty (get_or codes own []) ≡ false = not-true _ (sym (ap (λ (b : Bool). b || not (is_empty (get_or codes own []))) t) ∙ e) in
            let had = eqb-false (often own) 0 (sym (is.held own below) ∙ before) in
            let one = here own below refl in (own, below, omega (arith, had)));
        less = λ e line less. either twice
            (λ t. absurd (true≢false (sym (ap (λ (b : Bool). b || not (is_empty (get_or codes own []))) t) ∙ e)))
            (λ t. let none : is_empty (get_or codes own []) ≡ true = not-false _ (sym (ap (λ (b : Bool). b || not (is_empty (get_or codes own []))) t) ∙ e) in
            let fresh = eqb-true (often own) 0 (sym (is.held own below) ∙ none) in
            either (eqb own line)
            (λ at. let same_line = eqb-true own line at in let one = here line less same_line in let first = ap often same_line in omega arith)
            (λ at. let same_here = elsewhere line less (eqb-false own line at) in let one = is.less t line less in omega arith));
      }
    where
      grows : (line : ℕ) → often line ≤ after line
      grows line = omega arith
