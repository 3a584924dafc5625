-- Laws of choices: what holds of both cases holds of the choice, and what a joined test tells.
-- Assumes nothing.
use mathlib.Core.Bool.{Bool, true, false, cond, ◌&&◌, false≢true}
use mathlib.Core.Path.{◌≡◌, refl}

pub cond-elim {ℓ κ} : {A : Type ℓ} (P : A → Type κ) (test : Bool) (x y : A) → (test ≡ true → P x) → (test ≡ false → P y) → P (cond test x y)
cond-elim P true x y then other = then refl
cond-elim P false x y then other = other refl

pub and_left : (a b : Bool) → (a && b) ≡ true → a ≡ true
and_left true b both = refl
and_left false b both = both

pub and_right : (a b : Bool) → (a && b) ≡ true → b ≡ true
and_right true b both = both
and_right false b both = absurd (false≢true both)

-- a function of a choice, by its value in both cases
pub cond_map {ℓ κ} : {A : Type ℓ} {B : Type κ} (f : A → B) (test : Bool) (x y : A) (a b : B) → (test ≡ true → f x ≡ a) → (test ≡ false → f y ≡ b)
    → f (cond test x y) ≡ cond test a b
cond_map f true x y a b then other = then refl
cond_map f false x y a b then other = other refl
