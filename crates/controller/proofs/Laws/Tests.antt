-- Laws of tests: what a test says of numbers, and what joined and negated tests say.
-- Assumes nothing.
use mathlib.Core.Bool.{Bool, true, false, not, ◌&&◌, ◌||◌, true≢false, false≢true}
use mathlib.Core.Logic.{◌⊎◌, inl, inr, ⊎_elim}
use mathlib.Core.Path.{◌≡◌, refl, sym, ◌∙◌}
use Prim.Native.Nat.{ℕ, ◌<◌, ◌≤◌}
use native.Mathlib.Omega.{arith}
use lib.Dec.{eqb, leb, ltb}
use borrow.Author.Tests.{eqb-true, eqb-false, leb-true, leb-false, ltb-true, ltb-false, not-true, not-false}

-- the test is true exactly where this holds
pub record Tests (test : Bool) (A : Type 0) : Type 0 where
  pub yes : test ≡ true → A
  pub no : test ≡ false → A → ⊥

-- the same said otherwise
pub tests_as : {test : Bool} {A B : Type 0} → (A → B) → (B → A) → Tests test A → Tests test B
tests_as to from t = record { yes = λ e. to (t.yes e); no = λ e b. t.no e (from b) }

-- the test where it is known not to hold
pub tests_false : {test : Bool} {A : Type 0} → Tests test A → (A → ⊥) → test ≡ false
tests_false {test} t never = go test refl
  where
    go : (b : Bool) → test ≡ b → test ≡ false
    go true is = absurd (never (t.yes is))
    go false is = is

pub tests_itself : (test : Bool) → Tests test (test ≡ true)
tests_itself test = record { yes = λ e. e; no = λ e is. false≢true (sym e ∙ is) }

pub tests_lt : (a b : ℕ) → Tests (ltb a b) (a < b)
tests_lt a b = record { yes = ltb-true a b; no = λ e is. omega (arith, ltb-false a b e) }

pub tests_le : (a b : ℕ) → Tests (leb a b) (a ≤ b)
tests_le a b = record { yes = leb-true a b; no = λ e is. omega (arith, leb-false a b e) }

pub tests_eq : (a b : ℕ) → Tests (eqb a b) (a ≡ b)
tests_eq a b = record { yes = eqb-true a b; no = eqb-false a b }

pub tests_not : {test : Bool} {A : Type 0} → Tests test A → Tests (not test) (A → ⊥)
tests_not {test} t = record { yes = λ e. t.no (not-true test e); no = λ e is. is (t.yes (not-false test e)) }

pub tests_and : (a b : Bool) {A B : Type 0} → Tests a A → Tests b B → Tests (a && b) (A × B)
tests_and true b s t = record { yes = λ e. (s.yes refl, t.yes e); no = λ e is. t.no e is.1 }
tests_and false b s t = record { yes = λ e. absurd (false≢true e); no = λ e is. s.no refl is.0 }

pub tests_or : (a b : Bool) {A B : Type 0} → Tests a A → Tests b B → Tests (a || b) (A ⊎ B)
tests_or true b s t = record { yes = λ e. inl (s.yes refl); no = λ e is. true≢false e }
tests_or false b s t = record { yes = λ e. inr (t.yes e); no = λ e is. ⊎_elim (s.no refl) (t.no e) is }

-- the test is false exactly where this holds
pub record Fails (test : Bool) (A : Type 0) : Type 0 where
  pub yes : test ≡ false → A
  pub no : test ≡ true → A → ⊥

-- the same said otherwise
pub fails_as : {test : Bool} {A B : Type 0} → (A → B) → (B → A) → Fails test A → Fails test B
fails_as to from f = record { yes = λ e. to (f.yes e); no = λ e b. f.no e (from b) }

-- the test where it is known to fail
pub fails_false : (test : Bool) {A : Type 0} → Fails test A → A → test ≡ false
fails_false true f is = absurd (f.no refl is)
fails_false false f is = refl

pub fails_lt : (a b : ℕ) → Fails (ltb a b) (b ≤ a)
fails_lt a b = record { yes = ltb-false a b; no = λ e is. omega (arith, ltb-true a b e) }

pub fails_le : (a b : ℕ) → Fails (leb a b) (b < a)
fails_le a b = record { yes = leb-false a b; no = λ e is. omega (arith, leb-true a b e) }

pub fails_eq : (a b : ℕ) → Fails (eqb a b) (a ≡ b → ⊥)
fails_eq a b = record { yes = eqb-false a b; no = λ e not_same. not_same (eqb-true a b e) }

pub fails_zero : (a : ℕ) → Fails (eqb a 0) (0 < a)
fails_zero a =
    record { yes = λ e. let some = eqb-false a 0 e in omega (arith, some); no = λ e is. let none = eqb-true a 0 e in omega (arith, none) }

pub fails_not : (test : Bool) → Fails (not test) (test ≡ true)
fails_not test = record { yes = not-false test; no = λ e is. false≢true (sym (not-true test e) ∙ is) }

-- both pass but where one of them fails
pub fails_and : (a b : Bool) {A B : Type 0} → Fails a A → Fails b B → Fails (a && b) (A ⊎ B)
fails_and true b s t = record { yes = λ e. inr (t.yes e); no = λ e is. ⊎_elim (s.no refl) (t.no e) is }
fails_and false b s t = record { yes = λ e. inl (s.yes refl); no = λ e is. false≢true e }

-- a negated test
pub tests_fails : (test : Bool) {A : Type 0} → Fails test A → Tests (not test) A
tests_fails test f = record { yes = λ e. f.yes (not-true test e); no = λ e. f.no (not-false test e) }
