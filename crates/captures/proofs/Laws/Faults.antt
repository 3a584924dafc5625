-- Laws of the search for the first word at fault: what is left comes to the same.
-- Assumes nothing.
use Rattle.std.proofs.Common.{◌≡◌, ℕ, ◌+◌, Bool, true, false, cond, Some, None, refl, ◌&&◌, List, [], ◌∷◌, length, sym, ap, ◌∙◌, arith}
use Rattle.std.specs.Option.{is_some}
use Rattle.std.proofs.lemmas.Option.{cond_some}
use Rattle.captures.proofs.Laws.Words.{none_said}
use Rattle.captures.specs.declared.faults.Unknown.{Unknown as KeptUnknown}
use Rattle.captures.specs.declared.form.Level.{Level}
use Rattle.captures.specs.declared.form.Level.TheVariants.{Low, High, Open}
use Rattle.captures.specs.declared.faults.Fault.{Fault}
use Rattle.captures.specs.declared.faults.Fault.TheVariants.{Unfinished}
use Rattle.captures.specs.Words.{Word}
use Rattle.captures.specs.Form.{changes_come, is_stamp, levels_of, numbers_of, stamp_of, stamp_said}
use Rattle.captures.specs.Definitions.{Head, defined}
use Rattle.captures.specs.Faults.{falls_unknown, fault_of, fault_said, fault_with, is_undeclared, is_unfinished, is_wrong, unknown_from, unknown_of, unknown_told, wrong_from}
use Rattle.captures.specs.Falls.{Scan}
use Rattle.captures.specs.Falls.{ends, scanned}

-- what is wrong with a word, from the parts that the code reads; v is the word as it was read
pub fault_is : (all : List Word) (head next : Head) (v w : Word) (fault : Fault) (wrong undeclared : Bool) → next ≡ defined head w → v ≡ w
    → wrong ≡ is_wrong next.phase → undeclared ≡ is_undeclared all head.phase v → fault ≡ fault_of wrong next.twice undeclared
    → fault ≡ fault_with all head w
fault_is all head next v w fault wrong undeclared goes is by-phase by_code by =
    by ∙ ap (λ (b : Bool). fault_of b next.twice undeclared) by-phase
    ∙ ap (λ (b : Bool). fault_of (is_wrong next.phase) next.twice b) (by_code ∙ ap (is_undeclared all head.phase) is)
    ∙ ap (λ (h : Head). fault_of (is_wrong h.phase) h.twice (is_undeclared all head.phase w)) goes

module _ (all : List Word) (head next : Head) (place : ℕ) (left : List Word) (w : Word) (ws : List Word) (is : left ≡ w ∷ ws) (goes : next ≡ defined head w)
    (fault : Fault) (by : fault ≡ fault_with all head w) where
  -- this word is at fault
  pub wrong_here : is_unfinished fault ≡ false → record { fault = fault; place = place } ≡ wrong_from all head place left
  unfolding wrong_from
  wrong_here at =
      let tested : is_unfinished (fault_with all head w) ≡ false = ap is_unfinished (sym by) ∙ at in
      (λ i. record { fault = by i; place = place }) ∙ sym (ap (wrong_from all head place) is ∙ simp tested)

  -- or it is not, and the next word begins behind the blank that ends this one
  pub wrong_next : (behind : ℕ) → is_unfinished fault ≡ true → behind ≡ place + length w + 1 → wrong_from all next behind ws ≡ wrong_from all head place left
  unfolding wrong_from
  wrong_next behind at further =
      let tested : is_unfinished (fault_with all head w) ≡ true = ap is_unfinished (sym by) ∙ at in
      ap (λ (h : Head). wrong_from all h behind ws) goes ∙ ap (λ (n : ℕ). wrong_from all (defined head w) n ws) further
      ∙ sym (ap (wrong_from all head place) is ∙ simp tested)

pub wrong_end : (all : List Word) (head : Head) (place : ℕ) (left : List Word) → left ≡ [] → record { fault = Unfinished; place = place } ≡ wrong_from all head place left
unfolding wrong_from
wrong_end all head place left is = sym (ap (wrong_from all head place) is)

-- what is told where no word is wrong, and where one is
pub fault_none : (fault : Fault) → None ≡ fault_said fault → is_unfinished fault ≡ true
fault_none fault said = go (is_unfinished fault) refl said
  where
    go : (b : Bool) → is_unfinished fault ≡ b → None ≡ cond (is_unfinished fault) None (Some fault) → is_unfinished fault ≡ true
    go true is said = is
    go false is said = let told = simp is at said in let no : ◌≡◌ {A = ℕ} 0 1 = cc in absurd (omega arith)

pub fault_some : (fault : Fault) (told : Fault) → Some told ≡ fault_said fault → (is_unfinished fault ≡ false) × (told ≡ fault)
fault_some fault told said = go (is_unfinished fault) refl said
  where
    go : (b : Bool) → is_unfinished fault ≡ b → Some told ≡ cond (is_unfinished fault) None (Some fault) → (is_unfinished fault ≡ false) × (told ≡ fault)
    go true is said = let other = simp is at said in let no : ◌≡◌ {A = ℕ} 0 1 = cc in absurd (omega arith)
    go false is said = let same = simp is at said in (is, cc)

module _ (all codes : List Word) (scan : Scan) (at place : ℕ) (left : List Word) (w : Word) (ws : List Word) (is : left ≡ w ∷ ws) where
  -- this stamp ends such a fall
  pub unknown_here : (fall : KeptUnknown) → Some fall ≡ unknown_told (unknown_of (ends scan w && falls_unknown scan) scan at)
      → Some fall ≡ unknown_told (unknown_from all codes scan at place left)
  unfolding unknown_from
  unknown_here fall said =
      let found = (cond_some (ends scan w && falls_unknown scan) _ _ (sym said)).0 in
      let here : unknown_from all codes scan at place left ≡ unknown_of true scan at = ap (unknown_from all codes scan at place) is ∙ simp found in
      said ∙ ap (λ (b : Bool). unknown_told (unknown_of b scan at)) found ∙ sym (ap unknown_told here)

  -- or it does not
  pub unknown_next : (next : Scan) (then behind : ℕ) → None ≡ unknown_told (unknown_of (ends scan w && falls_unknown scan) scan at)
      → next ≡ scanned all codes scan w → then ≡ cond (changes_come scan.phase && is_stamp w) place at → behind ≡ place + length w + 1
      → unknown_from all codes next then behind ws ≡ unknown_from all codes scan at place left
  unfolding unknown_from
  unknown_next next then behind none goes holds further =
      let not_found = none_said (ends scan w && falls_unknown scan) _ none in
      ap (λ (s : Scan). unknown_from all codes s then behind ws) goes
      ∙ ap (λ (n : ℕ). unknown_from all codes (scanned all codes scan w) n behind ws) holds
      ∙ ap (λ (n : ℕ). unknown_from all codes (scanned all codes scan w) (cond (changes_come scan.phase && is_stamp w) place at) n ws) further
      ∙ sym (ap (unknown_from all codes scan at place) is ∙ simp not_found)

pub unknown_end : (all codes : List Word) (scan : Scan) (at place : ℕ) (left : List Word) → left ≡ []
    → unknown_of (falls_unknown scan) scan at ≡ unknown_from all codes scan at place left
unfolding unknown_from
unknown_end all codes scan at place left is = sym (ap (unknown_from all codes scan at place) is)

-- the levels of a fall that is told
pub levels_told : (levels : List Level) → levels ≡ levels_of (numbers_of levels)
levels_told [] = refl
levels_told (Low ∷ levels) = ap (λ (l : List Level). Low ∷ l) (levels_told levels)
levels_told (High ∷ levels) = ap (λ (l : List Level). High ∷ l) (levels_told levels)
levels_told (Open ∷ levels) = ap (λ (l : List Level). Open ∷ l) (levels_told levels)

-- the place of a stamp, where the word is one
pub said_is_stamp : (w : Word) → is_some (stamp_said w) ≡ is_stamp w
said_is_stamp w = go (is_stamp w)
  where
    go : (b : Bool) → is_some (cond b (Some (stamp_of w)) None) ≡ b
    go true = refl
    go false = refl
