-- Laws of the walk over a capture: declared codes and changed levels, from what is left.
-- Assumes nothing.
use Rattle.std.proofs.Common.{◌≡◌, ℕ, ◌+◌, ◌≤◌, Bool, true, false, cond, Some, None, ◌&&◌, ◌||◌, List, [], ◌∷◌, get_or, drop, set, sym, refl, ap, ◌∙◌, add-one}
use lib.Seq.{set-get_or}
use Rattle.std.proofs.lemmas.Option.{cond_some}
use Rattle.captures.proofs.Laws.Words.{none_said}
use Rattle.captures.specs.declared.form.Phase.{Phase}
use Rattle.captures.specs.Falls.{Scan}
use Rattle.captures.specs.Words.{Word, same}
use Rattle.captures.specs.Form.{asked, changes_come, code_comes, is_change, past, stamp_of, stamp_said, level_set}
use Rattle.captures.specs.Definitions.{declares}
use Rattle.captures.proofs.Laws.Over.{over, over_asked, over_past}
use Rattle.captures.specs.Falls.{changed, stamped, altered, in_phase, moved, scanned}

or_true : (a : Bool) → a || true ≡ true
or_true true = refl
or_true false = refl

-- the first of the words that are left declares the code
pub declares_here : (phase : Phase) (all : List Word) (v w : Word) (ws : List Word) (code : Word) → all ≡ w ∷ ws → v ≡ w
    → (code_comes phase && same v code) ≡ true → true ≡ declares phase all code
unfolding declares
declares_here phase all v w ws code left is here =
    sym (ap (λ (l : List Word). declares phase l code) left ∙ simp (ap (λ (u : Word). code_comes phase && same u code) (sym is) ∙ here))

-- or it does not, and those behind it are asked
pub declares_next : (phase next : Phase) (all : List Word) (v w : Word) (ws : List Word) (code : Word) → all ≡ w ∷ ws → v ≡ w
    → (code_comes phase && same v code) ≡ false → next ≡ past phase v → declares next ws code ≡ declares phase all code
unfolding declares
declares_next phase next all v w ws code left is here goes =
    sym (ap (λ (l : List Word). declares phase l code) left
    ∙ simp (ap (λ (u : Word). code_comes phase && same u code) (sym is) ∙ here, sym (goes ∙ ap (past phase) is)))

-- what those behind the first word declare is declared
pub declares_later : (phase next : Phase) (all : List Word) (w : Word) (ws : List Word) (code : Word) → all ≡ w ∷ ws → next ≡ past phase w
    → declares next ws code ≡ true → declares phase all code ≡ true
unfolding declares
declares_later phase next all w ws code left goes later =
    ap (λ (l : List Word). declares phase l code) left
    ∙ ap (λ (b : Bool). (code_comes phase && same w code) || b) (ap (λ (p : Phase). declares p ws code) (sym goes) ∙ later)
    ∙ or_true (code_comes phase && same w code)

pub declares_none : (phase : Phase) (all : List Word) (code : Word) → all ≡ [] → false ≡ declares phase all code
unfolding declares
declares_none phase all code left = sym (ap (λ (l : List Word). declares phase l code) left)

-- a line more, of levels that were set up to it
changed_next : (i : ℕ) (codes : List Word) (own code : Word) (level value : ℕ) (test : Bool) (before now : List ℕ)
    → now ≡ changed i codes code level before → own ≡ get_or codes i [] → test ≡ same own code → value ≡ cond test level (get_or now i 0)
    → set now i value ≡ changed (i + 1) codes code level before
unfolding changed
changed_next i codes own code level value test before now is has by chosen =
    let tested : test ≡ same (get_or codes i []) code = by ∙ ap (λ (w : Word). same w code) has in
    let stored : value ≡ cond (same (get_or codes i []) code) level (get_or (changed i codes code level before) i 0) =
    chosen ∙ ap (λ (b : Bool). cond b level (get_or now i 0)) tested
    ∙ ap (λ (l : List ℕ). cond (same (get_or codes i []) code) level (get_or l i 0)) is in
    rw (add-one) (ap (λ (l : List ℕ). set l i value) is ∙ ap (set (changed i codes code level before) i) stored)

-- where the line has the code, and where it has not
pub changed_here : (i : ℕ) (codes : List Word) (own code : Word) (level : ℕ) (before now : List ℕ)
    → now ≡ changed i codes code level before → own ≡ get_or codes i [] → true ≡ same own code → set now i level ≡ changed (i + 1) codes code level before
changed_here i codes own code level before now is has by = changed_next i codes own code level level true before now is has by refl

pub changed_not : (i : ℕ) (codes : List Word) (own code : Word) (level : ℕ) (before now : List ℕ)
    → now ≡ changed i codes code level before → own ≡ get_or codes i [] → false ≡ same own code → now ≡ changed (i + 1) codes code level before
changed_not i codes own code level before now is has by =
    let kept : set now i (get_or now i 0) ≡ now = simp set-get_or in
    sym kept ∙ changed_next i codes own code level (get_or now i 0) false before now is has by refl

-- a stamp, a change and any other word, from the parts that the code reads
module _ (all codes : List Word) (scan : Scan) (w : Word) (next : Scan) (goes : next ≡ in_phase (past scan.phase w) scan) where
  pub scan_early : changes_come scan.phase ≡ false → next ≡ scanned all codes scan w
  unfolding scanned
  scan_early early = goes ∙ simp early

  pub scan_stamp : (stamp : ℕ) → changes_come scan.phase ≡ true → Some stamp ≡ stamp_said w → stamped next stamp ≡ scanned all codes scan w
  unfolding scanned moved
  scan_stamp stamp late said =
      let is = cond_some _ _ _ (sym said) in
      ap (stamped next) (sym is.1) ∙ ap (λ (s : Scan). stamped s (stamp_of w)) goes ∙ simp (late, is.0)

  pub scan_change : changes_come scan.phase ≡ true → None ≡ stamp_said w → is_change w ≡ true
      → altered all codes next (drop 1 w) (level_set w) ≡ scanned all codes scan w
  unfolding scanned moved
  scan_change late none is =
      ap (λ (s : Scan). altered all codes s (drop 1 w) (level_set w)) goes ∙ simp (late, none_said _ _ none, is)

  pub scan_rest : changes_come scan.phase ≡ true → None ≡ stamp_said w → is_change w ≡ false → next ≡ scanned all codes scan w
  unfolding scanned moved
  scan_rest late none other = goes ∙ simp (late, none_said _ _ none, other)

pub or_none : (a : Bool) → a ≡ a || false
or_none true = refl
or_none false = refl

pub declares_never : (phase : Phase) (ws : List Word) (code : Word) → over phase ≡ true → declares phase ws code ≡ false
unfolding declares
declares_never phase [] code is = refl
declares_never phase (w ∷ ws) code is = simp ((over_past phase w is).1, declares_never (past phase w) ws code (over_past phase w is).0)

-- where changes come, no section is left to declare a code
pub declares_over : (phase : Phase) (ws : List Word) (code : Word) → 3 ≤ asked phase → false ≡ declares phase ws code
declares_over phase ws code late = sym (declares_never phase ws code (over_asked phase late))
