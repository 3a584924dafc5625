-- Laws of the phases behind the definitions.
-- Assumes nothing.
use Rattle.std.proofs.Common.{◌≡◌, ◌≤◌, Bool, true, false, ltb, leb, refl, arith}
use mathlib.Core.Bool.{false≢true}
use Rattle.controller.proofs.Laws.Choice.{cond-elim}
use Rattle.captures.specs.declared.form.Phase.{Phase}
use Rattle.captures.specs.declared.form.Phase.TheVariants.{Section, Scale, ScaleUnit, ScopeKind, ScopeName, VarType, VarSize, VarCode, VarName, Close, Ending, Changes, Dump, Wrong}
use Rattle.lines.specs.Text.{bytes_of}
use Rattle.captures.specs.Words.{Word, is_empty, is_plain, same}
use Rattle.captures.specs.Form.{asked, code_comes, name_comes, after, changing, past, stamp_of, level_set}

-- the definitions are over, for good
unfoldable pub over : Phase → Bool
over (Section scaled) = false
over Scale = false
over ScaleUnit = false
over (ScopeKind scaled) = false
over (ScopeName scaled) = false
over (VarType scaled) = false
over (VarSize scaled) = false
over (VarCode scaled) = false
over (VarName scaled) = false
over (Close scaled) = false
over Ending = false
over Changes = true
over Dump = true
over Wrong = true

-- where changes come, the phase is one of two
pub late_phase : (P : Phase → Type 0) (phase : Phase) → 3 ≤ asked phase → P Changes → P Dump → P phase
late_phase P (Section scaled) late changes dump = absurd (omega arith)
late_phase P Scale late changes dump = absurd (omega arith)
late_phase P ScaleUnit late changes dump = absurd (omega arith)
late_phase P (ScopeKind scaled) late changes dump = absurd (omega arith)
late_phase P (ScopeName scaled) late changes dump = absurd (omega arith)
late_phase P (VarType scaled) late changes dump = absurd (omega arith)
late_phase P (VarSize scaled) late changes dump = absurd (omega arith)
late_phase P (VarCode scaled) late changes dump = absurd (omega arith)
late_phase P (VarName scaled) late changes dump = absurd (omega arith)
late_phase P (Close scaled) late changes dump = absurd (omega arith)
late_phase P Ending late changes dump = absurd (omega arith)
late_phase P Changes late changes dump = changes
late_phase P Dump late changes dump = dump
late_phase P Wrong late changes dump = absurd (omega arith)

pub over_asked : (phase : Phase) → 3 ≤ asked phase → over phase ≡ true
unfolding over
over_asked phase late = late_phase (λ (p : Phase). over p ≡ true) phase late refl refl

over_changing : (w : Word) (stamps : Bool) (next : Phase) → over next ≡ true → over (changing w stamps next) ≡ true
unfolding changing over
over_changing w stamps next is =
    cond-elim (λ (p : Phase). over p ≡ true) (ltb (level_set w) 3) _ _ (λ _. is)
    (λ _. cond-elim (λ (p : Phase). over p ≡ true) (leb (stamp_of w) 4294967295) _ _
    (λ _. cond-elim (λ (p : Phase). over p ≡ true) stamps _ _ (λ _. is) (λ _. refl)) (λ _. refl))

-- no word leads back into the definitions, and neither a code nor a name comes there
pub over_past : (phase : Phase) (w : Word) → over phase ≡ true → (over (past phase w) ≡ true) × (code_comes phase ≡ false) × (name_comes phase ≡ false)
unfolding past after over
over_past Changes w is = (
  cond-elim (λ (p : Phase). over p ≡ true) (is_empty w) _ _ (λ _. refl)
      (λ _. cond-elim (λ (p : Phase). over p ≡ true) (is_plain w) _ _
      (λ _. cond-elim (λ (p : Phase). over p ≡ true) (same w (bytes_of "$dumpvars")) _ _ (λ _. refl) (λ _. over_changing w true Changes refl)) (λ _. refl)),
  refl,
  refl,
)
over_past Dump w is = (
  cond-elim (λ (p : Phase). over p ≡ true) (is_empty w) _ _ (λ _. refl)
      (λ _. cond-elim (λ (p : Phase). over p ≡ true) (is_plain w) _ _
      (λ _. cond-elim (λ (p : Phase). over p ≡ true) (same w (bytes_of "$end")) _ _ (λ _. refl) (λ _. over_changing w false Dump refl)) (λ _. refl)),
  refl,
  refl,
)
over_past Wrong w is = (
  cond-elim (λ (p : Phase). over p ≡ true) (is_empty w) _ _ (λ _. refl)
      (λ _. cond-elim (λ (p : Phase). over p ≡ true) (is_plain w) _ _ (λ _. refl) (λ _. refl)),
  refl,
  refl,
)
over_past (Section scaled) w is = absurd (false≢true is)
over_past Scale w is = absurd (false≢true is)
over_past ScaleUnit w is = absurd (false≢true is)
over_past (ScopeKind scaled) w is = absurd (false≢true is)
over_past (ScopeName scaled) w is = absurd (false≢true is)
over_past (VarType scaled) w is = absurd (false≢true is)
over_past (VarSize scaled) w is = absurd (false≢true is)
over_past (VarCode scaled) w is = absurd (false≢true is)
over_past (VarName scaled) w is = absurd (false≢true is)
over_past (Close scaled) w is = absurd (false≢true is)
over_past Ending w is = absurd (false≢true is)
