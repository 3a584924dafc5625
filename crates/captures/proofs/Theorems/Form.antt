-- 14 and 15 look at the text's form alone.
-- Assumes nothing.
use Rattle.std.proofs.Common.{◌≡◌, Bool, true, false, cond, List, [], ◌∷◌, sym, refl, ap, ◌∙◌, ⊎_elim}
use mathlib.Core.Bool.{false≢true}
use Rattle.controller.proofs.Laws.Choice.{cond-elim}
use Rattle.lines.proofs.Laws.Digits.{either}
use Rattle.captures.specs.declared.form.Phase.{Phase}
use Rattle.captures.specs.declared.form.Phase.TheVariants.{Section, Scale, ScaleUnit, ScopeKind, ScopeName, VarType, VarSize, VarCode, VarName, Close, Ending, Changes, Dump, Wrong}
use Rattle.captures.specs.Falls.{Scan}
use Rattle.captures.specs.Words.{Word, is_empty, is_plain}
use Rattle.captures.specs.Form.{after, changes_come, past}
use Rattle.captures.specs.Falls.{blank_scan, scanned, scanned_by}
use Rattle.captures.specs.Unheeded.{phase_after, OneForm, AllOneForm, FormAlone}
use Rattle.captures.proofs.Laws.Over.{over, over_past}
use Rattle.captures.proofs.Laws.Behind.{changes_over, codes_then, form_then, missing_then, scan_then, scanned_phase, scanned_reached, scanned_stranger, stranger, subset_then}
use Rattle.captures.proofs.Laws.Changes.{change_no_stamp, change_past}
use Rattle.captures.proofs.Theorems.Answers.{outside_first}

-- behind the definitions changes can come, or all is wrong
over_wrong : (phase : Phase) → over phase ≡ true → changes_come phase ≡ false → phase ≡ Wrong
unfolding over
over_wrong Changes is none = absurd (false≢true (sym none))
over_wrong Dump is none = absurd (false≢true (sym none))
over_wrong Wrong is none = refl
over_wrong (Section scaled) is none = absurd (false≢true is)
over_wrong Scale is none = absurd (false≢true is)
over_wrong ScaleUnit is none = absurd (false≢true is)
over_wrong (ScopeKind scaled) is none = absurd (false≢true is)
over_wrong (ScopeName scaled) is none = absurd (false≢true is)
over_wrong (VarType scaled) is none = absurd (false≢true is)
over_wrong (VarSize scaled) is none = absurd (false≢true is)
over_wrong (VarCode scaled) is none = absurd (false≢true is)
over_wrong (VarName scaled) is none = absurd (false≢true is)
over_wrong (Close scaled) is none = absurd (false≢true is)
over_wrong Ending is none = absurd (false≢true is)

pub wrong_past : (w : Word) → past Wrong w ≡ Wrong
unfolding past after
wrong_past w =
    cond-elim (λ (p : Phase). p ≡ Wrong) (is_empty w) _ _ (λ _. refl) (λ _. cond-elim (λ (p : Phase). p ≡ Wrong) (is_plain w) _ _ (λ _. refl) (λ _. refl))

-- words of one form lead to one phase
form_past : (phase : Phase) (w v : Word) → over phase ≡ true → OneForm w v → past phase w ≡ past phase v
form_past phase w v is =
    ⊎_elim (λ e. ap (past phase) e)
    (λ changes. either (changes_come phase)
    (λ come. change_past phase w come changes.0 ∙ ap (λ (c : Word). cond (is_plain c) phase Wrong) changes.2 ∙ sym (change_past phase v come changes.1))
    (λ none. let wrong = over_wrong phase is none in
    ap (λ (p : Phase). past p w) wrong ∙ wrong_past w ∙ sym (wrong_past v) ∙ sym (ap (λ (p : Phase). past p v) wrong)))

form_stranger : (all : List Word) (phase : Phase) (strange : Bool) (w v : Word) → OneForm w v → stranger all phase strange w ≡ stranger all phase strange v
unfolding stranger
form_stranger all phase strange w v =
    ⊎_elim (λ e. ap (stranger all phase strange) e)
    (λ changes. simp (change_no_stamp w changes.0, change_no_stamp v changes.1, changes.0, changes.1, changes.2))

-- so do lists of them, whatever the levels were before
forms_alike : (all codes : List Word) (a b : Scan) (x y : List Word) → AllOneForm x y → a.phase ≡ b.phase → over b.phase ≡ true
    → a.strange ≡ b.strange
    → ((scanned_by all codes a x).phase ≡ (scanned_by all codes b y).phase) × ((scanned_by all codes a x).strange ≡ (scanned_by all codes b y).strange)
unfolding scanned_by AllOneForm
forms_alike all codes a b [] [] forms same-phase is same-strange = (same-phase, same-strange)
forms_alike all codes a b [] (v ∷ vs) forms same-phase is same-strange = absurd forms
forms_alike all codes a b (w ∷ ws) [] forms same-phase is same-strange = absurd forms
forms_alike all codes a b (w ∷ ws) (v ∷ vs) forms same-phase is same-strange =
    let one : (scanned all codes a w).phase ≡ past b.phase v =
    scanned_phase all codes a w ∙ ap (λ (p : Phase). past p w) same-phase ∙ form_past b.phase w v is forms.0 in
    let two : (scanned all codes a w).strange ≡ (scanned all codes b v).strange =
    scanned_stranger all codes a w
    ∙ ap (λ (p : Phase). stranger all p a.strange w) same-phase
    ∙ ap (λ (t : Bool). stranger all b.phase t w) same-strange
    ∙ form_stranger all b.phase b.strange w v forms.0
    ∙ sym (scanned_stranger all codes b v) in
    forms_alike all codes (scanned all codes a w) (scanned all codes b v) ws vs forms.1 (one ∙ sym (scanned_phase all codes b v))
    (ap over (scanned_phase all codes b v) ∙ (over_past b.phase v is).0) two

pub form_alone : FormAlone
form_alone =
    record {
      buffer = λ capture out other refused. outside_first capture out other refused;
      levels = λ a b start x y go come forms.
          let is = changes_over (phase_after start) come in
          let scan = scan_then start in
          let reaches = ap over (scanned_reached start (codes_then start) blank_scan start) ∙ is in
          let same-form = forms_alike start (codes_then start) scan scan x y forms refl reaches refl in
          let seen = scanned_by start (codes_then start) scan in (
            subset_then start is a x go.one
                ∙ ap (λ (p : Phase). form_then start p (seen x).strange) same-form.0
                ∙ ap (form_then start (seen y).phase) same-form.1
                ∙ sym (subset_then start is b y go.other),
            missing_then start is a x go.one ∙ sym (missing_then start is b y go.other),
          );
    }
