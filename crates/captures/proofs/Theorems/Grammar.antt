-- The subset, word by word, is its grammar: what is left to come in each phase is what the grammar leaves.
-- Assumes nothing.
use Rattle.std.proofs.Common.{◌≡◌, ℕ, Bool, true, false, cond, List, [], ◌∷◌, sym, refl, ap, ◌∙◌, subst}
use mathlib.Core.Bool.{false≢true}
use Rattle.controller.proofs.Laws.Choice.{cond-elim}
use Rattle.lines.specs.Text.{bytes_of}
use Rattle.captures.specs.declared.form.Phase.{Phase}
use Rattle.captures.specs.declared.form.Phase.TheVariants.{Section, Scale, ScaleUnit, ScopeKind, ScopeName, VarType, VarSize, VarCode, VarName, Close, Ending, Changes, Dump, Wrong}
use Rattle.captures.specs.Words.{Word, words, is_empty, is_plain, is, same}
use Rattle.captures.specs.Form.{after, changing, is_change, is_scope_kind, is_stamp, is_var_type, is_whole, opened, past}
use Rattle.captures.specs.Grammar.{AllPlain, FormIsGrammar, Later, NotEnd, Sections}
use Rattle.captures.specs.Grammar as Grammar
use Rattle.captures.specs.Falls.{blank_scan}
use Rattle.captures.specs.Import.{head_of, scan_of}
use Rattle.captures.specs.Unheeded.{reached, said}
use Rattle.captures.proofs.Laws.Behind.{scanned_reached}
use Rattle.captures.proofs.Laws.Changes.{change_past, code_plain, filled, stamp_past}
use Rattle.captures.proofs.Laws.Words.{same_true}

-- what is left to come in a phase
unfoldable Rest : Phase → List Word → Type 0
Rest (Section scaled) ws = Sections scaled ws
Rest Scale ws = Sections false (bytes_of "$timescale" ∷ ws)
Rest ScaleUnit ws = Sections false (bytes_of "$timescale" ∷ bytes_of "1" ∷ ws)
Rest (ScopeKind scaled) ws = Sections scaled (bytes_of "$scope" ∷ ws)
Rest (ScopeName scaled) ws = (kind : Word) → is_scope_kind kind ≡ true → Sections scaled (bytes_of "$scope" ∷ kind ∷ ws)
Rest (VarType scaled) ws = Sections scaled (bytes_of "$var" ∷ ws)
Rest (VarSize scaled) ws = (type : Word) → is_var_type type ≡ true → Sections scaled (bytes_of "$var" ∷ type ∷ ws)
Rest (VarCode scaled) ws = (type : Word) → is_var_type type ≡ true → Sections scaled (bytes_of "$var" ∷ type ∷ bytes_of "1" ∷ ws)
Rest (VarName scaled) ws =
    (type code : Word) → is_var_type type ≡ true → NotEnd code → Sections scaled (bytes_of "$var" ∷ type ∷ bytes_of "1" ∷ code ∷ ws)
Rest (Close scaled) ws = (rest : List Word) × (ws ≡ bytes_of "$end" ∷ rest) × Sections scaled rest
Rest Ending ws = Sections true (bytes_of "$enddefinitions" ∷ ws)
Rest Changes ws = Later false ws
Rest Dump ws = Later true ws
Rest Wrong ws = ⊥

-- a word that is this one
this : (text : List ℕ) (w : Word) (ws : List Word) (P : List Word → Type 0) → same w text ≡ true → P (text ∷ ws) → P (w ∷ ws)
this text w ws P e = subst (λ (v : Word). P (v ∷ ws)) (sym (same_true w text e))

-- a section that closes, its words before that in P
closed : (scaled : Bool) (ws : List Word) (P : List Word → Type 0)
    → ((rest : List Word) → Sections scaled rest → P (bytes_of "$end" ∷ rest)) → Rest (Close scaled) ws → P ws
unfolding Rest
closed scaled ws P make left = subst P (sym left.1) (make left.0 left.2)

-- what is left after a word, and that word, is what was left before it
module _ (w : Word) (ws : List Word) where
  opening : (scaled : Bool) → Rest (opened scaled w) ws → Sections scaled (w ∷ ws)
  unfolding Rest opened
  opening scaled =
      cond-elim (λ (p : Phase). Rest p ws → Sections scaled (w ∷ ws)) (is "$scope" w) _ _ (λ e. this (bytes_of "$scope") w ws (Sections scaled) e)
      (λ _. cond-elim (λ (p : Phase). Rest p ws → Sections scaled (w ∷ ws)) (is "$var" w) _ _ (λ e. this (bytes_of "$var") w ws (Sections scaled) e)
      (λ _. cond-elim (λ (p : Phase). Rest p ws → Sections scaled (w ∷ ws)) (is "$upscope" w) _ _
      (λ e left. this (bytes_of "$upscope") w ws (Sections scaled) e
      (closed scaled ws (λ l. Sections scaled (bytes_of "$upscope" ∷ l)) (λ rest made. Grammar.upscope scaled rest made) left))
      (λ _. cond-elim (λ (p : Phase). Rest p ws → Sections scaled (w ∷ ws)) (is "$timescale" w) _ _
      (λ e. cond-elim (λ (p : Phase). Rest p ws → Sections scaled (w ∷ ws)) scaled _ _ (λ _ wrong. absurd wrong)
      (λ first left. at_scale first (this (bytes_of "$timescale") w ws (Sections false) e left)))
      (λ _. cond-elim (λ (p : Phase). Rest p ws → Sections scaled (w ∷ ws)) (is "$enddefinitions" w) _ _
      (λ e. cond-elim (λ (p : Phase). Rest p ws → Sections scaled (w ∷ ws)) scaled _ _
      (λ been left. at_scale been (this (bytes_of "$enddefinitions") w ws (Sections true) e left)) (λ _ wrong. absurd wrong))
      (λ _ wrong. absurd wrong)))))
    where
      at_scale : {b : Bool} → scaled ≡ b → Sections b (w ∷ ws) → Sections scaled (w ∷ ws)
      at_scale {b} is = subst (λ (t : Bool). Sections t (w ∷ ws)) (sym is)

  -- stamps and changes
  later : (inside stamps : Bool) (next : Phase) → (Rest next ws → Later inside ws) → (stamps ≡ true → is_stamp w ≡ true → Rest next ws → Later inside (w ∷ ws))
      → Rest (changing w stamps next) ws → Later inside (w ∷ ws)
  unfolding Rest changing
  later inside stamps next left stamped =
      cond-elim (λ (p : Phase). Rest p ws → Later inside (w ∷ ws)) (is_change w) _ _ (λ e rest. Grammar.change inside w ws e (left rest))
      (λ _. cond-elim (λ (p : Phase). Rest p ws → Later inside (w ∷ ws)) (is_stamp w) _ _
      (λ e. cond-elim (λ (p : Phase). Rest p ws → Later inside (w ∷ ws)) stamps _ _ (λ can. stamped can e) (λ _ wrong. absurd wrong))
      (λ _ wrong. absurd wrong))

  before : (phase : Phase) → Rest (after phase w) ws → Rest phase (w ∷ ws)
  unfolding Rest after
  before (Section scaled) = opening scaled
  before Scale =
      cond-elim (λ (p : Phase). Rest p ws → Rest Scale (w ∷ ws)) (is "1us" w) _ _
      (λ e left. this (bytes_of "1us") w ws (λ l. Sections false (bytes_of "$timescale" ∷ l)) e
      (closed true ws (λ l. Sections false (bytes_of "$timescale" ∷ bytes_of "1us" ∷ l)) (λ rest made. Grammar.scale_joined rest made) left))
      (λ _. cond-elim (λ (p : Phase). Rest p ws → Rest Scale (w ∷ ws)) (is "1" w) _ _
      (λ e. this (bytes_of "1") w ws (λ l. Sections false (bytes_of "$timescale" ∷ l)) e) (λ _ wrong. absurd wrong))
  before ScaleUnit =
      cond-elim (λ (p : Phase). Rest p ws → Rest ScaleUnit (w ∷ ws)) (is "us" w) _ _
      (λ e left. this (bytes_of "us") w ws (λ l. Sections false (bytes_of "$timescale" ∷ bytes_of "1" ∷ l)) e
      (closed true ws (λ l. Sections false (bytes_of "$timescale" ∷ bytes_of "1" ∷ bytes_of "us" ∷ l)) (λ rest made. Grammar.scale rest made) left))
      (λ _ wrong. absurd wrong)
  before (ScopeKind scaled) =
      cond-elim (λ (p : Phase). Rest p ws → Rest (ScopeKind scaled) (w ∷ ws)) (is_scope_kind w) _ _ (λ e left. left w e) (λ _ wrong. absurd wrong)
  before (ScopeName scaled) =
      cond-elim (λ (p : Phase). Rest p ws → Rest (ScopeName scaled) (w ∷ ws)) (is "$end" w) _ _ (λ _ wrong. absurd wrong)
      (λ other left kind e. closed scaled ws (λ l. Sections scaled (bytes_of "$scope" ∷ kind ∷ w ∷ l))
      (λ rest made. Grammar.scope scaled kind w rest e other made) left)
  before (VarType scaled) =
      cond-elim (λ (p : Phase). Rest p ws → Rest (VarType scaled) (w ∷ ws)) (is_var_type w) _ _ (λ e left. left w e) (λ _ wrong. absurd wrong)
  before (VarSize scaled) =
      cond-elim (λ (p : Phase). Rest p ws → Rest (VarSize scaled) (w ∷ ws)) (is "1" w) _ _
      (λ one left type e. this (bytes_of "1") w ws (λ l. Sections scaled (bytes_of "$var" ∷ type ∷ l)) one (left type e)) (λ _ wrong. absurd wrong)
  before (VarCode scaled) =
      cond-elim (λ (p : Phase). Rest p ws → Rest (VarCode scaled) (w ∷ ws)) (is "$end" w) _ _ (λ _ wrong. absurd wrong)
      (λ other left type e. left type w e other)
  before (VarName scaled) =
      cond-elim (λ (p : Phase). Rest p ws → Rest (VarName scaled) (w ∷ ws)) (is "$end" w) _ _ (λ _ wrong. absurd wrong)
      (λ other left type code e nor. closed scaled ws (λ l. Sections scaled (bytes_of "$var" ∷ type ∷ bytes_of "1" ∷ code ∷ w ∷ l))
      (λ rest made. Grammar.var scaled type code w rest e nor other made) left)
  before (Close scaled) =
      cond-elim (λ (p : Phase). Rest p ws → Rest (Close scaled) (w ∷ ws)) (is "$end" w) _ _
      (λ e left. (ws, ap (λ (v : Word). v ∷ ws) (same_true w (bytes_of "$end") e), left)) (λ _ wrong. absurd wrong)
  before Ending =
      cond-elim (λ (p : Phase). Rest p ws → Rest Ending (w ∷ ws)) (is "$end" w) _ _
      (λ e left. this (bytes_of "$end") w ws (λ l. Sections true (bytes_of "$enddefinitions" ∷ l)) e (Grammar.over ws left)) (λ _ wrong. absurd wrong)
  before Changes =
      cond-elim (λ (p : Phase). Rest p ws → Rest Changes (w ∷ ws)) (is "$dumpvars" w) _ _
      (λ e left. this (bytes_of "$dumpvars") w ws (Later false) e (Grammar.dump ws left))
      (λ _. later false true Changes (λ left. left) (λ _ e left. Grammar.stamp w ws e left))
  before Dump =
      cond-elim (λ (p : Phase). Rest p ws → Rest Dump (w ∷ ws)) (is "$end" w) _ _
      (λ e left. this (bytes_of "$end") w ws (Later true) e (Grammar.dumped ws left))
      (λ _. later true false Dump (λ left. left) (λ can. absurd (false≢true can)))
  before Wrong = λ wrong. wrong

-- none of these words is empty
unfoldable pub AllFilled : List Word → Type 0
AllFilled [] = Unit {0}
AllFilled (w ∷ ws) = (is_empty w ≡ false) × AllFilled ws

pub said_filled : (ws : List Word) → AllFilled (said ws)
unfolding AllFilled said
said_filled [] = tt
said_filled ([] ∷ ws) = said_filled ws
said_filled ((byte ∷ w) ∷ ws) = (filled byte w, said_filled ws)

-- where nothing is left to come, the text is whole
at_end : (phase : Phase) → is_whole phase ≡ true → Rest phase []
unfolding Rest
at_end Changes whole = Grammar.ended
at_end Dump whole = absurd (false≢true whole)
at_end Wrong whole = absurd (false≢true whole)
at_end (Section scaled) whole = absurd (false≢true whole)
at_end Scale whole = absurd (false≢true whole)
at_end ScaleUnit whole = absurd (false≢true whole)
at_end (ScopeKind scaled) whole = absurd (false≢true whole)
at_end (ScopeName scaled) whole = absurd (false≢true whole)
at_end (VarType scaled) whole = absurd (false≢true whole)
at_end (VarSize scaled) whole = absurd (false≢true whole)
at_end (VarCode scaled) whole = absurd (false≢true whole)
at_end (VarName scaled) whole = absurd (false≢true whole)
at_end (Close scaled) whole = absurd (false≢true whole)
at_end Ending whole = absurd (false≢true whole)

-- a word that is not plain leaves nothing right
past_rest : (phase : Phase) (w : Word) (ws : List Word) → is_empty w ≡ false → Rest (past phase w) ws → (is_plain w ≡ true) × Rest (after phase w) ws
unfolding Rest past
past_rest phase w ws some left =
    let is : past phase w ≡ cond (is_plain w) (after phase w) Wrong = simp some in
    go (is_plain w) refl (subst (λ (p : Phase). Rest p ws) is left)
  where
    go : (b : Bool) → is_plain w ≡ b → Rest (cond b (after phase w) Wrong) ws → (is_plain w ≡ true) × Rest (after phase w) ws
    go true e rest = (e, rest)
    go false e rest = absurd rest

parsed : (phase : Phase) (ws : List Word) → AllFilled ws → is_whole (reached phase ws) ≡ true → AllPlain ws × Rest phase ws
unfolding AllFilled AllPlain reached
parsed phase [] some whole = (tt, at_end phase whole)
parsed phase (w ∷ ws) some whole =
    let rest = parsed (past phase w) ws some.1 whole in
    let here = past_rest phase w ws some.0 rest.1 in
    ((here.0, rest.0), before w ws phase here.1)

-- the other way: the words that the grammar makes lead on, one after the other
leads : (phase next : Phase) (w : Word) (ws : List Word) → past phase w ≡ next → is_whole (reached next ws) ≡ true → is_whole (reached phase (w ∷ ws)) ≡ true
unfolding reached
leads phase next w ws goes = subst (λ (p : Phase). is_whole (reached p ws) ≡ true) (sym goes)

pub past_is : (phase : Phase) (w : Word) → is_empty w ≡ false → is_plain w ≡ true → past phase w ≡ after phase w
unfolding past
past_is phase w some plain = simp (some, plain)

made_later : {inside : Bool} {ws : List Word} → Later inside ws → AllFilled ws → AllPlain ws → is_whole (reached (cond inside Dump Changes) ws) ≡ true
unfolding reached past after opened is_plain same AllFilled AllPlain
made_later Grammar.ended some plain = refl
made_later (Grammar.stamp w ws e rest) some plain =
    leads Changes Changes w ws (stamp_past Changes w refl e plain.0) (made_later rest some.1 plain.1)
made_later (Grammar.change true w ws e rest) some plain =
    leads Dump Dump w ws (change_past Dump w refl e ∙ simp (code_plain w e plain.0)) (made_later rest some.1 plain.1)
made_later (Grammar.change false w ws e rest) some plain =
    leads Changes Changes w ws (change_past Changes w refl e ∙ simp (code_plain w e plain.0)) (made_later rest some.1 plain.1)
made_later (Grammar.dump ws rest) some plain = made_later rest some.1 plain.1
made_later (Grammar.dumped ws rest) some plain = made_later rest some.1 plain.1

made : {scaled : Bool} {ws : List Word} → Sections scaled ws → AllFilled ws → AllPlain ws → is_whole (reached (Section scaled) ws) ≡ true
unfolding reached past after opened is_plain same AllFilled AllPlain
made (Grammar.scale ws rest) some plain = made rest some.1.1.1.1 plain.1.1.1.1
made (Grammar.scale_joined ws rest) some plain = made rest some.1.1.1 plain.1.1.1
made (Grammar.scope scaled kind name ws e other rest) some plain =
    leads (ScopeKind scaled) (ScopeName scaled) kind (name ∷ bytes_of "$end" ∷ ws) (past_is (ScopeKind scaled) kind some.1.0 plain.1.0 ∙ simp e)
    (leads (ScopeName scaled) (Close scaled) name (bytes_of "$end" ∷ ws) (past_is (ScopeName scaled) name some.1.1.0 plain.1.1.0 ∙ simp other)
    (made rest some.1.1.1.1 plain.1.1.1.1))
made (Grammar.upscope scaled ws rest) some plain = made rest some.1.1 plain.1.1
made (Grammar.var scaled type code name ws e other nor rest) some plain =
    leads (VarType scaled) (VarSize scaled) type (bytes_of "1" ∷ code ∷ name ∷ bytes_of "$end" ∷ ws)
    (past_is (VarType scaled) type some.1.0 plain.1.0 ∙ simp e)
    (leads (VarCode scaled) (VarName scaled) code (name ∷ bytes_of "$end" ∷ ws)
    (past_is (VarCode scaled) code some.1.1.1.0 plain.1.1.1.0 ∙ simp other)
    (leads (VarName scaled) (Close scaled) name (bytes_of "$end" ∷ ws) (past_is (VarName scaled) name some.1.1.1.1.0 plain.1.1.1.1.0 ∙ simp nor)
    (made rest some.1.1.1.1.1.1 plain.1.1.1.1.1.1)))
made (Grammar.over ws rest) some plain = made_later rest some.1.1 plain.1.1

reached_said : (phase : Phase) (ws : List Word) → reached phase ws ≡ reached phase (said ws)
unfolding reached said past
reached_said phase [] = refl
reached_said phase ([] ∷ ws) = reached_said phase ws
reached_said phase ((byte ∷ w) ∷ ws) = reached_said (past phase (byte ∷ w)) ws

pub form_is_grammar : FormIsGrammar
unfolding Rest
form_is_grammar capture =
    let ws = words capture in
    let same-phase : (scan_of capture).phase ≡ reached (Section false) (said ws) =
    scanned_reached ws (head_of capture).codes blank_scan ws ∙ reached_said (Section false) ws in (
      λ whole. parsed (Section false) (said ws) (said_filled ws) (ap is_whole (sym same-phase) ∙ whole),
      λ stands. ap is_whole same-phase ∙ made stands.1 (said_filled ws) stands.0,
    )
