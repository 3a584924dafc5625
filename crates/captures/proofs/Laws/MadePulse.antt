-- Laws of a made pulse: what its stamps and changes, one after the other, do to the lines as they stand and to the falls of E.
-- Assumes nothing.
use Rattle.std.proofs.Common.{◌≡◌, ℕ, zero, suc, ◌+◌, ◌/◌, ◌%◌, ◌<◌, ◌≤◌, Bool, true, false, cond, ◌&&◌, eqb, List, [], ◌∷◌, ◌++◌, length, get_or, replicate, refl, ap, ◌∙◌, append_assoc, arith, ne_eqb, le-leb}
use Prim.Native.Char.{code}
use lib.Dec.{eqb-suc-zero}
use Rattle.controller.specs.declared.sent.Sent.{Sent}
use Rattle.lines.specs.Digits.{newline, between, digit, decimal}
use Rattle.captures.specs.declared.form.Phase.TheVariants.{Section, Changes}
use Rattle.captures.specs.Falls.{Scan}
use Rattle.captures.specs.Words.{Word, words, is_plain, same}
use Rattle.captures.specs.Form.{stamp_limit, stamp_of, level_of, level_set, changing, after, past}
use Rattle.captures.specs.Definitions.{declares}
use Rattle.captures.specs.Falls.{Fall, blank_scan, in_phase, changed, ends_stamp, stamped, altered, moved, scanned, scanned_by}
use Rattle.captures.specs.Falls.{falls, fall_at, falls_from}
use Rattle.captures.specs.Made.{made_stamp, made_change, made_lines, made_pulse}
use Rattle.captures.proofs.Laws.MadeText.{words_line, plain_decimal, stamp_decimal}
use Rattle.captures.proofs.Laws.MadeLevels.{made_levels, rise_other, rise_later}
use Rattle.captures.proofs.Laws.MadeHeader.{made_codes, DeclaresAll}

-- past the definitions, nothing strange met: whether a stamp has come, the stamp, E at the stamp before it, and the levels
abbrev pub at : Bool → ℕ → ℕ → List ℕ → Scan
at begun stamp before levels =
    record { phase = Changes; levels = levels; begun = begun; stamp = stamp; before = before; strange = false }

-- a text leads from one scan to another, with these falls, and leaves this text
pub record Leads (all : List Word) (scan : Scan) (text : List ℕ) (fallen : List Fall) (next : Scan) (more : List ℕ) : Type 0 where
  pub seen : scanned_by all made_codes scan (words text) ≡ scanned_by all made_codes next (words more)
  pub fell : falls_from all made_codes scan (words text) ≡ fallen ++ falls_from all made_codes next (words more)

-- one after the other; the first with no fall
on : {all : List Word} {a b c : Scan} {x y z : List ℕ} {fallen : List Fall} → Leads all a x [] b y → Leads all b y fallen c z
    → Leads all a x fallen c z
on first second = record { seen = first.seen ∙ second.seen; fell = first.fell ∙ second.fell }

-- a choice between one thing and itself
cond_same : {A : Type 0} (test : Bool) (x : A) → cond test x x ≡ x
cond_same true x = refl
cond_same false x = refl

-- a change of a plain code sets the lines that have it, and ends no stamp: by cases, since its level is `0` or `1`
module _ (all : List Word) (letter : ℕ) (plain : between 0x21 0x7E letter ≡ true) (begun : Bool) (stamp before : ℕ)
    (levels : List ℕ) where
  change_plain : (b : ℕ) → b < 2 → is_plain (digit b ∷ letter ∷ []) ≡ true
  unfolding is_plain digit
  change_plain zero small = simp plain
  change_plain (suc zero) small = simp plain
  change_plain (suc (suc b)) small = absurd (omega arith)

  change_scanned : (b : ℕ) → b < 2
      → scanned all made_codes (at begun stamp before levels) (digit b ∷ letter ∷ [])
      ≡ altered all made_codes (at begun stamp before levels) (letter ∷ []) b
  unfolding is_plain digit scanned moved past after changing stamp_of level_set level_of same
  change_scanned zero small = simp plain
  change_scanned (suc zero) small = simp plain
  change_scanned (suc (suc b)) small = absurd (omega arith)

  change_falls : (b : ℕ) (ws : List Word) → b < 2
      → falls_from all made_codes (at begun stamp before levels) ((digit b ∷ letter ∷ []) ∷ ws)
      ≡ falls_from all made_codes (scanned all made_codes (at begun stamp before levels) (digit b ∷ letter ∷ [])) ws
  unfolding digit stamp_of falls_from fall_at
  change_falls zero ws small = refl
  change_falls (suc zero) ws small = refl
  change_falls (suc (suc b)) ws small = absurd (omega arith)

  -- so, where the code is declared, nothing strange is met
  turn : (value : ℕ) (more : List ℕ) → declares (Section false) all (letter ∷ []) ≡ true
      → Leads all (at begun stamp before levels) (made_change value letter ++ more) []
      (at begun stamp before (changed 11 made_codes (letter ∷ []) (value % 2) levels)) more
  unfolding made_change scanned_by
  turn value more declared =
      let b = value % 2 in
      let small : value % 2 < 2 = omega arith in
      let from = at begun stamp before levels in
      let split = words_line (digit b ∷ letter ∷ []) more (change_plain b small) in
      let next = at begun stamp before (changed 11 made_codes (letter ∷ []) b levels) in
      let step : scanned all made_codes from (digit b ∷ letter ∷ []) ≡ next =
      change_scanned b small ∙ simp declared in
      record {
        seen =
            ap (scanned_by all made_codes from) split
            ∙ ap (λ (s : Scan). scanned_by all made_codes s (words more)) step;
        fell =
            ap (falls_from all made_codes from) split
            ∙ change_falls b (words more) small
            ∙ ap (λ (s : Scan). falls_from all made_codes s (words more)) step;
      }

-- the changes of RS, RW and DB0 to DB7 set those ten lines
module _ (all : List Word) (declared : DeclaresAll all) (begun : Bool) (stamp before : ℕ) where
  lines_turn : (a b c d e f g h i j k : ℕ) (t : Sent) (more : List ℕ)
      → Leads all (at begun stamp before (a ∷ b ∷ c ∷ d ∷ e ∷ f ∷ g ∷ h ∷ i ∷ j ∷ k ∷ [])) (made_lines t ++ more) []
      (at begun stamp before (made_levels t.kind t.byte c)) more
  unfolding made_lines made_change changed same made_levels
  lines_turn a b c d e f g h i j k t more =
      on (turn all (code "a") refl begun stamp before _ t.kind _ (declared 0 (omega arith)))
      (on (turn all (code "b") refl begun stamp before _ (t.kind / 2) _ (declared 1 (omega arith)))
      (on (turn all (code "d") refl begun stamp before _ t.byte _ (declared 3 (omega arith)))
      (on (turn all (code "e") refl begun stamp before _ (t.byte / 2) _ (declared 4 (omega arith)))
      (on (turn all (code "f") refl begun stamp before _ (t.byte / 4) _ (declared 5 (omega arith)))
      (on (turn all (code "g") refl begun stamp before _ (t.byte / 8) _ (declared 6 (omega arith)))
      (on (turn all (code "h") refl begun stamp before _ (t.byte / 16) _ (declared 7 (omega arith)))
      (on (turn all (code "i") refl begun stamp before _ (t.byte / 32) _ (declared 8 (omega arith)))
      (on (turn all (code "j") refl begun stamp before _ (t.byte / 64) _ (declared 9 (omega arith)))
      (turn all (code "k") refl begun stamp before _ (t.byte / 128) _ (declared 10 (omega arith)))))))))))

-- a change of E sets E
e_turn : (all : List Word) (declared : DeclaresAll all) (begun : Bool) (stamp before kind byte e value : ℕ) (more : List ℕ)
    → Leads all (at begun stamp before (made_levels kind byte e)) (made_change value (code "c") ++ more) []
    (at begun stamp before (made_levels kind byte (value % 2))) more
unfolding changed same made_levels
e_turn all declared begun stamp before kind byte e value more =
    turn all (code "c") refl begun stamp before (made_levels kind byte e) value more (declared 2 (omega arith))

-- a stamp within 32 bits: the word is plain and says its number, so it is taken as that stamp
module _ (all : List Word) (begun : Bool) (stamp before : ℕ) (levels : List ℕ) (n : ℕ) (fits : n ≤ stamp_limit) where
  hash_past : past Changes (code "#" ∷ decimal n) ≡ Changes
  unfolding past after changing is_plain same
  hash_past = simp (eqb-suc-zero (length (decimal n)), plain_decimal n, stamp_decimal n fits, le-leb n stamp_limit fits, cond_same)

  hash_scanned : scanned all made_codes (at begun stamp before levels) (code "#" ∷ decimal n)
      ≡ stamped (at begun stamp before levels) n
  unfolding scanned moved
  hash_scanned = simp (hash_past, stamp_decimal n fits, le-leb n stamp_limit fits)

  hash_falls : (ws : List Word)
      → falls_from all made_codes (at begun stamp before levels) ((code "#" ∷ decimal n) ∷ ws)
      ≡ fall_at (ends_stamp (at begun stamp before levels) n && falls (at begun stamp before levels)) (at begun stamp before levels)
      ++ falls_from all made_codes (stamped (at begun stamp before levels) n) ws
  unfolding falls_from
  hash_falls ws = simp (hash_scanned, stamp_decimal n fits, le-leb n stamp_limit fits)

-- the fall that counts when this stamp comes: it ends the one before it, and E has fallen there
abbrev fallen_by : Scan → ℕ → List Fall
fallen_by scan stamp = fall_at (ends_stamp scan stamp && falls scan) scan

-- a made stamp, whatever stood before it
stamp_leads : (all : List Word) (begun : Bool) (stamp before : ℕ) (levels : List ℕ) (value : ℕ) (more : List ℕ)
    → Leads all (at begun stamp before levels) (made_stamp value ++ more)
    (fallen_by (at begun stamp before levels) (value % 4294967296))
    (stamped (at begun stamp before levels) (value % 4294967296)) more
unfolding made_stamp scanned_by is_plain
stamp_leads all begun stamp before levels value more =
    let n = value % 4294967296 in
    let fits : value % 4294967296 ≤ stamp_limit = omega arith in
    let from = at begun stamp before levels in
    let split : words (made_stamp value ++ more) ≡ (code "#" ∷ decimal n) ∷ words more =
    ap (λ (l : List ℕ). words (code "#" ∷ l)) (append_assoc (decimal n) (newline ∷ []) more)
    ∙ words_line (code "#" ∷ decimal n) more (plain_decimal n) in
    record {
      seen =
          ap (scanned_by all made_codes from) split
          ∙ ap (λ (s : Scan). scanned_by all made_codes s (words more)) (hash_scanned all begun stamp before levels n fits);
      fell = ap (falls_from all made_codes from) split ∙ hash_falls all begun stamp before levels n fits (words more);
    }

-- a stamp that ends the one before it, where E had not been at 1 before that one: nothing has fallen
quiet_stamp : (all : List Word) (stamp before : ℕ) (levels : List ℕ) (value : ℕ) (more : List ℕ)
    → (value % 4294967296 ≡ stamp → ⊥) → eqb before 1 ≡ false
    → Leads all (at true stamp before levels) (made_stamp value ++ more) []
    (at true (value % 4294967296) (get_or levels 2 0) levels) more
unfolding stamped fall_at
quiet_stamp all stamp before levels value more other low =
    simp (ne_eqb (value % 4294967296) stamp other, low) at (stamp_leads all true stamp before levels value more)

-- the rest of a pulse, behind its first stamp: E was not at 1 before that one, so it falls at the second stamp alone, and that
-- stamp is not ended yet
pulse_rest : (all : List Word) (declared : DeclaresAll all) (before : ℕ) (low : eqb before 1 ≡ false)
    (a b c d e f g h i j k : ℕ) (stamp : ℕ) (t : Sent) (more : List ℕ)
    → Leads all (at true ((stamp + 4294967295) % 4294967296) before (a ∷ b ∷ c ∷ d ∷ e ∷ f ∷ g ∷ h ∷ i ∷ j ∷ k ∷ []))
    (made_lines t ++ (made_change 1 (code "c") ++ (made_stamp stamp ++ (made_change 0 (code "c") ++ more)))) []
    (at true (stamp % 4294967296) 1 (made_levels t.kind t.byte 0)) more
unfolding made_levels
pulse_rest all declared before low a b c d e f g h i j k stamp t more =
    let rise = (stamp + 4294967295) % 4294967296 in
    on (lines_turn all declared true rise before a b c d e f g h i j k t _)
    (on (e_turn all declared true rise before t.kind t.byte c 1 _)
    (on (quiet_stamp all rise before (made_levels t.kind t.byte 1) stamp _ (rise_other stamp) low)
    (e_turn all declared true (stamp % 4294967296) 1 t.kind t.byte 1 0 more)))

-- the parts of a pulse and what is behind it
pulse_parts : (stamp : ℕ) (t : Sent) (more : List ℕ)
    → made_pulse stamp t ++ more
    ≡ made_stamp (stamp + 4294967295)
    ++ (made_lines t ++ (made_change 1 (code "c") ++ (made_stamp stamp ++ (made_change 0 (code "c") ++ more))))
unfolding made_pulse
pulse_parts stamp t more = simp append_assoc

-- the first pulse: no stamp has come, so none is ended and nothing falls before it
pub first_pulse : (all : List Word) (declared : DeclaresAll all) (stamp : ℕ) (t : Sent) (more : List ℕ)
    → Leads all (in_phase Changes blank_scan) (made_pulse stamp t ++ more) []
    (at true (stamp % 4294967296) 1 (made_levels t.kind t.byte 0)) more
unfolding stamped fall_at
first_pulse all declared stamp t more =
    rw (pulse_parts stamp t more)
    (on (stamp_leads all false 0 2 (replicate 11 2) (stamp + 4294967295) _)
    (pulse_rest all declared 2 refl 2 2 2 2 2 2 2 2 2 2 2 stamp t more))

-- the stamp of a later pulse, which ends that of the fall before
later_stamp : (all : List Word) (stamp kind byte value : ℕ) (more : List ℕ) → (value % 4294967296 ≡ stamp → ⊥)
    → Leads all (at true stamp 1 (made_levels kind byte 0)) (made_stamp value ++ more)
    (record { stamp = stamp; levels = made_levels kind byte 0 } ∷ [])
    (at true (value % 4294967296) 0 (made_levels kind byte 0)) more
unfolding stamped fall_at made_levels
later_stamp all stamp kind byte value more other =
    simp (ne_eqb (value % 4294967296) stamp other) at (stamp_leads all true stamp 1 (made_levels kind byte 0) value more)

-- one after the other; the second with no fall
past_fall : {all : List Word} {a b c : Scan} {x y z : List ℕ} {fallen : List Fall} → Leads all a x fallen b y
    → Leads all b y [] c z → Leads all a x fallen c z
past_fall {fallen = fallen} first second =
    record { seen = first.seen ∙ second.seen; fell = first.fell ∙ ap (λ (l : List Fall). fallen ++ l) second.fell }

-- a later pulse: its first stamp is not that of the fall before, since the wait is 2 or more, so it ends it and the fall counts
pub later_pulse : (all : List Word) (declared : DeclaresAll all) (before kind byte : ℕ) (t : Sent) (more : List ℕ)
    → 2 ≤ t.wait → t.wait ≤ 4294967295
    → Leads all (at true (before % 4294967296) 1 (made_levels kind byte 0)) (made_pulse (before + t.wait) t ++ more)
    (record { stamp = before % 4294967296; levels = made_levels kind byte 0 } ∷ [])
    (at true ((before + t.wait) % 4294967296) 1 (made_levels t.kind t.byte 0)) more
unfolding made_levels
later_pulse all declared before kind byte t more enough below =
    let stamp = before + t.wait in
    rw (pulse_parts stamp t more)
    (past_fall (later_stamp all (before % 4294967296) kind byte (stamp + 4294967295) _ (rise_later before t.wait enough below))
    (pulse_rest all declared 0 refl (kind % 2) (kind / 2 % 2) 0 (byte % 2) (byte / 2 % 2) (byte / 4 % 2) (byte / 8 % 2)
    (byte / 16 % 2) (byte / 32 % 2) (byte / 64 % 2) (byte / 128 % 2) stamp t more))
