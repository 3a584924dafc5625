-- The cases of specs/Cases.antt.
-- Assumes nothing.
use mathlib.Core.Bool.{Bool, true, false, cond}
use mathlib.Core.List.{List}
use mathlib.Core.Path.{◌≡◌, refl, sym, ap, subst, fun_ext, ◌∙◌}
use Prim.Native.Nat.{ℕ, ◌+◌, ◌*◌, ◌%◌, ◌<◌}
use native.Mathlib.Omega.{arith}
use borrow.Author.Tests.{eqb-true, eqb-false, ltb-true, ltb-false}
use lib.Dec.{ltb, eqb}
use lib.ListN.{length, get_or, set, length-set}
use lib.Seq.{get_or-set_same, get_or-set_other, set_out}
use Rattle.std.specs.Prelude.{Option, Some, None}
use Rattle.controller.specs.declared.«record».Record.{Record}
use Rattle.controller.proofs.Laws.Taken.{taken_wide}
use Rattle.controller.proofs.Laws.Rows.{bad_tests}
use Rattle.controller.proofs.Theorems.Halves.{halves_make_whole, wide_waits}
use Rattle.controller.specs.Rules.{at_width}
use Rattle.controller.specs.Bus.{whole, bad_transfer, decided}
use Rattle.controller.specs.Cases.{Waits, taking}
use Rattle.controller.specs.Execute.{shifted, changed, completed, executed}
use Rattle.controller.specs.Halves.{begun}
use Rattle.controller.specs.Instruction.{decoded, bit}
use Rattle.controller.specs.Record.{busy_over}
use Rattle.controller.specs.declared.decision.Decision.{Decision}
use Rattle.controller.specs.declared.«record».Half.TheVariants.{Empty}
use Rattle.controller.specs.Cells.{add_of_cell, wrapped}
use Rattle.dots.specs.declared.panel.Profile.{Profile}
use Rattle.dots.specs.Cases.{LinesStart, P5, P7}
use Rattle.dots.specs.Font.{font}
use Rattle.dots.specs.Geometry.{cell_in}
use Rattle.dots.specs.Picture.{answer_for, picture_byte, cell_row, covered, dots_at, output, row_of, shown_row}

-- what 18h and 1Ch do
shift_taken : (rec : Record) (mem : List ℕ) (wait : ℕ) (left : Bool) → Waits rec mem true Empty wait
    → decided rec mem 0 (cond left 0x18 0x1C) wait ≡ changed (shifted left (busy_over rec))
unfolding bad_transfer begun completed executed decoded bit
shift_taken rec mem wait true w = taken_wide rec mem Empty 0 0x18 wait w refl
shift_taken rec mem wait false w = taken_wide rec mem Empty 0 0x1C wait w refl

-- where the lines start after a shift at width 8
started : (rec : Record) (mem : List ℕ) (wait : ℕ) → Waits rec mem true Empty wait → rec.function.n ≡ true → rec.shift ≡ 0
    → LinesStart (decided rec mem 0 0x18 wait).rec 0x01 0x41 × LinesStart (decided rec mem 0 0x1C wait).rec 0x27 0x67
unfolding cell_in wrapped add_of_cell
started rec mem wait w n s = (
  subst (λ (d : Decision). LinesStart d.rec 0x01 0x41) (sym (shift_taken rec mem wait true w)) (rw (n, s) (refl, refl)),
  subst (λ (d : Decision). LinesStart d.rec 0x27 0x67) (sym (shift_taken rec mem wait false w)) (rw (n, s) (refl, refl)),
)

pub p5 : P5
unfolding bad_transfer
p5 true rec mem wait later w n s = started rec mem wait w n s
p5 false rec mem wait later w n s =
    let whole = started (at_width true rec) mem wait (wide_waits rec mem wait w) n s in
    let same : (byte : ℕ) (good : bad_transfer 0 byte ≡ false) (is_byte_lem : byte < 256) (first second : ℕ)
    → LinesStart (decided (at_width true rec) mem 0 byte wait).rec first second → LinesStart (taking false rec mem 0 byte wait later).rec first second =
    λ byte good is_byte_lem first second.
    subst (λ (r : Record). LinesStart r first second) (sym (halves_make_whole rec mem 0 byte wait later w ((bad_tests 0 byte).no good) is_byte_lem).alike.rec) in
    (same 0x18 refl (omega arith) 0x01 0x41 whole.0, same 0x1C refl (omega arith) 0x27 0x67 whole.1)

-- With 08h for 00h in a display cell: no pattern changes, and no cell shows another row.
rows_08 : (shapes mem : List ℕ) (row : ℕ) → row_of shapes mem 0x00 row ≡ row_of shapes mem 0x08 row
unfolding row_of
rows_08 shapes mem row = refl

module _ (mem : List ℕ) (cell : ℕ) (display : cell < 80) (within : cell < length mem) (holds : get_or mem cell 0 ≡ 0x00) where
  code_08 : (shapes : List ℕ) (code row : ℕ) → row_of shapes (set mem cell 0x08) code row ≡ row_of shapes mem code row
  unfolding row_of
  code_08 shapes code row =
      rw (get_or-set_other mem cell (80 + code % 8 * 8 + row) 0x08 0 (λ e. omega arith)) refl

  cell_08 : (shapes : List ℕ) (at row : ℕ) → row_of shapes (set mem cell 0x08) (get_or (set mem cell 0x08) at 0) row ≡ row_of shapes mem (get_or mem at 0) row
  cell_08 shapes at row = code_08 shapes _ row ∙ go (eqb at cell) refl
    where
      go : (b : Bool) → eqb at cell ≡ b → row_of shapes mem (get_or (set mem cell 0x08) at 0) row ≡ row_of shapes mem (get_or mem at 0) row
      go true e = rw (eqb-true at cell e, get_or-set_same mem cell 0x08 0 within, holds) (sym (rows_08 shapes mem row))
      go false e = rw (get_or-set_other mem cell at 0x08 0 (eqb-false at cell e)) refl

  shown_08 : (shapes : List ℕ) (rec : Record) (lit : Bool) (row : ℕ) (shown : Option ℕ) → shown_row shapes rec (set mem cell 0x08) lit row shown ≡ shown_row shapes rec mem lit row shown
  unfolding shown_row cell_row
  shown_08 shapes rec lit row (Some at) = ap (λ (k : ℕ). cond (covered rec lit row at) 0b11111 k) (cell_08 shapes at row)
  shown_08 shapes rec lit row None = refl

  byte_08 : (rec : Record) (lit : Bool) (profile : Profile) (at : ℕ) → picture_byte font rec (set mem cell 0x08) lit profile at ≡ picture_byte font rec mem lit profile at
  unfolding picture_byte dots_at
  byte_08 rec lit profile at = rw (shown_08 font rec lit) refl

  output_08 : (rec : Record) (profile : Profile) (lit : Bool) (out : List ℕ) → output rec (set mem cell 0x08) profile lit out ≡ output rec mem profile lit out
  unfolding output answer_for whole
  output_08 rec profile lit out = rw (length-set, fun_ext (byte_08 rec lit profile)) refl

pub p7 : P7
p7 = (rows_08, λ rec mem profile lit out cell display holds. go rec mem profile lit out cell display holds (ltb cell (length mem)) refl)
  where
    go : (rec : Record) (mem : List ℕ) (profile : Profile) (lit : Bool) (out : List ℕ) (cell : ℕ) → cell < 80 → get_or mem cell 0 ≡ 0x00 → (b : Bool) → ltb cell (length mem) ≡ b → output rec (set mem cell 0x08) profile lit out ≡ output rec mem profile lit out
    go rec mem profile lit out cell display holds true e = output_08 mem cell display (ltb-true _ _ e) holds rec profile lit out
    go rec mem profile lit out cell display holds false e = rw (set_out mem cell 0x08 (ltb-false _ _ e)) refl
