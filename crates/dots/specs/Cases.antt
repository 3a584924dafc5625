-- The bench cases of document 01 that are about the picture: P5 and P7. What a case leaves open is any.
-- Assumes nothing.
use Rattle.std.specs.Prelude.{Bool, true, List, ◌≡◌, ℕ, ◌<◌, get_or, set}
use Rattle.controller.specs.declared.«record».Half.TheVariants.{Empty}
use Rattle.controller.specs.declared.«record».Record.{Record}
use Rattle.controller.specs.Cases.{Waits, taking}
use Rattle.dots.specs.declared.panel.Profile.{Profile}
use Rattle.dots.specs.Geometry.{cell_at}
use Rattle.dots.specs.Picture.{output, row_of}
use Rattle.dots.specs.Profiles.{ShowsAddress}

-- Lines 1 and 2 start at these addresses.
abbrev pub LinesStart : Record → ℕ → ℕ → Type 0
LinesStart rec first second =
    ShowsAddress rec.function.n (cell_at rec.function.n rec.shift 0 0) first
    × ShowsAddress rec.function.n (cell_at rec.function.n rec.shift 1 0) second

-- P5: N=1, one left shift (18h): lines start at 01h and 41h; one right shift (1Ch) instead: 27h and 67h.
abbrev pub P5 : Type 0
P5 =
    (wide : Bool) (rec : Record) (mem : List ℕ) (wait later : ℕ) → Waits rec mem wide Empty wait → rec.function.n ≡ true
    → rec.shift ≡ 0
    → LinesStart (taking wide rec mem 0 0x18 wait later).rec 0x01 0x41
    × LinesStart (taking wide rec mem 0 0x1C wait later).rec 0x27 0x67

-- P7: codes 00h and 08h draw alike, row by row; and with 08h for 00h in a display cell every picture is the same.
abbrev pub P7 : Type 0
P7 =
    ((shapes mem : List ℕ) (row : ℕ) → row_of shapes mem 0x00 row ≡ row_of shapes mem 0x08 row)
    × ((rec : Record) (mem : List ℕ) (profile : Profile) (lit : Bool) (out : List ℕ) (cell : ℕ)
    → cell < 80 → get_or mem cell 0 ≡ 0x00
    → output rec (set mem cell 0x08) profile lit out ≡ output rec mem profile lit out)
