-- The panels: their sizes, and where each position of their glass stands in the controller's lines (document 01, "The dots";
-- document 02, request e). Lines and columns count from 0, so that the third row of a panel is line 2 of its glass.
-- Assumes nothing.
use Rattle.std.specs.Prelude.{Bool, true, false, ◌&&◌, ℕ, ◌+◌, ◌*◌, ◌/◌, ◌%◌, ltb, leb}
use Rattle.dots.specs.declared.panel.Place.{Place}
use Rattle.dots.specs.declared.panel.Profile.{Profile}
use Rattle.dots.specs.declared.panel.Profile.TheVariants.{Plain, FourRows, Divided, Unknown}
use Rattle.dots.specs.declared.panel.Size.{Size}

-- Columns and lines: any for the plain geometry, 20 x 4 and 16 x 1 for the two panels of fixed size, none for an unknown one.
unfoldable pub size_of : Profile → Size
size_of (Plain size) = size
size_of FourRows = record { columns = 20; lines = 4 }
size_of Divided = record { columns = 16; lines = 1 }
size_of Unknown = record { columns = 0; lines = 0 }

-- The plain geometry: columns 1 to 40, lines 1 or 2.
unfoldable pub fits_plain : Size → Bool
fits_plain size = leb 1 size.columns && (leb size.columns 40 && (leb 1 size.lines && leb size.lines 2))

-- There is such a panel.
unfoldable pub fits_glass : Profile → Bool
fits_glass (Plain size) = fits_plain size
fits_glass FourRows = true
fits_glass Divided = true
fits_glass Unknown = false

-- The line of the controller that a position of the glass belongs to, and how far in. A plain line is the controller's own. Of
-- the four rows 1 and 3 are line 1, and 2 and 4 are line 2; 3 and 4 begin 20 positions in. Of the divided row columns 1 to 8 are
-- line 1, and columns 9 to 16 are line 2.
unfoldable pub place_at : Profile → ℕ → ℕ → Place
place_at (Plain size) line column = record { line = line; position = column }
place_at FourRows line column = record { line = line % 2; position = line / 2 * 20 + column }
place_at Divided line column = record { line = column / 8; position = column % 8 }
place_at Unknown line column = record { line = line; position = column }

-- The other way: a position of the glass stands at this place.
unfoldable pub on_glass : Profile → ℕ → ℕ → Bool
on_glass (Plain size) line position = ltb line size.lines && ltb position size.columns
on_glass FourRows line position = ltb line 2 && ltb position 40
on_glass Divided line position = ltb line 2 && ltb position 8
on_glass Unknown line position = false
