-- How a picture is drawn: by stretches, columns that follow one another in one line of the controller. Only contracts of private
-- functions cite what stands here.
-- Assumes nothing.
use Rattle.std.specs.Prelude.{ℕ, ◌*◌, ◌/◌, ◌%◌}
use Rattle.dots.specs.declared.panel.Profile.{Profile}
use Rattle.dots.specs.declared.panel.Profile.TheVariants.{Plain, FourRows, Divided, Unknown}
use Rattle.dots.specs.declared.stretch.Part.{Part}
use Rattle.dots.specs.Panel.{size_of}

-- The columns of a stretch: eight in the divided row, elsewhere all.
unfoldable pub stretch : Profile → ℕ
stretch (Plain size) = size.columns
stretch FourRows = 20
stretch Divided = 8
stretch Unknown = 0

-- The stretches of a glass: two in the divided row, elsewhere its lines.
unfoldable pub stretches : Profile → ℕ
stretches (Plain size) = size.lines
stretches FourRows = 4
stretches Divided = 2
stretches Unknown = 0

-- Where the part of this number in a picture begins on the glass: one row of dots of a stretch, where a line has so many rows.
unfoldable pub part_at : Profile → ℕ → ℕ → Part
part_at profile rows at =
    let byte = at * stretch profile in
    let columns = (size_of profile).columns in
    record { line = byte / columns / rows; row = byte / columns % rows; column = byte % columns }
