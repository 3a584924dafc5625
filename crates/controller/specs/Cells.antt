-- The 144 cells of the lent memory, and the addresses by which the bus names them (document 01, "The controller's record
-- and memory").
-- Assumes nothing.
use Rattle.std.specs.Prelude.{Bool, true, false, cond, ◌&&◌, List, ℕ, ◌+◌, ◌-◌, ◌%◌, ◌<◌, ltb, leb, get_or, Option, Some, None}
use Rattle.controller.specs.declared.cells.Add.{Add}
use Rattle.controller.specs.declared.cells.Acg.{Acg}
use Rattle.controller.specs.declared.cells.Counter.{Counter}
use Rattle.controller.specs.declared.cells.Counter.TheVariants.{Display, Pattern}

-- Display cells 0 to 79, then pattern cells 0 to 63: where a counter's cell stands among the 144.
unfoldable pub place_of : Counter → ℕ
place_of (Display cell) = cell
place_of (Pattern cell) = 80 + cell

-- The counter's cell, in whichever memory.
abbrev pub cell_of : Counter → ℕ
cell_of (Display cell) = cell
cell_of (Pattern cell) = cell

-- The byte in the counter's cell.
unfoldable pub byte_under : List ℕ → Counter → ℕ
byte_under mem counter = get_or mem (place_of counter) 0

-- The counter is on a display cell 0 to 79 or on a pattern cell 0 to 63.
unfoldable pub on_cell : Counter → Bool
on_cell (Display cell) = ltb cell 80
on_cell (Pattern cell) = ltb cell 64

-- One up or one down in a ring of this size.
unfoldable pub wrapped : ℕ → Bool → ℕ → ℕ
wrapped size true cell = (cell + 1) % size
wrapped size false cell = (cell + size - 1) % size

-- The counter one cell up or down, wrapping within its memory (80 or 64).
unfoldable pub stepped : Bool → Counter → Counter
stepped up (Display cell) = Display (wrapped 80 up cell)
stepped up (Pattern cell) = Pattern (wrapped 64 up cell)

-- A line's length, L: 80 cells with N=0, 40 with N=1.
abbrev pub line_length : Bool → ℕ
line_length false = 80
line_length true = 40

-- ADD to its cell. N=0: 00h to 4Fh are cells 0 to 79. N=1: 00h to 27h are cells 0 to 39, 40h to 67h are cells 40 to 79.
unfoldable pub cell_of_add : Bool → Add → Option ℕ
cell_of_add false add = cond (ltb add.0 0x50) (Some add.0) None
cell_of_add true add =
    cond (ltb add.0 0x28) (Some add.0)
    (cond (leb 0x40 add.0 && ltb add.0 0x68) (Some (add.0 - 24)) None)

-- A display cell to its ADD. N=0: the cell's own number. N=1: cells 40 to 79 are at cell + 24.
unfoldable pub add_of_cell : Bool → ℕ → Add
add_of_cell false cell = record { 0 = cell }
add_of_cell true cell = record { 0 = cond (ltb cell 40) cell (cell + 24) }

-- What an address names is within display memory.
abbrev pub Within : Option ℕ → Type 0
Within (Some cell) = cell < 80
Within None = Unit {0}

-- ACG to its pattern cell: an address of six bits.
abbrev pub cell_of_acg : Acg → ℕ
cell_of_acg acg = acg.0 % 64

-- A pattern cell to its ACG.
abbrev pub acg_of_cell : ℕ → Acg
acg_of_cell cell = record { 0 = cell }

-- The instruction that sets the counter to this cell: 80h and the cell's ADD, or 40h and its ACG. A number past the last cell of
-- its memory is counted on from the first.
unfoldable pub address_set : Bool → Counter → ℕ
address_set n (Display cell) = 0x80 + (add_of_cell n (cell % 80)).0
address_set n (Pattern cell) = 0x40 + (acg_of_cell (cell % 64)).0

-- The counter's address.
unfoldable pub address_of : Bool → Counter → ℕ
address_of n (Display cell) = (add_of_cell n cell).0
address_of n (Pattern cell) = (acg_of_cell cell).0
