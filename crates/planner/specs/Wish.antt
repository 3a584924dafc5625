-- A wish for the panel, and what is not one (document 01, "The plan").
-- Assumes nothing.
use Rattle.std.specs.Prelude.{Bool, true, not, ◌&&◌, List, [], ◌∷◌, ℕ, ◌-◌, ltb, leb, eqb, get_or}
use Rattle.controller.specs.Cells.{line_length}
use Rattle.controller.specs.Oscillator.{in_range}
use Rattle.planner.specs.declared.wish.Wish.{Wish}

-- Each mark is 0 or 1.
unfoldable pub marks_fit : List ℕ → Bool
marks_fit [] = true
marks_fit (mark ∷ marks) = leb mark 1 && marks_fit marks

-- N=F=1, a shift, cursor or frequency out of range, or a mark above 1 is not a wish, and nothing else is not.
unfoldable pub is_wish : Wish → List ℕ → Bool
is_wish wish marks =
    not (wish.function.n && wish.function.f)
    && (ltb wish.shift (line_length wish.function.n)
    && (ltb wish.cursor 80 && (in_range wish.frequency && marks_fit marks)))

-- The cell at this place is marked.
unfoldable pub marked : List ℕ → ℕ → Bool
marked marks place = eqb (get_or marks place 0) 1

-- The cell before this place, in the same memory, is marked. Display cells start at place 0, pattern cells at 80.
unfoldable pub follows : List ℕ → ℕ → Bool
follows marks place = not (eqb place 0) && (not (eqb place 80) && marked marks (place - 1))
