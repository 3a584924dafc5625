-- The rules of the fixed table. Two tests are computed over the whole table, and laws turn them into the rule at each entry.
-- Assumes nothing.
use mathlib.Core.Bool.{Bool, true, false, cond, not, ◌&&◌, ◌||◌}
use mathlib.Core.List.{List, [], ◌∷◌}
use mathlib.Core.Path.{◌≡◌, refl, sym, ap, ◌∙◌}
use Prim.Native.Nat.{ℕ, zero, suc, ◌+◌, ◌*◌, ◌-◌, ◌%◌, ◌≤◌, ◌<◌}
use native.Mathlib.Nat.{add_comm, add-zero, add-suc, suc-add, suc-mul, zero-add, le_of_suc-le-suc, not-suc-le-zero}
use native.Mathlib.Omega.{arith}
use borrow.Author.Tests.{eqb-true, eqb-false, eq-eqb, le-leb, le-ltb, lt-leb, ltb-false, ltb-true, not-true}
use lib.Dec.{ltb, leb, eqb, lit<}
use lib.ListN.{length, get_or, take, drop, get_or-eq_default, length-take, length-drop}
use lib.Seq.{drop-drop, ext_get_or, get_or-drop, get_or-take}
use Rattle.dots.specs.Font.{font, shape_rows, table_length, table_row}
use Rattle.dots.specs.Picture.{pattern_row, row_of}
use Rattle.dots.specs.Theorems.{Alike, Blank, TableRows, TableShapes, TableShows}
use Rattle.controller.proofs.Laws.Choice.{and_left, and_right}
use Rattle.dots.proofs.Logic.{or_right}

-- A test at each entry of a list and its place, the first at `place`.
everywhere : (ℕ → ℕ → Bool) → ℕ → List ℕ → Bool
everywhere test place [] = true
everywhere test place (x ∷ xs) = test place x && everywhere test (suc place) xs

-- What passes everywhere passes at each entry.
passed : (test : ℕ → ℕ → Bool) (place : ℕ) (xs : List ℕ) → everywhere test place xs ≡ true → (k : ℕ) → k < length xs → test (place + k) (get_or xs k 0) ≡ true
unfolding everywhere
passed test place [] all k h = absurd (not-suc-le-zero h)
passed test place (x ∷ xs) all zero h = rw add-zero (and_left _ _ all)
passed test place (x ∷ xs) all (suc k) h =
    rw (add-suc, ← suc-add) (passed test (suc place) xs (and_right (test place x) _ all) k (le_of_suc-le-suc h))

-- A row of the table: below 32; zero where it is an eighth row; zero before 20h, in 20h and after 7Dh.
right_row : ℕ → ℕ → Bool
right_row place row = ltb row 32 && ((not (eqb (place % shape_rows + 1) shape_rows) || eqb row 0) && ((leb 0x108 place && ltb place 0x3F0) || eqb row 0))

pub font_length : length font ≡ table_length
unfolding font
font_length = refl

pub table_shows : TableShows
unfolding row_of
table_shows = record { shown = λ mem code row h. ap (λ (b : Bool). cond b (pattern_row mem code row) (table_row font code row)) (le-ltb code 0x10 h); long = font_length }

every_row_right : everywhere right_row 0 font ≡ true
unfolding everywhere right_row font
every_row_right = refl

row_right : (place : ℕ) → place < table_length → right_row place (get_or font place 0) ≡ true
row_right place h = rw zero-add at (passed right_row 0 font every_row_right place (rw font_length h))

pub table_rows : TableRows
unfolding right_row
table_rows place h =
    let right = row_right place h in (
      ltb-true _ 32 (and_left _ _ right),
      λ e. eqb-true _ 0 (or_right (not (eqb (place % shape_rows + 1) shape_rows)) _ (and_left _ _ (and_right (ltb (get_or font place 0) 32) _ right)) (simp (eq-eqb _ _ e))),
    )

-- Past the end of the table a row reads 0.
row_past : (place : ℕ) → table_length ≤ place → get_or font place 0 ≡ 0
row_past place h =
    let end : length font ≤ place = rw font_length h in
    get_or-eq_default font 0 end

-- Every row of the table is below 32, and so is what is read past its end.
pub row_below : (place : ℕ) → get_or font place 0 < 32
row_below place = go (ltb place table_length) refl
  where
    go : (b : Bool) → ltb place table_length ≡ b → get_or font place 0 < 32
    go true e = (table_rows place (ltb-true place table_length e)).0
    go false e = rw (row_past place (ltb-false place table_length e)) (lit< tt)

-- Outside the shapes of 21h to 7Dh every row is zero.
row_blank : (place : ℕ) → (leb 0x108 place && ltb place 0x3F0) ≡ false → get_or font place 0 ≡ 0
unfolding right_row
row_blank place out = go (ltb place table_length) refl
  where
    go : (b : Bool) → ltb place table_length ≡ b → get_or font place 0 ≡ 0
    go true e =
        eqb-true _ 0
        (or_right (leb 0x108 place && ltb place 0x3F0) _
        (and_right (not (eqb (place % shape_rows + 1) shape_rows) || eqb (get_or font place 0) 0) _
        (and_right (ltb (get_or font place 0) 32) _ (row_right place (ltb-true place table_length e))))
        out)
    go false e = row_past place (ltb-false place table_length e)

blank_below : (code : ℕ) → code < 0x21 → Blank code
blank_below code h row r = row_blank (code * shape_rows + row) (simp (lt-leb 0x108 (code * shape_rows + row) (omega arith)))

blank_above : (code : ℕ) → 0x7D < code → Blank code
blank_above code h row r =
    row_blank (code * shape_rows + row)
    (simp (le-leb 0x108 (code * shape_rows + row) (omega arith), le-ltb (code * shape_rows + row) 0x3F0 (omega arith)))

-- Eight rows as one number, and the numbers of so many shapes in a row.
packed : List ℕ → ℕ
packed [] = 0
packed (row ∷ rows) = row + 32 * packed rows

numbers : ℕ → List ℕ → List ℕ
numbers zero rows = []
numbers (suc count) rows = packed (take shape_rows rows) ∷ numbers count (drop shape_rows rows)

numbers_at : (count : ℕ) (rows : List ℕ) (k : ℕ) → k < count → get_or (numbers count rows) k 0 ≡ packed (take shape_rows (drop (k * shape_rows) rows))
unfolding numbers
numbers_at zero rows k h = absurd (not-suc-le-zero h)
numbers_at (suc count) rows zero h = refl
numbers_at (suc count) rows (suc k) h =
    numbers_at count (drop shape_rows rows) k (le_of_suc-le-suc h)
    ∙ rw (drop-drop (k * shape_rows) shape_rows rows, suc-mul, add_comm (k * shape_rows) shape_rows) refl

-- No number of a list stands in it twice.
absent : ℕ → List ℕ → Bool
absent x [] = true
absent x (y ∷ ys) = not (eqb x y) && absent x ys

distinct : List ℕ → Bool
distinct [] = true
distinct (x ∷ xs) = absent x xs && distinct xs

absent_at : (x : ℕ) (ys : List ℕ) → absent x ys ≡ true → (k : ℕ) → k < length ys → x ≡ get_or ys k 0 → ⊥
unfolding absent
absent_at x [] none k h = absurd (not-suc-le-zero h)
absent_at x (y ∷ ys) none zero h = eqb-false x y (not-true _ (and_left _ _ none))
absent_at x (y ∷ ys) none (suc k) h = absent_at x ys (and_right (not (eqb x y)) _ none) k (le_of_suc-le-suc h)

distinct_at : (xs : List ℕ) → distinct xs ≡ true → (i j : ℕ) → i < j → j < length xs → get_or xs i 0 ≡ get_or xs j 0 → ⊥
unfolding distinct
distinct_at [] all i j h l = absurd (not-suc-le-zero l)
distinct_at (x ∷ xs) all i zero h l = absurd (not-suc-le-zero h)
distinct_at (x ∷ xs) all zero (suc j) h l = absent_at x xs (and_left _ _ all) j (le_of_suc-le-suc l)
distinct_at (x ∷ xs) all (suc i) (suc j) h l = distinct_at xs (and_right (absent x xs) _ all) i j (le_of_suc-le-suc h) (le_of_suc-le-suc l)

-- The shapes of 20h to 7Dh are 94 different ones.
shape_numbers : List ℕ
shape_numbers = numbers 94 (drop 0x100 font)

shapes_count : length shape_numbers ≡ 94
unfolding shape_numbers numbers font
shapes_count = refl

shapes_distinct : distinct shape_numbers ≡ true
unfolding distinct absent shape_numbers numbers packed font
shapes_distinct = refl

shape_number : (code : ℕ) → 0x20 ≤ code → code ≤ 0x7D → get_or shape_numbers (code - 0x20) 0 ≡ packed (take shape_rows (drop (code * shape_rows) font))
unfolding shape_numbers
shape_number code low high =
    let place : 0x100 + (code - 0x20) * shape_rows ≡ code * shape_rows = omega arith in
    numbers_at 94 (drop 0x100 font) (code - 0x20) (omega arith)
    ∙ rw (drop-drop ((code - 0x20) * shape_rows) 0x100 font, place) refl

shape_long : (code : ℕ) → code ≤ 0x7D → length (take shape_rows (drop (code * shape_rows) font)) ≡ shape_rows
shape_long code high = simp (length-take, length-drop, font_length) (omega arith)

shape_row : (code row : ℕ) → row < shape_rows → get_or (take shape_rows (drop (code * shape_rows) font)) row 0 ≡ table_row font code row
shape_row code row h = get_or-take shape_rows (drop (code * shape_rows) font) row 0 h ∙ get_or-drop (code * shape_rows) font row 0

-- Two codes that are alike have the same number.
alike_number : (a b : ℕ) → a ≤ 0x7D → b ≤ 0x7D → Alike a b → packed (take shape_rows (drop (a * shape_rows) font)) ≡ packed (take shape_rows (drop (b * shape_rows) font))
alike_number a b ha hb same =
    ap packed
    (ext_get_or 0 _ _ (shape_long a ha ∙ sym (shape_long b hb))
    (λ row h. let r : row < shape_rows = rw (shape_long a ha) at h in shape_row a row r ∙ same row r ∙ sym (shape_row b row r)))

never_alike : (a b : ℕ) → 0x20 ≤ a → a < b → b ≤ 0x7D → Alike a b → ⊥
never_alike a b low less high same =
    distinct_at shape_numbers shapes_distinct (a - 0x20) (b - 0x20) (omega arith) (rw shapes_count (omega arith))
    (shape_number a low (omega arith) ∙ alike_number a b (omega arith) high same ∙ sym (shape_number b (omega arith) high))

alike_turned : (a b : ℕ) → Alike a b → Alike b a
alike_turned a b same row h = sym (same row h)

pub table_shapes : TableShapes
table_shapes =
    record {
      below = λ code h. blank_below code (omega arith);
      space = blank_below 0x20 (omega arith);
      above = blank_above;
      drawn = λ code low high blank. never_alike 0x20 code (omega arith) low high (λ row h. blank_below 0x20 (omega arith) row h ∙ sym (blank row h));
      apart = λ a b la ha lb hb same. apart a b la ha lb hb same (ltb a b) refl (ltb b a) refl;
    }
  where
    apart : (a b : ℕ) → 0x21 ≤ a → a ≤ 0x7D → 0x21 ≤ b → b ≤ 0x7D → Alike a b → (l : Bool) → ltb a b ≡ l → (g : Bool) → ltb b a ≡ g → a ≡ b
    apart a b la ha lb hb same true e g e' = absurd (never_alike a b (omega arith) (ltb-true a b e) hb same)
    apart a b la ha lb hb same false e true e' = absurd (never_alike b a (omega arith) (ltb-true b a e') ha (alike_turned a b same))
    apart a b la ha lb hb same false e false e' = omega (arith, ltb-false a b e, ltb-false b a e')
