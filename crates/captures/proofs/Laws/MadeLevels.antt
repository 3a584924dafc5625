-- Laws of the levels in a made capture: the lines say the kind and the byte that they were made from, and none is open; and the
-- stamps of two falls say the wait between them.
-- Assumes nothing.
use Rattle.std.proofs.Common.{◌≡◌, ℕ, zero, suc, ◌+◌, ◌-◌, ◌*◌, ◌/◌, ◌%◌, ◌<◌, ◌≤◌, Bool, true, false, ◌&&◌, ◌||◌, eqb, ltb, List, [], ◌∷◌, sym, refl, ◌∙◌, arith, ltb-false, ne_eqb, eqb-true, le-leb}
use Rattle.controller.proofs.Laws.Choice.{cond-elim}
use Rattle.controller.specs.Bus.{bad_transfer}
use Rattle.lines.proofs.Laws.Kinds.{kind_below}
use Rattle.captures.specs.Import.{bit, kind_of, four, bus_byte, byte_of, wait_from, one_open, bus_open, unknown_at}

-- the levels of the eleven lines in a pulse of this kind and byte, E at this level
unfoldable pub made_levels : ℕ → ℕ → ℕ → List ℕ
made_levels kind byte e =
    kind % 2 ∷ kind / 2 % 2 ∷ e ∷ byte % 2 ∷ byte / 2 % 2 ∷ byte / 4 % 2 ∷ byte / 8 % 2 ∷ byte / 16 % 2 ∷ byte / 32 % 2
    ∷ byte / 64 % 2 ∷ byte / 128 % 2 ∷ []

-- a level below 2 counts as itself
bit_small : (n : ℕ) → n < 2 → bit n ≡ n
unfolding bit
bit_small zero small = refl
bit_small (suc zero) small = refl
bit_small (suc (suc n)) small = absurd (omega arith)

last_bit : (n : ℕ) → bit (n % 2) ≡ n % 2
last_bit n = bit_small (n % 2) (omega arith)

-- RS and RW say the kind
pub kind_made : (kind byte : ℕ) → kind < 4 → kind_of (made_levels kind byte 0) ≡ kind
unfolding kind_of made_levels
kind_made kind byte below = simp last_bit (omega arith)

-- a number halved four times, and the bits that were left over
halved : (n a b c d second third fourth rest : ℕ) → n ≡ a + 2 * second → second ≡ b + 2 * third → third ≡ c + 2 * fourth
    → fourth ≡ d + 2 * rest → a + 2 * b + 4 * c + 8 * d ≡ n - 16 * rest
halved n a b c d second third fourth rest p q r s = omega arith

-- four lines say the last four bits of a number
four_made : (n : ℕ) → four (n % 2) (n / 2 % 2) (n / 4 % 2) (n / 8 % 2) ≡ n % 16
unfolding four
four_made n =
    simp last_bit
    (halved n (n % 2) (n / 2 % 2) (n / 4 % 2) (n / 8 % 2) (n / 2) (n / 4) (n / 8) (n / 16) (omega arith) (omega arith)
    (omega arith) (omega arith) ∙ omega arith)

-- DB0 to DB7 say the byte
bus_made : (kind byte : ℕ) → byte < 256 → bus_byte (made_levels kind byte 0) ≡ byte
unfolding bus_byte made_levels
bus_made kind byte below =
    let a : byte / 32 ≡ byte / 16 / 2 = omega arith in
    let b : byte / 64 ≡ byte / 16 / 4 = omega arith in
    let c : byte / 128 ≡ byte / 16 / 8 = omega arith in
    let whole : byte % 16 + 16 * (byte / 16 % 16) ≡ byte = omega arith in
    simp (a, b, c, four_made byte, four_made (byte / 16), whole)

-- the wait between two stamps
pub wait_made : (before wait : ℕ) → wait ≤ 4294967295 → wait_from (before % 4294967296) ((before + wait) % 4294967296) ≡ wait
unfolding wait_from
wait_made before wait below = omega arith

-- E is up at another stamp than that of its fall
pub rise_other : (stamp : ℕ) → (stamp % 4294967296 ≡ (stamp + 4294967295) % 4294967296) → ⊥
rise_other stamp same = omega arith

-- and at another than that of the fall before, where the wait is 2 or more
pub rise_later : (before wait : ℕ) → 2 ≤ wait → wait ≤ 4294967295
    → ((before + wait + 4294967295) % 4294967296 ≡ before % 4294967296) → ⊥
rise_later before wait enough below same = omega arith

and_none : (a : Bool) → (a && false) ≡ false
and_none true = refl
and_none false = refl

-- no line that is at a bit is open
shut : (n : ℕ) → eqb (n % 2) 2 ≡ false
shut n = ne_eqb (n % 2) 2 (λ e. omega arith)

-- so the pulse's lines are all known
pub known_made : (kind byte : ℕ) → unknown_at (made_levels kind byte 0) ≡ false
unfolding unknown_at bus_open one_open made_levels
known_made kind byte =
    simp (shut, and_none)

or_right : (a b : Bool) → (a || b) ≡ false → b ≡ false
or_right true b none = let no_way : ◌≡◌ {A = ℕ} 0 1 = cc in absurd (omega arith)
or_right false b none = none

-- a read has the byte 00h
read_byte : (kind byte : ℕ) → bad_transfer kind byte ≡ false → 2 ≤ kind → byte ≡ 0
unfolding bad_transfer
read_byte kind byte good read =
    let none = or_right (ltb 3 kind) _ good in
    let zero = simp (le-leb 2 kind read) at none in
    omega (arith, ltb-false 0 byte zero)

-- the byte of a transfer that can be said
pub byte_made : (kind byte : ℕ) → bad_transfer kind byte ≡ false → byte < 256 → byte_of (made_levels kind byte 0) ≡ byte
unfolding byte_of made_levels
byte_made kind byte good below =
    let few = kind_below kind byte good in
    cond-elim (λ (n : ℕ). n ≡ byte) (eqb (kind / 2 % 2) 1) 0 (bus_byte (made_levels kind byte 0))
    (λ read. let one = eqb-true (kind / 2 % 2) 1 read in sym (read_byte kind byte good (omega arith)))
    (λ write. bus_made kind byte below)
