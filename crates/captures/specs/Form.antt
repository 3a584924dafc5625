-- The subset of Value Change Dump text that is read: its sections, stamps and changes, word by word (request b).
-- Assumes nothing.
use Rattle.std.specs.Prelude.{ℕ, ◌+◌, ◌-◌, ◌*◌, Bool, true, false, cond, ◌&&◌, ◌||◌, List, [], ◌∷◌, ◌==◌, nat_le, nat_lt, ◌≡◌}
use Rattle.std.specs.Prelude.{map, drop, Option, Some, None}
use Prim.Native.Char.{code}
use Rattle.lines.specs.Digits.{between}
use Rattle.captures.specs.declared.form.Level.{Level}
use Rattle.captures.specs.declared.form.Level.TheVariants.{Low, High, Open}
use Rattle.captures.specs.declared.form.Phase.{Phase}
use Rattle.captures.specs.declared.form.Phase.TheVariants.{Section, Scale, ScaleUnit, ScopeKind, ScopeName}
use Rattle.captures.specs.declared.form.Phase.TheVariants.{VarType, VarSize, VarCode, VarName, Close, Ending}
use Rattle.captures.specs.declared.form.Phase.TheVariants.{Changes, Dump, Wrong}
use Rattle.captures.specs.Words.{Word, is_empty, is_plain, is, is_one_of}

-- The kinds of a scope.
unfoldable pub is_scope_kind : Word → Bool
is_scope_kind w = is_one_of "module task function begin fork" w

-- The types of a variable.
unfoldable pub is_var_type : Word → Bool
is_var_type w =
    is_one_of "event integer parameter reg supply0 supply1 time tri triand trior trireg tri0 tri1 wand wire wor" w

-- A stamp's largest number, and one more, which stands for "no stamp".
abbrev pub stamp_limit : ℕ
stamp_limit = 4294967295

abbrev pub no_stamp : ℕ
no_stamp = 4294967296

-- One more digit behind a number: no stamp where it is no digit or takes the number past the limit.
unfoldable pub with_digit : ℕ → ℕ → ℕ
with_digit value byte =
    cond (between 0x30 0x39 byte && nat_le (value * 10 + (byte - 0x30)) stamp_limit) (value * 10 + (byte - 0x30)) no_stamp

-- The number that digits say behind a number.
unfoldable pub number_of : ℕ → List ℕ → ℕ
number_of value [] = value
number_of value (byte ∷ rest) = number_of (with_digit value byte) rest

-- The same of all of them, where there may be no such number.
abbrev pub number_said : List ℕ → Option ℕ
number_said digits = cond (nat_le (number_of 0 digits) stamp_limit) (Some (number_of 0 digits)) None

-- The stamp that a word says: `#` and decimal digits, at most 4,294,967,295.
unfoldable pub stamp_of : Word → ℕ
stamp_of [] = no_stamp
stamp_of (first ∷ []) = no_stamp
stamp_of (first ∷ digit ∷ rest) = cond (first == (code "#")) (number_of 0 (digit ∷ rest)) no_stamp

-- The word is a stamp.
abbrev pub is_stamp : Word → Bool
is_stamp w = nat_le (stamp_of w) stamp_limit

-- The same, where a word may say none.
abbrev pub stamp_said : Word → Option ℕ
stamp_said w = cond (is_stamp w) (Some (stamp_of w)) None

-- One more digit, where there may be no such number.
abbrev pub digit_said : ℕ → ℕ → Option ℕ
digit_said value byte = cond (nat_le (with_digit value byte) stamp_limit) (Some (with_digit value byte)) None

-- The number of a level: 0, 1, or 2 for x and z.
abbrev pub number_of_level : Level → ℕ
number_of_level Low = 0
number_of_level High = 1
number_of_level Open = 2

abbrev pub numbers_of : List Level → List ℕ
numbers_of levels = map number_of_level levels

-- The level of a number.
abbrev pub level_with : ℕ → Level
level_with number = cond (number == 0) Low (cond (number == 1) High Open)

abbrev pub levels_of : List ℕ → List Level
levels_of numbers = map level_with numbers

-- The level that a byte says: 0, 1, or 2 for x and z, which tell nothing; 3 where it says none.
unfoldable pub level_of : ℕ → ℕ
level_of byte =
    cond (byte == (code "0")) 0
    (cond (byte == (code "1")) 1
    (cond (byte == (code "x") || (byte == (code "X") || (byte == (code "z") || byte == (code "Z")))) 2 3))

-- The level that a word sets, where it is a scalar change: a level and a code.
unfoldable pub level_set : Word → ℕ
level_set [] = 3
level_set (level ∷ []) = 3
level_set (level ∷ first ∷ rest) = level_of level

-- The word is a scalar change.
abbrev pub is_change : Word → Bool
is_change w = nat_lt (level_set w) 3

-- The number of a level that may be there, and 3 for none.
abbrev pub level_said : Option Level → ℕ
level_said None = 3
level_said (Some level) = number_of_level level

-- The scalar change that a word says, if it says one: its level and its code.
pub record Says (w : Word) (level : Level) (code : Word) : Type 0 where
  pub is_one : is_change w ≡ true
  pub sets : number_of_level level ≡ level_set w
  pub of : code ≡ drop 1 w

-- What a word opens between the definitions' sections; the timescale stands once, and before the definitions end.
unfoldable pub opened : Bool → Word → Phase
opened scaled w =
    cond (is "$scope" w) (ScopeKind scaled)
    (cond (is "$var" w) (VarType scaled)
    (cond (is "$upscope" w) (Close scaled)
    (cond (is "$timescale" w) (cond scaled Wrong Scale)
    (cond (is "$enddefinitions" w) (cond scaled Ending Wrong) Wrong))))

-- A change leaves us in this phase, and so does a stamp where one can stand; anything else is wrong.
unfoldable pub changing : Word → Bool → Phase → Phase
changing w stamps next = cond (is_change w) next (cond (is_stamp w) (cond stamps next Wrong) Wrong)

-- What stands after a word, where this stood before it. The bool says whether the timescale has been.
unfoldable pub after : Phase → Word → Phase
after (Section scaled) w = opened scaled w
after Scale w = cond (is "1us" w) (Close true) (cond (is "1" w) ScaleUnit Wrong)
after ScaleUnit w = cond (is "us" w) (Close true) Wrong
after (ScopeKind scaled) w = cond (is_scope_kind w) (ScopeName scaled) Wrong
after (ScopeName scaled) w = cond (is "$end" w) Wrong (Close scaled)
after (VarType scaled) w = cond (is_var_type w) (VarSize scaled) Wrong
after (VarSize scaled) w = cond (is "1" w) (VarCode scaled) Wrong
after (VarCode scaled) w = cond (is "$end" w) Wrong (VarName scaled)
after (VarName scaled) w = cond (is "$end" w) Wrong (Close scaled)
after (Close scaled) w = cond (is "$end" w) (Section scaled) Wrong
after Ending w = cond (is "$end" w) Changes Wrong
after Changes w = cond (is "$dumpvars" w) Dump (changing w true Changes)
after Dump w = cond (is "$end" w) Changes (changing w false Dump)
after Wrong w = Wrong

-- The same, where an empty word says nothing and a byte outside 21h to 7Eh is wrong.
unfoldable pub past : Phase → Word → Phase
past phase w = cond (is_empty w) phase (cond (is_plain w) (after phase w) Wrong)

-- What a phase asks for: a variable's code (1) or its name (2), stamps and changes (3), or changes and an end (4).
abbrev pub asked : Phase → ℕ
asked (Section scaled) = 0
asked Scale = 0
asked ScaleUnit = 0
asked (ScopeKind scaled) = 0
asked (ScopeName scaled) = 0
asked (VarType scaled) = 0
asked (VarSize scaled) = 0
asked (VarCode scaled) = 1
asked (VarName scaled) = 2
asked (Close scaled) = 0
asked Ending = 0
asked Changes = 3
asked Dump = 4
asked Wrong = 0

-- A code comes next.
abbrev pub code_comes : Phase → Bool
code_comes phase = asked phase == 1

-- A name comes next.
abbrev pub name_comes : Phase → Bool
name_comes phase = asked phase == 2

-- The definitions are over: changes can come.
abbrev pub changes_come : Phase → Bool
changes_come phase = nat_le 3 (asked phase)

-- The text can end here.
abbrev pub is_whole : Phase → Bool
is_whole phase = asked phase == 3
