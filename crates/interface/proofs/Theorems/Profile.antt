-- The numbers of the panels.
-- Assumes nothing.
use mathlib.Core.Path.{refl}
use native.Mathlib.Omega.{arith}
use borrow.Author.Tests.{ne_eqb}
use Rattle.interface.specs.PictureCalls.{profile_of}
use Rattle.interface.specs.Theorems.{ProfileNumbers}

pub profile_numbers : ProfileNumbers
unfolding profile_of
profile_numbers =
    record {
      plain = λ columns lines. refl;
      four_rows = λ columns lines. refl;
      divided = λ columns lines. refl;
      unknown = λ profile columns lines h.
          simp (ne_eqb profile 0 (λ e. omega arith), ne_eqb profile 1 (λ e. omega arith), ne_eqb profile 2 (λ e. omega arith));
    }
