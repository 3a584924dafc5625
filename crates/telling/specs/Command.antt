-- What a word of the command line says.
-- Assumes nothing.
use Rattle.std.specs.Prelude.{List, ℕ, cond, Option, Some, None}
use Rattle.controller.specs.declared.oscillator.Frequency.{Frequency}
use Rattle.controller.specs.Oscillator.{in_range}
use Rattle.lines.specs.Digits.{are_three, three_digits}

-- What three digits say in kHz.
abbrev pub said_frequency : List ℕ → Frequency
said_frequency word = record { khz = three_digits word }

-- The same, where a module can have it; any other word says none.
abbrev pub frequency_of : List ℕ → Option Frequency
frequency_of word = cond (are_three word) (cond (in_range (said_frequency word)) (Some (said_frequency word)) None) None
