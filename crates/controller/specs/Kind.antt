-- A transfer's kinds and their numbers (document 01, "One transfer").
-- Assumes nothing.
use Rattle.std.specs.Prelude.{ℕ}
use Rattle.controller.specs.declared.kind.Kind.{Kind}
use Rattle.controller.specs.declared.kind.Kind.TheVariants.{InstructionWrite, DataWrite, StatusRead, DataRead}

-- The number of each kind, on the bus and in a plan.
abbrev pub kind_number : Kind → ℕ
kind_number InstructionWrite = 0
kind_number DataWrite = 1
kind_number StatusRead = 2
kind_number DataRead = 3
