-- The bench cases of document 01, one list under a single statement. Of P11 it has the six transfers; its text is run.
-- Assumes nothing.
use Rattle.controller.specs.Cases.{P1, P2, P3, P4, P6, P8, P9, P10, P11}
use Rattle.dots.specs.Cases.{P5, P7}
use Rattle.planner.specs.Theorems.{P12}

-- P1 to P12.
pub record BenchCases : Type 0 where
  pub p1 : P1
  pub p2 : P2
  pub p3 : P3
  pub p4 : P4
  pub p5 : P5
  pub p6 : P6
  pub p7 : P7
  pub p8 : P8
  pub p9 : P9
  pub p10 : P10
  pub p11 : P11
  pub p12 : P12
