-- The bench cases, cited where they are proved.
-- Assumes nothing.
use Rattle.controller.proofs.Theorems.Cases.{p1, p2, p3, p4, p6, p8, p9, p10, p11}
use Rattle.dots.proofs.Cases.{p5, p7}
use Rattle.planner.proofs.Theorems.Plan.{p12}
use Rattle.promises.specs.Cases.{BenchCases}

pub bench_cases : BenchCases
bench_cases =
    record { p1 = p1; p2 = p2; p3 = p3; p4 = p4; p5 = p5; p6 = p6; p7 = p7; p8 = p8; p9 = p9; p10 = p10; p11 = p11; p12 = p12 }
