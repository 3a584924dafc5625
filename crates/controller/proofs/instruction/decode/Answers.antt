-- `controller::instruction::decode` meets its contract: the byte is as high as the zeros that lead it say, so that an address is left.
-- Assumes nothing.
use mathlib.Core.Path.{refl}
use native.Mathlib.Omega.{arith}
use Rattle.controller.proofs.Laws.Instruction.{led_reaches}
use Rattle.controller.proofs.instruction.decode.Goals as goal

pub overflow_sub-result : goal.overflow_sub-result
overflow_sub-result c = omega (arith, led_reaches _ 1 7 c.ranges.byte.fits c.in-1.is refl)

pub overflow_sub-result-in-0 : goal.overflow_sub-result-in-0
overflow_sub-result-in-0 c = omega (arith, led_reaches _ 0 8 c.ranges.byte.fits c.in-0.is refl)
