-- `drawing::state::half_shown` meets its contract: each kind of half has the letter that session lines have for it.
-- Assumes nothing.
use Rattle.lines.specs.Line.{letter_of}
use Rattle.drawing.proofs.state.half_shown.Goals as goal

pub returns-in-Empty : goal.returns-in-Empty
unfolding letter_of
returns-in-Empty c = simp c.in-Empty.is

pub returns-in-InstructionWrite : goal.returns-in-InstructionWrite
unfolding letter_of
returns-in-InstructionWrite c = simp (c.write_shown.ensures, c.in-InstructionWrite.is)

pub returns-in-DataWrite : goal.returns-in-DataWrite
unfolding letter_of
returns-in-DataWrite c = simp (c.write_shown-in-DataWrite.ensures, c.in-DataWrite.is)

pub returns-in-StatusRead : goal.returns-in-StatusRead
unfolding letter_of
returns-in-StatusRead c = simp (c.read_shown.ensures, c.in-StatusRead.is)

pub returns-in-DataRead : goal.returns-in-DataRead
unfolding letter_of
returns-in-DataRead c = simp (c.read_shown-in-DataRead.ensures, c.in-DataRead.is)
