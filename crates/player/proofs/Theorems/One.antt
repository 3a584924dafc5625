-- 11 is given exactly where the buffer is too short, and no second answer fits.
-- Assumes nothing.
use Rattle.lines.specs.Theorems.{wanting_rows}
use Rattle.lines.proofs.Theorems.One.{one_writing, text_answers}
use Rattle.player.specs.Report.{report, report_size, playing}
use Rattle.player.specs.Theorems.{play_rows, PlayAnswers, OnePlay}

pub play_answers : PlayAnswers
unfolding playing play_rows wanting_rows
play_answers frequency text out = text_answers (report_size text) (report frequency text) out

pub one_play : OnePlay
one_play frequency text out a b x y is also = one_writing (playing frequency text out) out a b x y is also
