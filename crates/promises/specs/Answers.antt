-- "Each is given exactly where its row applies, in order": for each call and each number.
-- Assumes nothing.
use Rattle.captures.specs.Theorems.{ImportAnswers, CaptureAnswers}
use Rattle.controller.specs.Theorems.{TransferAnswers, LoanAnswers, ResetAnswers}
use Rattle.drawing.specs.Theorems.{DrawAnswers}
use Rattle.dots.specs.Theorems.{PictureAnswers}
use Rattle.interface.specs.Theorems.{CallAnswers}
use Rattle.lines.specs.Faults.{ReaderAnswers}
use Rattle.lines.specs.Theorems.{WriterAnswers, TextAnswers}
use Rattle.planner.specs.Theorems.{PlanAnswers}
use Rattle.player.specs.Theorems.{PlayAnswers, ThroughAnswers}

-- Of every call that returns an answer, the theorem that says where each of its numbers is given; `loan` speaks of the loan
-- call, `texts` of rows and header, `through` of the text that is played without a report.
pub record EachAnswer : Type 0 where
  pub transfer : TransferAnswers
  pub loan : LoanAnswers
  pub reset : ResetAnswers
  pub picture : PictureAnswers
  pub plan : PlanAnswers
  pub reader : ReaderAnswers
  pub writer : WriterAnswers
  pub texts : TextAnswers
  pub play : PlayAnswers
  pub through : ThroughAnswers
  pub import : ImportAnswers
  pub capture : CaptureAnswers
  pub draw : DrawAnswers
  pub c_calls : CallAnswers
