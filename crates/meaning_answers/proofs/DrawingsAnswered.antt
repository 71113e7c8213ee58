-- What `draw` answers to the texts of a model and a test is so by the definitions.
use Rattle.std.proofs.Common.{ℕ, List}
use Rattle.std.specs.Prelude.{Vec, Result, Ok, Err, IfOk}
use Rattle.std.specs.declared.alloc.Global.{Global}
use Rattle.text_values.specs.ModelValues.{clauses_of}
use Rattle.text_values.specs.TestValue.{content_of}
use Rattle.command_answers.specs.declared.fault.EvalFault.{EvalFault}
use Rattle.command_answers.specs.Pictures.{IsPictureOf}
use Rattle.why_forbidden.specs.declared.drawing.DrawRequest.{DrawRequest}
use Rattle.meaning_texts.proofs.Reading.{all_read}
use Rattle.meaning_answers.specs.DrawingAnswers.{IsPictureSaidOf, PicturesAreSaid}
use Rattle.meaning_answers.proofs.Pictures as law

pub pictures_said : PicturesAreSaid
pictures_said request model test text h = record {
  items = clauses_of h.items.items.items;
  content = content_of h.known;
  model_read = h.model_read;
  test_read = h.test_read;
  said =
      law.drawings_are_said request h.known (all_read test (content_of h.known) h.test_read) h.items
      text h.pictured;
}

pub report_said : (request : DrawRequest) (model test : List ℕ)
    (result : Result (Vec ℕ Global) EvalFault)
    → IfOk result (λ text. IsPictureOf request model test text.items)
    → IfOk result (λ text. IsPictureSaidOf request model test text.items)
report_said request model test (Ok text) h = pictures_said request model test text.items h
report_said request model test (Err fault) h = tt
