-- What `why` answers to the texts of a model and a test is so by the definitions.
use Rattle.std.proofs.Common.{ℕ, List}
use Rattle.std.specs.Prelude.{Vec, Result, Ok, Err, IfOk}
use Rattle.std.specs.declared.alloc.Global.{Global}
use Rattle.text_values.specs.ModelValues.{clauses_of}
use Rattle.text_values.specs.TestValue.{content_of}
use Rattle.command_answers.specs.declared.fault.EvalFault.{EvalFault}
use Rattle.command_answers.specs.Whys.{IsWhyOf}
use Rattle.why_forbidden.specs.declared.answer.Asked.{Asked}
use Rattle.meaning_texts.proofs.Reading.{all_read}
use Rattle.meaning_answers.specs.ReasonAnswers.{IsWhySaidOf, ReportsAreSaid}
use Rattle.meaning_answers.proofs.WhyLaws.{whys_said}

pub reports_said : ReportsAreSaid
reports_said asked model test text h = record {
  items = clauses_of h.items.items.items;
  content = content_of h.known;
  model_read = h.model_read;
  test_read = h.test_read;
  said =
      whys_said asked h.known (all_read test (content_of h.known) h.test_read) h.items text h.said;
}

pub report_said : (asked : Asked) (model test : List ℕ) (result : Result (Vec ℕ Global) EvalFault)
    → IfOk result (λ text. IsWhyOf asked model test text.items)
    → IfOk result (λ text. IsWhySaidOf asked model test text.items)
report_said asked model test (Ok text) h = reports_said asked model test text.items h
report_said asked model test (Err fault) h = tt
