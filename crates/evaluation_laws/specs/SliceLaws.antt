-- Laws of slices, each the contract of a call of this crate. Read `Slices` of bench_slices and
-- `FromScratch` of from_scratch first.
use Rattle.std.specs.Prelude.{◌≡◌}
use Rattle.text_values.specs.declared.test.Test.{Test}
use Rattle.text_values.specs.TestValue.{content_of}
use Rattle.text_values.specs.declared.model.ModelText.{ModelText}
use Rattle.outcome_states.specs.declared.answer.Evaluation.{Evaluation}
use Rattle.outcome_states.specs.declared.answer.Outcome.{Outcome}
use Rattle.bench_texts.specs.declared.model.NamedModel.{NamedModel}
use Rattle.bench_texts.specs.Held.{IsModelRead}
use Rattle.bench_slices.specs.Slices.{slice}
use Rattle.from_scratch.specs.FromScratch.{IsFaultless, IsEvaluationOf, IsFromScratch}

-- each outcome of a test under a model is one of a test that says the same
abbrev pub GiveTheSame : Test → Test → ModelText → Type 0
GiveTheSame test other model =
    content_of test ≡ content_of other → (o : Outcome) → IsFromScratch test model o
    → IsFromScratch other model o

-- what a cell gives from nothing depends on its slice alone
abbrev pub SlicesDecide : Type 0
SlicesDecide =
    (test other : Test) (model under : NamedModel) (outcome : Outcome) → IsModelRead model
    → IsModelRead under
    → slice (content_of test) model ≡ slice (content_of other) under
    → IsFromScratch test model.text outcome → IsFromScratch other under.text outcome

-- of two models without fault that give a test one slice: each evaluation under the one is one
-- under the other
abbrev pub ItemsDecide : Type 0
ItemsDecide =
    (test : Test) (model under : NamedModel) (e : Evaluation) → IsModelRead model
    → IsModelRead under
    → IsFaultless model.text → IsFaultless under.text
    → slice (content_of test) model ≡ slice (content_of test) under
    → IsEvaluationOf test model.text e → IsEvaluationOf test under.text e
