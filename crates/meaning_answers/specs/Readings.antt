-- What the test of a text says under a model.
use Rattle.std.specs.Prelude.{ℕ, List}
use Rattle.text_values.specs.declared.test.Test.{Test}
use Rattle.text_values.specs.TestValue.{content_of}
use Rattle.litmus_grammar.specs.Texts.{ReadsTest}
use Rattle.meaning_outcomes.specs.Outcomes.{FromScratchIsMeant}

-- Where a text means a test, evaluating the test from nothing gives what it says, under each model.
abbrev pub ReadingsAreMeant : Type 0
ReadingsAreMeant =
    (bytes : List ℕ) (test : Test) → ReadsTest bytes (content_of test) → FromScratchIsMeant test
