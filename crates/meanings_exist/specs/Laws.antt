-- Each test says something under each model. Read it after Evaluates of meaning/specs and Words of
-- meaning_laws/specs.
use Rattle.std.specs.Prelude.{List}
use Rattle.text_values.specs.TestValue.{Content}
use Rattle.text_values.specs.ModelValue.{Clause}
use Rattle.meaning.specs.Evaluates.{Outcome, Evaluates}
use Rattle.meaning_laws.specs.Words.{IsTestOfWords}

-- Under each model there is something that the test says.
abbrev pub SaysSomething : Content → Type 0
SaysSomething t = (items : List Clause) → (o : Outcome) × Evaluates t items o

-- So it is for each test that writes numbers of 32 bits.
abbrev pub AMeaningExists : Type 0
AMeaningExists = (t : Content) → IsTestOfWords t → SaysSomething t
