-- The numbers of a test that a text means.
use Rattle.std.specs.Prelude.{ℕ, List}
use Rattle.text_values.specs.TestValue.{Content}
use Rattle.litmus_grammar.specs.Texts.{ReadsTest}
use Rattle.meaning_laws.specs.Words.{IsTestOfWords}

-- A test that a text means writes numbers of 32 bits.
abbrev pub TextsAreOfWords : Type 0
TextsAreOfWords = (bytes : List ℕ) (t : Content) → ReadsTest bytes t → IsTestOfWords t
