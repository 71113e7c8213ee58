-- The laws of this crate, and what `draw` answers to the texts of a model and a test. Read Drawings
-- first.
use Rattle.std.specs.Prelude.{ℕ, List}
use Rattle.text_values.specs.declared.test.Test.{Test}
use Rattle.text_values.specs.declared.model.ModelText.{ModelText}
use Rattle.text_values.specs.ModelValue.{Clause}
use Rattle.text_values.specs.ModelValues.{clauses_of}
use Rattle.text_values.specs.TestValue.{Content, content_of}
use Rattle.litmus_grammar.specs.Texts.{ReadsTest}
use Rattle.cat_grammar.specs.declared.form.Form.TheVariants.{Model}
use Rattle.cat_grammar.specs.Reads.{ReadsClauses}
use Rattle.command_answers.specs.Pictures.{IsPictureOf}
use Rattle.why_forbidden.specs.declared.drawing.DrawRequest.{DrawRequest}
use Rattle.why_forbidden.specs.Drawings.{IsDrawn}
use Rattle.meaning_laws.specs.Words.{IsTestOfWords}
use Rattle.meaning_answers.specs.Drawings.{IsPictureSaid}

-- What `draw` writes of a test that writes numbers of 32 bits is so by the definitions.
abbrev pub DrawingsAreSaid : Type 0
DrawingsAreSaid =
    (request : DrawRequest) (test : Test) → IsTestOfWords (content_of test) → (model : ModelText)
    (text : List ℕ) → IsDrawn request test model text
    → IsPictureSaid request (content_of test) (clauses_of model.items.items) text

-- what `draw` writes of the test of the one text under the model of the other
pub record IsPictureSaidOf (request : DrawRequest) (model test text : List ℕ) : Type 0 where
  pub items : List Clause
  pub content : Content
  pub model_read : ReadsClauses Model model items
  pub test_read : ReadsTest test content
  pub said : IsPictureSaid request content items text

-- So it is where `draw` answers to two texts.
abbrev pub PicturesAreSaid : Type 0
PicturesAreSaid =
    (request : DrawRequest) (model test text : List ℕ) → IsPictureOf request model test text
    → IsPictureSaidOf request model test text
