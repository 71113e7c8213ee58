-- The laws of what `why` says, and what it answers to the texts of a model and a test. Read
-- Findings first.
use Rattle.std.specs.Prelude.{ℕ, ◌≡◌, List, Bool, true, false}
use Rattle.text_values.specs.declared.test.Test.{Test}
use Rattle.text_values.specs.declared.model.ModelText.{ModelText}
use Rattle.text_values.specs.ModelValue.{Clause}
use Rattle.text_values.specs.ModelValues.{clauses_of}
use Rattle.text_values.specs.TestValue.{Content, content_of}
use Rattle.litmus_grammar.specs.Texts.{ReadsTest}
use Rattle.cat_grammar.specs.declared.form.Form.TheVariants.{Model}
use Rattle.cat_grammar.specs.Reads.{ReadsClauses}
use Rattle.command_answers.specs.Whys.{IsWhyOf}
use Rattle.why_text.specs.declared.finding.Findings.{Findings}
use Rattle.why_forbidden.specs.declared.answer.Asked.{Asked}
use Rattle.why_forbidden.specs.Whys.{IsWhy}
use Rattle.meaning.specs.Outcome.{Evaluation}
use Rattle.meaning.specs.Evaluates.{Evaluates, Evaluated}
use Rattle.meaning_laws.specs.Words.{IsTestOfWords}
use Rattle.meaning_answers.specs.Findings.{AreFindingsSaid, IsWhySaid}

-- What `why` says of a test that writes numbers of 32 bits is so by the definitions.
abbrev pub WhysAreSaid : Type 0
WhysAreSaid =
    (asked : Asked) (test : Test) → IsTestOfWords (content_of test) → (model : ModelText)
    (text : List ℕ) → IsWhy asked test model text
    → IsWhySaid asked (content_of test) (clauses_of model.items.items) text

-- It finds as many witnesses as the test says that it has.
abbrev pub WhysAgree : Type 0
WhysAgree =
    (t : Content) (items : List Clause) (f : Findings) (e : Evaluation) → AreFindingsSaid t items f
    → Evaluates t items (Evaluated e) → f.kept ≡ e.positive

-- what `why` says of the test of the one text under the model of the other
pub record IsWhySaidOf (asked : Asked) (model test text : List ℕ) : Type 0 where
  pub items : List Clause
  pub content : Content
  pub model_read : ReadsClauses Model model items
  pub test_read : ReadsTest test content
  pub said : IsWhySaid asked content items text

-- So it is where `why` answers to two texts.
abbrev pub ReportsAreSaid : Type 0
ReportsAreSaid =
    (asked : Asked) (model test text : List ℕ) → IsWhyOf asked model test text
    → IsWhySaidOf asked model test text
