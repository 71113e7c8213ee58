-- What `draw` answers to a model's text and a test's text. Read `IsDrawn` of reasons first.
use Rattle.std.specs.Prelude.{ℕ, ◌-◌, List, Bool, true, false, Option, Result}
use Rattle.text_values.specs.declared.test.Test.{Test}
use Rattle.text_values.specs.TestValue.{content_of}
use Rattle.litmus_grammar.specs.Texts.{ReadsTest}
use Rattle.text_values.specs.declared.model.ModelText.{ModelText}
use Rattle.text_values.specs.ModelValues.{clauses_of}
use Rattle.cat_grammar.specs.declared.form.Form.TheVariants.{Model}
use Rattle.cat_grammar.specs.Reads.{ReadsClauses}
use Rattle.draw_scene.specs.declared.drawn.Format.{Format}
use Rattle.draw_scene.specs.declared.drawn.Format.TheVariants as formats
use Rattle.why_forbidden.specs.declared.drawing.DrawRequest.{DrawRequest}
use Rattle.why_forbidden.specs.declared.drawing.Wanted.{Wanted}
use Rattle.why_forbidden.specs.declared.drawing.Wanted.TheVariants as wanteds
use Rattle.why_forbidden.specs.Drawings.{IsDrawn}
use Rattle.command_line.specs.declared.fault.SessionFault.{SessionFault}
use Rattle.command_line.specs.declared.form.Drawn.{Drawn}
use Rattle.command_line.specs.declared.form.Drawn.TheVariants as drawns
use Rattle.command_line.specs.declared.form.Pictures.{Pictures}
use Rattle.command_line.specs.declared.form.Pictures.TheVariants as picture_words
use Rattle.command_answers.specs.Answer.{IsEvalAnswer}
use Rattle.command_answers.specs.Made.{IsAnswerWritten}

-- the executions that a word of the command line asks for
abbrev pub wanted_executions : Drawn → Wanted
wanted_executions drawns.Shown = wanteds.Shown
wanted_executions drawns.Forbidden = wanteds.Forbidden
wanted_executions drawns.All = wanteds.All

-- the one of this number, from 1, of the executions that are drawn
abbrev pub one_of : Drawn → ℕ → Format → DrawRequest
one_of drawn n format =
    record { wanted = wanted_executions drawn; skipped = n - 1; most = n; format = format }

-- so many at most
abbrev pub some_of : Drawn → ℕ → Format → DrawRequest
some_of drawn n format =
    record { wanted = wanted_executions drawn; skipped = 0; most = n; format = format }

abbrev pub draw_request : Drawn → Pictures → DrawRequest
draw_request drawn (picture_words.Graphs n) = some_of drawn n formats.Dot
draw_request drawn (picture_words.Svgs n) = some_of drawn n formats.Svg
draw_request drawn (picture_words.Graph n) = one_of drawn n formats.Dot
draw_request drawn (picture_words.Svg n) = one_of drawn n formats.Svg

-- what is drawn of the test and the model that the two texts mean
pub record IsPictureOf (request : DrawRequest) (model test text : List ℕ) : Type 0 where
  pub items : ModelText
  pub model_read : ReadsClauses Model model (clauses_of items.items.items)
  pub known : Test
  pub test_read : ReadsTest test (content_of known)
  pub pictured : IsDrawn request known items text

-- that, or the line of the first text that is refused
abbrev pub IsPictureAnswer : DrawRequest → List ℕ → List ℕ → List ℕ → Bool → Type 0
IsPictureAnswer request model test text false = IsPictureOf request model test text
IsPictureAnswer request model test text true = IsEvalAnswer model test text true

-- the bytes of a sink, before and after: the answer, or a prefix of it where a write failed, and
-- else nothing
abbrev pub IsPictureWritten : DrawRequest → List ℕ → List ℕ → Option (List ℕ) → Option (List ℕ)
    → Result Bool SessionFault → Type 0
IsPictureWritten request model test old new result =
    IsAnswerWritten (IsPictureAnswer request model test) old new result
