-- What of the line of a request people are shown where the texts refuse it. Contracts inside the
-- crate cite it.
use Rattle.std.specs.Prelude.{◌≡◌, ℕ, List, [], ◌∷◌, if◌then◌else◌, Option, Some, None, decimal}
use Rattle.bench_texts.specs.BenchTexts.{BenchTexts}
use Rattle.bench_texts.specs.Edits.{has_test, has_model}
use Rattle.session_script.specs.declared.command.Command.{Command}
use Rattle.session_script.specs.declared.command.Command.TheVariants as commands
use Rattle.session_script.specs.declared.request.Request.{Request}
use Rattle.session_script.specs.declared.request.Request.TheVariants as requests

-- the first of these models that is not there, if any
abbrev pub missing_word : BenchTexts → List (List ℕ) → List ℕ
missing_word t [] = []
missing_word t (name ∷ names) = if has_model t name then missing_word t names else name

-- the test or the model that is not there, or else this word
abbrev pub test_or : BenchTexts → (test word : List ℕ) → List ℕ
test_or t test word = if has_test t test then word else test

abbrev pub model_or : BenchTexts → (model word : List ℕ) → List ℕ
model_or t model word = if has_model t model then word else model

-- the first name that is not there, or else what of the line may be wrong beside names
abbrev pub blamed_word : BenchTexts → Request → List ℕ
blamed_word t requests.PutTest = []
blamed_word t (requests.PutModel model) = model
blamed_word t (requests.SetInit test) = test
blamed_word t (requests.SetThread test thread) = test_or t test (decimal thread)
blamed_word t (requests.SetCondition test) = test
blamed_word t (requests.SetLocations test) = test
blamed_word t (requests.SetItem model item) = model_or t model (decimal item)
blamed_word t (requests.InsertItem model before) = model_or t model (decimal before)
blamed_word t (requests.RemoveItem model item) = model_or t model (decimal item)
blamed_word t (requests.DropTest test) = test
blamed_word t (requests.DropModel model) = model
blamed_word t (requests.Items model) = model
blamed_word t (requests.Show test model) = test_or t test model
blamed_word t (requests.Counts test model) = test_or t test model
blamed_word t (requests.Table models) = missing_word t models
blamed_word t (requests.Difference first second) = model_or t first second

-- the model that a request puts or changes
abbrev pub changed_model : Request → Option (List ℕ)
changed_model (requests.PutModel model) = Some model
changed_model (requests.SetItem model item) = Some model
changed_model (requests.InsertItem model before) = Some model
changed_model (requests.RemoveItem model item) = Some model
changed_model _ = None

-- ---- of a command

-- of a request, the word at fault; of a line that is refused, all its words, which are not named
-- here
abbrev pub IsBlamed : BenchTexts → Command → List ℕ → Type 0
IsBlamed t (commands.Asked request text) word = word ≡ blamed_word t request
IsBlamed t (commands.Refused rule) word = Unit {0}

-- the text of a request; a refused line has none
abbrev pub command_text : Command → List ℕ
command_text (commands.Asked request text) = text
command_text (commands.Refused rule) = []

-- the model that a command puts or changes
abbrev pub command_model : Command → Option (List ℕ)
command_model (commands.Asked request text) = changed_model request
command_model (commands.Refused rule) = None
