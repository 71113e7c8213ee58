-- Each text has one fault, if any, and means nothing where it has one.
use Rattle.std.proofs.Common.{ℕ, ◌<◌, true, false, List, map, None, arith}
use Rattle.cat_tokens.specs.Lexer.{model_lexing as cat_lexed}
use Rattle.cat_grammar.specs.declared.form.Form.{Form}
use Rattle.cat_grammar.proofs.Outcomes.{no_fault}
use Rattle.cat_grammar.specs.Reads as cat
use Rattle.litmus_tokens.specs.declared.stage.Stage.TheVariants.{Magic, Init, CellBegins, Tail}
use Rattle.litmus_tokens.specs.Conditions.{condition_limits, place_meaning, tree_formula, IsConditionText}
use Rattle.litmus_table.specs.Grammar.{thread_meaning}
use Rattle.text_values.specs.declared.test.InitEntry.{InitEntry}
use Rattle.text_values.specs.declared.test.Place.{Place}
use Rattle.text_values.specs.declared.test.Step.{Step}
use Rattle.text_values.specs.declared.test.Quantifier.{Quantifier}
use Rattle.text_values.specs.TestValue.{Content, Formula}
use Rattle.litmus_grammar.specs.Grammar.{members, entry_meaning, test_meaning, IsTestText, IsInitText, IsThreadText, IsLocationsText}
use Rattle.litmus_grammar.specs.Texts.{late_of_test, late_of_init, late_of_thread, ReadsTest, IsTestFault, ReadsInit, IsInitFault, ReadsThread, IsThreadFault, ReadsCondition, IsConditionFault, ReadsLocations, IsLocationsFault}
use Rattle.text_reading_laws.specs.Laws.{HasOneTextFault, AreExclusive}
use Rattle.text_reading_laws.proofs.LitmusFaults as litmus
use Rattle.text_reading_laws.proofs.LaterFaults.{test_finds_one, thread_finds_one, init_finds_one}
use Rattle.text_reading_laws.proofs.CatFaults.{one_fault}

-- ---- tests and threads

module _ (bytes : List ℕ) where
  pub one_test_fault : HasOneTextFault (IsTestFault bytes)
  one_test_fault =
      litmus.one_start_fault (IsTestText condition_limits) Magic late_of_test bytes (test_finds_one bytes)

  pub test_apart : AreExclusive (ReadsTest bytes) (IsTestFault bytes)
  test_apart =
      litmus.no_start_meaning (IsTestText condition_limits) Magic late_of_test bytes (test_finds_one bytes)
      Content (λ ts t. test_meaning t.tree)

  pub one_thread_fault : HasOneTextFault (IsThreadFault bytes)
  one_thread_fault =
      litmus.one_fault IsThreadText CellBegins late_of_thread bytes (λ le. thread_finds_one bytes)

  pub thread_apart : AreExclusive (ReadsThread bytes) (IsThreadFault bytes)
  thread_apart =
      litmus.no_meaning IsThreadText CellBegins late_of_thread bytes (λ le. thread_finds_one bytes)
      (List Step) (λ ts t. thread_meaning t.tree)

-- ---- init blocks, conditions and lists of locations

module _ (threads : ℕ) (bytes : List ℕ) where
  pub one_init_fault : threads < 18446744073709551616 → HasOneTextFault (IsInitFault threads bytes)
  one_init_fault few =
      litmus.one_start_fault IsInitText (Init true false) (late_of_init threads) bytes
      (λ le. init_finds_one threads few bytes)

  pub init_apart : threads < 18446744073709551616
      → AreExclusive (ReadsInit threads bytes) (IsInitFault threads bytes)
  init_apart few =
      litmus.no_start_meaning IsInitText (Init true false) (late_of_init threads) bytes
      (λ le. init_finds_one threads few bytes) (List InitEntry)
      (λ ts t. map entry_meaning (members t.entries))

  pub one_condition_fault : HasOneTextFault (IsConditionFault threads bytes)
  one_condition_fault =
      litmus.one_fault (IsConditionText condition_limits threads) Tail (λ ts t. None) bytes (λ le x y. tt)

  pub condition_apart : AreExclusive (ReadsCondition threads bytes) (IsConditionFault threads bytes)
  condition_apart =
      litmus.no_meaning (IsConditionText condition_limits threads) Tail (λ ts t. None) bytes (λ le x y. tt)
      (Quantifier × Formula) (λ ts t. (t.quantifier, tree_formula t.condition))

  pub one_locations_fault : HasOneTextFault (IsLocationsFault threads bytes)
  one_locations_fault =
      litmus.one_fault (IsLocationsText threads) Tail (λ ts t. None) bytes (λ le x y. tt)

  pub locations_apart : AreExclusive (ReadsLocations threads bytes) (IsLocationsFault threads bytes)
  locations_apart =
      litmus.no_meaning (IsLocationsText threads) Tail (λ ts t. None) bytes (λ le x y. tt)
      (List Place) (λ ts t. map place_meaning (members t.items))

-- ---- models and items

pub one_model_fault : (form : Form) (bytes : List ℕ) → HasOneTextFault (cat.FaultAt form bytes)
one_model_fault = one_fault

pub model_apart : (form : Form) (bytes : List ℕ)
    → AreExclusive (cat.ReadsClauses form bytes) (cat.FaultAt form bytes)
model_apart form bytes v rule offset r (cat.IsLong more k n) =
    let short = r.short in absurd (omega arith)
model_apart form bytes v rule offset r (cat.InText le f) =
    no_fault form (cat_lexed bytes) v rule offset r.means f
