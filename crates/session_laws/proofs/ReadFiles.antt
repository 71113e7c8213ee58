-- What is read of files depends on their paths and their bytes alone.
use Rattle.std.proofs.Common.{◌≡◌, ℕ, List, ◌++◌, map, refl, sym, ap, ◌∙◌, subst}
use Rattle.cat_grammar.specs.declared.form.Form.TheVariants.{Model}
use Rattle.cat_grammar.specs.Reads.{ReadsClauses, FaultAt}
use Rattle.cat_tokens.specs.declared.rule.CatRule.{CatRule}
use Rattle.cat_tokens.specs.Tokens.{digits_number as model_rule_number}
use Rattle.fault_texts.specs.Lines.{fault_lines}
use Rattle.fault_texts.specs.Words.{rule_words}
use Rattle.litmus_grammar.specs.Texts.{ReadsTest, IsTestFault}
use Rattle.litmus_tokens.specs.declared.rule.LitmusRule.{LitmusRule}
use Rattle.litmus_tokens.specs.Numbers.{number_of as test_rule_number}
use Rattle.command_answers.specs.declared.file.TextFile.{TextFile}
use Rattle.command_answers.specs.declared.reading.NamedModel.{NamedModel}
use Rattle.command_answers.specs.Answer.{IsModelRefused, IsTestRefused}
use Rattle.command_answers.specs.Files.{model_stem, AddsFault}
use Rattle.command_answers.specs.Reports.{AddsModel, IsModelAdded, IsModelFault, AreModels, NoModel, NextModel, AddsTest, IsTestAdded, IsTestFault as IsTestFaulty, AreTests, NoTest, NextTest}
use Rattle.text_reading_laws.proofs.Faults.{one_test_fault, one_model_fault}
use Rattle.text_reading_laws.proofs.Meanings.{one_test, one_model}
use Rattle.text_values.specs.declared.test.Test.{Test}
use Rattle.text_values.specs.ModelValue.{Clause}
use Rattle.text_values.specs.ModelValues.{clauses_of}
use Rattle.text_values.specs.TestValue.{Content, content_of}
use Rattle.session_laws.specs.Answers.{path_and_text}
use Rattle.session_laws.proofs.Lists.{none_ends, split_images, longer_images}

-- the name of a model, and what it says
abbrev pub said_of : NamedModel → List ℕ × List Clause
said_of m = (m.name, clauses_of m.model.items.items)

-- models of the same names that say the same, and the same lines
pub record AreModelsAlike (models others : List NamedModel) (faults lines : List ℕ) : Type 0 where
  pub said : map said_of models ≡ map said_of others
  pub told : faults ≡ lines

-- tests that say the same, and the same lines
pub record AreTestsAlike (tests others : List Test) (faults lines : List ℕ) : Type 0 where
  pub said : map content_of tests ≡ map content_of others
  pub told : faults ≡ lines

-- ---- one file

module _ (file other : TextFile) (same : path_and_text file ≡ path_and_text other) where
  pub one_path : file.path.now ≡ other.path.now
  one_path = ap (λ (x : List ℕ × List ℕ). x.0) same

  one_text : file.text.items ≡ other.text.items
  one_text = ap (λ (x : List ℕ × List ℕ). x.1) same

  same_lines : (letter number also offset place : ℕ) (old lines new more : List ℕ) → number ≡ also
      → offset ≡ place → old ≡ lines
      → AddsFault old new file.path.now file.text.items letter number offset
      → AddsFault lines more other.path.now other.text.items letter also place → new ≡ more
  same_lines letter number also offset place old lines new more n o e h g =
      h
      ∙ (λ i. e i
      ++ fault_lines (one_path i) (one_text i) letter (n i) (rule_words letter (n i))
      (o i)) ∙ sym g

  -- ---- a model

  pub one_model_read : (v w : List Clause) → ReadsClauses Model file.text.items v
      → ReadsClauses Model other.text.items w → v ≡ w
  one_model_read v w h g =
      one_model Model other.text.items v w
      (subst (λ (t : List ℕ). ReadsClauses Model t v) one_text h) g

  pub read_or_refused : (v : List Clause) (rule : CatRule) (offset : ℕ)
      → ReadsClauses Model file.text.items v → IsModelRefused other.text.items rule offset → ⊥
  read_or_refused v rule offset h g =
      g.unread v (subst (λ (t : List ℕ). ReadsClauses Model t v) one_text h)

  pub refused_or_read : (v : List Clause) (rule : CatRule) (offset : ℕ)
      → IsModelRefused file.text.items rule offset → ReadsClauses Model other.text.items v → ⊥
  refused_or_read v rule offset h g =
      h.unread v (subst (λ (t : List ℕ). ReadsClauses Model t v) (sym one_text) g)

  model_fault_one : (rule again : CatRule) (offset place : ℕ)
      → IsModelRefused file.text.items rule offset → IsModelRefused other.text.items again place
      → (rule ≡ again) × (offset ≡ place)
  model_fault_one rule again offset place h g =
      one_model_fault Model other.text.items rule again offset place
      (subst (λ (t : List ℕ). FaultAt Model t rule offset) one_text h.fault) g.fault

  pub model_added : (models others more new : List NamedModel) (faults lines told also : List ℕ)
      → AreModelsAlike models others faults lines → AddsModel file models faults more told
      → AddsModel other others lines new also → AreModelsAlike more new told also
  model_added models others more new faults lines told also alike
      (IsModelAdded m named read added kept) (IsModelAdded n called known grown left) =
      let name : m.name ≡ n.name = named ∙ ap model_stem one_path ∙ sym called in
      let says = one_model_read _ _ read known in
      record {
        said =
            longer_images said_of models others more new m n alike.said (λ i. (name i, says i))
            added grown;
        told = kept ∙ alike.told ∙ sym left;
      }
  model_added models others more new faults lines told also alike
      (IsModelAdded m named read added kept) (IsModelFault rule offset refused left grown) =
      absurd (read_or_refused (clauses_of m.model.items.items) rule offset read refused)
  model_added models others more new faults lines told also alike
      (IsModelFault rule offset refused kept added) (IsModelAdded n called known grown left) =
      absurd (refused_or_read (clauses_of n.model.items.items) rule offset refused known)
  model_added models others more new faults lines told also alike
      (IsModelFault rule offset refused kept added) (IsModelFault again place blamed left grown) =
      let one = model_fault_one rule again offset place refused blamed in
      record {
        said = ap (map said_of) kept ∙ alike.said ∙ sym (ap (map said_of) left);
        told =
            same_lines 67 (model_rule_number rule) (model_rule_number again) offset place faults
            lines told also (ap model_rule_number one.0) one.1 alike.told added grown;
      }

  -- ---- a test

  one_test_read : (v w : Content) → ReadsTest file.text.items v → ReadsTest other.text.items w
      → v ≡ w
  one_test_read v w h g =
      one_test other.text.items v w (subst (λ (t : List ℕ). ReadsTest t v) one_text h) g

  test_read_or_refused : (v : Content) (rule : LitmusRule) (offset : ℕ)
      → ReadsTest file.text.items v → IsTestRefused other.text.items rule offset → ⊥
  test_read_or_refused v rule offset h g =
      g.unread v (subst (λ (t : List ℕ). ReadsTest t v) one_text h)

  test_refused_or_read : (v : Content) (rule : LitmusRule) (offset : ℕ)
      → IsTestRefused file.text.items rule offset → ReadsTest other.text.items v → ⊥
  test_refused_or_read v rule offset h g =
      h.unread v (subst (λ (t : List ℕ). ReadsTest t v) (sym one_text) g)

  test_fault_one : (rule again : LitmusRule) (offset place : ℕ)
      → IsTestRefused file.text.items rule offset → IsTestRefused other.text.items again place
      → (rule ≡ again) × (offset ≡ place)
  test_fault_one rule again offset place h g =
      one_test_fault other.text.items rule again offset place
      (subst (λ (t : List ℕ). IsTestFault t rule offset) one_text h.fault) g.fault

  pub test_added : (tests others more new : List Test) (faults lines told also : List ℕ)
      → AreTestsAlike tests others faults lines → AddsTest file tests faults more told
      → AddsTest other others lines new also → AreTestsAlike more new told also
  test_added tests others more new faults lines told also alike
      (IsTestAdded t read added kept) (IsTestAdded u known grown left) =
      record {
        said =
            longer_images content_of tests others more new t u alike.said
            (one_test_read (content_of t) (content_of u) read known) added grown;
        told = kept ∙ alike.told ∙ sym left;
      }
  test_added tests others more new faults lines told also alike
      (IsTestAdded t read added kept) (IsTestFaulty rule offset refused left grown) =
      absurd (test_read_or_refused (content_of t) rule offset read refused)
  test_added tests others more new faults lines told also alike
      (IsTestFaulty rule offset refused kept added) (IsTestAdded u known grown left) =
      absurd (test_refused_or_read (content_of u) rule offset refused known)
  test_added tests others more new faults lines told also alike
      (IsTestFaulty rule offset refused kept added) (IsTestFaulty again place blamed left grown) =
      let one = test_fault_one rule again offset place refused blamed in
      record {
        said = ap (map content_of) kept ∙ alike.said ∙ sym (ap (map content_of) left);
        told =
            same_lines 76 (test_rule_number rule) (test_rule_number again) offset place faults lines
            told also (ap test_rule_number one.0) one.1 alike.told added grown;
      }

-- ---- files in turn

pub all_models : (files : List TextFile) (models : List NamedModel) (faults : List ℕ)
    → AreModels files models faults
    → (others : List TextFile) (also : List NamedModel) (lines : List ℕ)
    → AreModels others also lines → map path_and_text files ≡ map path_and_text others
    → AreModelsAlike models also faults lines
all_models files models faults NoModel others also lines NoModel e =
    record { said = refl; told = refl }
all_models files models faults NoModel others also lines
    (NextModel prefix file before after old new h adds) e =
    absurd (none_ends path_and_text prefix file e)
all_models files models faults (NextModel prefix file before after old new h adds) others also lines
    NoModel e = absurd (none_ends path_and_text prefix file (sym e))
all_models files models faults (NextModel prefix file before after old new h adds) others also lines
    (NextModel prefixes other first later was is g adds_also) e =
    let split = split_images path_and_text prefix prefixes file other e in
    let alike = all_models prefix before old h prefixes first was g split.prefixes in
    model_added file other split.ends before first after later old was new is alike adds adds_also

pub all_tests : (start begin : List ℕ) → start ≡ begin
    → (files : List TextFile) (tests : List Test) (faults : List ℕ)
    → AreTests start files tests faults
    → (others : List TextFile) (also : List Test) (lines : List ℕ)
    → AreTests begin others also lines → map path_and_text files ≡ map path_and_text others
    → AreTestsAlike tests also faults lines
all_tests start begin same files tests faults NoTest others also lines NoTest e =
    record { said = refl; told = same }
all_tests start begin same files tests faults NoTest others also lines
    (NextTest prefix file before after old new h adds) e =
    absurd (none_ends path_and_text prefix file e)
all_tests start begin same files tests faults (NextTest prefix file before after old new h adds)
    others also lines NoTest e = absurd (none_ends path_and_text prefix file (sym e))
all_tests start begin same files tests faults (NextTest prefix file before after old new h adds)
    others also lines (NextTest prefixes other first later was is g adds_also) e =
    let split = split_images path_and_text prefix prefixes file other e in
    let alike = all_tests start begin same prefix before old h prefixes first was g split.prefixes in
    test_added file other split.ends before first after later old was new is alike adds adds_also
