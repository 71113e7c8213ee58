-- A text is read in one way.
use Rattle.std.proofs.Common.{◌≡◌, ℕ, ◌<◌, List, [], ◌∷◌, Result, Ok, Err, refl, sym, ap, ◌∙◌}
use Rattle.cat_tokens.specs.declared.rule.CatRule.{CatRule}
use Rattle.cat_tokens.specs.Lexer as cat
use Rattle.cat_grammar.specs.declared.form.Form.{Form}
use Rattle.cat_grammar.specs.declared.form.Form.TheVariants as forms
use Rattle.cat_grammar.specs.Grammar.{model_limits}
use Rattle.cat_grammar.specs.ItemMachine.{clause_start}
use Rattle.cat_grammar.specs.Running.{run_items, items_of}
use Rattle.cat_grammar.proofs.Outcomes.{fault_found, items_only, no_fault}
use Rattle.cat_grammar.specs.Reads.{ReadsClauses}
use Rattle.text_values.specs.ModelValue.{Clause}
use Rattle.text_values.specs.declared.test.InitEntry.{InitEntry}
use Rattle.text_values.specs.declared.test.Place.{Place}
use Rattle.text_values.specs.declared.test.Step.{Step}
use Rattle.text_values.specs.declared.test.Quantifier.{Quantifier}
use Rattle.text_values.specs.TestValue.{Content, Formula}
use Rattle.litmus_tokens.specs.Texts as litmus
use Rattle.litmus_grammar.specs.declared.parts.TextKind.TheVariants as kinds
use Rattle.litmus_grammar.specs.TextMachine as machine
use Rattle.litmus_grammar.specs.TextMachine.{TextResult, first_stage}
use Rattle.litmus_grammar.specs.Texts.{ReadsTest, ReadsInit, ReadsThread, ReadsCondition, ReadsLocations}
use Rattle.litmus_ppc.specs.declared.fault.LitmusFault.TheVariants.{Refused}
use Rattle.litmus_ppc.proofs.TestReader.{test_only, test_only_memory}
use Rattle.litmus_ppc.proofs.ThreadReader.{thread_only, thread_only_memory}
use Rattle.litmus_ppc.proofs.InitReaders.{init_only, init_only_memory}
use Rattle.litmus_ppc.proofs.ListReaders.{locations_only, locations_only_memory}
use Rattle.litmus_ppc.proofs.Readers.{condition_only, condition_only_memory}

-- ---- models and items

pub clauses_one : (form : Form) (bytes : List ℕ) (v w : List Clause) → ReadsClauses form bytes v
    → ReadsClauses form bytes w → v ≡ w
clauses_one form bytes v w a b =
    by_run (items_of (run_items model_limits form 0 (clause_start form) (cat.model_lexing bytes))) refl
  where
    by_run : (r : Result (List Clause) (CatRule × ℕ))
        → items_of (run_items model_limits form 0 (clause_start form) (cat.model_lexing bytes)) ≡ r → v ≡ w
    by_run (Ok cs) e =
        sym (items_only form (cat.model_lexing bytes) cs v e a.means)
        ∙ items_only form (cat.model_lexing bytes) cs w e b.means
    by_run (Err f) e =
        absurd (no_fault form (cat.model_lexing bytes) v f.0 f.1 a.means
        (fault_found form (cat.model_lexing bytes) f.0 f.1 e))

abbrev first : Clause → List Clause → Clause
first d [] = d
first d (c ∷ cs) = c

pub item_one : (bytes : List ℕ) (c d : Clause) → ReadsClauses forms.Item bytes (c ∷ [])
    → ReadsClauses forms.Item bytes (d ∷ []) → c ≡ d
item_one bytes c d a b = ap (first c) (clauses_one forms.Item bytes (c ∷ []) (d ∷ []) a b)

-- ---- tests and their parts

pub test_one : (bytes : List ℕ) (v w : Content) → ReadsTest bytes v → ReadsTest bytes w → v ≡ w
test_one bytes v w a b =
    by_run (machine.run_parts (machine.text_start kinds.Test 0) (litmus.test_lexing (first_stage kinds.Test) bytes))
    refl
  where
    by_run : (r : TextResult)
        → machine.run_parts (machine.text_start kinds.Test 0) (litmus.test_lexing (first_stage kinds.Test) bytes) ≡ r
        → v ≡ w
    by_run (Ok s) e = sym (test_only bytes s (λ le. e) v a) ∙ test_only bytes s (λ le. e) w b
    by_run (Err f) e = absurd (test_only_memory bytes (Refused f.0 f.1) (λ le. e) v a)

pub thread_one : (bytes : List ℕ) (v w : List Step) → ReadsThread bytes v → ReadsThread bytes w
    → v ≡ w
thread_one bytes v w a b =
    by_run
    (machine.run_parts (machine.text_start kinds.Thread 1) (litmus.test_lexing (first_stage kinds.Thread) bytes))
    refl
  where
    by_run : (r : TextResult)
        → machine.run_parts (machine.text_start kinds.Thread 1) (litmus.test_lexing (first_stage kinds.Thread) bytes)
        ≡ r → v ≡ w
    by_run (Ok s) e = sym (thread_only bytes s (λ le. e) v a) ∙ thread_only bytes s (λ le. e) w b
    by_run (Err f) e = absurd (thread_only_memory bytes (Refused f.0 f.1) (λ le. e) v a)

module _ (threads : ℕ) (few : threads < 18446744073709551616) (bytes : List ℕ) where
  pub init_one : (v w : List InitEntry) → ReadsInit threads bytes v → ReadsInit threads bytes w
      → v ≡ w
  init_one v w a b =
      by_run
      (machine.run_parts (machine.text_start kinds.Init threads) (litmus.test_lexing (first_stage kinds.Init) bytes))
      refl
    where
      by_run : (r : TextResult)
          → machine.run_parts (machine.text_start kinds.Init threads)
          (litmus.test_lexing (first_stage kinds.Init) bytes) ≡ r → v ≡ w
      by_run (Ok s) e =
          sym (init_only threads few bytes s (λ le. e) v a)
          ∙ init_only threads few bytes s (λ le. e) w b
      by_run (Err f) e = absurd (init_only_memory threads few bytes (Refused f.0 f.1) (λ le. e) v a)

  pub locations_one : (v w : List Place) → ReadsLocations threads bytes v
      → ReadsLocations threads bytes w → v ≡ w
  locations_one v w a b =
      by_run
      (machine.run_parts (machine.text_start kinds.Locations threads)
      (litmus.test_lexing (first_stage kinds.Locations) bytes)) refl
    where
      by_run : (r : TextResult)
          → machine.run_parts (machine.text_start kinds.Locations threads)
          (litmus.test_lexing (first_stage kinds.Locations) bytes) ≡ r → v ≡ w
      by_run (Ok s) e =
          sym (locations_only threads few bytes s (λ le. e) v a)
          ∙ locations_only threads few bytes s (λ le. e) w b
      by_run (Err f) e =
          absurd (locations_only_memory threads few bytes (Refused f.0 f.1) (λ le. e) v a)

  pub condition_one : (v w : Quantifier × Formula) → ReadsCondition threads bytes v
      → ReadsCondition threads bytes w → v ≡ w
  condition_one v w a b =
      by_run
      (machine.run_parts (machine.text_start kinds.Condition threads)
      (litmus.test_lexing (first_stage kinds.Condition) bytes)) refl
    where
      by_run : (r : TextResult)
          → machine.run_parts (machine.text_start kinds.Condition threads)
          (litmus.test_lexing (first_stage kinds.Condition) bytes) ≡ r → v ≡ w
      by_run (Ok s) e =
          sym (condition_only threads few bytes s (λ le. e) v a)
          ∙ condition_only threads few bytes s (λ le. e) w b
      by_run (Err f) e =
          absurd (condition_only_memory threads few bytes (Refused f.0 f.1) (λ le. e) v a)
