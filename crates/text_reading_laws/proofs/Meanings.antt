-- Each text means one thing.
use Rattle.std.proofs.Common.{◌≡◌, ℕ, ◌+◌, ◌<◌, List, length, Result, Ok, Err, refl, sym, ap, ◌∙◌, arith}
use Rattle.cat_tokens.specs.declared.rule.CatRule.{CatRule}
use Rattle.cat_tokens.specs.Lexer.{model_lexing as cat_lexed}
use Rattle.cat_grammar.specs.declared.form.Form.{Form}
use Rattle.cat_grammar.specs.Grammar.{model_limits as cat_limits}
use Rattle.cat_grammar.specs.ItemMachine.{clause_start as cat_start}
use Rattle.cat_grammar.specs.Running.{run_items as cat_run, items_of}
use Rattle.cat_grammar.proofs.Outcomes.{fault_found, items_only, no_fault}
use Rattle.cat_grammar.specs.Reads.{ReadsClauses}
use Rattle.text_values.specs.ModelValue.{Clause}
use Rattle.litmus_tokens.specs.Texts.{test_lexing}
use Rattle.text_values.specs.declared.test.InitEntry.{InitEntry}
use Rattle.text_values.specs.declared.test.Place.{Place}
use Rattle.text_values.specs.declared.test.Step.{Step}
use Rattle.text_values.specs.declared.test.Quantifier.{Quantifier}
use Rattle.text_values.specs.TestValue.{Content, Formula}
use Rattle.litmus_grammar.specs.declared.parts.TextKind.{TextKind}
use Rattle.litmus_grammar.specs.declared.parts.TextKind.TheVariants as kinds
use Rattle.litmus_grammar.specs.TextMachine.{TextResult, run_parts, text_start, first_stage}
use Rattle.litmus_grammar.specs.Texts.{ReadsTest, ReadsInit, ReadsThread, ReadsCondition, ReadsLocations}
use Rattle.litmus_grammar.proofs.Bodies.{length-meaning}
use Rattle.litmus_grammar.proofs.Heads.{few_of}
use Rattle.litmus_grammar.proofs.Inner.{lexed_length}
use Rattle.litmus_ppc.specs.declared.fault.LitmusFault.TheVariants.{Refused}
use Rattle.litmus_ppc.proofs.Readers.{condition_only, condition_only_memory}
use Rattle.litmus_ppc.proofs.ListReaders.{locations_only, locations_only_memory}
use Rattle.litmus_ppc.proofs.ThreadReader.{thread_only, thread_only_memory}
use Rattle.litmus_ppc.proofs.InitReaders.{init_only, init_only_memory}
use Rattle.litmus_ppc.proofs.TestReader.{test_only, test_only_memory}

abbrev machine : TextKind → ℕ → List ℕ → TextResult
machine kind threads bytes = run_parts (text_start kind threads) (test_lexing (first_stage kind) bytes)

pub one_test : (bytes : List ℕ) (v w : Content) → ReadsTest bytes v → ReadsTest bytes w → v ≡ w
one_test bytes v w r q = by_run (machine kinds.Test 0 bytes) refl
  where
    by_run : (x : TextResult) → machine kinds.Test 0 bytes ≡ x → v ≡ w
    by_run (Ok s) e = sym (test_only bytes s (λ le. e) v r) ∙ test_only bytes s (λ le. e) w q
    by_run (Err (rule, offset)) e =
        absurd (test_only_memory bytes (Refused rule offset) (λ le. e) v r)

pub one_thread : (bytes : List ℕ) (v w : List Step) → ReadsThread bytes v → ReadsThread bytes w
    → v ≡ w
one_thread bytes v w r q = by_run (machine kinds.Thread 1 bytes) refl
  where
    by_run : (x : TextResult) → machine kinds.Thread 1 bytes ≡ x → v ≡ w
    by_run (Ok s) e = sym (thread_only bytes s (λ le. e) v r) ∙ thread_only bytes s (λ le. e) w q
    by_run (Err (rule, offset)) e =
        absurd (thread_only_memory bytes (Refused rule offset) (λ le. e) v r)

module _ (threads : ℕ) (few : threads < 18446744073709551616) where
  pub one_init : (bytes : List ℕ) (v w : List InitEntry) → ReadsInit threads bytes v
      → ReadsInit threads bytes w → v ≡ w
  one_init bytes v w r q = by_run (machine kinds.Init threads bytes) refl
    where
      by_run : (x : TextResult) → machine kinds.Init threads bytes ≡ x → v ≡ w
      by_run (Ok s) e =
          sym (init_only threads few bytes s (λ le. e) v r) ∙ init_only threads few bytes s
          (λ le. e) w q
      by_run (Err (rule, offset)) e =
          absurd (init_only_memory threads few bytes (Refused rule offset) (λ le. e) v r)

  pub one_condition : (bytes : List ℕ) (v w : Quantifier × Formula) → ReadsCondition threads bytes v
      → ReadsCondition threads bytes w → v ≡ w
  one_condition bytes v w r q = by_run (machine kinds.Condition threads bytes) refl
    where
      by_run : (x : TextResult) → machine kinds.Condition threads bytes ≡ x → v ≡ w
      by_run (Ok s) e =
          sym (condition_only threads few bytes s (λ le. e) v r) ∙ condition_only threads few bytes
          s (λ le. e) w q
      by_run (Err (rule, offset)) e =
          absurd (condition_only_memory threads few bytes (Refused rule offset) (λ le. e) v r)

  pub one_list : (bytes : List ℕ) (v w : List Place) → ReadsLocations threads bytes v
      → ReadsLocations threads bytes w → v ≡ w
  one_list bytes v w r q = by_run (machine kinds.Locations threads bytes) refl
    where
      by_run : (x : TextResult) → machine kinds.Locations threads bytes ≡ x → v ≡ w
      by_run (Ok s) e =
          sym (locations_only threads few bytes s (λ le. e) v r) ∙ locations_only threads few bytes
          s (λ le. e) w q
      by_run (Err (rule, offset)) e =
          absurd (locations_only_memory threads few bytes (Refused rule offset) (λ le. e) v r)

pub one_model : (form : Form) (bytes : List ℕ) (v w : List Clause) → ReadsClauses form bytes v
    → ReadsClauses form bytes w → v ≡ w
one_model form bytes v w r q =
    by_items (items_of (cat_run cat_limits form 0 (cat_start form) (cat_lexed bytes))) refl
  where
    by_items : (x : Result (List Clause) (CatRule × ℕ))
        → items_of (cat_run cat_limits form 0 (cat_start form) (cat_lexed bytes)) ≡ x → v ≡ w
    by_items (Ok cs) e =
        sym (items_only form (cat_lexed bytes) cs v e r.means) ∙ items_only form (cat_lexed bytes)
        cs w e q.means
    by_items (Err (rule, offset)) e =
        absurd (no_fault form (cat_lexed bytes) v rule offset r.means
        (fault_found form (cat_lexed bytes) rule offset e))

pub few_threads : (bytes : List ℕ) (v : Content) → ReadsTest bytes v
    → length v.threads < 18446744073709551616
few_threads bytes v r =
    let t = r.text.tree in
    let l = lexed_length (first_stage kinds.Test) bytes in
    let short = r.short in
    let few = few_of t (test_lexing (first_stage kinds.Test) bytes) r.text.whole (omega (arith, l, short)) in
    let long : length v.threads ≡ t.others + 1 = ap (λ (c : Content). length c.threads) (sym r.meant) ∙ length-meaning 0 (t.others + 1) t.rows in
    omega (arith, long, few)
