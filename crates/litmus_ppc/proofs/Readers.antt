-- What the readers answer is what the grammar says.
use Rattle.std.proofs.Common.{◌≡◌, ℕ, ◌<◌, ◌≤◌, false, List, length, Ok, refl, sym, ap, ◌∙◌, inl, inr, ◌⊎◌}
use Rattle.std.proofs.lemmas.Bool.{cases_lt}
use Rattle.litmus_tokens.specs.declared.stage.Stage.TheVariants.{Tail}
use Rattle.litmus_tokens.specs.Texts.{test_tokens_of, test_lexing}
use Rattle.text_values.specs.declared.test.Quantifier.{Quantifier}
use Rattle.text_values.specs.TestValue.{Formula}
use Rattle.litmus_tokens.specs.Conditions.{condition_limits, tree_formula, IsConditionText}
use Rattle.litmus_ppc.specs.declared.fault.LitmusFault.{LitmusFault}
use Rattle.litmus_ppc.specs.declared.fault.LitmusFault.TheVariants as faults
use Rattle.litmus_grammar.specs.declared.parts.TextKind.TheVariants as kinds
use Rattle.litmus_grammar.specs.TextMachine.{TextState, TextResult, run_parts, text_start}
use Rattle.litmus_ppc.specs.TextReading.{FailsAt}
use Rattle.litmus_grammar.specs.Texts as texts
use Rattle.litmus_grammar.specs.Texts.{ReadsCondition, IsConditionFault}
use Rattle.litmus_ppc.specs.Faults as faults_of
use Rattle.litmus_ppc.specs.Faults.{IsLitmusFaultOf}
use Rattle.litmus_grammar.proofs.Bounds.{is_short}
use Rattle.litmus_grammar.proofs.Ends.{ends_done}
use Rattle.litmus_grammar.proofs.Runs.{same_state, ends_last}
use Rattle.litmus_grammar.proofs.Outcomes.{fault_found, no_fault}
use Rattle.litmus_grammar.proofs.Conditions.{condition_whole, condition_taken, condition_reading}

abbrev pair : Quantifier → Formula → Quantifier × Formula
pair q a = (q, a)

module _ (threads : ℕ) (few : threads < 18446744073709551616) (bytes : List ℕ) where
  abbrev made : TextResult
  made = run_parts (text_start kinds.Condition threads) (test_lexing Tail bytes)

  text_of : (s : TextState) → made ≡ Ok s
      → IsConditionText condition_limits threads (test_tokens_of (test_lexing Tail bytes))
  text_of s e =
      let l = ends_last Tail false 0 0 bytes in
      condition_whole threads few (test_lexing Tail bytes) s e (ends_done (text_start kinds.Condition threads)
      s l.0 l.1 (ap (run_parts (text_start kinds.Condition threads)) (sym l.2) ∙ e))

  meant_by : (s : TextState) → made ≡ Ok s
      → (x : IsConditionText condition_limits threads (test_tokens_of (test_lexing Tail bytes)))
      → pair x.quantifier (tree_formula x.condition) ≡ pair s.draft.quantifier s.draft.formula
  meant_by s e x =
      let t = condition_taken threads few (test_lexing Tail bytes) x in
      let same : t.0 ≡ s = same_state t.0 s (sym t.1 ∙ e) in
      ap (λ (q : Quantifier). pair q (tree_formula x.condition))
      (sym t.2 ∙ ap (λ (y : TextState). y.draft.quantifier) same)
      ∙ ap (λ (a : Formula). pair s.draft.quantifier a)
      (sym t.3 ∙ ap (λ (y : TextState). y.draft.formula) same)

  pub condition_found : (s : TextState) → (length bytes ≤ 65536 → made ≡ Ok s)
      → (65536 < length bytes → ⊥)
      → ReadsCondition threads bytes (s.draft.quantifier, s.draft.formula)
  condition_found s h bounded =
      let le = is_short bytes bounded in
      let x = text_of s (h le) in
      record { short = le; text = x; in_time = refl; meant = meant_by s (h le) x }

  pub condition_only : (s : TextState) → (length bytes ≤ 65536 → made ≡ Ok s)
      → (v : Quantifier × Formula) → ReadsCondition threads bytes v
      → pair s.draft.quantifier s.draft.formula ≡ v
  condition_only s h v r = sym (meant_by s (h r.short) r.text) ∙ r.meant

  pub condition_only_memory : (d : LitmusFault) → (length bytes ≤ 65536 → FailsAt d made)
      → (v : Quantifier × Formula) → ReadsCondition threads bytes v → faults_of.IsLitmusMemory d
  condition_only_memory (faults.OutOfMemory e) h v r = tt
  condition_only_memory (faults.Refused rule offset) h v r =
      no_fault (IsConditionText condition_limits threads) kinds.Condition threads
      (condition_reading threads few) (test_lexing Tail bytes) rule offset r.text (h r.short)

  pub condition_fault : (d : LitmusFault) → (length bytes ≤ 65536 → FailsAt d made)
      → (65536 < length bytes → faults_of.IsLitmusTooLong d)
      → IsLitmusFaultOf (IsConditionFault threads bytes) d
  condition_fault (faults.OutOfMemory e) h long = tt
  condition_fault (faults.Refused rule offset) h long = choose (cases_lt 65536 (length bytes))
    where
      choose : (65536 < length bytes) ⊎ (length bytes ≤ 65536)
          → IsConditionFault threads bytes rule offset
      choose (inl lt) = texts.IsTooLong lt (long lt).0 (long lt).1
      choose (inr le) =
          texts.IsGrammar le (fault_found (IsConditionText condition_limits threads) kinds.Condition threads
          (condition_reading threads few) (test_lexing Tail bytes) rule offset (h le))
