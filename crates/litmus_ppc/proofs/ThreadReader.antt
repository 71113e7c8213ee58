-- What `read_thread` answers is what the grammar and the checks of labels say.
use Rattle.std.proofs.Common.{◌≡◌, ℕ, ◌<◌, ◌≤◌, List, [], ◌∷◌, length, Option, Some, None, Result, Ok, Err, refl, sym, ap, ◌∙◌, subst}
use Rattle.litmus_tokens.specs.Texts.{TokenAt, test_tokens_of, test_lexing}
use Rattle.text_values.specs.declared.test.Step.{Step}
use Rattle.litmus_table.specs.Grammar.{thread_meaning}
use Rattle.litmus_table.specs.Late.{Late, Note, or_else, late_notes, first_late, thread_notes}
use Rattle.litmus_table.specs.Laws.{steps_of, AreNoted}
use Rattle.litmus_words.specs.Machine as table
use Rattle.litmus_table.specs.Reading.{first_steps}
use Rattle.litmus_ppc.specs.declared.fault.LitmusFault.{LitmusFault}
use Rattle.litmus_grammar.specs.declared.parts.TextKind.TheVariants as kinds
use Rattle.litmus_grammar.specs.Grammar.{IsThreadText}
use Rattle.litmus_grammar.specs.TextMachine.{TextState, TextResult, run_parts, text_start, first_stage}
use Rattle.litmus_ppc.specs.TextReading.{FailsAt}
use Rattle.litmus_grammar.specs.Texts.{ReadsThread, IsThreadFault, late_of_thread}
use Rattle.litmus_ppc.specs.Faults.{IsLitmusTooLong, IsLitmusMemory, IsLateFound, IsLitmusFaultOf}
use Rattle.litmus_grammar.proofs.Runs.{same_state}
use Rattle.litmus_ppc.proofs.TextReaders.{text_found, text_only, text_only_memory, text_only_late, text_fault, text_fault_late}
use Rattle.litmus_grammar.proofs.Threads.{thread_taken, thread_whole, thread_reading}

abbrev kept_steps : TextState → List Step
kept_steps s = first_steps s.draft.table.threads

first_of_one : (ts : List table.ThreadSteps) (ss : List Step) → steps_of ts ≡ ss ∷ []
    → first_steps ts ≡ ss
first_of_one [] ss e = absurd cc
first_of_one (t ∷ ts) ss e = cc

steps_hold : (ps : List TokenAt) (s : TextState) (x : IsThreadText (test_tokens_of ps))
    → run_parts (text_start kinds.Thread 1) ps ≡ Ok s → kept_steps s ≡ thread_meaning x.tree
steps_hold ps s x e =
    let t = thread_taken 1 ps x in
    let same = same_state _ s (sym t.by ∙ e) in
    ap kept_steps (sym same) ∙ first_of_one t.after.threads (thread_meaning x.tree) t.meant

alone : (o : Option Late) → or_else o None ≡ o
alone None = refl
alone (Some l) = refl

module _ (bytes : List ℕ) where
  abbrev ps : List TokenAt
  ps = test_lexing (first_stage kinds.Thread) bytes

  abbrev made : TextResult
  made = run_parts (text_start kinds.Thread 1) ps

  -- what the check of labels answered
  abbrev Answered : TextState → Result (Unit {0}) LitmusFault → Type 0
  Answered s r =
      (given : List TokenAt) (notes : List (List Note)) → AreNoted given notes s.draft.table.threads
      → IsLateFound given r (first_late notes)

  finds : (s : TextState) (r : Result (Unit {0}) LitmusFault) → made ≡ Ok s → Answered s r
      → (x : IsThreadText (test_tokens_of ps)) → IsLateFound ps r (late_of_thread (test_tokens_of ps) x)
  finds s r e answered x =
      let t = thread_taken 1 ps x in
      let same = same_state _ s (sym t.by ∙ e) in
      let notes = thread_notes [] (x.tree.first ∷ x.tree.others) in
      subst (IsLateFound ps r) (alone (late_notes [] notes)) (answered ps (notes ∷ [])
      (subst (λ (y : TextState). AreNoted ps (notes ∷ []) y.draft.table.threads) same t.noted))

  pub thread_found : (s : TextState) (u : Unit {0}) → (length bytes ≤ 65536 → made ≡ Ok s)
      → (65536 < length bytes → ⊥) → Answered s (Ok u) → ReadsThread bytes (kept_steps s)
  thread_found s u h bounded answered =
      text_found IsThreadText kinds.Thread 1 (List Step) late_of_thread
      (λ ts t. thread_meaning t.tree) (thread_reading 1) (thread_whole 1) kept_steps steps_hold
      bytes s u h bounded (λ le. finds s (Ok u) (h le) answered)

  pub thread_only : (s : TextState) → (length bytes ≤ 65536 → made ≡ Ok s) → (v : List Step)
      → ReadsThread bytes v → kept_steps s ≡ v
  thread_only s h v r =
      text_only IsThreadText kinds.Thread 1 (List Step) late_of_thread
      (λ ts t. thread_meaning t.tree) (thread_reading 1) (thread_whole 1) kept_steps steps_hold
      bytes s h v r

  pub thread_only_memory : (d : LitmusFault) → (length bytes ≤ 65536 → FailsAt d made)
      → (v : List Step) → ReadsThread bytes v → IsLitmusMemory d
  thread_only_memory d h v r =
      text_only_memory IsThreadText kinds.Thread 1 (List Step) late_of_thread
      (λ ts t. thread_meaning t.tree) (thread_reading 1) (thread_whole 1) kept_steps steps_hold
      bytes d h v r

  pub thread_only_late : (s : TextState) (d : LitmusFault) → (length bytes ≤ 65536 → made ≡ Ok s)
      → Answered s (Err d) → (v : List Step) → ReadsThread bytes v → IsLitmusMemory d
  thread_only_late s d h answered v r =
      text_only_late IsThreadText kinds.Thread 1 (List Step) late_of_thread
      (λ ts t. thread_meaning t.tree) (thread_reading 1) (thread_whole 1) kept_steps steps_hold
      bytes d (λ le. finds s (Err d) (h le) answered) v r

  pub thread_fault : (d : LitmusFault) → (length bytes ≤ 65536 → FailsAt d made)
      → (65536 < length bytes → IsLitmusTooLong d) → IsLitmusFaultOf (IsThreadFault bytes) d
  thread_fault d h long =
      text_fault IsThreadText kinds.Thread 1 (List Step) late_of_thread
      (λ ts t. thread_meaning t.tree) (thread_reading 1) (thread_whole 1) kept_steps steps_hold
      bytes d h long

  pub thread_fault_late : (s : TextState) (d : LitmusFault) → (length bytes ≤ 65536 → made ≡ Ok s)
      → (65536 < length bytes → ⊥) → Answered s (Err d) → IsLitmusFaultOf (IsThreadFault bytes) d
  thread_fault_late s d h bounded answered =
      text_fault_late IsThreadText kinds.Thread 1 (List Step) late_of_thread
      (λ ts t. thread_meaning t.tree) (thread_reading 1) (thread_whole 1) kept_steps steps_hold
      bytes d s h bounded (λ le. finds s (Err d) (h le) answered)
