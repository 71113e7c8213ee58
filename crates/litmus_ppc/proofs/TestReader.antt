-- What `read_test` answers is what the grammar and the later checks say.
use Rattle.std.proofs.Common.{◌≡◌, ℕ, ◌+◌, ◌<◌, ◌≤◌, List, map, length, Option, Some, None, Result, Ok, Err, refl, sym, ap, ◌∙◌, subst, arith, inl, inr, ◌⊎◌}
use Rattle.std.proofs.lemmas.Bool.{cases_lt}
use Rattle.litmus_tokens.specs.Texts.{TokenAt, test_tokens_of, test_lexing}
use Rattle.text_values.specs.declared.test.InitEntry.{InitEntry}
use Rattle.text_values.specs.declared.test.Step.{Step}
use Rattle.text_values.specs.TestValue.{Content}
use Rattle.litmus_tokens.specs.Conditions.{condition_limits, place_meaning, tree_formula}
use Rattle.litmus_table.specs.Checks.{IsFoundAt}
use Rattle.litmus_table.specs.Late.{Late, Note, or_else, first_late, columns_notes, late_columns}
use Rattle.litmus_table.specs.Laws.{steps_of, AreNoted}
use Rattle.litmus_ppc.specs.declared.fault.LitmusFault.{LitmusFault}
use Rattle.litmus_ppc.specs.declared.fault.LitmusFault.TheVariants as faults
use Rattle.litmus_grammar.specs.declared.parts.TextKind.TheVariants as kinds
use Rattle.litmus_grammar.specs.Grammar.{members, entry_meaning, TestTree, test_meaning, IsTestText}
use Rattle.litmus_grammar.specs.InitMachine.{missing}
use Rattle.litmus_grammar.specs.TextMachine.{TextState, TextResult, threads_in, run_parts, text_start, first_stage}
use Rattle.litmus_grammar.specs.TextMachine as text
use Rattle.litmus_ppc.specs.TextReading.{FailsAt, test_of}
use Rattle.litmus_grammar.specs.Texts as texts
use Rattle.litmus_grammar.specs.Texts.{ReadsTest, IsTestFault, IsWhole, late_entries, before_entries, before_rows}
use Rattle.litmus_ppc.specs.Faults.{IsLitmusTooLong, IsLitmusMemory, IsMissingFound, IsLateFound, IsLitmusFaultOf}
use Rattle.litmus_grammar.proofs.Bodies.{length-meaning, length-steps}
use Rattle.litmus_grammar.proofs.Bounds.{is_short}
use Rattle.litmus_grammar.proofs.Ends.{ends_done}
use Rattle.litmus_grammar.proofs.Heads.{TakesTest, test_led, test_whole, few_of}
use Rattle.litmus_ppc.proofs.InitReaders.{Matches, late_matches, kept_means}
use Rattle.litmus_grammar.proofs.Inner.{lexed_ends, lexed_length}
use Rattle.litmus_grammar.proofs.Outcomes.{not_both}
use Rattle.litmus_grammar.proofs.Passing.{test_at}
use Rattle.litmus_grammar.proofs.Tails.{with_all}
use Rattle.litmus_grammar.proofs.TestFaults.{test_fault_where}
use Rattle.litmus_grammar.proofs.Runs.{same_state}

abbrev pub missing_in : TextState → Option ℕ
missing_in s =
    missing (threads_in s.kind s.threads s.draft) s.draft.init.entries s.draft.init.starts

-- what the check of labels answered
abbrev pub Answered : TextState → Result (Unit {0}) LitmusFault → Type 0
Answered s r =
    (given : List TokenAt) (notes : List (List Note)) → AreNoted given notes s.draft.table.threads
    → IsLateFound given r (first_late notes)

abbrev late_init : TestTree → Option Late
late_init t = late_entries (t.others + 1) (before_entries t) (members t.init)

abbrev late_labels : TestTree → Option Late
late_labels t = late_columns 0 (t.others + 1) (before_rows t) t.rows

none_first : (a b : Option Late) → or_else a b ≡ None → a ≡ None
none_first None b e = refl
none_first (Some l) b e = absurd cc

none_second : (a b : Option Late) → or_else a b ≡ None → b ≡ None
none_second None b e = e
none_second (Some l) b e = absurd cc

none_both : (a b : Option Late) → a ≡ None → b ≡ None → or_else a b ≡ None
none_both None b e f = f
none_both (Some l) b e f = absurd cc

no_late : (ps : List TokenAt) (l : Option Late) (n : Option ℕ) → Matches ps l n → n ≡ None
    → l ≡ None
no_late ps None n m e = refl
no_late ps (Some l) None m e = absurd m
no_late ps (Some l) (Some n) m e = absurd cc

not_there : (ps : List TokenAt) (l : Option Late) (n : Option ℕ) (k : ℕ) → Matches ps l n
    → n ≡ Some k → l ≡ None → ⊥
not_there ps None None k m e f = absurd cc
not_there ps None (Some n) k m e f = m
not_there ps (Some l) n k m e f = absurd cc

nothing_found : (ps : List TokenAt) (o : Option Late) → IsFoundAt ps None o → o ≡ None
nothing_found ps None f = refl
nothing_found ps (Some l) f = absurd f

module _ (bytes : List ℕ) where
  abbrev ps : List TokenAt
  ps = test_lexing (first_stage kinds.Test) bytes

  abbrev made : TextResult
  made = run_parts (text_start kinds.Test 0) ps

  few_tokens : length bytes ≤ 65536 → length ps < 18446744073709551616
  few_tokens le = let h = lexed_length (first_stage kinds.Test) bytes in omega (arith, h, le)

  text_of : (s : TextState) → length bytes ≤ 65536 → made ≡ Ok s → IsTestText condition_limits (test_tokens_of ps)
  text_of s le e =
      let l = lexed_ends (first_stage kinds.Test) bytes in
      let d = ends_done (text_start kinds.Test 0) s l.inner l.offset (ap (run_parts (text_start kinds.Test 0)) (sym l.split) ∙ e) in
      let x = test_whole ps s (few_tokens le) e d in
      record { tree = x.tree; fine = x.fine; whole = x.whole }

  -- what the machine keeps of a test
  record Keeps (s : TextState) (t : TestTree) : Type 0 where
    matches : Matches ps (late_init t) (missing_in s)
    labels : AreNoted ps (columns_notes 0 (t.others + 1) (before_rows t) t.rows)
        s.draft.table.threads
    content : late_init t ≡ None → test_of s.draft ≡ test_meaning t

  keeps_by : (t : TestTree) → t.others + 1 < 18446744073709551616 → (r : TakesTest ps t)
      → Keeps
      (test_at r.stage text.Done (with_all t.name r.block r.reached
      (map place_meaning (members t.observed)) t.quantifier (tree_formula t.condition))) t
  keeps_by t few r =
      let many : t.others + 1 ≡ length r.reached.threads = sym (sym (length-steps r.reached.threads) ∙ ap (λ (l : List (List Step)). length l) r.meant ∙ length-meaning 0 (t.others + 1) t.rows) in
      let m = late_matches (t.others + 1) few ps (before_entries t) (members t.init) r.block.starts r.stand in
      record {
        matches =
            subst (λ (n : ℕ). Matches ps (late_init t) (missing n r.block.entries r.block.starts))
            many
            (subst
            (λ (es : List InitEntry).
            Matches ps (late_init t) (missing (t.others + 1) es r.block.starts))
            (sym r.entries) m);
        labels = r.noted;
        content = λ e.
            ap (λ (es : List InitEntry). with_entries es (steps_of r.reached.threads))
            (r.entries ∙ kept_means (t.others + 1) few (before_entries t) (members t.init) e)
            ∙ ap (λ (l : List (List Step)). with_entries (map entry_meaning (members t.init)) l)
            r.meant;
      }
    where
      with_entries : List InitEntry → List (List Step) → Content
      with_entries es l =
          record {
            name = t.name;
            init = es;
            threads = l;
            observed = map place_meaning (members t.observed);
            quantifier = t.quantifier;
            condition = tree_formula t.condition;
          }

  keeps : (s : TextState) → length bytes ≤ 65536 → made ≡ Ok s → (x : IsTestText condition_limits (test_tokens_of ps))
      → Keeps s x.tree
  keeps s le e x =
      let few = few_of x.tree ps x.whole (few_tokens le) in
      let r = test_led x.tree x.fine few ps x.whole in
      let same = same_state _ s (sym r.by ∙ e) in
      subst (λ (y : TextState). Keeps y x.tree) same (keeps_by x.tree few r)

  pub test_found : (s : TextState) (u : Unit {0}) → (length bytes ≤ 65536 → made ≡ Ok s)
      → (65536 < length bytes → ⊥) → missing_in s ≡ None → Answered s (Ok u)
      → ReadsTest bytes (test_of s.draft)
  test_found s u h bounded none answered =
      let le = is_short bytes bounded in
      let x = text_of s le (h le) in
      let k = keeps s le (h le) x in
      let a = no_late ps (late_init x.tree) (missing_in s) k.matches none in
      let b = nothing_found ps (late_labels x.tree) (answered ps (columns_notes 0 (x.tree.others + 1) (before_rows x.tree) x.tree.rows) k.labels) in
      record { short = le; text = x; in_time = none_both (late_init x.tree) (late_labels x.tree) a b; meant = sym (k.content a) }

  pub test_only : (s : TextState) → (length bytes ≤ 65536 → made ≡ Ok s) → (v : Content)
      → ReadsTest bytes v → test_of s.draft ≡ v
  test_only s h v r =
      (keeps s r.short (h r.short) r.text).content (none_first (late_init r.text.tree)
      (late_labels r.text.tree) r.in_time) ∙ r.meant

  pub test_only_memory : (d : LitmusFault) → (length bytes ≤ 65536 → FailsAt d made) → (v : Content)
      → ReadsTest bytes v → IsLitmusMemory d
  test_only_memory (faults.OutOfMemory e) h v r = tt
  test_only_memory (faults.Refused rule offset) h v r =
      let x = r.text in
      let t = test_led x.tree x.fine (few_of x.tree ps x.whole (few_tokens r.short)) ps x.whole in
      absurd (not_both (rule, offset) _ (sym (h r.short) ∙ t.by))

  pub test_only_missing : (s : TextState) (d : LitmusFault) → (length bytes ≤ 65536 → made ≡ Ok s)
      → IsMissingFound (Err d) (missing_in s) → (v : Content) → ReadsTest bytes v → IsLitmusMemory d
  test_only_missing s (faults.OutOfMemory e) h f v r = tt
  test_only_missing s (faults.Refused rule offset) h f v r =
      not_there ps (late_init r.text.tree) (missing_in s) offset
      (keeps s r.short (h r.short) r.text).matches f.1 (none_first (late_init r.text.tree)
      (late_labels r.text.tree) r.in_time)

  pub test_only_labels : (s : TextState) (d : LitmusFault) → (length bytes ≤ 65536 → made ≡ Ok s)
      → Answered s (Err d) → (v : Content) → ReadsTest bytes v → IsLitmusMemory d
  test_only_labels s (faults.OutOfMemory e) h answered v r = tt
  test_only_labels s (faults.Refused rule offset) h answered v r =
      let t = r.text.tree in
      let k = keeps s r.short (h r.short) r.text in
      subst (IsFoundAt ps (Some (record { rule = rule; offset = offset })))
      (none_second (late_init t) (late_labels t) r.in_time) (answered ps
      (columns_notes 0 (t.others + 1) (before_rows t) t.rows) k.labels)

  -- ---- the fault

  pub test_fault : (d : LitmusFault) → (length bytes ≤ 65536 → FailsAt d made)
      → (65536 < length bytes → IsLitmusTooLong d) → IsLitmusFaultOf (IsTestFault bytes) d
  test_fault (faults.OutOfMemory e) h long = tt
  test_fault (faults.Refused rule offset) h long = choose (cases_lt 65536 (length bytes))
    where
      choose : (65536 < length bytes) ⊎ (length bytes ≤ 65536) → IsTestFault bytes rule offset
      choose (inl lt) = texts.IsTooLong lt (long lt).0 (long lt).1
      choose (inr le) = texts.IsGrammar le (test_fault_where ps rule offset (few_tokens le) (h le))

  pub test_fault_missing : (s : TextState) (d : LitmusFault) → (length bytes ≤ 65536 → made ≡ Ok s)
      → (65536 < length bytes → ⊥) → IsMissingFound (Err d) (missing_in s)
      → IsLitmusFaultOf (IsTestFault bytes) d
  test_fault_missing s (faults.OutOfMemory e) h bounded f = tt
  test_fault_missing s (faults.Refused rule offset) h bounded f =
      by_found (late_init x.tree) refl (subst (Matches ps (late_init x.tree)) f.1
      (keeps s le (h le) x).matches)
    where
      le : length bytes ≤ 65536
      le = is_short bytes bounded

      x : IsTestText condition_limits (test_tokens_of ps)
      x = text_of s le (h le)

      by_found : (o : Option Late) → late_init x.tree ≡ o → Matches ps o (Some offset)
          → IsTestFault bytes rule offset
      by_found None e m = absurd m
      by_found (Some l) e m =
          texts.IsLater le (record {
            text = IsWhole x;
            found = l;
            is_found = ap (λ (o : Option Late). or_else o (late_labels x.tree)) e;
            rule_is = m.0 ∙ sym f.0;
            stands = m.1;
          })

  pub test_fault_labels : (s : TextState) (d : LitmusFault) → (length bytes ≤ 65536 → made ≡ Ok s)
      → (65536 < length bytes → ⊥) → missing_in s ≡ None → Answered s (Err d)
      → IsLitmusFaultOf (IsTestFault bytes) d
  test_fault_labels s (faults.OutOfMemory e) h bounded none answered = tt
  test_fault_labels s (faults.Refused rule offset) h bounded none answered =
      let k = keeps s le (h le) x in
      by_found (no_late ps (late_init x.tree) (missing_in s) k.matches none) (late_labels x.tree)
      refl (answered ps (columns_notes 0 (x.tree.others + 1) (before_rows x.tree) x.tree.rows)
      k.labels)
    where
      le : length bytes ≤ 65536
      le = is_short bytes bounded

      x : IsTestText condition_limits (test_tokens_of ps)
      x = text_of s le (h le)

      by_found : late_init x.tree ≡ None → (o : Option Late) → late_labels x.tree ≡ o
          → IsFoundAt ps (Some (record { rule = rule; offset = offset })) o
          → IsTestFault bytes rule offset
      by_found a None e f = absurd f
      by_found a (Some l) e f =
          texts.IsLater le (record {
            text = IsWhole x;
            found = l;
            is_found = ap (λ (o : Option Late). or_else o (late_labels x.tree)) a ∙ e;
            rule_is = sym f.0;
            stands = f.1;
          })
