-- The later checks of the tokens of a text find one thing.
use Rattle.std.proofs.Common.{◌≡◌, ℕ, ◌+◌, ◌<◌, ◌≤◌, Bool, true, false, List, [], ◌∷◌, length, map, Option, Some, None, refl, sym, ap, ◌∙◌, subst, arith}
use Rattle.std.specs.Prelude.{if◌then◌else◌}
use Rattle.litmus_tokens.specs.declared.rule.LitmusRule.TheVariants as rules
use Rattle.litmus_tokens.specs.declared.token.Token.TheVariants as tokens
use Rattle.litmus_tokens.specs.declared.token.Mark.TheVariants as marks_of
use Rattle.litmus_tokens.specs.Texts.{TokenAt, test_tokens_of, test_lexing, StandsAt}
use Rattle.litmus_tokens.specs.Conditions.{condition_limits, place_meaning, tree_formula}
use Rattle.litmus_table.specs.Late.{Late, Note, Defines, Branches, or_else, is_in, defined, late_notes, first_late, columns_notes, thread_notes, late_columns}
use Rattle.litmus_table.specs.Laws.{LabelMark, Defined, Branched, label_marks, AreMarks, AreNoted}
use Rattle.litmus_words.specs.Machine.{ThreadSteps}
use Rattle.text_values.specs.declared.test.Step.{Step}
use Rattle.text_values.specs.declared.test.InitEntry.{InitEntry}
use Rattle.litmus_grammar.specs.declared.parts.TextKind.TheVariants as kinds
use Rattle.litmus_grammar.specs.Grammar.{members, TestTree, IsTestText, IsInitText, IsThreadText}
use Rattle.litmus_grammar.specs.InitMachine.{missing}
use Rattle.litmus_grammar.specs.Laws.{entry_kept, AreEntryStarts}
use Rattle.litmus_grammar.specs.TextMachine as text
use Rattle.litmus_grammar.specs.TextMachine.{TextState, threads_in, first_stage}
use Rattle.litmus_grammar.specs.Texts.{late_entries, late_of_test, late_of_init, late_of_thread, before_entries, before_rows}
use Rattle.litmus_grammar.proofs.Bodies.{length-meaning, length-steps}
use Rattle.litmus_grammar.proofs.Heads.{TakesTest, test_led, few_of}
use Rattle.litmus_grammar.proofs.InitAcceptance.{init_taken}
use Rattle.litmus_grammar.proofs.Inner.{lexed_length}
use Rattle.litmus_grammar.proofs.Passing.{test_at}
use Rattle.litmus_grammar.proofs.Runs.{same_state}
use Rattle.litmus_grammar.proofs.Tails.{with_all}
use Rattle.litmus_grammar.proofs.Threads.{thread_taken}
use Rattle.litmus_ppc.proofs.InitReaders.{Matches, late_matches}
use Rattle.text_reading_laws.proofs.LitmusFaults.{AreAlike}

module _ (ps : List TokenAt) where
  -- ---- two lists of notes whose labels are the same, at the same places

  abbrev AreSame : List Note → List Note → Type 0
  AreSame [] [] = Unit {0}
  AreSame (Defines w before ∷ ns) (Defines v other ∷ ks) =
      (w ≡ v) × (n : ℕ) × StandsAt ps before n × StandsAt ps other n × AreSame ns ks
  AreSame (Branches w before ∷ ns) (Branches v other ∷ ks) =
      (w ≡ v) × (n : ℕ) × StandsAt ps before n × StandsAt ps other n × AreSame ns ks
  AreSame ns ks = ⊥

  notes_same : (ns ks : List Note) (ms : List LabelMark) → AreMarks ps ns ms → AreMarks ps ks ms
      → AreSame ns ks
  notes_same [] [] ms a b = tt
  notes_same [] (k ∷ ks) [] a b = by_note k b
    where
      by_note : (k : Note) → AreMarks ps (k ∷ ks) [] → AreSame [] (k ∷ ks)
      by_note (Defines w before) b = absurd b
      by_note (Branches w before) b = absurd b
  notes_same [] (k ∷ ks) (m ∷ ms) a b = absurd a
  notes_same (Defines w before ∷ ns) ks [] a b = absurd a
  notes_same (Branches w before ∷ ns) ks [] a b = absurd a
  notes_same (Defines w before ∷ ns) ks (Branched v n ∷ ms) a b = absurd a
  notes_same (Branches w before ∷ ns) ks (Defined v n ∷ ms) a b = absurd a
  notes_same (Defines w before ∷ ns) [] (Defined v n ∷ ms) a b = absurd b
  notes_same (Defines w before ∷ ns) (Branches u other ∷ ks) (Defined v n ∷ ms) a b = absurd b
  notes_same (Defines w before ∷ ns) (Defines u other ∷ ks) (Defined v n ∷ ms) a b =
      (sym a.0 ∙ b.0, n, a.1, b.1, notes_same ns ks ms a.2 b.2)
  notes_same (Branches w before ∷ ns) [] (Branched v n ∷ ms) a b = absurd b
  notes_same (Branches w before ∷ ns) (Defines u other ∷ ks) (Branched v n ∷ ms) a b = absurd b
  notes_same (Branches w before ∷ ns) (Branches u other ∷ ks) (Branched v n ∷ ms) a b =
      (sym a.0 ∙ b.0, n, a.1, b.1, notes_same ns ks ms a.2 b.2)

  defined_same : (ns ks : List Note) → AreSame ns ks → defined ns ≡ defined ks
  defined_same [] [] a = refl
  defined_same [] (k ∷ ks) a = absurd a
  defined_same (Defines w before ∷ ns) [] a = absurd a
  defined_same (Branches w before ∷ ns) [] a = absurd a
  defined_same (Defines w before ∷ ns) (Branches v other ∷ ks) a = absurd a
  defined_same (Branches w before ∷ ns) (Defines v other ∷ ks) a = absurd a
  defined_same (Defines w before ∷ ns) (Defines v other ∷ ks) a =
      let tails = defined_same ns ks a.4 in λ i. a.0 i ∷ tails i
  defined_same (Branches w before ∷ ns) (Branches v other ∷ ks) a = defined_same ns ks a.4

  -- ---- what is found of them

  notes_alike : (above : List (List ℕ)) (ns ks : List Note) → AreSame ns ks
      → AreAlike ps (late_notes above ns) (late_notes above ks)
  notes_alike above [] [] a = tt
  notes_alike above [] (k ∷ ks) a = absurd a
  notes_alike above (Defines w before ∷ ns) [] a = absurd a
  notes_alike above (Branches w before ∷ ns) [] a = absurd a
  notes_alike above (Defines w before ∷ ns) (Branches v other ∷ ks) a = absurd a
  notes_alike above (Branches w before ∷ ns) (Defines v other ∷ ks) a = absurd a
  notes_alike above (Defines w before ∷ ns) (Defines v other ∷ ks) a =
      subst
      (λ (x : List ℕ). AreAlike ps (late_notes above (Defines w before ∷ ns))
      (late_notes above (Defines x other ∷ ks))) a.0
      (choose (notes_alike (w ∷ above) ns ks a.4) (is_in w above))
    where
      choose : AreAlike ps (late_notes (w ∷ above) ns) (late_notes (w ∷ above) ks) → (b : Bool)
          → AreAlike ps
          (if b then Some (record { rule = rules.Label; before = before })
          else late_notes (w ∷ above) ns)
          (if b then Some (record { rule = rules.Label; before = other })
          else late_notes (w ∷ above) ks)
      choose later true = (refl, a.1, a.2, a.3)
      choose later false = later
  notes_alike above (Branches w before ∷ ns) (Branches v other ∷ ks) a =
      subst
      (λ (x : List ℕ). AreAlike ps (late_notes above (Branches w before ∷ ns))
      (late_notes above (Branches x other ∷ ks))) a.0
      (subst
      (λ (ls : List (List ℕ)). AreAlike ps (late_notes above (Branches w before ∷ ns))
      (if is_in w above then Some (record { rule = rules.BackwardBranch; before = other })
      else (if is_in w ls then late_notes above ks
      else Some (record { rule = rules.Label; before = other }))))
      (defined_same ns ks a.4)
      (choose (notes_alike above ns ks a.4) (is_in w above) (is_in w (defined ns))))
    where
      choose : AreAlike ps (late_notes above ns) (late_notes above ks) → (b d : Bool)
          → AreAlike ps (if b then Some (record { rule = rules.BackwardBranch; before = before })
          else (if d then late_notes above ns
          else Some (record { rule = rules.Label; before = before })))
          (if b then Some (record { rule = rules.BackwardBranch; before = other })
          else (if d then late_notes above ks
          else Some (record { rule = rules.Label; before = other })))
      choose later true d = (refl, a.1, a.2, a.3)
      choose later false true = later
      choose later false false = (refl, a.1, a.2, a.3)

  or_alike : (a b c d : Option Late) → AreAlike ps a c → AreAlike ps b d
      → AreAlike ps (or_else a b) (or_else c d)
  or_alike None b None d x y = y
  or_alike None b (Some k) d x y = absurd x
  or_alike (Some l) b None d x y = absurd x
  or_alike (Some l) b (Some k) d x y = x

  columns_alike : (nss kss : List (List Note)) (ts : List ThreadSteps) → AreNoted ps nss ts
      → AreNoted ps kss ts → AreAlike ps (first_late nss) (first_late kss)
  columns_alike [] [] ts a b = tt
  columns_alike [] (ks ∷ kss) [] a b = absurd b
  columns_alike [] (ks ∷ kss) (t ∷ ts) a b = absurd a
  columns_alike (ns ∷ nss) kss [] a b = absurd a
  columns_alike (ns ∷ nss) [] (t ∷ ts) a b = absurd b
  columns_alike (ns ∷ nss) (ks ∷ kss) (t ∷ ts) a b =
      or_alike (late_notes [] ns) (first_late nss) (late_notes [] ks) (first_late kss)
      (notes_alike [] ns ks (notes_same ns ks (label_marks t.steps t.offsets) a.0.marked b.0.marked))
      (columns_alike nss kss ts a.1 b.1)

  matches_alike : (a b : Option Late) (n : Option ℕ) → Matches ps a n → Matches ps b n
      → AreAlike ps a b
  matches_alike None None n x y = tt
  matches_alike None (Some k) None x y = absurd y
  matches_alike None (Some k) (Some n) x y = absurd x
  matches_alike (Some l) b None x y = absurd x
  matches_alike (Some l) None (Some n) x y = absurd y
  matches_alike (Some l) (Some k) (Some n) x y = (x.0 ∙ sym y.0, n, x.1, y.1)

-- ---- tests

abbrev missing_in : TextState → Option ℕ
missing_in s =
    missing (threads_in s.kind s.threads s.draft) s.draft.init.entries s.draft.init.starts

abbrev late_init : TestTree → Option Late
late_init t = late_entries (t.others + 1) (before_entries t) (members t.init)

abbrev late_labels : TestTree → Option Late
late_labels t = late_columns 0 (t.others + 1) (before_rows t) t.rows

module _ (bytes : List ℕ) (le : length bytes ≤ 65536) where
  abbrev of_test : List TokenAt
  of_test = test_lexing (first_stage kinds.Test) bytes

  few_tokens : length of_test < 18446744073709551616
  few_tokens = let h = lexed_length (first_stage kinds.Test) bytes in omega (arith, h, le)

  -- what the machine keeps of a test
  record Keeps (s : TextState) (t : TestTree) : Type 0 where
    matches : Matches of_test (late_init t) (missing_in s)
    labels : AreNoted of_test (columns_notes 0 (t.others + 1) (before_rows t) t.rows)
        s.draft.table.threads

  keeps_by : (t : TestTree) → t.others + 1 < 18446744073709551616 → (r : TakesTest of_test t)
      → Keeps
      (test_at r.stage text.Done (with_all t.name r.block r.reached
      (map place_meaning (members t.observed)) t.quantifier (tree_formula t.condition))) t
  keeps_by t few r =
      let many : t.others + 1 ≡ length r.reached.threads = sym (sym (length-steps r.reached.threads) ∙ ap (λ (l : List (List Step)). length l) r.meant ∙ length-meaning 0 (t.others + 1) t.rows) in
      let m = late_matches (t.others + 1) few of_test (before_entries t) (members t.init) r.block.starts r.stand in
      record {
        matches =
            subst
            (λ (n : ℕ).
            Matches of_test (late_init t) (missing n r.block.entries r.block.starts)) many
            (subst
            (λ (es : List InitEntry).
            Matches of_test (late_init t) (missing (t.others + 1) es r.block.starts))
            (sym r.entries) m);
        labels = r.noted;
      }

  pub test_finds_one : (x y : IsTestText condition_limits (test_tokens_of of_test))
      → AreAlike of_test (late_of_test (test_tokens_of of_test) x) (late_of_test (test_tokens_of of_test) y)
  test_finds_one x y =
      let few_x = few_of x.tree of_test x.whole few_tokens in
      let few_y = few_of y.tree of_test y.whole few_tokens in
      let r = test_led x.tree x.fine few_x of_test x.whole in
      let q = test_led y.tree y.fine few_y of_test y.whole in
      let a = keeps_by x.tree few_x r in
      let b = subst (λ (s : TextState). Keeps s y.tree) (same_state _ _ (sym q.by ∙ r.by)) (keeps_by y.tree few_y q) in
      let s = test_at r.stage text.Done (with_all x.tree.name r.block r.reached (map place_meaning (members x.tree.observed)) x.tree.quantifier (tree_formula x.tree.condition)) in
      or_alike of_test (late_init x.tree) (late_labels x.tree) (late_init y.tree)
      (late_labels y.tree)
      (matches_alike of_test (late_init x.tree) (late_init y.tree) (missing_in s) a.matches
      b.matches)
      (columns_alike of_test (columns_notes 0 (x.tree.others + 1) (before_rows x.tree) x.tree.rows)
      (columns_notes 0 (y.tree.others + 1) (before_rows y.tree) y.tree.rows)
      s.draft.table.threads a.labels b.labels)

-- ---- threads

module _ (bytes : List ℕ) where
  abbrev of_thread : List TokenAt
  of_thread = test_lexing (first_stage kinds.Thread) bytes

  alone : (o : Option Late) → or_else o None ≡ o
  alone None = refl
  alone (Some l) = refl

  pub thread_finds_one : (x y : IsThreadText (test_tokens_of of_thread))
      → AreAlike of_thread (late_of_thread (test_tokens_of of_thread) x)
      (late_of_thread (test_tokens_of of_thread) y)
  thread_finds_one x y =
      let t = thread_taken 1 of_thread x in
      let u = thread_taken 1 of_thread y in
      let ns = thread_notes [] (x.tree.first ∷ x.tree.others) in
      let ks = thread_notes [] (y.tree.first ∷ y.tree.others) in
      let same = same_state _ _ (sym u.by ∙ t.by) in
      let noted : AreNoted of_thread (ks ∷ []) t.after.threads = subst (λ (s : TextState). AreNoted of_thread (ks ∷ []) s.draft.table.threads) same u.noted in
      let alike = columns_alike of_thread (ns ∷ []) (ks ∷ []) t.after.threads t.noted noted in
      subst (λ (o : Option Late). AreAlike of_thread o (late_notes [] ks))
      (alone (late_notes [] ns)) (subst
      (λ (o : Option Late). AreAlike of_thread (or_else (late_notes [] ns) None) o)
      (alone (late_notes [] ks)) alike)

-- ---- init blocks

module _ (threads : ℕ) (few : threads < 18446744073709551616) (bytes : List ℕ) where
  abbrev of_init : List TokenAt
  of_init = test_lexing (first_stage kinds.Init) bytes

  abbrev Holds : TextState → (x : IsInitText (test_tokens_of of_init)) → Type 0
  Holds s x =
      AreEntryStarts of_init (tokens.Mark marks_of.OpenBrace ∷ []) (members x.entries)
      s.draft.init.starts × (s.draft.init.entries ≡ map entry_kept (members x.entries))

  matches_of : (s : TextState) (x : IsInitText (test_tokens_of of_init)) → Holds s x
      → Matches of_init (late_of_init threads (test_tokens_of of_init) x)
      (missing threads s.draft.init.entries s.draft.init.starts)
  matches_of s x h =
      subst
      (λ (es : List InitEntry). Matches of_init (late_of_init threads (test_tokens_of of_init) x)
      (missing threads es s.draft.init.starts))
      (sym h.1)
      (late_matches threads few of_init (tokens.Mark marks_of.OpenBrace ∷ []) (members x.entries)
      s.draft.init.starts h.0)

  pub init_finds_one : (x y : IsInitText (test_tokens_of of_init))
      → AreAlike of_init (late_of_init threads (test_tokens_of of_init) x)
      (late_of_init threads (test_tokens_of of_init) y)
  init_finds_one x y =
      let t = init_taken threads x.entries of_init x.fine x.whole in
      let u = init_taken threads y.entries of_init y.fine y.whole in
      let same : u.state ≡ t.state = same_state u.state t.state (sym u.by ∙ t.by) in
      matches_alike of_init (late_of_init threads (test_tokens_of of_init) x)
      (late_of_init threads (test_tokens_of of_init) y) (missing threads t.state.draft.init.entries
      t.state.draft.init.starts)
      (matches_of t.state x (t.stand, t.entries)) (matches_of t.state y
      (subst (λ (s : TextState). Holds s y) same (u.stand, u.entries)))
