-- What the reader of an init block answers is what the grammar says.
use Rattle.std.proofs.Common.{◌≡◌, ℕ, ◌<◌, ◌≤◌, min, Bool, true, false, List, [], ◌∷◌, ◌++◌, length, map, Option, Some, None, Ok, Err, refl, sym, ap, ◌∙◌, subst, arith, inl, inr, ◌⊎◌}
use Rattle.std.specs.Prelude.{not, nat_le, nat_lt, if◌then◌else◌}
use Rattle.std.proofs.lemmas.Bool.{cases_lt}
use Rattle.std.proofs.lemmas.Bool.Decides.{nat_tests}
use Rattle.std.proofs.Math.Nat.{min-eq_left}
use Rattle.litmus_tokens.specs.declared.rule.LitmusRule.TheVariants as rules
use Rattle.litmus_tokens.specs.declared.stage.Stage.TheVariants.{Init}
use Rattle.litmus_tokens.specs.declared.token.Token.{Token}
use Rattle.litmus_tokens.specs.declared.token.Token.TheVariants as tokens
use Rattle.litmus_tokens.specs.declared.token.Mark.TheVariants as marks
use Rattle.litmus_tokens.specs.Texts.{TokenAt, test_tokens_of, test_lexing, StandsAt}
use Rattle.litmus_tokens.specs.Words.{decimal, register_of, or_zero}
use Rattle.text_values.specs.declared.test.Place.{Place}
use Rattle.text_values.specs.declared.test.Place.TheVariants as whole_places
use Rattle.text_values.specs.declared.test.InitEntry.{InitEntry}
use Rattle.litmus_tokens.specs.Conditions.{PlaceTree, Location, Register, place_meaning, value_meaning, written_place}
use Rattle.litmus_tokens.specs.PlaceMachine.{place_of}
use Rattle.litmus_table.specs.Late.{Late}
use Rattle.litmus_ppc.specs.declared.fault.LitmusFault.{LitmusFault}
use Rattle.litmus_ppc.specs.declared.fault.LitmusFault.TheVariants as faults
use Rattle.litmus_grammar.specs.declared.parts.TextKind.{TextKind}
use Rattle.litmus_grammar.specs.declared.parts.TextKind.TheVariants as kinds
use Rattle.litmus_grammar.specs.Grammar.{EntryTree, spelled_entry, members, entry_meaning, IsInitText}
use Rattle.litmus_grammar.specs.InitMachine.{lacks_thread, missing}
use Rattle.litmus_grammar.specs.TextMachine.{TextState, TextResult, run_parts, text_start, threads_in}
use Rattle.litmus_ppc.specs.TextReading.{FailsAt}
use Rattle.litmus_grammar.specs.Texts as texts
use Rattle.litmus_grammar.specs.Texts.{late_entries, late_of_init, ReadsInit, IsInitFault}
use Rattle.litmus_ppc.specs.Faults as faults_of
use Rattle.litmus_ppc.specs.Faults.{IsLitmusFaultOf}
use Rattle.litmus_grammar.proofs.Bounds.{is_short}
use Rattle.litmus_grammar.proofs.Ends.{ends_done}
use Rattle.litmus_grammar.proofs.InitLeft.{init_whole}
use Rattle.litmus_grammar.proofs.InitStarts.{init_reading}
use Rattle.litmus_grammar.specs.Laws.{entry_kept, AreEntryStarts}
use Rattle.litmus_grammar.proofs.InitAcceptance.{init_taken}
use Rattle.litmus_grammar.proofs.Outcomes.{fault_found, no_fault}
use Rattle.litmus_grammar.proofs.Runs.{same_state, ends_last, follows}

-- the place that is found is where the definitions find one
abbrev pub Matches : List TokenAt → Option Late → Option ℕ → Type 0
Matches all None None = Unit {0}
Matches all (Some l) (Some n) = (l.rule ≡ rules.Init) × StandsAt all l.before n
Matches all l n = ⊥

module _ (threads : ℕ) (few : threads < 18446744073709551616) where
  lacks_when : (d : ℕ) → (d < threads) ⊎ (threads ≤ d)
      → nat_le threads (min d 18446744073709551615) ≡ not (nat_lt d threads)
  lacks_when d (inl lt) =
      let le : d ≤ 18446744073709551615 = omega arith in
      let whole = min-eq_left le in
      let there : nat_lt d threads ≡ true = grind (arith, nat_tests) in
      let low : nat_le threads d ≡ false = grind (arith, nat_tests) in
      ap (nat_le threads) whole ∙ low ∙ ap not (sym there)
  lacks_when d (inr ge) =
      let there : nat_lt d threads ≡ false = grind (arith, nat_tests) in
      high (cases_lt 18446744073709551615 d) ∙ ap not (sym there)
    where
      high : (18446744073709551615 < d) ⊎ (d ≤ 18446744073709551615)
          → nat_le threads (min d 18446744073709551615) ≡ true
      high (inl more) =
          let le : threads ≤ min d 18446744073709551615 = omega arith in grind (arith, nat_tests)
      high (inr less) =
          let same = min-eq_left less in
          let le : threads ≤ min d 18446744073709551615 = omega arith in grind (arith, nat_tests)

  lacks_is : (p : PlaceTree)
      → lacks_thread threads (place_of (written_place p)) ≡ not (texts.names_thread threads p)
  lacks_is (Location b n) = refl
  lacks_is (Register t r) = lacks_when (decimal t) (cases_lt (decimal t) threads)

  pub late_matches : (all : List TokenAt) (before : List Token) (es : List EntryTree) (ss : List ℕ)
      → AreEntryStarts all before es ss
      → Matches all (late_entries threads before es) (missing threads (map entry_kept es) ss)
  late_matches all before [] [] h = tt
  late_matches all before [] (s ∷ ss) h = absurd h
  late_matches all before (e ∷ es) [] h = absurd h
  late_matches all before (e ∷ es) (s ∷ ss) h =
      let next = before ++ spelled_entry e (tokens.Mark marks.Semicolon ∷ []) in
      subst
      (λ (x : Bool). Matches all (late_entries threads before (e ∷ es))
      (if x then Some s else missing threads (map entry_kept es) ss))
      (sym (lacks_is e.place))
      (choose (texts.names_thread threads e.place) (late_matches all next es ss h.1))
    where
      choose : (x : Bool)
          → Matches all
          (late_entries threads (before ++ spelled_entry e (tokens.Mark marks.Semicolon ∷ []))
          es)
          (missing threads (map entry_kept es) ss)
          → Matches all
          (if x then late_entries threads
          (before ++ spelled_entry e (tokens.Mark marks.Semicolon ∷ [])) es
          else Some (record { rule = rules.Init; before = before }))
          (if not x then Some s else missing threads (map entry_kept es) ss)
      choose true later = later
      choose false later = (refl, h.0)

  place_kept : (p : PlaceTree) → texts.names_thread threads p ≡ true
      → place_of (written_place p) ≡ place_meaning p
  place_kept (Location b n) h = refl
  place_kept (Register t r) h =
      let lt : decimal t < threads = grind (arith, nat_tests) in
      let le : decimal t ≤ 18446744073709551615 = omega arith in
      ap (λ (k : ℕ). whole_places.Register k (or_zero (register_of r))) (min-eq_left le)

  pub kept_means : (before : List Token) (es : List EntryTree)
      → late_entries threads before es ≡ None → map entry_kept es ≡ map entry_meaning es
  kept_means before [] h = refl
  kept_means before (e ∷ es) h =
      choose (texts.names_thread threads e.place) refl h (kept_means
      (before ++ spelled_entry e (tokens.Mark marks.Semicolon ∷ [])) es)
    where
      choose : (x : Bool) → texts.names_thread threads e.place ≡ x
          → (if x then late_entries threads
          (before ++ spelled_entry e (tokens.Mark marks.Semicolon ∷ [])) es
          else Some (record { rule = rules.Init; before = before })) ≡ None
          → (late_entries threads (before ++ spelled_entry e (tokens.Mark marks.Semicolon ∷ [])) es
          ≡ None → map entry_kept es ≡ map entry_meaning es)
          → map entry_kept (e ∷ es) ≡ map entry_meaning (e ∷ es)
      choose true k h later =
          ap
          (λ (p : Place). record { place = p; value = value_meaning e.value }
          ∷ map entry_kept es)
          (place_kept e.place k)
          ∙ ap (λ (l : List InitEntry). entry_meaning e ∷ l) (later h)
      choose false k h later = absurd cc

  module _ (bytes : List ℕ) where
    abbrev text_tokens : List TokenAt
    text_tokens = test_lexing (Init true false) bytes

    abbrev made : TextResult
    made = run_parts (text_start kinds.Init threads) text_tokens

    abbrev missing_in : TextState → Option ℕ
    missing_in s =
        missing (threads_in s.kind s.threads s.draft) s.draft.init.entries s.draft.init.starts

    text_of : (s : TextState) → made ≡ Ok s → IsInitText (test_tokens_of text_tokens)
    text_of s e =
        let l = ends_last (Init true false) false 0 0 bytes in
        init_whole threads text_tokens s e (ends_done (text_start kinds.Init threads) s l.0 l.1
        (ap (run_parts (text_start kinds.Init threads)) (sym l.2) ∙ e))

    -- what the machine holds behind a text
    holds : (s : TextState) → made ≡ Ok s → (x : IsInitText (test_tokens_of text_tokens))
        → (s.draft.init.entries ≡ map entry_kept (members x.entries))
        × AreEntryStarts text_tokens (tokens.Mark marks.OpenBrace ∷ []) (members x.entries)
        s.draft.init.starts
    holds s e x =
        let t = init_taken threads x.entries text_tokens x.fine x.whole in
        let same : t.state ≡ s = same_state t.state s (sym t.by ∙ e) in
        subst
        (λ (y : TextState). (y.draft.init.entries ≡ map entry_kept (members x.entries))
        × AreEntryStarts text_tokens (tokens.Mark marks.OpenBrace ∷ []) (members x.entries)
        y.draft.init.starts) same
        (t.entries, t.stand)

    matches : (s : TextState) → made ≡ Ok s → (x : IsInitText (test_tokens_of text_tokens))
        → Matches text_tokens (late_of_init threads (test_tokens_of text_tokens) x) (missing_in s)
    matches s e x =
        let f = follows (text_start kinds.Init threads) s text_tokens e in
        let h = holds s e x in
        let given : threads_in s.kind s.threads s.draft ≡ threads = ap (λ (k : TextKind). threads_in k s.threads s.draft) f.kind ∙ f.threads in
        let same : missing_in s ≡ missing threads (map entry_kept (members x.entries)) s.draft.init.starts
        =
        ap (λ (n : ℕ). missing n s.draft.init.entries s.draft.init.starts) given
        ∙ ap (λ (es : List InitEntry). missing threads es s.draft.init.starts) h.0 in
        subst (Matches text_tokens (late_of_init threads (test_tokens_of text_tokens) x)) (sym same)
        (late_matches text_tokens (tokens.Mark marks.OpenBrace ∷ []) (members x.entries)
        s.draft.init.starts h.1)

    in_time : (l : Option Late) (n : Option ℕ) → Matches text_tokens l n → n ≡ None → l ≡ None
    in_time None n m e = refl
    in_time (Some l) None m e = absurd m
    in_time (Some l) (Some n) m e = absurd cc

    pub init_found : (s : TextState) → (length bytes ≤ 65536 → made ≡ Ok s) → (65536 < length bytes → ⊥)
        → missing_in s ≡ None → ReadsInit threads bytes s.draft.init.entries
    init_found s h bounded none =
        let le = is_short bytes bounded in
        let x = text_of s (h le) in
        let late = in_time (late_of_init threads (test_tokens_of text_tokens) x) (missing_in s) (matches s (h le) x) none in
        record { short = le; text = x; in_time = late; meant = sym (kept_means (tokens.Mark marks.OpenBrace ∷ []) (members x.entries) late) ∙ sym (holds s (h le) x).0 }

    pub init_only : (s : TextState) → (length bytes ≤ 65536 → made ≡ Ok s) → (v : List InitEntry)
        → ReadsInit threads bytes v → s.draft.init.entries ≡ v
    init_only s h v r =
        (holds s (h r.short) r.text).0
        ∙ kept_means (tokens.Mark marks.OpenBrace ∷ []) (members r.text.entries) r.in_time ∙ r.meant

    pub init_only_memory : (d : LitmusFault) → (length bytes ≤ 65536 → FailsAt d made)
        → (v : List InitEntry) → ReadsInit threads bytes v → faults_of.IsLitmusMemory d
    init_only_memory (faults.OutOfMemory e) h v r = tt
    init_only_memory (faults.Refused rule offset) h v r =
        no_fault (texts.IsStart IsInitText (Init true false)) kinds.Init threads
        (init_reading threads) text_tokens rule offset (texts.IsWhole r.text) (h r.short)

    pub init_only_there : (s : TextState) (d : LitmusFault) → (length bytes ≤ 65536 → made ≡ Ok s)
        → faults_of.IsMissingFound (Err d) (missing_in s) → (v : List InitEntry)
        → ReadsInit threads bytes v → faults_of.IsLitmusMemory d
    init_only_there s (faults.OutOfMemory e) h found v r = absurd found
    init_only_there s (faults.Refused rule offset) h found v r =
        let m = subst (Matches text_tokens (late_of_init threads (test_tokens_of text_tokens) r.text)) found.1 (matches s (h r.short) r.text) in
        subst (λ (l : Option Late). Matches text_tokens l (Some offset)) r.in_time m

    pub init_fault : (d : LitmusFault) → (length bytes ≤ 65536 → FailsAt d made)
        → (65536 < length bytes → faults_of.IsLitmusTooLong d) → IsLitmusFaultOf (IsInitFault threads bytes) d
    init_fault (faults.OutOfMemory e) h long = tt
    init_fault (faults.Refused rule offset) h long = choose (cases_lt 65536 (length bytes))
      where
        choose : (65536 < length bytes) ⊎ (length bytes ≤ 65536)
            → IsInitFault threads bytes rule offset
        choose (inl lt) = texts.IsTooLong lt (long lt).0 (long lt).1
        choose (inr le) =
            texts.IsGrammar le (fault_found (texts.IsStart IsInitText (Init true false)) kinds.Init
            threads (init_reading threads) text_tokens rule offset (h le))

    later_fault : (x : IsInitText (test_tokens_of text_tokens)) (l : Option Late) (offset : ℕ)
        → late_of_init threads (test_tokens_of text_tokens) x ≡ l → Matches text_tokens l (Some offset)
        → texts.IsLateFault (texts.IsStart IsInitText (Init true false)) (Init true false)
        (texts.late_of_start (late_of_init threads)) bytes rules.Init offset
    later_fault x (Some l) offset e m =
        record { text = texts.IsWhole x; found = l; is_found = e; rule_is = m.0; stands = m.1 }
    later_fault x None offset e m = absurd m

    pub init_missing : (s : TextState) (d : LitmusFault) → (length bytes ≤ 65536 → made ≡ Ok s)
        → (65536 < length bytes → ⊥) → faults_of.IsMissingFound (Err d) (missing_in s)
        → IsLitmusFaultOf (IsInitFault threads bytes) d
    init_missing s (faults.OutOfMemory e) h bounded found = tt
    init_missing s (faults.Refused rule offset) h bounded found =
        let le = is_short bytes bounded in
        let x = text_of s (h le) in
        let m = subst (Matches text_tokens (late_of_init threads (test_tokens_of text_tokens) x)) found.1 (matches s (h le) x) in
        texts.IsLater le (subst
        (λ (r : _). texts.IsLateFault (texts.IsStart IsInitText (Init true false))
        (Init true false) (texts.late_of_start (late_of_init threads)) bytes r offset)
        (sym found.0)
        (later_fault x (late_of_init threads (test_tokens_of text_tokens) x) offset refl m))
