-- What a reader answers is what the grammar and the later checks say.
use Rattle.std.proofs.Common.{◌≡◌, ℕ, ◌<◌, ◌≤◌, List, ◌∷◌, ◌++◌, length, Option, Some, None, Result, Ok, Err, refl, sym, ap, ◌∙◌, subst, inl, inr, ◌⊎◌}
use Rattle.std.proofs.lemmas.Bool.{cases_lt}
use Rattle.litmus_tokens.specs.declared.token.Token.{Token}
use Rattle.litmus_tokens.specs.Texts.{TokenAt, test_tokens_of, test_lexing}
use Rattle.litmus_table.specs.Checks.{IsFoundAt}
use Rattle.litmus_table.specs.Late.{Late}
use Rattle.litmus_ppc.specs.declared.fault.LitmusFault.{LitmusFault}
use Rattle.litmus_ppc.specs.declared.fault.LitmusFault.TheVariants as faults
use Rattle.litmus_grammar.specs.declared.parts.TextKind.{TextKind}
use Rattle.litmus_grammar.specs.TextMachine.{TextState, TextResult, run_parts, text_start, first_stage}
use Rattle.litmus_grammar.specs.TextMachine as text
use Rattle.litmus_ppc.specs.TextReading.{FailsAt}
use Rattle.litmus_grammar.specs.Texts as texts
use Rattle.litmus_grammar.specs.Texts.{ReadsText, IsFaultAt}
use Rattle.litmus_ppc.specs.Faults.{IsLitmusTooLong, IsLitmusMemory, IsLateFound, IsLitmusFaultOf}
use Rattle.litmus_grammar.proofs.Bounds.{is_short}
use Rattle.litmus_grammar.proofs.Ends.{ends_done}
use Rattle.litmus_grammar.proofs.Inner.{AreInner, lexed_ends, lexed_inner}
use Rattle.litmus_grammar.proofs.Outcomes.{ReadingWhere, fault_where, no_fault_where}

-- what the later checks answered
abbrev refusal : LitmusFault → Result (Unit {0}) LitmusFault
refusal d = Err d

module _ (IsText : List Token → Type 0) (kind : TextKind) (threads : ℕ) (V : Type 0)
    (late : (ts : List Token) → IsText ts → Option Late) (value : (ts : List Token) → IsText ts → V)
    (known : ReadingWhere AreInner IsText kind threads)
    (whole : (ps : List TokenAt) (s : TextState) → run_parts (text_start kind threads) ps ≡ Ok s
    → s.part ≡ text.Done → IsText (test_tokens_of ps))
    (draft : TextState → V)
    (holds : (ps : List TokenAt) (s : TextState) (x : IsText (test_tokens_of ps))
    → run_parts (text_start kind threads) ps ≡ Ok s → draft s ≡ value (test_tokens_of ps) x)
    (bytes : List ℕ) where
  abbrev ps : List TokenAt
  ps = test_lexing (first_stage kind) bytes

  abbrev made : TextResult
  made = run_parts (text_start kind threads) ps

  fine : (before : List TokenAt) (p : TokenAt) (behind : List TokenAt) → ps ≡ before ++ p ∷ behind
      → AreInner (test_tokens_of before)
  fine = lexed_inner (first_stage kind) bytes

  text_of : (s : TextState) → made ≡ Ok s → IsText (test_tokens_of ps)
  text_of s e =
      let l = lexed_ends (first_stage kind) bytes in
      whole ps s e (ends_done (text_start kind threads) s l.inner l.offset
      (ap (run_parts (text_start kind threads)) (sym l.split) ∙ e))

  -- the later checks of this text find that
  abbrev Finds : Result (Unit {0}) LitmusFault → Type 0
  Finds r = (x : IsText (test_tokens_of ps)) → IsLateFound ps r (late (test_tokens_of ps) x)

  nothing_found : (o : Option Late) → IsFoundAt ps None o → o ≡ None
  nothing_found None f = refl
  nothing_found (Some l) f = absurd f

  pub text_found : (s : TextState) (u : Unit {0}) → (length bytes ≤ 65536 → made ≡ Ok s)
      → (65536 < length bytes → ⊥) → (length bytes ≤ 65536 → Finds (Ok u))
      → ReadsText IsText (first_stage kind) late value bytes (draft s)
  text_found s u h bounded finds =
      let le = is_short bytes bounded in
      let x = text_of s (h le) in
      record { short = le; text = x; in_time = nothing_found (late (test_tokens_of ps) x) (finds le x); meant = sym (holds ps s x (h le)) }

  pub text_only : (s : TextState) → (length bytes ≤ 65536 → made ≡ Ok s) → (v : V)
      → ReadsText IsText (first_stage kind) late value bytes v → draft s ≡ v
  text_only s h v r = holds ps s r.text (h r.short) ∙ r.meant

  -- where the text was refused
  pub text_only_memory : (d : LitmusFault) → (length bytes ≤ 65536 → FailsAt d made) → (v : V)
      → ReadsText IsText (first_stage kind) late value bytes v → IsLitmusMemory d
  text_only_memory (faults.OutOfMemory e) h v r = tt
  text_only_memory (faults.Refused rule offset) h v r =
      no_fault_where AreInner IsText kind threads known ps fine rule offset r.text (h r.short)

  -- where a later check refused it
  pub text_only_late : (d : LitmusFault) → (length bytes ≤ 65536 → Finds (refusal d)) → (v : V)
      → ReadsText IsText (first_stage kind) late value bytes v → IsLitmusMemory d
  text_only_late (faults.OutOfMemory e) finds v r = tt
  text_only_late (faults.Refused rule offset) finds v r =
      subst (IsFoundAt ps (Some (record { rule = rule; offset = offset }))) r.in_time
      (finds r.short r.text)

  pub text_fault : (d : LitmusFault) → (length bytes ≤ 65536 → FailsAt d made)
      → (65536 < length bytes → IsLitmusTooLong d)
      → IsLitmusFaultOf (IsFaultAt IsText (first_stage kind) late bytes) d
  text_fault (faults.OutOfMemory e) h long = tt
  text_fault (faults.Refused rule offset) h long = choose (cases_lt 65536 (length bytes))
    where
      choose : (65536 < length bytes) ⊎ (length bytes ≤ 65536)
          → IsFaultAt IsText (first_stage kind) late bytes rule offset
      choose (inl lt) = texts.IsTooLong lt (long lt).0 (long lt).1
      choose (inr le) =
          texts.IsGrammar le (fault_where AreInner IsText kind threads known ps fine rule offset
          (h le))

  pub text_fault_late : (d : LitmusFault) (s : TextState) → (length bytes ≤ 65536 → made ≡ Ok s)
      → (65536 < length bytes → ⊥) → (length bytes ≤ 65536 → Finds (refusal d))
      → IsLitmusFaultOf (IsFaultAt IsText (first_stage kind) late bytes) d
  text_fault_late (faults.OutOfMemory e) s h bounded finds = tt
  text_fault_late (faults.Refused rule offset) s h bounded finds =
      let le = is_short bytes bounded in
      let x = text_of s (h le) in
      by_found le x (late (test_tokens_of ps) x) refl (finds le x)
    where
      by_found : length bytes ≤ 65536 → (x : IsText (test_tokens_of ps)) (o : Option Late)
          → late (test_tokens_of ps) x ≡ o
          → IsFoundAt ps (Some (record { rule = rule; offset = offset })) o
          → IsFaultAt IsText (first_stage kind) late bytes rule offset
      by_found le x None e f = absurd f
      by_found le x (Some l) e f =
          texts.IsLater le (record {
            text = x;
            found = l;
            is_found = e;
            rule_is = sym f.0;
            stands = f.1;
          })
