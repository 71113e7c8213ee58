-- What the reader of a list of places answers is what the grammar says.
use Rattle.std.proofs.Common.{◌≡◌, ℕ, ◌<◌, ◌≤◌, false, List, length, map, Ok, refl, sym, ap, ◌∙◌, inl, inr, ◌⊎◌}
use Rattle.std.proofs.lemmas.Bool.{cases_lt}
use Rattle.litmus_tokens.specs.declared.stage.Stage.TheVariants.{Tail}
use Rattle.litmus_tokens.specs.Texts.{test_tokens_of, test_lexing}
use Rattle.text_values.specs.declared.test.Place.{Place}
use Rattle.litmus_tokens.specs.Conditions.{place_meaning}
use Rattle.litmus_ppc.specs.declared.fault.LitmusFault.{LitmusFault}
use Rattle.litmus_ppc.specs.declared.fault.LitmusFault.TheVariants as faults
use Rattle.litmus_grammar.specs.declared.parts.TextKind.TheVariants as kinds
use Rattle.litmus_grammar.specs.Grammar.{members, IsLocationsText}
use Rattle.litmus_grammar.specs.TextMachine.{TextState, TextResult, run_parts, text_start, nothing}
use Rattle.litmus_ppc.specs.TextReading.{FailsAt}
use Rattle.litmus_grammar.specs.Texts as texts
use Rattle.litmus_grammar.specs.Texts.{ReadsLocations, IsLocationsFault}
use Rattle.litmus_ppc.specs.Faults as faults_of
use Rattle.litmus_ppc.specs.Faults.{IsLitmusFaultOf}
use Rattle.litmus_grammar.proofs.Bounds.{is_short}
use Rattle.litmus_grammar.proofs.Ends.{ends_done}
use Rattle.litmus_grammar.proofs.Listed.{list_taken, list_reading}
use Rattle.litmus_grammar.proofs.Lists.{list_whole}
use Rattle.litmus_grammar.proofs.Outcomes.{fault_found, no_fault}
use Rattle.litmus_grammar.proofs.Runs.{same_state, ends_last}

module _ (threads : ℕ) (few : threads < 18446744073709551616) (bytes : List ℕ) where
  abbrev made : TextResult
  made = run_parts (text_start kinds.Locations threads) (test_lexing Tail bytes)

  text_of : (s : TextState) → made ≡ Ok s → IsLocationsText threads (test_tokens_of (test_lexing Tail bytes))
  text_of s e =
      let l = ends_last Tail false 0 0 bytes in
      list_whole threads (test_lexing Tail bytes) Tail (nothing kinds.Locations) s e (ends_done
      (text_start kinds.Locations threads) s l.0 l.1
      (ap (run_parts (text_start kinds.Locations threads)) (sym l.2) ∙ e))

  meant_by : (s : TextState) → made ≡ Ok s
      → (x : IsLocationsText threads (test_tokens_of (test_lexing Tail bytes)))
      → map place_meaning (members x.items) ≡ s.draft.observed
  meant_by s e x =
      let t = list_taken threads few (test_lexing Tail bytes) x in
      let same : t.0 ≡ s = same_state t.0 s (sym t.1 ∙ e) in
      sym t.2 ∙ ap (λ (y : TextState). y.draft.observed) same

  pub locations_found : (s : TextState) → (length bytes ≤ 65536 → made ≡ Ok s)
      → (65536 < length bytes → ⊥) → ReadsLocations threads bytes s.draft.observed
  locations_found s h bounded =
      let le = is_short bytes bounded in
      let x = text_of s (h le) in
      record { short = le; text = x; in_time = refl; meant = meant_by s (h le) x }

  pub locations_only : (s : TextState) → (length bytes ≤ 65536 → made ≡ Ok s) → (v : List Place)
      → ReadsLocations threads bytes v → s.draft.observed ≡ v
  locations_only s h v r = sym (meant_by s (h r.short) r.text) ∙ r.meant

  pub locations_only_memory : (d : LitmusFault) → (length bytes ≤ 65536 → FailsAt d made)
      → (v : List Place) → ReadsLocations threads bytes v → faults_of.IsLitmusMemory d
  locations_only_memory (faults.OutOfMemory e) h v r = tt
  locations_only_memory (faults.Refused rule offset) h v r =
      no_fault (IsLocationsText threads) kinds.Locations threads (list_reading threads few)
      (test_lexing Tail bytes) rule offset r.text (h r.short)

  pub locations_fault : (d : LitmusFault) → (length bytes ≤ 65536 → FailsAt d made)
      → (65536 < length bytes → faults_of.IsLitmusTooLong d)
      → IsLitmusFaultOf (IsLocationsFault threads bytes) d
  locations_fault (faults.OutOfMemory e) h long = tt
  locations_fault (faults.Refused rule offset) h long = choose (cases_lt 65536 (length bytes))
    where
      choose : (65536 < length bytes) ⊎ (length bytes ≤ 65536)
          → IsLocationsFault threads bytes rule offset
      choose (inl lt) = texts.IsTooLong lt (long lt).0 (long lt).1
      choose (inr le) =
          texts.IsGrammar le (fault_found (IsLocationsText threads) kinds.Locations threads
          (list_reading threads few) (test_lexing Tail bytes) rule offset (h le))
