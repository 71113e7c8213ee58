-- What `why` says is so by the definitions.
use Rattle.std.proofs.Common.{ℕ, ◌≡◌, inl, inr, List, [], ◌∷◌, ◌++◌, refl, sym, ap, subst, ◌∙◌}
use Rattle.std.specs.Prelude.{codes}
use Rattle.text_values.specs.declared.model.ModelText.{ModelText}
use Rattle.text_values.specs.declared.test.Test.{Test}
use Rattle.text_values.specs.ModelValue.{Clause}
use Rattle.text_values.specs.ModelValues.{clauses_of}
use Rattle.text_values.specs.TestValue.{Content, content_of, formula_of}
use Rattle.litmus_printing.specs.Printing.{condition_text}
use Rattle.binding_kinds.specs.declared.fault.ModelFault as program_fault
use Rattle.binding_kinds.specs.Numbers as fault_numbers
use Rattle.binding_graph.specs.declared.resolved.ResolvedItem.{ResolvedItem}
use Rattle.ppc_lowering.specs.declared.fault.EvalRefusal.{EvalRefusal}
use Rattle.ppc_lowering.specs.Numbers as refusal_numbers
use Rattle.candidate_spaces.specs.declared.candidate.Space.{Space}
use Rattle.candidates.specs.Listed.{ListsExecutions, IsSpaceRefusal}
use Rattle.outcome_states.specs.declared.answer.Outcome.{Outcome}
use Rattle.outcome_states.specs.declared.answer.OutcomeResult.{OutcomeResult}
use Rattle.outcome_states.specs.declared.answer.OutcomeResult.TheVariants as results
use Rattle.outcome_states.specs.declared.answer.Refusal.TheVariants as reasons
use Rattle.from_scratch.specs.FromScratch.{AreItemsOf, IsFaultOf, IsFaultless, IsResultOf, IsFromScratch}
use Rattle.why_text.specs.declared.finding.Findings.{Findings}
use Rattle.why_text.specs.Findings.{findings_text}
use Rattle.why_forbidden.specs.declared.answer.Asked.{Asked}
use Rattle.why_forbidden.specs.Whys as program
use Rattle.why_forbidden.specs.Whys.{IsWhy, IsSaid, IsSaidOver, IsFoundText}
use Rattle.why_forbidden.proofs.Sound.{sound_items}
use Rattle.meaning.specs.Names.{Name, locations}
use Rattle.meaning.specs.Faults.{faults}
use Rattle.meaning.specs.Outcome.{Evaluation}
use Rattle.meaning.specs.Evaluates.{Evaluates, Evaluated}
use Rattle.meaning.proofs.Counting.{counts_are_one}
use Rattle.meaning_executions.proofs.Located.{numbered_are}
use Rattle.meaning_faults.proofs.Models.{no_fault_is_none}
use Rattle.meaning_executions.proofs.Finishing.{is_accepted}
use Rattle.meaning_laws.specs.Words.{IsTestOfWords}
use Rattle.meaning_outcomes.specs.Outcomes.{outcome_by_name}
use Rattle.meaning_outcomes.proofs.Meant.{all_meant}
use Rattle.meaning_answers.specs.Findings.{AreFindingsSaid, IsPositive, IsWhySaid, SaysFault, SaysRefusal, SaysFindings, head_text}
use Rattle.meaning_answers.specs.ReasonAnswers.{WhysAreSaid, WhysAgree}
use Rattle.meaning_answers.proofs.Findings.{findings_said}

module _ (test : Test) (words : IsTestOfWords (content_of test)) (model : ModelText) where
  abbrev content : Content
  content = content_of test

  abbrev clauses : List Clause
  clauses = clauses_of model.items.items

  -- the outcome with this result
  abbrev outcome : OutcomeResult → Outcome
  outcome r = record {
    kind = test.condition.quantifier;
    condition = condition_text test.condition.quantifier (formula_of test.condition.proposition);
    result = r;
  }

  pub result_said : (r : OutcomeResult) → IsResultOf test model r
      → Evaluates content clauses (outcome_by_name (locations content) r)
  result_said r h =
      let from_scratch : IsFromScratch test model (outcome r) =
      record { kind = refl; condition = refl; result = h } in
      all_meant test words model (outcome r) from_scratch

  module _ (asked : Asked) where
    -- the text is the lines of the head and these
    abbrev Says : List ℕ → Type 0
    Says more = (text : List ℕ) → text ≡ head_text content ++ more → IsWhySaid asked content clauses text

    fault_said : (k : program_fault.ModelFault) → IsFaultOf model k → (more : List ℕ)
        → more ≡ program.refusal_text (codes "M") (fault_numbers.number k) → Says more
    fault_said k h more is text whole =
        SaysFault k (result_said (results.Refused (reasons.Model k)) h)
        (whole ∙ ap (λ (xs : List ℕ). head_text content ++ xs) is)

    refusal_said : (r : EvalRefusal) → IsFaultless model → IsSpaceRefusal test r → (more : List ℕ)
        → more ≡ program.refusal_text (codes "E") (refusal_numbers.number r) → Says more
    refusal_said r none h more is text whole =
        SaysRefusal r (result_said (results.Refused (reasons.Space r)) (none, h))
        (whole ∙ ap (λ (xs : List ℕ). head_text content ++ xs) is)

    found_said : (resolved : List ResolvedItem) → IsFaultless model → AreItemsOf model resolved
        → (s : Space) → ListsExecutions test s → (more : List ℕ)
        → IsFoundText asked test model resolved s more → Says more
    found_said resolved none of s lists more h text whole =
        SaysFindings ((no_fault_is_none model.items.items).0 none) (is_accepted test s lists) h.findings
        (findings_said test words s lists model.items.items resolved none of.0 of.1 h.found h.columns
        (sound_items model resolved none of).0 h.checks h.each_check h.all_checks _ refl refl h.bound h.each_name h.findings
        h.gathered)
        (whole
        ∙ ap (λ (xs : List ℕ). head_text content ++ xs) h.told
        ∙ ap
        (λ (names : List Name). head_text content ++ findings_text asked.is_forbidden names h.findings)
        (numbered_are test s.locations.items lists.locations))

    said : (more : List ℕ) → IsSaid asked test model more → Says more
    said more (inl h) text whole = over h.said
      where
        over : IsSaidOver asked test model h.items more → IsWhySaid asked content clauses text
        over (inl found) =
            found_said h.items h.faultless h.resolved found.0 found.1 more found.2 text whole
        over (inr refused) =
            refusal_said refused.0 h.faultless refused.1 more refused.2 text whole
    said more (inr fault) text whole = fault_said fault.0 fault.1 more fault.2 text whole

    pub why_said : (text : List ℕ) → IsWhy asked test model text
        → IsWhySaid asked content clauses text
    why_said text h = said h.more h.said text h.text

pub whys_said : WhysAreSaid
whys_said asked test words model text h = why_said test words model asked text h

pub whys_agree : WhysAgree
whys_agree t items f e found says =
    counts_are_one (IsPositive t items) f.kept e.positive found.kept says.2.positive
