-- What is found of the candidates of a test is found of its executions.
use Rattle.std.proofs.Common.{ℕ, zero, suc, ◌≡◌, ◌+◌, ◌==◌, List, [], ◌∷◌, ◌++◌, length, map, reverse, Bool, true, false, eqb-true, All, Some, if◌then◌else◌, add-one, refl, sym, ap, subst, ◌∙◌, arith, true≢false}
use Rattle.std.specs.Prelude.{slice_get}
use Rattle.std.specs.List.{AllZip}
use Rattle.std.proofs.lemmas.List.{length-append}
use Rattle.text_values.specs.declared.model.Item.{Item}
use Rattle.text_values.specs.declared.test.Test.{Test}
use Rattle.text_values.specs.ModelValue.{Clause}
use Rattle.text_values.specs.ModelValues.{clauses_of}
use Rattle.text_values.specs.TestValue.{Content, content_of}
use Rattle.binding_kinds.specs.Outermost.{outermost_names}
use Rattle.binding_kinds.specs.Value.{bare_item}
use Rattle.binding_graph.specs.declared.resolved.ResolvedItem.{ResolvedItem}
use Rattle.binding_graph.specs.Resolved.{AreResolved, AreLabelledAs}
use Rattle.binding_graph.proofs.Labels.{zip_push}
use Rattle.candidate_spaces.specs.declared.candidate.Space.{Space}
use Rattle.candidates.specs.Listed.{ListsExecutions}
use Rattle.candidate_spaces.specs.Space.{candidate_count}
use Rattle.from_scratch.specs.declared.cell.ItemAnswers.{ItemAnswers}
use Rattle.from_scratch.specs.Answers.{AreOrdered}
use Rattle.from_scratch.specs.Known.{HasAllColumns}
use Rattle.why_text.specs.declared.event.ToldEvent.{ToldEvent}
use Rattle.why_text.specs.declared.finding.Findings.{Findings}
use Rattle.why_text.specs.declared.reason.Reason.{Reason}
use Rattle.why_forbidden.specs.declared.checks.CheckValues.{CheckValues}
use Rattle.why_forbidden.specs.Checked.{IsChecked, check_indexes, checked_items}
use Rattle.why_forbidden.specs.Labels.{Judgement}
use Rattle.why_forbidden.specs.Language.{IsOfLanguage}
use Rattle.why_forbidden.specs.Outcomes.{Case, IsOther, IsKeptCandidate, IsForbiddenCandidate, AreFindings, NoCandidate, OtherNext, KeptNext, ForbiddenNext, first_shown}
use Rattle.meaning.specs.Names.{Name}
use Rattle.meaning.specs.Executions.{Execution, IsExecution, IsEvent}
use Rattle.meaning.specs.Evaluates.{outermost, IsKept}
use Rattle.meaning.specs.Outcome.{Satisfies}
use Rattle.meaning_executions.proofs.Located.{numbered_are}
use Rattle.meaning_executions.specs.Events.{events_in}
use Rattle.meaning_executions.proofs.Lists.{member}
use Rattle.meaning_items.specs.FunctionLaws.{AreFaultless}
use Rattle.meaning_states.proofs.Listing.{all_named}
use Rattle.meaning_laws.specs.Words.{IsTestOfWords}
use Rattle.meaning_answers.specs.Told.{IsEventTold, IsReasonSaid}
use Rattle.meaning_answers.specs.Findings as said
use Rattle.meaning_answers.specs.Findings.{IsForbidden, AreShownEvents, AreFindingsSaid}
use Rattle.meaning_answers.proofs.Events.{program_told}
use Rattle.meaning_answers.proofs.Found.{AreChosen, none_chosen, one_left, one_more, all_chosen, executions, long, twice, listed, found_at, pair, condition_alike, events_are}
use Rattle.meaning_answers.proofs.Meeting.{one_met}
use Rattle.meaning_answers.proofs.Reasons.{kept_by_name, reason_said}

-- ---- a test under a model

module _ (t : Test) (words : IsTestOfWords (content_of t)) (s : Space) (lists : ListsExecutions t s)
    (is : List Item) (resolved : List ResolvedItem) (faultless : AreFaultless is)
    (made : AreResolved [] [] outermost_names 0 (map bare_item is) resolved)
    (labelled : AreLabelledAs is resolved) (answers : ItemAnswers)
    (known : HasAllColumns s resolved answers) (ordered : AreOrdered (reverse resolved))
    (cvs : List CheckValues) (each : All (IsChecked s answers.columns.items resolved) cvs)
    (all : checked_items cvs ≡ check_indexes 0 resolved) (j : Judgement) (text_is : j.text ≡ is)
    (items_are : j.items ≡ resolved) (bound_are : j.values.bound.now ≡ answers.columns.items)
    (language : All (IsOfLanguage s) j.values.predefined.now) where
  abbrev content : Content
  content = content_of t

  abbrev clauses : List Clause
  clauses = clauses_of is

  abbrev ys : List Execution
  ys = executions t words s lists

  abbrev case : Case
  case = record { test = t; space = s; model = j; checks = cvs }

  -- ---- what is found before an index

  abbrev IsPositive : Execution → Type 0
  IsPositive = said.IsPositive content clauses

  abbrev IsRefused : Execution → Type 0
  IsRefused = IsForbidden content clauses

  pub record AreGathered (k kept : ℕ) (shown : List ToldEvent) (reasons : List Reason) : Type 0 where
    pub witnesses : List Execution
    pub chosen : AreChosen IsPositive ys (twice t words s lists) k witnesses
    pub count : kept ≡ length witnesses
    pub forbidden : List Execution
    pub refused : AreChosen IsRefused ys (twice t words s lists) k forbidden
    pub told : AllZip (IsReasonSaid content clauses) forbidden reasons
    pub events : AreShownEvents content clauses kept shown

  other_next : (k kept : ℕ) (shown : List ToldEvent) (reasons : List Reason)
      → AreGathered k kept shown reasons → IsOther case k → AreGathered (k + 1) kept shown reasons
  other_next k kept shown reasons before other =
      let found = found_at t words s lists k other.candidate.shown other.candidate.stands in
      let y : Execution = found.execution in
      let never : Satisfies content y content.condition → ⊥ =
      λ holds. true≢false
      (sym ((condition_alike t words s lists k other.candidate.shown other.candidate.stands y found.there).1 holds)
      ∙ other.candidate.holds) in
      record {
        witnesses = before.witnesses;
        chosen =
            one_left IsPositive ys (twice t words s lists) k before.witnesses before.chosen y found.there
            (λ p. never p.1);
        count = before.count;
        forbidden = before.forbidden;
        refused =
            one_left IsRefused ys (twice t words s lists) k before.forbidden before.refused y found.there
            (λ p. never p.1);
        told = before.told;
        events = before.events;
      }

  other : (i : ℕ) → (suc i == 0) ≡ false
  other i = at (suc i == 0) refl
    where
      at : (b : Bool) → (suc i == 0) ≡ b → b ≡ false
      at true e = absurd (let f : suc i ≡ 0 = eqb-true (suc i) 0 e in omega (arith, f))
      at false e = refl

  more_shown : (kept : ℕ) (shown events : List ToldEvent) → AreShownEvents content clauses kept shown
      → AreShownEvents content clauses (suc zero) events
      → AreShownEvents content clauses (kept + 1) (first_shown kept shown events)
  more_shown zero shown events old new = new
  more_shown (suc n) shown events old new =
      subst (λ (i : ℕ). AreShownEvents content clauses i (first_shown (suc n) shown events))
      (sym (add-one (suc n)))
      (subst
      (λ (b : Bool). AreShownEvents content clauses (suc (suc n)) (if b then events else shown))
      (sym (other n)) old)

  kept_next : (k kept : ℕ) (shown events : List ToldEvent) (reasons : List Reason)
      → AreGathered k kept shown reasons → IsKeptCandidate case k events
      → AreGathered (k + 1) (kept + 1) (first_shown kept shown events) reasons
  kept_next k kept shown events reasons before h =
      let found = found_at t words s lists k h.candidate.shown h.candidate.stands in
      let y : Execution = found.execution in
      let holds : Satisfies content y content.condition =
      (condition_alike t words s lists k h.candidate.shown h.candidate.stands y found.there).0 h.candidate.holds in
      let keeps : IsKept content clauses y =
      kept_by_name t s lists is resolved faultless made labelled answers known ordered k y found.there
      cvs each all h.accepted in
      let told : AllZip (IsEventTold content y) (events_in 0 y.runs) events =
      subst (λ (es : List ToldEvent). AllZip (IsEventTold content y) (events_in 0 y.runs) es)
      (sym h.told)
      (program_told t s lists k y
      (pair t words s lists k h.candidate.shown h.candidate.stands y found.there) h.scene
      (events_are t words s lists k h.candidate.shown h.candidate.stands y found.there h.scene h.candidate.events)
      (length s.locations.items)
      (ap (λ (names : List Name). length names) (numbered_are t s.locations.items lists.locations))) in
      record {
        witnesses = before.witnesses ++ y ∷ [];
        chosen =
            one_more IsPositive ys (twice t words s lists) k before.witnesses before.chosen y found.there
            (keeps, holds);
        count =
            let was : kept ≡ length before.witnesses = before.count in
            let longer : length (before.witnesses ++ y ∷ []) ≡ length before.witnesses + 1 =
            length-append before.witnesses (y ∷ []) in omega (arith, was, longer);
        forbidden = before.forbidden;
        refused =
            one_left IsRefused ys (twice t words s lists) k before.forbidden before.refused y found.there
            (λ p. p.2 keeps);
        told = before.told;
        events = more_shown kept shown events before.events (y, (keeps, holds), told);
      }

  forbidden_next : (k kept : ℕ) (shown : List ToldEvent) (reasons : List Reason) (reason : Reason)
      → AreGathered k kept shown reasons → IsForbiddenCandidate case k reason
      → AreGathered (k + 1) kept shown (reasons ++ reason ∷ [])
  forbidden_next k kept shown reasons reason before h =
      let found = found_at t words s lists k h.candidate.shown h.candidate.stands in
      let y : Execution = found.execution in
      let holds : Satisfies content y content.condition =
      (condition_alike t words s lists k h.candidate.shown h.candidate.stands y found.there).0 h.candidate.holds in
      let told : IsReasonSaid content clauses y reason =
      reason_said t s lists is resolved faultless made labelled answers known ordered k y found.there
      cvs each all h.first h.refuses (h.told).check (h.told).here j text_is items_are bound_are language h.scene h.candidate.number
      (events_are t words s lists k h.candidate.shown h.candidate.stands y found.there h.scene h.candidate.events)
      reason (h.told).told in
      let out : IsKept content clauses y → ⊥ =
      λ keeps. told.first.unmet
      (one_met (IsEvent content y) (outermost content y) clauses keeps.1 told.index _
      told.first.stands) in
      record {
        witnesses = before.witnesses;
        chosen =
            one_left IsPositive ys (twice t words s lists) k before.witnesses before.chosen y found.there
            (λ p. out p.0);
        count = before.count;
        forbidden = before.forbidden ++ y ∷ [];
        refused =
            one_more IsRefused ys (twice t words s lists) k before.forbidden before.refused y found.there
            (pair_is k y found.there, holds, out);
        told =
            zip_push (IsReasonSaid content clauses) before.forbidden reasons y reason before.told told;
        events = before.events;
      }
    where
      pair_is : (i : ℕ) (z : Execution) → slice_get ys i ≡ Some z → IsExecution content z
      pair_is i z e = ((all_named t s lists).all.exact z).0 (member ys i z e)

  gathered : (k kept : ℕ) (shown : List ToldEvent) (reasons : List Reason)
      → AreFindings case k kept shown reasons → AreGathered k kept shown reasons
  gathered k kept shown reasons NoCandidate = record {
    witnesses = [];
    chosen = none_chosen IsPositive ys (twice t words s lists);
    count = refl;
    forbidden = [];
    refused = none_chosen IsRefused ys (twice t words s lists);
    told = tt;
    events = refl;
  }
  gathered k kept shown reasons (OtherNext i n events rs before other) =
      other_next i n events rs (gathered i n events rs before) other
  gathered k kept shown reasons (KeptNext i n old events rs before h) =
      kept_next i n old events rs (gathered i n old rs before) h
  gathered k kept shown reasons (ForbiddenNext i n events rs reason before h) =
      forbidden_next i n events rs reason (gathered i n events rs before) h

  -- what is found of all
  pub findings_said : (f : Findings)
      → AreFindings case (candidate_count s) f.kept f.shown.items f.reasons.items
      → AreFindingsSaid content clauses f
  findings_said f h =
      let g : AreGathered (candidate_count s) f.kept f.shown.items f.reasons.items =
      gathered (candidate_count s) f.kept f.shown.items f.reasons.items h in
      record {
        kept = (
          g.witnesses,
          all_chosen IsPositive ys (twice t words s lists) (candidate_count s) g.witnesses g.chosen (long t words s lists)
              (λ z p. listed t words s lists z p.0.0),
          g.count,
        );
        shown = g.events;
        forbidden = g.forbidden;
        all =
            all_chosen IsRefused ys (twice t words s lists) (candidate_count s) g.forbidden g.refused (long t words s lists)
            (λ z p. listed t words s lists z p.0);
        reasons = g.told;
      }
