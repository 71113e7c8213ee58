-- What shows a refusal by number shows it by name.
use Rattle.std.proofs.Common.{ℕ, zero, suc, ◌≡◌, ◌<◌, ◌+◌, ◌⊎◌, inl, inr, List, [], ◌∷◌, length, All, Option, Some, None, option_map, refl, sym, ap, subst, ◌∙◌, arith}
use Rattle.std.specs.List.{AllZip, AllByRecursion}
use Rattle.text_values.specs.declared.model.CheckWord.{CheckWord}
use Rattle.text_values.specs.declared.model.CheckWord.TheVariants as words
use Rattle.text_values.specs.ModelValue.{Clause}
use Rattle.text_values.specs.TestValue.{Content}
use Rattle.relation_cycles.specs.Cycles.{IsCycle}
use Rattle.candidate_spaces.specs.Space.{Candidate}
use Rattle.cat_machine.specs.Executions.{events_of}
use Rattle.why_walks.specs.Values.{IsOn}
use Rattle.why_witness.specs.declared.witness.Witness.{Witness}
use Rattle.why_witness.specs.declared.witness.Witness.TheVariants as shown
use Rattle.why_text.specs.declared.reason.Reason.{Reason}
use Rattle.why_text.specs.declared.reason.ToldStep.{ToldStep}
use Rattle.why_forbidden.specs.declared.checks.CheckValues.{CheckValues}
use Rattle.why_forbidden.specs.Labels.{Judgement}
use Rattle.why_forbidden.specs.Steps.{StepStart, AreStepStarts, AreStartsBack, AreToldSteps, AreStepsTo, IsToldStep, ends_of, ends_of_cycle, legs_to, next_event, start_at, starts_at}
use Rattle.meaning.specs.Sets.{Relation, Set}
use Rattle.meaning.specs.Executions.{Event, Execution}
use Rattle.meaning.specs.Cat.{Meaning, ASet, ARelation, Nothing, HasPair}
use Rattle.meaning_executions.specs.Names.{AreNamesMeant}
use Rattle.meaning_executions.proofs.Lists.{as_long}
use Rattle.meaning_laws.proofs.Operators.{Same, sets, relations, nothing}
use Rattle.meaning_answers.specs.Told.{IsPair, AreStepsOver, AnyTwo, IsShownBy}
use Rattle.meaning_answers.proofs.Carried.{event_at, numbered_at, pair_there}
use Rattle.meaning_answers.proofs.Coded.{IsShownByNumber}
use Rattle.meaning_answers.proofs.Steps.{LegsAre, LabelsAreSaid, AreRelated, long_legs, path_legs, walk_back, steps_lead}

module _ (t : Content) (y : Execution) (one : Candidate) (named : AreNamesMeant t y one)
    (items : List Clause) (j : Judgement) (k : ℕ) (cv : CheckValues)
    (labels : LabelsAreSaid t y one named items j cv.item k) where
  abbrev at : ℕ → Event
  at n = event_at t y one named n

  abbrev Related : Relation Event → ℕ → ℕ → Type 0
  Related Q a b = AreRelated t y one named items j cv.item k labels Q a b

  abbrev Any : ℕ → ℕ → Type 0
  Any b c = Related AnyTwo b c

  abbrev n : ℕ
  n = events_of one

  as_many : (starts : List StepStart) (end : ℕ) (steps : List ToldStep)
      → AreStepsTo j cv.item k starts end steps → length steps ≡ length starts
  as_many starts end steps h =
      sym (as_long (IsToldStep j cv.item k) (legs_to starts end) steps h) ∙ long_legs starts end

  -- a cycle
  cycle_said : (R : ℕ → ℕ → Type 0) (Q : Relation Event)
      → ((a b : ℕ) → R a b → Related Q a b) → (r : Reason) (events : List ℕ)
      (starts : List StepStart) → IsCycle R events
      → starts ≡ starts_at cv.check.now.code events
      → r.first ≡ option_map (λ ends. ends.0) (ends_of_cycle events)
      → AreToldSteps j cv.item k (ends_of_cycle events) starts r.steps.items
      → IsShownBy t y items words.Acyclic (ARelation Q) r
  cycle_said R Q to r [] starts cycle begins first told = absurd cycle
  cycle_said R Q to r (x ∷ xs) starts cycle begins first told =
      let steps : AreStepsTo j cv.item k (starts_at cv.check.now.code (x ∷ xs)) x r.steps.items =
      subst (λ (ss : List StepStart). AreStepsTo j cv.item k ss x r.steps.items) begins told in
      let long : length r.steps.items ≡ length (starts_at cv.check.now.code (x ∷ xs)) =
      as_many (starts_at cv.check.now.code (x ∷ xs)) x r.steps.items steps in (
        x,
        first,
        omega (arith, long),
        steps_lead t y one named items j cv.item k labels Q (starts_at cv.check.now.code (x ∷ xs)) x
            r.steps.items
            (path_legs (Related Q) cv.check.now.code R to x xs x cycle) steps,
      )

  -- any two of the events
  more : (ss : List StepStart) (end : ℕ) → LegsAre (λ b c. (b < n) × (c < n)) ss end
      → LegsAre Any ss end
  more [] end h = tt
  more (s ∷ ss) end h = ((h.0.0, h.0.1, tt), more ss end h.1)

  -- an event that is related to itself
  back_said : (Q : Relation Event) (a : ℕ) → Related Q a a
      → All (λ f. IsOn k n f.values) cv.factors.items → (r : Reason) (starts : List StepStart)
      → AreStartsBack cv k n a starts → r.first ≡ Some a
      → AreStepsTo j cv.item k starts a r.steps.items
      → IsShownBy t y items words.Irreflexive (ARelation Q) r
  back_said Q a related on r starts begins first told =
      let legs = by begins in
      let some : 0 < length starts = legs.0 in
      let long : length r.steps.items ≡ length starts = as_many starts a r.steps.items told in (
        a,
        first,
        omega (arith, long, some),
        pair_there t y one named Q a a related.0 related.1 related.2,
        subst (λ (m : ℕ). AreStepsOver t y items AnyTwo m r.steps.items a) legs.2
            (steps_lead t y one named items j cv.item k labels AnyTwo starts a r.steps.items legs.1 told),
      )
    where
      by : AreStartsBack cv k n a starts
          → (0 < length starts) × LegsAre Any starts a × (next_event starts a ≡ a)
      by (inl walk) =
          let back = walk_back k n walk.0.links cv.factors.items walk.0.runs a walk.0.linked on walk.0.walk in (
            walk.1,
            subst (λ (ss : List StepStart). LegsAre Any ss a) (sym walk.0.through)
                (more _ a back.0),
            subst (λ (ss : List StepStart). next_event ss a ≡ a) (sym walk.0.through) back.1,
          )
      by (inr whole) =
          subst
          (λ (ss : List StepStart). (0 < length ss) × LegsAre Any ss a × (next_event ss a ≡ a))
          (sym whole.0) (omega arith, ((related.0, related.1, tt), tt), refl)

  -- a pair
  pair_said : (Q : Relation Event) (a b : ℕ) → Related Q a b → (r : Reason)
      (starts : List StepStart) → starts ≡ start_at cv.check.now.code a ∷ []
      → r.first ≡ Some a → AreStepsTo j cv.item k starts b r.steps.items
      → IsShownBy t y items words.Empty (ARelation Q) r
  pair_said Q a b related r starts begins first told =
      let steps : AreStepsTo j cv.item k (start_at cv.check.now.code a ∷ []) b r.steps.items =
      subst (λ (ss : List StepStart). AreStepsTo j cv.item k ss b r.steps.items) begins told in (
        a,
        b,
        first,
        as_many (start_at cv.check.now.code a ∷ []) b r.steps.items steps,
        steps_lead t y one named items j cv.item k labels Q (start_at cv.check.now.code a ∷ []) b r.steps.items
            (related, tt) steps,
      )

  no_step : (starts : List StepStart) (end : ℕ) (steps : List ToldStep) → starts ≡ []
      → AreStepsTo j cv.item k starts end steps → steps ≡ []
  no_step starts end [] none told = refl
  no_step starts end (x ∷ steps) none told =
      absurd
      (let long : length (x ∷ steps) ≡ length starts = as_many starts end (x ∷ steps) told in
      let zeroth : length starts ≡ 0 = ap length none in omega (arith, long, zeroth))

  -- what shows it
  pub shown_said : (word : CheckWord) (m : Meaning ℕ) (e : Meaning Event) → Same at m e
      → ((a b : ℕ) → HasPair m a b → (a < n) × (b < n))
      → ((S : ℕ → Type 0) → m ≡ ASet S → (a : ℕ) → S a → a < n)
      → (word ≡ words.Irreflexive → All (λ f. IsOn k n f.values) cv.factors.items) → (w : Witness)
      → IsShownByNumber word m w → (r : Reason) (starts : List StepStart)
      → AreStepStarts cv k n w starts → r.first ≡ option_map (λ ends. ends.0) (ends_of w)
      → AreToldSteps j cv.item k (ends_of w) starts r.steps.items → IsShownBy t y items word e r
  shown_said words.Acyclic m e (relations R Q same) pairs members on (shown.Cycle events) h r starts begins first told =
      cycle_said R Q
      (λ a b p. let within = pairs a b p in (within.0, within.1, (same a b).0 p)) r events.items
      starts h begins first told
  shown_said words.Irreflexive m e (relations R Q same) pairs members on (shown.Reflexive a) h r starts begins first told =
      let within = pairs a a h in
      back_said Q a (within.0, within.1, (same a a).0 h) (on refl) r starts begins first told
  shown_said words.Empty m e (relations R Q same) pairs members on (shown.Pair a b) h r starts begins first told =
      let within = pairs a b h in
      pair_said Q a b (within.0, within.1, (same a b).0 h) r starts begins first told
  shown_said words.Empty m e (sets S T same) pairs members on (shown.Member a) h r starts begins first told = (
    a,
    first,
    no_step starts a r.steps.items begins told,
    (at a, numbered_at t y one named a (members S refl a h), (same a).0 h),
  )
  shown_said words.Empty m e (sets S T same) pairs members on (shown.Cycle events) h r starts begins first told =
      absurd h
  shown_said words.Empty m e (sets S T same) pairs members on (shown.Reflexive a) h r starts begins first told =
      absurd h
  shown_said words.Empty m e (sets S T same) pairs members on (shown.Pair a b) h r starts begins first told =
      absurd h
  shown_said words.Empty m e (sets S T same) pairs members on shown.Met h r starts begins first told =
      absurd h
  shown_said words.Acyclic m e (sets S T same) pairs members on w h r starts begins first told =
      absurd h
  shown_said words.Irreflexive m e (sets S T same) pairs members on w h r starts begins first told =
      absurd h
  shown_said words.Acyclic m e (relations R Q same) pairs members on (shown.Reflexive a) h r starts begins first told =
      absurd h
  shown_said words.Acyclic m e (relations R Q same) pairs members on (shown.Pair a b) h r starts begins first told =
      absurd h
  shown_said words.Acyclic m e (relations R Q same) pairs members on (shown.Member a) h r starts begins first told =
      absurd h
  shown_said words.Acyclic m e (relations R Q same) pairs members on shown.Met h r starts begins first told =
      absurd h
  shown_said words.Irreflexive m e (relations R Q same) pairs members on (shown.Cycle events) h r starts begins first told =
      absurd h
  shown_said words.Irreflexive m e (relations R Q same) pairs members on (shown.Pair a b) h r starts begins first told =
      absurd h
  shown_said words.Irreflexive m e (relations R Q same) pairs members on (shown.Member a) h r starts begins first told =
      absurd h
  shown_said words.Irreflexive m e (relations R Q same) pairs members on shown.Met h r starts begins first told =
      absurd h
  shown_said words.Empty m e (relations R Q same) pairs members on (shown.Cycle events) h r starts begins first told =
      absurd h
  shown_said words.Empty m e (relations R Q same) pairs members on (shown.Reflexive a) h r starts begins first told =
      absurd h
  shown_said words.Empty m e (relations R Q same) pairs members on (shown.Member a) h r starts begins first told =
      absurd h
  shown_said words.Empty m e (relations R Q same) pairs members on shown.Met h r starts begins first told =
      absurd h
  shown_said word m e nothing pairs members on w h r starts begins first told = absurd (none word w h)
    where
      none : (v : CheckWord) (u : Witness) → IsShownByNumber v Nothing u → ⊥
      none words.Acyclic u p = p
      none words.Irreflexive u p = p
      none words.Empty u p = p
