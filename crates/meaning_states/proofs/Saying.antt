-- What an evaluation says is what the kept executions of the test say.
use Rattle.std.proofs.Common.{ℕ, zero, suc, ◌≡◌, ◌<◌, ◌↔◌, Bool, true, false, not, ◌&&◌, IsTrue, List, [], ◌∷◌, ◌++◌, map, length, All, AllPairs, Contains, Option, Some, None, option_map, slice_get, reverse, nat_eq, eqb-true, if◌then◌else◌, refl, sym, ap, ap₂, subst, ◌∙◌, arith, true≢false, is_eq, Less, ◌⊎◌, inl, inr}
use Rattle.std.specs.List.{AllByRecursion, AllZip}
use Rattle.std.specs.List.Sorted.{IsStrictlySortedBy}
use Rattle.std.proofs.lemmas.Bool.{and_parts}
use Rattle.std.proofs.lemmas.Cmp.{tied_itself}
use Rattle.std.proofs.lemmas.Option.{same_Some, slice_get-map}
use Rattle.std.proofs.lemmas.List.{length-map}
use Rattle.std.proofs.lemmas.List.Elements.{All-weaker, All-map, All-contains, recursion_from_All}
use Rattle.text_values.specs.declared.test.Test.{Test}
use Rattle.text_values.specs.declared.test.Place.{Place}
use Rattle.text_values.specs.declared.test.Quantifier.{Quantifier}
use Rattle.text_values.specs.declared.test.Quantifier.TheVariants.{Exists, NotExists, Forall}
use Rattle.text_values.specs.declared.model.Item.{Item}
use Rattle.text_values.specs.ModelValue.{Clause}
use Rattle.text_values.specs.ModelValues.{clauses_of}
use Rattle.text_values.specs.TestValue.{Content, Formula, Constant, Holds, Not, Join, content_of, formula_of}
use Rattle.thread_runs.specs.declared.value.Value as numbered_value
use Rattle.binding_kinds.specs.Outermost.{outermost_names}
use Rattle.binding_kinds.specs.Value.{bare_item}
use Rattle.binding_graph.specs.declared.resolved.ResolvedItem.{ResolvedItem}
use Rattle.binding_graph.specs.Resolved.{AreResolved, AreLabelledAs}
use Rattle.candidate_spaces.specs.declared.candidate.Space.{Space}
use Rattle.candidates.specs.Listed.{ListsExecutions, ShowsExecution}
use Rattle.candidate_spaces.specs.Space.{Candidate, Shown, candidates_in, shown_in, shown_of}
use Rattle.outcome_states.specs.declared.answer.CountedState as program_state
use Rattle.outcome_states.specs.declared.answer.Evaluation as program_evaluation
use Rattle.outcome_states.specs.declared.answer.Observation as program_observation
use Rattle.outcome_states.specs.declared.answer.Observation.TheVariants as observations
use Rattle.outcome_states.specs.declared.answer.FinalValue.{FinalValue}
use Rattle.outcome_states.specs.declared.observable.Observable.{Observable}
use Rattle.verdict.specs.Evaluated as program
use Rattle.verdict.specs.Evaluated.{IsStateOf, is_satisfied, number_that, values_of}
use Rattle.outcome_states.specs.Final.{final_value, final_state}
use Rattle.verdict.specs.Judgement as judged
use Rattle.outcome_states.specs.Kept.{Flag, is_kept, kept, raised_names}
use Rattle.outcome_states.specs.Meaning as program_meaning
use Rattle.outcome_states.specs.Meaning.{satisfies}
use Rattle.outcome_states.specs.Order.{state_cmp, is_state}
use Rattle.outcome_states.specs.Shown.{AreShown}
use Rattle.outcome_states.specs.Text.{place_of}
use Rattle.outcome_states.proofs.Orders.{is_state_same, state_total}
use Rattle.from_scratch.specs.Answers.{AreSaid}
use Rattle.from_scratch.specs.Cell.{IsEvaluationFrom}
use Rattle.meaning.specs.Sets.{IsOnce, HasCount}
use Rattle.meaning.specs.Names.{Name, locations}
use Rattle.meaning.specs.Executions.{Execution, IsExecution}
use Rattle.meaning.specs.Evaluates.{IsKept, MeetsFlag}
use Rattle.meaning.specs.Outcome.{CountedState, IsCounted, AreStates, IsStateBefore, EndsIn, EndsWith, Satisfies, observables_of, observables, observation_of, is_met, AreFlags}
use Rattle.meaning.proofs.Counting.{here, behind, head_or_tail}
use Rattle.meaning_executions.proofs.Lists.{as_long}
use Rattle.meaning_executions.specs.Executions.{IsSameExecution}
use Rattle.meaning_executions.proofs.Located.{numbered_are, rises}
use Rattle.meaning_items.specs.FunctionLaws.{AreFaultless}
use Rattle.meaning_items.proofs.Kept.{kept_are_met}
use Rattle.meaning_states.proofs.Carrying.{met_alike}
use Rattle.meaning_states.proofs.Listing.{IsPair, all_named, pair_at, names_of_pair}
use Rattle.meaning_states.proofs.Raised.{all_raised}
use Rattle.meaning_laws.specs.Words.{IsTestOfWords}
use Rattle.meaning_executions.specs.Satisfied.{IsShownAs}
use Rattle.meaning_executions.proofs.Conditions.{all_meant}
use Rattle.meaning_states.specs.ByName.{value_by_name, state_by_name, observation_by_name, evaluation_by_name}
use Rattle.meaning_states.specs.States.{IsEvaluationSaid, EvaluationsAreMeant}
use Rattle.meaning_states.specs.Texts.{IsPrinted, named_state_text, StatesArePrinted}
use Rattle.meaning_states.proofs.Picking.{with_first, no_pairs, beside, counted, some_passes, kept_there}
use Rattle.meaning_states.proofs.Printing.{same_text}
use Rattle.meaning_states.proofs.Showing.{from_image, image_there, known_place, are_beside}
use Rattle.meaning_states.proofs.Signed.{IsProper, state_before}
use Rattle.meaning_states.proofs.Finishing.{own_state, proper_state, same_state}

-- ---- words

some : (n : ℕ) → nat_eq (suc n) 0 ≡ false
some n = at (nat_eq (suc n) 0) refl
  where
    at : (b : Bool) → nat_eq (suc n) 0 ≡ b → b ≡ false
    at true e = absurd (let f : suc n ≡ 0 = eqb-true (suc n) 0 e in omega (arith, f))
    at false e = refl

abbrev words_of : Bool → Bool → program_observation.Observation
words_of none all =
    if none then observations.Never else (if all then observations.Always else observations.Sometimes)

same_observation : (p n : ℕ)
    → observation_by_name (judged.observation_of p n) ≡ observation_of p n
same_observation zero n = refl
same_observation (suc p) zero =
    ap (λ (b : Bool). observation_by_name (words_of b true)) (some p)
same_observation (suc p) (suc n) =
    ap₂ (λ (a b : Bool). observation_by_name (words_of a b)) (some p) (some n)

same_met : (q : Quantifier) (p n : ℕ) → judged.is_met q p n ≡ is_met q p n
same_met Exists p n = refl
same_met NotExists p n = refl
same_met Forall p n = refl

same_observables : (f : Formula) → program_meaning.observables_of f ≡ observables_of f
same_observables (Constant b) = refl
same_observables (Holds p v) = refl
same_observables (Not a) = same_observables a
same_observables (Join op a b) =
    ap₂ (λ (ps qs : List Place). ps ++ qs) (same_observables a) (same_observables b)

not_so : (b : Bool) (P : Type 0) → IsTrue b ↔ P → IsTrue (not b) ↔ (P → ⊥)
not_so true P h = (λ e. absurd (true≢false (sym e)), λ no. absurd (no (h.0 refl)))
not_so false P h = (λ e p. true≢false (sym (h.1 p)), λ no. refl)

and_both : (a b : Bool) → a ≡ true → b ≡ true → (a && b) ≡ true
and_both a b e f = ap₂ (λ (x y : Bool). x && y) e f

is_state_itself : (v : List FinalValue) → is_state v v ≡ true
is_state_itself v = ap is_eq (tied_itself state_total v)

-- the observables that are shown, as the test writes them
known_places : (ls : List Name) (ps : List Place) (os : List Observable)
    → AllZip (λ p o. program_meaning.known_observable ls p ≡ Some o) ps os
    → map (place_of ls) os ≡ ps
known_places ls [] [] known = refl
known_places ls [] (o ∷ os) known = absurd known
known_places ls (p ∷ ps) [] known = absurd known
known_places ls (p ∷ ps) (o ∷ os) known =
    ap₂ (λ (q : Place) (qs : List Place). q ∷ qs) (known_place ls p o known.0)
    (known_places ls ps os known.1)

-- ---- a test, and what the items of a model answer over its space

module _ (t : Test) (words : IsTestOfWords (content_of t)) (s : Space) (lists : ListsExecutions t s)
    (items : List Item) (resolved : List ResolvedItem) (faultless : AreFaultless items)
    (made : AreResolved [] [] outermost_names 0 (map bare_item items) resolved)
    (labelled : AreLabelledAs items resolved) (checks : List (List Bool)) (flags : List Flag)
    (said : AreSaid s (reverse resolved) checks flags) where
  abbrev content : Content
  content = content_of t

  abbrev names : List Name
  names = locations content

  abbrev clauses : List Clause
  clauses = clauses_of items

  abbrev Kept : Execution → Type 0
  Kept = IsKept content clauses

  abbrev xs : List Shown
  xs = shown_in s

  abbrev ys : List Execution
  ys = (all_named t s lists).named

  long : length xs ≡ length ys
  long =
      sym
      (sym (as_long (IsSameExecution content) lists.all ys (all_named t s lists).same)
      ∙ as_long (ShowsExecution lists.initial) lists.all xs lists.shown)

  once : IsOnce ys
  once = (all_named t s lists).all.once

  there_is : (y : Execution) → IsExecution content y → Contains ys y
  there_is y is = ((all_named t s lists).all.exact y).1 is

  kept_at : (k : ℕ) (y : Execution) → slice_get ys k ≡ Some y → IsTrue (is_kept checks k) ↔ Kept y
  kept_at k y there =
      let pair : IsPair t s lists k y = pair_at t s lists k y there in
      let met : _ =
      kept_are_met s items resolved faultless made labelled checks flags said k pair.one pair.at in
      let alike : _ =
      (met_alike content y pair.one (names_of_pair t s lists k y pair) clauses).checks in
      (λ h. (pair.is, alike.0 (met.0 h)), λ h. met.1 (alike.1 h.1))

  shown_at : (k : ℕ) (x : Shown) (y : Execution) → slice_get xs k ≡ Some x
      → slice_get ys k ≡ Some y → IsShownAs t y x
  shown_at k x y at there =
      let pair : IsPair t s lists k y = pair_at t s lists k y there in
      let is : shown_of s.registers.items pair.one ≡ x =
      same_Some _ _
      (sym
      (slice_get-map (shown_of s.registers.items) (candidates_in s.combinations.items) k
      ∙ ap (λ (o : Option Candidate). option_map (shown_of s.registers.items) o) pair.at)
      ∙ at) in
      record {
        program = lists.executions.program;
        of_test = lists.executions.of_test;
        values = lists.executions.values;
        execution = pair.execution;
        is = pair.is_one;
        by_name = pair.is;
        same = pair.same;
        shows =
            subst
            (λ (d : Shown). ShowsExecution lists.executions.program.initial.items pair.execution d)
            is pair.shows;
      }

  -- ---- how many

  -- as many candidates are kept and pass a test as executions are kept and pass it by name
  has_count : (f : Shown → Bool) (P : Execution → Type 0)
      → ((k : ℕ) (x : Shown) (y : Execution) → slice_get xs k ≡ Some x → slice_get ys k ≡ Some y
      → IsTrue (f x) ↔ P y)
      → (n : ℕ) → n ≡ number_that f (kept checks xs) → HasCount (λ y. Kept y × P y) n
  has_count f P alike n is =
      counted checks f xs ys long (λ y. Kept y × P y) once
      (λ k x y at there passes.
      let parts : _ = and_parts (is_kept checks k) (f x) passes in
      ((kept_at k y there).0 parts.0, (alike k x y at there).0 parts.1))
      (λ y h. there_is y h.0.0)
      (λ k x y at there h.
      and_both (is_kept checks k) (f x) ((kept_at k y there).1 h.0) ((alike k x y at there).1 h.1))
      n is

  condition_alike : (k : ℕ) (x : Shown) (y : Execution) → slice_get xs k ≡ Some x
      → slice_get ys k ≡ Some y
      → IsTrue (is_satisfied names content.condition x) ↔ Satisfies content y content.condition
  condition_alike k x y at there = all_meant t words y x (shown_at k x y at there)

  -- ---- states, over the observables that they show

  module _ (os : List Observable)
      (known : AllZip (λ p o. program_meaning.known_observable names p ≡ Some o)
      (observables content) os) where
    abbrev ended : program_state.CountedState → CountedState
    ended st = state_by_name names st

    -- some kept candidate ends in the state
    record HasEnd (st : program_state.CountedState) : Type 0 where
      pub index : ℕ
      pub candidate : Shown
      pub execution : Execution
      pub at : slice_get xs index ≡ Some candidate
      pub there : slice_get ys index ≡ Some execution
      pub is : st.values ≡ final_state os candidate

    abbrev IsOf : program_state.CountedState → Type 0
    IsOf st = IsStateOf names content.condition os (kept checks xs) st

    end_of : (st : program_state.CountedState) → IsOf st → HasEnd st
    end_of st of =
        let found : _ =
        some_passes checks (λ x. is_state st.values (final_state os x)) xs ys long
        (subst (λ (n : ℕ). 0 < n) of.count of.above) in
        record {
          index = found.0;
          candidate = found.1;
          execution = found.2;
          at = found.3;
          there = found.4;
          is =
              is_state_same st.values (final_state os found.1)
              (and_parts (is_kept checks found.0) (is_state st.values (final_state os found.1))
              found.5).1;
        }

    own_end : (k : ℕ) (x : Shown) (y : Execution) → slice_get xs k ≡ Some x
        → slice_get ys k ≡ Some y
        → EndsIn content y (map (value_by_name names) (final_state os x))
    own_end k x y at there =
        own_state t words y x (shown_at k x y at there) (observables content) os known

    ends_alike : (st : program_state.CountedState) → HasEnd st → (k : ℕ) (x : Shown)
        (y : Execution) → slice_get xs k ≡ Some x → slice_get ys k ≡ Some y
        → IsTrue (is_state st.values (final_state os x)) ↔ EndsIn content y (ended st).values
    ends_alike st end k x y at there = (
      λ h. subst (λ (vs : List FinalValue). EndsIn content y (map (value_by_name names) vs))
          (sym (is_state_same st.values (final_state os x) h)) (own_end k x y at there),
      λ h.
          let same : final_state os x ≡ final_state os end.candidate =
          same_state t words end.execution end.candidate
          (shown_at end.index end.candidate end.execution end.at end.there) y x
          (shown_at k x y at there) (observables content) os known
          (subst (λ (vs : List FinalValue). EndsIn content y (map (value_by_name names) vs)) end.is
          h) in
          ap (λ (vs : List FinalValue). is_state st.values vs) (same ∙ sym end.is)
          ∙ is_state_itself st.values,
    )

    state_counted : (st : program_state.CountedState) → IsOf st → IsCounted content Kept (ended st)
    state_counted st of = record {
      count =
          has_count (λ x. is_state st.values (final_state os x))
          (λ y. EndsIn content y (ended st).values) (ends_alike st (end_of st of)) st.count of.count;
      above = of.above;
      holds = λ y keeps ends.
          let b : _ = beside xs ys long y (there_is y keeps.0) in
          let same : st.values ≡ final_state os b.1 =
          is_state_same st.values (final_state os b.1)
          ((ends_alike st (end_of st of) b.0 b.1 y b.2 b.3).1 ends) in
          let is : st.holds ≡ satisfies names (final_value b.1) content.condition =
          of.holds (final_value b.1) same in
          let alike : _ = condition_alike b.0 b.1 y b.2 b.3 in
          (λ h. alike.0 (sym is ∙ h), λ h. is ∙ alike.1 h);
    }

    all_counted : (sts : List program_state.CountedState) → All IsOf sts
        → All (IsCounted content Kept) (map ended sts)
    all_counted sts of =
        All-map (IsCounted content Kept) ended sts
        (All-weaker IsOf (λ st. IsCounted content Kept (ended st)) state_counted sts of)

    -- ---- their order

    abbrev StatesRise : CountedState → CountedState → Type 0
    StatesRise r q = IsStateBefore r.values q.values

    proper_end : (st : program_state.CountedState) → HasEnd st
        → AllByRecursion (IsProper names) st.values
    proper_end st end =
        subst (λ (vs : List FinalValue). AllByRecursion (IsProper names) vs) (sym end.is)
        (proper_state t words end.execution end.candidate
        (shown_at end.index end.candidate end.execution end.at end.there) (observables content) os
        known)

    -- its text
    printed : (st : program_state.CountedState) → IsOf st → IsPrinted content st
    printed st of =
        of.text
        ∙ (same_text names os st.values (proper_end st (end_of st of))
        ∙ ap (λ (ps : List Place). named_state_text ps (map (value_by_name names) st.values))
        (known_places names (observables content) os known))

    all_printed : (sts : List program_state.CountedState) → All IsOf sts
        → All (IsPrinted content) sts
    all_printed sts of = All-weaker IsOf (IsPrinted content) printed sts of

    as_wide : (st : program_state.CountedState) → HasEnd st → length st.values ≡ length os
    as_wide st end =
        ap (λ (vs : List FinalValue). length vs) end.is
        ∙ length-map os (final_value end.candidate)

    before : (r q : program_state.CountedState) → HasEnd r → HasEnd q
        → state_cmp r.values q.values ≡ Less → StatesRise (ended r) (ended q)
    before r q first second less =
        state_before names (rises content) r.values q.values (proper_end r first)
        (proper_end q second) (as_wide r first ∙ sym (as_wide q second)) less

    first_before : (r : program_state.CountedState) → HasEnd r
        → (sts : List program_state.CountedState) → AllByRecursion HasEnd sts
        → AllByRecursion (λ vs. state_cmp r.values vs ≡ Less) (values_of sts)
        → (z : CountedState) → Contains (map ended sts) z → StatesRise (ended r) z
    first_before r end [] ends less z (k, lt, eq) = absurd (omega (arith, lt))
    first_before r end (q ∷ sts) ends less z c =
        by (head_or_tail (ended q) (map ended sts) z c)
        (λ d. first_before r end sts ends.1 less.1 z d)
      where
        by : (ended q ≡ z) ⊎ Contains (map ended sts) z
            → (Contains (map ended sts) z → StatesRise (ended r) z) → StatesRise (ended r) z
        by (inl same) rest =
            subst (λ (w : CountedState). StatesRise (ended r) w) same
            (before r q end ends.0 less.0)
        by (inr d) rest = rest d

    states_rise : (sts : List program_state.CountedState) → AllByRecursion HasEnd sts
        → IsStrictlySortedBy state_cmp (values_of sts) → AllPairs StatesRise (map ended sts)
    unfolding IsStrictlySortedBy
    states_rise [] ends sorted = no_pairs StatesRise
    states_rise (r ∷ sts) ends sorted =
        with_first StatesRise (ended r) (map ended sts)
        (first_before r ends.0 sts ends.1 sorted.0) (states_rise sts ends.1 sorted.1)

    all_ends : (sts : List program_state.CountedState) → AllByRecursion IsOf sts
        → AllByRecursion HasEnd sts
    all_ends [] of = tt
    all_ends (st ∷ sts) of = (end_of st of.0, all_ends sts of.1)

    -- ---- what an evaluation says over them

    module _ (e : program_evaluation.Evaluation)
        (says : program.Says names content.quantifier content.condition os (kept checks xs) flags
        e) where
      in_some : (y : Execution) → Kept y
          → (st : CountedState) × Contains (map ended e.states) st × EndsIn content y st.values
      in_some y keeps =
          let b : _ = beside xs ys long y (there_is y keeps.0) in
          let keep : is_kept checks b.0 ≡ true = (kept_at b.0 y b.3).1 keeps in
          let value : Contains (values_of e.states) (final_state os b.1) =
          All-contains (λ p. Contains (values_of e.states) (final_state os p.1)) (kept checks xs)
          (b.0, b.1) says.ended (kept_there checks xs b.0 b.1 b.2 keep) in
          let image : _ =
          from_image (λ (st : program_state.CountedState). st.values) e.states
          (final_state os b.1) value in (
            ended image.0,
            image_there ended e.states image.0 image.1,
            subst (λ (vs : List FinalValue). EndsIn content y (map (value_by_name names) vs))
                (sym image.2) (own_end b.0 b.1 y b.2 b.3),
          )

      are_states : AreStates content Kept (map ended e.states)
      are_states = record {
        rising =
            states_rise e.states (all_ends e.states (recursion_from_All IsOf e.states says.states))
            says.rising;
        counted = all_counted e.states says.states;
        whole = in_some;
      }

      pub is_said : IsEvaluationSaid content clauses (evaluation_by_name names e)
      is_said = record {
        states = are_states;
        positive =
            has_count (is_satisfied names content.condition)
            (λ y. Satisfies content y content.condition) condition_alike e.positive says.positive;
        negative =
            has_count (λ x. not (is_satisfied names content.condition x))
            (λ y. Satisfies content y content.condition → ⊥)
            (λ k x y at there.
            not_so (is_satisfied names content.condition x)
            (Satisfies content y content.condition) (condition_alike k x y at there))
            e.negative says.negative;
        observation =
            ap observation_by_name says.judged.0 ∙ same_observation e.positive e.negative;
        ok = says.judged.1 ∙ same_met content.quantifier e.positive e.negative;
        flags =
            subst
            (λ (ns : List Name). AreFlags (λ i. (y : Execution) × Kept y × MeetsFlag content clauses i y) clauses ns)
            (sym says.names)
            (all_raised t s lists items resolved faultless made labelled checks flags said);
      }

  abbrev NamedBy : List Name → program_evaluation.Evaluation → Type 0
  NamedBy ls e =
      program.IsEvaluation ls xs content.quantifier content.condition content.observed checks flags e

  pub evaluation_printed : (e : program_evaluation.Evaluation)
      → IsEvaluationFrom s t checks flags e → All (IsPrinted content) e.states
  evaluation_printed e evaluated =
      let by_name : NamedBy names e =
      subst (λ (ls : List Name). NamedBy ls e) (numbered_are t s.locations.items lists.locations)
      evaluated in
      let shown : AreShown names (observables_of content.condition ++ content.observed) by_name.0 =
      subst (λ (ps : List Place). AreShown names (ps ++ content.observed) by_name.0)
      (same_observables content.condition) by_name.1 in
      all_printed by_name.0 (are_beside content by_name.0 shown) e.states by_name.2.states

  pub evaluation_said : (e : program_evaluation.Evaluation) → IsEvaluationFrom s t checks flags e
      → IsEvaluationSaid content clauses (evaluation_by_name names e)
  evaluation_said e evaluated =
      let by_name : NamedBy names e =
      subst (λ (ls : List Name). NamedBy ls e) (numbered_are t s.locations.items lists.locations)
      evaluated in
      let shown : AreShown names (observables_of content.condition ++ content.observed) by_name.0 =
      subst (λ (ps : List Place). AreShown names (ps ++ content.observed) by_name.0)
      (same_observables content.condition) by_name.1 in
      is_said by_name.0 (are_beside content by_name.0 shown) e by_name.2

pub all_said : EvaluationsAreMeant
all_said t words s lists items resolved faultless made labelled e (checks, flags, said, evaluated) =
    evaluation_said t words s lists items resolved faultless made labelled checks flags said e
    evaluated

pub all_states_printed : StatesArePrinted
all_states_printed t words s lists items resolved faultless made labelled e
    (checks, flags, said, evaluated) =
    evaluation_printed t words s lists items resolved faultless made labelled checks flags said e
    evaluated
