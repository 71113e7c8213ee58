-- The names that the items of a model see are the same in a candidate and in its execution.
use Rattle.std.proofs.Common.{ℕ, ◌<◌, ◌↔◌, Bool, true, false, IsTrue, List, [], ◌∷◌, map, reverse, length}
use Rattle.predefined_names.specs.declared.predefined.Predefined.{Predefined}
use Rattle.predefined_names.specs.PredefinedNames.{spelling, is_set}
use Rattle.text_values.specs.ModelValue.{Clause, Binding, Function, Checking, Flagging, Showing, Including}
use Rattle.text_values.specs.TestValue.{Content}
use Rattle.base_names.specs.Candidate.{SetIn, RelationIn}
use Rattle.candidate_spaces.specs.Space.{Candidate}
use Rattle.cat_machine.specs.Executions.{events_of}
use Rattle.outcome_states.specs.Kept.{Flag, holds_at}
use Rattle.meaning.specs.Executions.{Event, Execution, IsEvent}
use Rattle.meaning.specs.Predefined.{EventsOf, PairsOf, predefined_names}
use Rattle.meaning.specs.Cat.{ASet, ARelation, ToMeaning, Names, choice_of, names_after, IsMet}
use Rattle.meaning.specs.Evaluates.{outermost, predefined_bound}
use Rattle.meaning_items.specs.Behind.{outer_bound}
use Rattle.meaning_items.specs.Slots.{candidate_value}
use Rattle.meaning_items.specs.Laws.{AreMeant}
use Rattle.meaning_executions.specs.Events.{named_events}
use Rattle.meaning_executions.proofs.Numbering.{named_once}
use Rattle.meaning_executions.specs.Names.{AreNamesMeant}
use Rattle.meaning_laws.proofs.Operators.{Same, sets, relations}
use Rattle.meaning_laws.proofs.Expressions.{meanings, SameNames, no_name, one_more}
use Rattle.meaning_laws.proofs.Extending.{Numbering, numbering, set_along, relation_along}
use Rattle.meaning_laws.proofs.Items.{after_same, met_same, all_met_same, flags_same}
use Rattle.meaning_states.specs.Kept.{IsMetAlike, CandidatesAreMetByName}

-- ---- a candidate and its execution

module _ (t : Content) (y : Execution) (one : Candidate) (named : AreNamesMeant t y one) where
  abbrev es : List Event
  es = named_events t y.runs

  N : Numbering es (length es)
  N = numbering es (named_once t y.runs) (length es)

  whole : (n : ℕ) → (n < events_of one) ↔ IsEvent t y (N.to n)
  whole =
      set_along es N (λ n. n < events_of one) (IsEvent t y) named.events.by_name
      named.events.by_number

  value_same : (p : Predefined)
      → Same N.to (candidate_value one p)
      (choice_of (is_set p) (ASet (EventsOf t y p)) (ARelation (PairsOf t y p)))
  value_same p = at (is_set p)
    where
      at : (b : Bool)
          → Same N.to
          (choice_of b (ASet (SetIn one.0 (events_of one) p))
          (ARelation (RelationIn p (events_of one) one.0 one.1.0 one.1.1)))
          (choice_of b (ASet (EventsOf t y p)) (ARelation (PairsOf t y p)))
      at true =
          sets _ _ (set_along es N _ _ (named.sets p).by_name (named.sets p).by_number)
      at false =
          relations _ _
          (relation_along es N _ _ (named.relations p).by_name (named.relations p).by_number)

  all_same : (ps : List Predefined)
      → SameNames N.to (map (λ p. (spelling p, ToMeaning (candidate_value one p))) ps)
      (map (λ p. (spelling p, predefined_bound t y p)) ps)
  all_same [] = no_name
  all_same (p ∷ ps) =
      one_more (spelling p) (ToMeaning (candidate_value one p)) (predefined_bound t y p)
      (map (λ q. (spelling q, ToMeaning (candidate_value one q))) ps)
      (map (λ q. (spelling q, predefined_bound t y q)) ps)
      (meanings (candidate_value one p) _ (value_same p)) (all_same ps)

  outer_same : SameNames N.to (outer_bound (candidate_value one)) (outermost t y)
  outer_same = all_same (reverse predefined_names)

  pub met_alike : (items : List Clause) → IsMetAlike t y one items
  met_alike items = record {
    checks =
        all_met_same N.to N.from N.there N.back (λ a. a < events_of one) (IsEvent t y) whole items
        (outer_bound (candidate_value one)) (outermost t y) outer_same;
    flags = λ i.
        flags_same N.to N.from N.there N.back (λ a. a < events_of one) (IsEvent t y) whole items i
        (outer_bound (candidate_value one)) (outermost t y) outer_same;
  }

  -- ---- answers

  chained : (a : Bool) (P Q : Type 0) → IsTrue a ↔ P → P ↔ Q → IsTrue a ↔ Q
  chained a P Q h g = (λ x. g.0 (h.0 x), λ q. h.1 (g.1 q))

  meant_from : (k : ℕ) (items : List Clause) (bs : Names ℕ) (cs : Names Event)
      → SameNames N.to bs cs → (checks : List (List Bool)) (flags : List Flag)
      → AreMeant k (λ a. a < events_of one) bs items checks flags
      → AreMeant k (IsEvent t y) cs items checks flags
  meant_from k [] bs cs h [] [] m = tt
  meant_from k [] bs cs h [] (f ∷ fs) m = absurd m
  meant_from k [] bs cs h (a ∷ answers) fs m = absurd m
  meant_from k (Checking check label ∷ items) bs cs h [] fs m = absurd m
  meant_from k (Checking check label ∷ items) bs cs h (a ∷ answers) fs m = (
    chained (holds_at k a) (IsMet (λ a. a < events_of one) bs check) (IsMet (IsEvent t y) cs check)
        m.0
        (met_same N.to N.from N.there N.back (λ a. a < events_of one) (IsEvent t y) whole check bs
        cs h),
    meant_from k items bs cs h answers fs m.1,
  )
  meant_from k (Flagging check name ∷ items) bs cs h answers [] m = absurd m
  meant_from k (Flagging check name ∷ items) bs cs h answers (f ∷ fs) m = (
    m.0,
    chained (holds_at k f.1) (IsMet (λ a. a < events_of one) bs check)
        (IsMet (IsEvent t y) cs check) m.1
        (met_same N.to N.from N.there N.back (λ a. a < events_of one) (IsEvent t y) whole check bs
        cs h),
    meant_from k items bs cs h answers fs m.2,
  )
  meant_from k (Binding recursive group ∷ items) bs cs h answers fs m =
      meant_from k items (names_after (λ a. a < events_of one) bs (Binding recursive group))
      (names_after (IsEvent t y) cs (Binding recursive group))
      (after_same N.to N.from N.there N.back (λ a. a < events_of one) (IsEvent t y) whole
      (Binding recursive group) bs cs h) answers fs m
  meant_from k (Function n ps body ∷ items) bs cs h answers fs m =
      meant_from k items (names_after (λ a. a < events_of one) bs (Function n ps body))
      (names_after (IsEvent t y) cs (Function n ps body))
      (after_same N.to N.from N.there N.back (λ a. a < events_of one) (IsEvent t y) whole
      (Function n ps body) bs cs h) answers fs m
  meant_from k (Showing hidden shown ∷ items) bs cs h answers fs m =
      meant_from k items (names_after (λ a. a < events_of one) bs (Showing hidden shown))
      (names_after (IsEvent t y) cs (Showing hidden shown))
      (after_same N.to N.from N.there N.back (λ a. a < events_of one) (IsEvent t y) whole
      (Showing hidden shown) bs cs h) answers fs m
  meant_from k (Including path ∷ items) bs cs h answers fs m =
      meant_from k items (names_after (λ a. a < events_of one) bs (Including path))
      (names_after (IsEvent t y) cs (Including path))
      (after_same N.to N.from N.there N.back (λ a. a < events_of one) (IsEvent t y) whole
      (Including path) bs cs h) answers fs m

  pub meant_alike : (k : ℕ) (items : List Clause) (checks : List (List Bool)) (flags : List Flag)
      → AreMeant k (λ a. a < events_of one) (outer_bound (candidate_value one)) items checks flags
      → AreMeant k (IsEvent t y) (outermost t y) items checks flags
  meant_alike k items checks flags m =
      meant_from k items (outer_bound (candidate_value one)) (outermost t y) outer_same checks flags
      m

pub met_by_name : CandidatesAreMetByName
met_by_name t y one named items = met_alike t y one named items
