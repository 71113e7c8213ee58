-- What a model means of the numbers of a candidate it means of the events of its execution.
use Rattle.std.proofs.Common.{ℕ, ◌≡◌, ◌<◌, ◌↔◌, true, false, List, [], ◌∷◌, map, reverse, length, take, sym, subst}
use Rattle.predefined_names.specs.declared.predefined.Predefined.{Predefined}
use Rattle.predefined_names.specs.PredefinedNames.{spelling, is_set}
use Rattle.text_values.specs.ModelValue.{Term, Checked, Clause, Binding, Function, Checking, Flagging, Showing, Including}
use Rattle.text_values.specs.TestValue.{Content}
use Rattle.base_names.specs.Candidate.{SetIn, RelationIn}
use Rattle.candidate_spaces.specs.Space.{Candidate}
use Rattle.cat_machine.specs.Executions.{events_of}
use Rattle.meaning.specs.Names.{Name}
use Rattle.meaning.specs.Sets.{Set, Relation}
use Rattle.meaning.specs.Executions.{Event, Execution, IsEvent}
use Rattle.meaning.specs.Predefined.{EventsOf, PairsOf, predefined_names}
use Rattle.meaning.specs.Cat.{ASet, ARelation, ToMeaning, Names, HasPair, IsChosen, Least, choice_of, meaning_of, names_after, with_group, IsMet, AreMet}
use Rattle.meaning.specs.Evaluates.{outermost, predefined_bound}
use Rattle.meaning_items.specs.Behind.{bound_behind, outer_bound}
use Rattle.meaning_items.specs.Slots.{candidate_value}
use Rattle.meaning_executions.specs.Events.{IsNumbered, named_events}
use Rattle.meaning_executions.proofs.Numbering.{named_once}
use Rattle.meaning_executions.specs.Names.{AreNamesMeant}
use Rattle.meaning_laws.proofs.Operators.{Same, sets, relations, pair_same}
use Rattle.meaning_laws.proofs.Expressions.{meanings, SameNames, no_name, one_more, group_same, meaning_same}
use Rattle.meaning_laws.proofs.Extending.{Numbering, numbering, is_it, set_along, relation_along}
use Rattle.meaning_laws.proofs.Items.{after_same, met_same, all_met_same}
use Rattle.meaning_answers.specs.Told.{IsPair, BindsPair, names_seen}

-- ---- a candidate and its execution

module _ (t : Content) (y : Execution) (one : Candidate) (named : AreNamesMeant t y one) where
  abbrev es : List Event
  es = named_events t y.runs

  N : Numbering es (length es)
  N = numbering es (named_once t y.runs) (length es)

  pub event_at : ℕ → Event
  event_at n = N.to n

  abbrev Below : Set ℕ
  Below a = a < events_of one

  -- a number below the number of events is that of the event
  pub numbered_at : (n : ℕ) → n < events_of one → IsNumbered es n (event_at n)
  unfolding event_at
  numbered_at n lt =
      let by : _ = named.events.by_name n lt in
      subst (λ (e : Event). IsNumbered es n e) (sym (is_it es N n by.0 by.1)) by.1

  pub event_is : (n : ℕ) (e : Event) → IsNumbered es n e → event_at n ≡ e
  unfolding event_at
  event_is n e at = is_it es N n e at

  whole : (n : ℕ) → (n < events_of one) ↔ IsEvent t y (N.to n)
  whole =
      set_along es N (λ n. n < events_of one) (IsEvent t y) named.events.by_name
      named.events.by_number

  pub language_same : (p : Predefined) (m n : ℕ)
      → RelationIn p (events_of one) one.0 one.1.0 one.1.1 m n
      ↔ PairsOf t y p (event_at m) (event_at n)
  unfolding event_at
  language_same p =
      relation_along es N _ _ (named.relations p).by_name (named.relations p).by_number

  value_same : (p : Predefined)
      → Same N.to (candidate_value one p)
      (choice_of (is_set p) (ASet (EventsOf t y p)) (ARelation (PairsOf t y p)))
  value_same p = at (is_set p)
    where
      at : (b : _)
          → Same N.to
          (choice_of b (ASet (SetIn one.0 (events_of one) p))
          (ARelation (RelationIn p (events_of one) one.0 one.1.0 one.1.1)))
          (choice_of b (ASet (EventsOf t y p)) (ARelation (PairsOf t y p)))
      at true =
          sets _ _ (set_along es N _ _ (named.sets p).by_name (named.sets p).by_number)
      at false =
          relations _ _
          (relation_along es N _ _ (named.relations p).by_name (named.relations p).by_number)

  all_same : (ps : List Predefined)
      → SameNames N.to (map (λ p. (spelling p, ToMeaning (candidate_value one p))) ps)
      (map (λ p. (spelling p, predefined_bound t y p)) ps)
  all_same [] = no_name
  all_same (p ∷ ps) =
      one_more (spelling p) (ToMeaning (candidate_value one p)) (predefined_bound t y p)
      (map (λ q. (spelling q, ToMeaning (candidate_value one q))) ps)
      (map (λ q. (spelling q, predefined_bound t y q)) ps)
      (meanings (candidate_value one p) _ (value_same p)) (all_same ps)

  behind_same : (items : List Clause) (bs : Names ℕ) (cs : Names Event) → SameNames N.to bs cs
      → SameNames N.to (bound_behind Below bs items) (bound_behind (IsEvent t y) cs items)
  behind_same [] bs cs h = h
  behind_same (c ∷ items) bs cs h =
      behind_same items (names_after Below bs c) (names_after (IsEvent t y) cs c)
      (after_same N.to N.from N.there N.back Below (IsEvent t y) whole c bs cs h)

  -- the names behind the first items of a model
  abbrev pub numbered_names : List Clause → ℕ → Names ℕ
  numbered_names items i = bound_behind Below (outer_bound (candidate_value one)) (take i items)

  seen_same : (items : List Clause) (i : ℕ)
      → SameNames N.to (numbered_names items i) (names_seen t y items i)
  seen_same items i =
      behind_same (take i items) (outer_bound (candidate_value one)) (outermost t y)
      (all_same (reverse predefined_names))

  pub term_same : (items : List Clause) (i : ℕ) (e : Term)
      → Same event_at (meaning_of Below (numbered_names items i) e)
      (meaning_of (IsEvent t y) (names_seen t y items i) e)
  unfolding event_at
  term_same items i e =
      meaning_same N.to N.from N.there N.back Below (IsEvent t y) whole (numbered_names items i)
      (names_seen t y items i) (seen_same items i) e

  pub check_same : (items : List Clause) (i : ℕ) (check : Checked)
      → IsMet Below (numbered_names items i) check
      ↔ IsMet (IsEvent t y) (names_seen t y items i) check
  check_same items i check =
      met_same N.to N.from N.there N.back Below (IsEvent t y) whole check (numbered_names items i)
      (names_seen t y items i) (seen_same items i)

  pub checks_same : (items : List Clause)
      → AreMet Below (outer_bound (candidate_value one)) items
      ↔ AreMet (IsEvent t y) (outermost t y) items
  checks_same items =
      all_met_same N.to N.from N.there N.back Below (IsEvent t y) whole items
      (outer_bound (candidate_value one)) (outermost t y) (all_same (reverse predefined_names))

  pub term_pair : (items : List Clause) (i : ℕ) (e : Term) (m n : ℕ)
      → HasPair (meaning_of Below (numbered_names items i) e) m n
      → HasPair (meaning_of (IsEvent t y) (names_seen t y items i) e) (event_at m) (event_at n)
  unfolding event_at
  term_pair items i e m n h =
      (pair_same N.to N.from N.there N.back _ _ (term_same items i e) m n).0 h

  pub term_pair_back : (items : List Clause) (i : ℕ) (e : Term) (m n : ℕ)
      → HasPair (meaning_of (IsEvent t y) (names_seen t y items i) e) (event_at m) (event_at n)
      → HasPair (meaning_of Below (numbered_names items i) e) m n
  unfolding event_at
  term_pair_back items i e m n h =
      (pair_same N.to N.from N.there N.back _ _ (term_same items i e) m n).1 h

  -- the least solution of a recursive group
  pub least_pair : (items : List Clause) (i : ℕ) (group : List (Name × Term)) (n : Name) (a b : ℕ)
      → Least Below (numbered_names items i) group n a b
      → Least (IsEvent t y) (names_seen t y items i) group n (event_at a) (event_at b)
  unfolding event_at
  least_pair items i group n a b least choice closed =
      least (λ m c d. choice m (N.to c) (N.to d))
      (λ body stands c d pair. closed body stands (N.to c) (N.to d)
      ((pair_same N.to N.from N.there N.back
      (meaning_of Below (with_group (IsChosen (λ m v w. choice m (N.to v) (N.to w))) group (numbered_names items i)) body.1)
      (meaning_of (IsEvent t y) (with_group (IsChosen choice) group (names_seen t y items i)) body.1)
      (meaning_same N.to N.from N.there N.back Below (IsEvent t y) whole _ _
      (group_same N.to (IsChosen (λ m v w. choice m (N.to v) (N.to w))) (IsChosen choice)
      (λ m v w. (λ p. p, λ p. p)) group _ _ (seen_same items i)) body.1) c d).0 pair))

  -- what an item binds
  pub binds_by_name : (items : List Clause) (i : ℕ) (c : Clause) (n : Name) (a b : ℕ)
      → BindsPair Below (numbered_names items i) c n a b
      → BindsPair (IsEvent t y) (names_seen t y items i) c n (event_at a) (event_at b)
  binds_by_name items i (Binding true group) n a b h =
      (h.0, h.1, least_pair items i group n a b h.2)
  binds_by_name items i (Binding false group) n a b h = (h.0, h.1, term_pair items i h.0 a b h.2)
  binds_by_name items i (Function name ps body) n a b h = absurd h
  binds_by_name items i (Checking check label) n a b h = absurd h
  binds_by_name items i (Flagging check label) n a b h = absurd h
  binds_by_name items i (Showing hidden shown) n a b h = absurd h
  binds_by_name items i (Including path) n a b h = absurd h

  -- two numbers of events that are related
  pub pair_there : (R : Relation Event) (m n : ℕ) → m < events_of one → n < events_of one
      → R (event_at m) (event_at n) → IsPair t y R m n
  pair_there R m n first second h =
      (event_at m, event_at n, numbered_at m first, numbered_at n second, h)
