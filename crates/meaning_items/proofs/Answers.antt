-- The answers of the checks and flags of a model are what the definitions say.
use Rattle.std.proofs.Common.{ℕ, zero, suc, ◌≡◌, ◌<◌, ◌+◌, ◌↔◌, List, [], ◌∷◌, ◌++◌, length, map, reverse, Bool, true, false, IsTrue, Option, Some, None, refl, ap, sym, ◌∙◌, subst, arith}
use Rattle.std.specs.Prelude.{slice_get, if◌then◌else◌}
use Rattle.std.proofs.lemmas.List.{reverse-append, append-nil}
use denote.Ref.{Bor}
use Rattle.text_values.specs.declared.model.Check as code_check
use Rattle.text_values.specs.declared.model.CheckWord.{CheckWord}
use Rattle.text_values.specs.declared.model.Item.{Item}
use Rattle.text_values.specs.declared.model.Item.TheVariants as items
use Rattle.predefined_names.specs.declared.predefined.Predefined.{Predefined}
use Rattle.predefined_names.specs.declared.predefined.TheConstants.{PREDEFINED}
use Rattle.predefined_names.specs.PredefinedNames.{spelling, is_set}
use Rattle.text_values.specs.ModelValue.{Term, Clause}
use Rattle.text_values.specs.ModelValues.{term_of, clause_of, clauses_of, check_of}
use Rattle.binding_kinds.specs.declared.fault.ModelFault.TheVariants as faults
use Rattle.binding_kinds.specs.declared.kinds.Kind.{Kind}
use Rattle.binding_kinds.specs.declared.kinds.Kind.TheVariants as kinds
use Rattle.binding_kinds.specs.declared.scope.Input.{Input}
use Rattle.binding_kinds.specs.declared.scope.Used.{Used}
use Rattle.binding_kinds.specs.Value.{Naming, Bound, bare_item}
use Rattle.binding_kinds.specs.Faults.{names_after, senses_after}
use Rattle.binding_kinds.specs.First.{first_of_item, first}
use Rattle.binding_kinds.specs.Kinds.{takes_body}
use Rattle.binding_kinds.specs.Outermost.{naming_of, outermost_names}
use Rattle.binding_kinds.specs.Verdict.{or_else, unless}
use Rattle.binding_kinds.specs.Functions.{formula_in}
use Rattle.binding_kinds.specs.Senses.{Sense, kind_in, term_fault}
use Rattle.binding_kinds.proofs.Fitting.{holds}
use Rattle.binding_graph.specs.declared.resolved.ResolvedItem.{ResolvedItem}
use Rattle.binding_graph.specs.declared.resolved.Role.{Role}
use Rattle.binding_graph.specs.declared.resolved.Role.TheVariants as roles
use Rattle.binding_graph.specs.Inputs.{inputs_of}
use Rattle.binding_graph.specs.Meaning.{set_tree, rel_tree}
use Rattle.binding_graph.specs.Resolved.{AreResolved, IsCheckRole, IsGroupRole, IsResolvedIn, IsLabelled, IsLabelledAs, AreLabelledAs}
use Rattle.binding_graph.specs.Usages.{Usage, with_values, usages_after}
use Rattle.candidate_spaces.specs.declared.candidate.Space.{Space}
use Rattle.candidate_spaces.specs.Space.{Candidate, candidates_in}
use Rattle.cat_machine.specs.Executions.{events_of, EventsAt, PairsAt}
use Rattle.cat_machine.specs.Values.{IsCheckAnswer, AnswersOf}
use Rattle.outcome_states.specs.Kept.{Flag, holds_at}
use Rattle.from_scratch.specs.Answers.{AreItemColumns, HasAnswers, IsSaidAs, IsSaidBy, AreSaid, AreNamed as AreNamedColumns}
use Rattle.meaning.specs.Names.{Name}
use Rattle.meaning.specs.Cat as cat
use Rattle.meaning.specs.Cat.{ASet, ARelation, ToMeaning, Names, choice_of, meaning_of, NegatedIf, HasProperty, IsMet}
use Rattle.meaning_items.specs.Behind.{outer_bound}
use Rattle.meaning_items.proofs.Applying.{none_first}
use Rattle.meaning_items.proofs.Items.{outer_sound, no_first}
use Rattle.base_names.specs.Candidate.{SetIn, RelationIn}
use Rattle.cat_machine.specs.declared.column.Column.{Column}
use Rattle.meaning_items.specs.Alike.{IsAs}
use Rattle.meaning_items.specs.Slots.{candidate_value, IsSlotMeant, AreSlotsMeant}
use Rattle.meaning_items.specs.Laws.{AreMeant, AnswersAreMeant}
use Rattle.meaning_items.proofs.Bodies.{used_as, known_kind}
use Rattle.meaning_items.proofs.Columns.{append_one, first_state}
use Rattle.meaning_items.proofs.Checks.{check_met}
use Rattle.meaning_items.proofs.Growing.{slots_more}
use Rattle.meaning_items.proofs.Naming.{values_named}
use Rattle.meaning_items.proofs.State.{IsState}
use Rattle.meaning_items.proofs.Steps.{item_state}

-- ---- one check

answer_there : {X Y : Type 0} (xs : List X) (ys : List Y) (k : ℕ) (y : Y)
    → length xs ≡ length ys → slice_get ys k ≡ Some y → (x : X) × (slice_get xs k ≡ Some x)
answer_there [] [] k y long e = absurd (let f : None ≡ Some y = e in cc)
answer_there [] (z ∷ ys) k y long e = absurd (omega (arith, long))
answer_there (x ∷ xs) [] k y long e = absurd (omega (arith, long))
answer_there (x ∷ xs) (z ∷ ys) zero y long e = (x, refl)
answer_there (x ∷ xs) (z ∷ ys) (suc k) y long e =
    answer_there xs ys k y (omega (arith, long)) e

answer_at : (xs : List Bool) (k : ℕ) (x : Bool) → slice_get xs k ≡ Some x → holds_at k xs ≡ x
answer_at [] k x e = absurd (let f : None ≡ Some x = e in cc)
answer_at (y ∷ xs) zero x e = let same : y ≡ x = let f : Some y ≡ Some x = e in cc in same
answer_at (y ∷ xs) (suc k) x e = answer_at xs k x e

module _ (space : Space) (k : ℕ) (one : Candidate)
    (there : slice_get (candidates_in space.combinations.items) k ≡ Some one) (ss : List Sense)
    (usages : List Usage) (names : List Naming) (N : Names ℕ) (rs : List ResolvedItem)
    (state : IsState space k one ss usages names N rs) (item : ℕ) where
  -- the answers of a check are those that the definitions say
  role_met : (w : CheckWord) (e : Term) (negated : Bool) (flag : Option (List ℕ))
      → unless (takes_body w (kind_in ss names e)) faults.Kind ≡ None
      → term_fault ss names (length names) false e ≡ None → (role : Role)
      → IsCheckRole ss usages names (length names) w e role → IsLabelled negated flag role
      → (inputs : List (Bor Column))
      → AreNamedColumns (λ j ds. AreItemColumns space rs j ds)
      (inputs_of (with_values usages names [] (length names) e [])) inputs
      → (answers : List Bool) → AnswersOf role inputs space answers
      → IsTrue (holds_at k answers)
      ↔ NegatedIf negated (HasProperty w (meaning_of (λ a. a < events_of one) N e))
  role_met w e negated flag takes none (roles.Group recursive bodies) made labelled inputs given answers said =
      absurd made
  role_met w e negated flag takes none roles.Silent made labelled inputs given answers said =
      absurd made
  role_met w e negated flag takes none (roles.Check check) made labelled inputs given answers said =
      let us : List Used = with_values usages names [] (length names) e [] in
      let answer = answer_there answers (candidates_in space.combinations.items) k one said.0 there in
      let is : IsCheckAnswer check (events_of one) (EventsAt (events_of one) one inputs k) (PairsAt (events_of one) one inputs k) (kind_in ss names e) answer.0 =
      subst
      (λ (q : Kind). IsCheckAnswer check (events_of one) (EventsAt (events_of one) one inputs k)
      (PairsAt (events_of one) one inputs k) q answer.0) made.1.0
      (said.1 k one answer.0 there answer.1) in
      let takes_it : IsTrue (takes_body check.word (kind_in ss names e)) =
      subst (λ (v : CheckWord). IsTrue (takes_body v (kind_in ss names e))) (sym made.0)
      (holds (takes_body w (kind_in ss names e)) faults.Kind takes) in
      let met = check_met check (events_of one) (EventsAt (events_of one) one inputs k)
      (PairsAt (events_of one) one inputs k) (kind_in ss names e)
      (known_kind space rs k one ss usages names N state.sound state.senses state.covers
      state.meant us (values_named usages names [] (length names) state.named e [] tt) inputs
      given e none) answer.0 is
      (set_tree us (length names) (formula_in ss names [] e))
      (rel_tree us (length names) (formula_in ss names [] e)) made.1.1
      (meaning_of (λ a. a < events_of one) N e)
      (used_as space rs k one ss usages names N state.sound state.senses state.covers
      state.meant us (values_named usages names [] (length names) state.named e [] tt) inputs
      given e none us [] refl (λ slot i h. h)) takes_it in
      subst
      (λ (b : Bool). IsTrue b ↔ NegatedIf negated (HasProperty w (meaning_of (λ a. a < events_of one) N e)))
      (sym (answer_at answers k answer.0 answer.1))
      (subst
      (λ (b : Bool). IsTrue answer.0 ↔ NegatedIf b (HasProperty w (meaning_of (λ a. a < events_of one) N e)))
      labelled.0
      (subst
      (λ (v : CheckWord). IsTrue answer.0 ↔ NegatedIf check.negated (HasProperty v (meaning_of (λ a. a < events_of one) N e)))
      made.0 met))

-- ---- item by item

check_said : (role : Role) (negated : Bool) (flag : Option (List ℕ)) (Answers : List Bool → Type 0)
    (Before : List (List Bool) → List Flag → Type 0) (checks : List (List Bool))
    (flags : List Flag) → IsLabelled negated flag role
    → IsSaidBy role Answers Before checks flags → IsSaidAs flag Answers Before checks flags
check_said (roles.Group recursive bodies) negated flag Answers Before checks flags labelled said =
    absurd labelled
check_said (roles.Check check) negated flag Answers Before checks flags labelled said =
    subst (λ (o : Option (List ℕ)). IsSaidAs o Answers Before checks flags) labelled.1 said
check_said roles.Silent negated flag Answers Before checks flags labelled said = absurd labelled

group_said : (role : Role) (ss : List Sense) (us : List Usage) (names : List Naming) (from : ℕ)
    (recursive : Bool) (bs : List Bound) (Answers : List Bool → Type 0)
    (Before : List (List Bool) → List Flag → Type 0) (checks : List (List Bool))
    (flags : List Flag) → IsGroupRole ss us names from recursive bs role
    → IsSaidBy role Answers Before checks flags → Before checks flags
group_said (roles.Group r bodies) ss us names from recursive bs Answers Before checks flags made said =
    said
group_said (roles.Check check) ss us names from recursive bs Answers Before checks flags made said =
    absurd made
group_said roles.Silent ss us names from recursive bs Answers Before checks flags made said =
    absurd made

silent_said : (role : Role) (Answers : List Bool → Type 0)
    (Before : List (List Bool) → List Flag → Type 0) (checks : List (List Bool))
    (flags : List Flag) → role ≡ roles.Silent → IsSaidBy role Answers Before checks flags
    → Before checks flags
silent_said role Answers Before checks flags is said =
    subst (λ (q : Role). IsSaidBy q Answers Before checks flags) is said

-- the answers so far are meant, if those behind are
abbrev Continues : ℕ → ℕ → Names ℕ → List Clause → Names ℕ → List Clause
    → (List (List Bool) → List Flag → Type 0) → Type 0
Continues k n outer whole N rest Said =
    (checks : List (List Bool)) (flags : List Flag) → Said checks flags
    → (more : List (List Bool)) (others : List Flag)
    → AreMeant k (λ a. a < n) N rest more others
    → AreMeant k (λ a. a < n) outer whole (checks ++ more) (flags ++ others)

module _ (space : Space) (k : ℕ) (one : Candidate)
    (there : slice_get (candidates_in space.combinations.items) k ≡ Some one) (outer : Names ℕ)
    (whole : List Clause) where
  abbrev Said : List ResolvedItem → List (List Bool) → List Flag → Type 0
  Said rs checks flags = AreSaid space rs checks flags

  check_continues : (ss : List Sense) (usages : List Usage) (names : List Naming) (N : Names ℕ)
      (rs : List ResolvedItem) → IsState space k one ss usages names N rs → (r : ResolvedItem)
      (c : code_check.Check) (flag : Option (List ℕ)) (answers : List Bool)
      → or_else (unless (takes_body c.word (kind_in ss names (term_of c.body))) faults.Kind)
      (term_fault ss names (length names) false (term_of c.body)) ≡ None
      → IsCheckRole ss usages names (length names) c.word (term_of c.body) r.role
      → r.inputs.items ≡ inputs_of (with_values usages names [] (length names) (term_of c.body) [])
      → IsLabelled c.negated flag r.role
      → HasAnswers space (λ j ds. AreItemColumns space rs j ds) r answers
      → IsTrue (holds_at k answers) ↔ IsMet (λ a. a < events_of one) N (check_of c)
  check_continues ss usages names N rs state r c flag answers none made inputs labelled has =
      let both = none_first (unless (takes_body c.word (kind_in ss names (term_of c.body))) faults.Kind) _ none in
      role_met space k one there ss usages names N rs state 0 c.word (term_of c.body) c.negated flag
      both.0 both.1 r.role made labelled has.0
      (subst (λ (is : List Input). AreNamedColumns (λ j ds. AreItemColumns space rs j ds) is has.0)
      inputs has.1) answers has.2

  -- one item more
  item_continues : (ss : List Sense) (usages : List Usage) (names : List Naming) (N : Names ℕ)
      (rs : List ResolvedItem) → IsState space k one ss usages names N rs → (item : ℕ) (i : Item)
      (r : ResolvedItem) (rest : List Clause) → first_of_item ss names item (bare_item i) ≡ None
      → IsResolvedIn ss usages names (names_after ss names item (bare_item i)) (length names)
      (bare_item i) r → IsLabelledAs i r
      → Continues k (events_of one) outer whole N (clause_of i ∷ rest) (Said rs)
      → Continues k (events_of one) outer whole
      (cat.names_after (λ a. a < events_of one) N (clause_of i)) rest (Said (r ∷ rs))
  item_continues ss usages names N rs state item (items.Let true group) r rest none made labelled
      before checks flags said more others h =
      before checks flags
      (group_said r.role ss usages _ (length names) true _ _ _ checks flags made.0 said) more others h
  item_continues ss usages names N rs state item (items.Let false group) r rest none made labelled
      before checks flags said more others h =
      before checks flags
      (group_said r.role ss usages _ (length names) false _ _ _ checks flags made.0 said) more others h
  item_continues ss usages names N rs state item (items.Function f ps body) r rest none made labelled
      before checks flags said more others h =
      before checks flags (silent_said r.role _ _ checks flags made.0 said) more others h
  item_continues ss usages names N rs state item (items.Check c label) r rest none made labelled
      before checks flags said more others h =
      let one_said = check_said r.role c.negated None _ _ checks flags labelled said in
      let met = check_continues ss usages names N rs state r c None one_said.1 none made.0 made.1.inputs labelled one_said.3 in
      subst
      (λ (xs : List (List Bool)). AreMeant k (λ a. a < events_of one) outer whole xs (flags ++ others))
      (sym (ap (λ (xs : List (List Bool)). xs ++ more) one_said.2
      ∙ append_one one_said.0 one_said.1 more))
      (before one_said.0 flags one_said.4 (one_said.1 ∷ more) others (met, h))
  item_continues ss usages names N rs state item (items.Flag c label) r rest none made labelled
      before checks flags said more others h =
      let one_said = check_said r.role c.negated (Some label) _ _ checks flags labelled said in
      let met = check_continues ss usages names N rs state r c (Some label) one_said.1 none made.0 made.1.inputs labelled one_said.3 in
      subst
      (λ (xs : List Flag). AreMeant k (λ a. a < events_of one) outer whole (checks ++ more) xs)
      (sym (ap (λ (xs : List Flag). xs ++ others) one_said.2
      ∙ append_one one_said.0 (label, one_said.1) others))
      (before checks one_said.0 one_said.4 more ((label, one_said.1) ∷ others) (refl, met, h))
  item_continues ss usages names N rs state item (items.Show hidden shown) r rest none made labelled
      before checks flags said more others h =
      before checks flags (silent_said r.role _ _ checks flags made.0 said) more others h
  item_continues ss usages names N rs state item (items.Include path) r rest none made labelled
      before checks flags said more others h =
      before checks flags (silent_said r.role _ _ checks flags made.0 said) more others h

  items_meant : (ss : List Sense) (usages : List Usage) (names : List Naming) (N : Names ℕ)
      (rs : List ResolvedItem) → IsState space k one ss usages names N rs → (item : ℕ)
      → item ≡ length rs → (is : List Item) (resolved : List ResolvedItem)
      → first ss names item (map bare_item is) ≡ None
      → AreResolved ss usages names item (map bare_item is) resolved → AreLabelledAs is resolved
      → Continues k (events_of one) outer whole N (clauses_of is) (Said rs)
      → (checks : List (List Bool)) (flags : List Flag)
      → AreSaid space (reverse resolved ++ rs) checks flags
      → AreMeant k (λ a. a < events_of one) outer whole checks flags
  items_meant ss usages names N rs state item counted [] [] none made labelled before checks flags said =
      subst (λ (xs : List (List Bool)). AreMeant k (λ a. a < events_of one) outer whole xs flags)
      (append-nil checks)
      (subst
      (λ (xs : List Flag). AreMeant k (λ a. a < events_of one) outer whole (checks ++ []) xs)
      (append-nil flags) (before checks flags said [] [] tt))
  items_meant ss usages names N rs state item counted [] (r ∷ rest) none made labelled before checks flags said =
      absurd made
  items_meant ss usages names N rs state item counted (i ∷ is) [] none made labelled before checks flags said =
      absurd made
  items_meant ss usages names N rs state item counted (i ∷ is) (r ∷ rest) none made labelled before checks flags said =
      let both = none_first (first_of_item ss names item (bare_item i)) _ none in
      items_meant (senses_after ss names (bare_item i)) (usages_after usages names item (bare_item i))
      (names_after ss names item (bare_item i))
      (cat.names_after (λ a. a < events_of one) N (clause_of i)) (r ∷ rs)
      (item_state space k one there ss usages names N rs state item counted r i both.0 made.0)
      (item + 1) (omega (arith, counted)) is rest both.1 made.1 labelled.1
      (item_continues ss usages names N rs state item i r (clauses_of is) both.0 made.0 labelled.0
      before) checks flags
      (subst (λ (xs : List ResolvedItem). AreSaid space xs checks flags)
      (ap (λ (ys : List ResolvedItem). ys ++ rs) (reverse-append (r ∷ []) rest)
      ∙ append_one (reverse rest) r rs) said)

-- ---- models

pub answers_meant : (space : Space) (is : List Item) (resolved : List ResolvedItem)
    → AnswersAreMeant space is resolved
answers_meant space is resolved faultless made labelled checks flags said k one there =
    items_meant space k one there (outer_bound (candidate_value one)) (clauses_of is) [] []
    outermost_names (outer_bound (candidate_value one)) [] (first_state space k one) 0 refl is
    resolved (no_first is faultless) made labelled
    (λ cs fs nothing more others h. rw (nothing.0, nothing.1) h) checks flags
    (subst (λ (xs : List ResolvedItem). AreSaid space xs checks flags)
    (sym (append-nil (reverse resolved))) said)
