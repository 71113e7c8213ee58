-- The laws, from what is proved of each part.
use Rattle.std.proofs.Common.{ℕ, ◌≡◌, ◌<◌, ◌↔◌, List, [], ◌∷◌, length, map, Bool, true, false, bytes_eq, None, refl, sym, ◌∙◌, subst, arith}
use Rattle.std.specs.Prelude.{nat_eq}
use Rattle.std.proofs.lemmas.Slice.Eq.{bytes_eq-Decides}
use Rattle.text_values.specs.declared.model.Binding as code_binding
use Rattle.text_values.specs.ModelValue.{Apply, Clause, Function}
use Rattle.text_values.specs.ModelValues.{binding_of}
use Rattle.bit_rows.specs.Relation.{Relation}
use Rattle.binding_kinds.specs.declared.fault.ModelFault.{ModelFault}
use Rattle.binding_kinds.specs.declared.kinds.Kind.{Kind}
use Rattle.binding_kinds.specs.declared.kinds.Kind.TheVariants.{OfSet, OfRelation, OfAny}
use Rattle.binding_kinds.specs.declared.scope.Used.{Used}
use Rattle.binding_kinds.specs.Value.{Naming, BareItem, Group, bare_item, bound_value_of}
use Rattle.binding_kinds.specs.Faults.{with_own, names_after, senses_after, IsFaultOfItem}
use Rattle.binding_kinds.specs.First.{first_of_item}
use Rattle.binding_kinds.specs.Functions.{formula_in}
use Rattle.binding_kinds.specs.Senses.{Sense, kind_in}
use Rattle.binding_kinds.proofs.FirstItem.{judged_item}
use Rattle.binding_graph.specs.declared.resolved.Source.{Source}
use Rattle.binding_graph.specs.Meaning.{set_tree, rel_tree}
use Rattle.binding_graph.specs.Trees.{RelTree}
use Rattle.cat_machine.specs.Least.{IsLeast, body}
use Rattle.cat_machine.specs.Meaning.{MeansSet, MeansRelation}
use Rattle.cat_machine.specs.Named.{OwnPairs, WithOwn}
use Rattle.meaning.specs.Cat as cat
use Rattle.meaning.specs.Cat.{Meaning, Nothing, Bound, ToFunction, Names, choice_of, of_application, HasPair, meaning_of, meanings_of, with_arguments, with_group, Least}
use Rattle.meaning_items.specs.Bound.{value_at}
use Rattle.meaning_items.specs.Alike.{IsAs, HasOuterSources}
use Rattle.meaning_items.specs.Groups.{name_at, term_at, HasBodies}
use Rattle.meaning_items.specs.Behind.{senses_of, namings_of, bound_of_items, tested}
use Rattle.meaning_items.specs.TreeLaws.{Passing, PairsPassing, AreTrees, slot_tested, OperatorsMeanTheSame, TermsMeanTheSame, ApplyingBinds, LetRecIsLeast}
use Rattle.meaning_items.proofs.Items.{AreSound, model_sound, item_sound}
use Rattle.meaning_items.proofs.Least.{least_same}
use Rattle.meaning_items.proofs.Own.{AreFaultless, faultless_group, long_bindings, body_as}
use Rattle.meaning_items.proofs.Terms.{term_as}
use Rattle.meaning_items.proofs.Putting.{no_fault, no_term_fault}
use Rattle.meaning_items.proofs.Trees.{tree_as}

pub operators_same : OperatorsMeanTheSame
operators_same n is_set S R f typed sets rels us from has =
    tree_as n (slot_tested is_set S R) (Passing sets) (PairsPassing rels) us from f typed has

pub terms_same : TermsMeanTheSame
terms_same n S R items faultless e none sets rels us from has =
    term_as n (senses_of items) (namings_of items) (bound_of_items (λ a. a < n) (tested S R) items)
    (model_sound (λ a. a < n) (tested S R) items faultless) (length (namings_of items)) e
    (no_term_fault (senses_of items) (namings_of items) (length (namings_of items)) e none)
    (Passing sets) (PairsPassing rels) us from has

-- ---- functions

no_item_fault : (ss : List Sense) (names : List Naming) (at : ℕ) (c : BareItem)
    → ((index : ℕ) (k : ModelFault) → IsFaultOfItem ss names at c index k → ⊥)
    → first_of_item ss names at c ≡ None
no_item_fault ss names at c none =
    no_fault (IsFaultOfItem ss names at c) (first_of_item ss names at c) (judged_item ss names at c)
    none

nothing_as : (k : Kind) (T : ℕ → Type 0) (R : ℕ → ℕ → Type 0) → IsAs k Nothing T R → ⊥
nothing_as OfSet T R h = h
nothing_as OfRelation T R h = h
nothing_as OfAny T R h = h

-- what an application gives, if it gives a set or a relation
applied_as : (k : Kind) (T : ℕ → Type 0) (R : ℕ → ℕ → Type 0) (t : Bool) (arity : ℕ)
    (result : List (Meaning ℕ) → Meaning ℕ) (rest : Bound ℕ) (ms : List (Meaning ℕ)) → t ≡ true
    → IsAs k (of_application (choice_of t (ToFunction arity result) rest) ms) T R
    → IsAs k (result ms) T R
applied_as k T R false arity result rest ms e h = absurd (let f : false ≡ true = e in cc)
applied_as k T R true arity result rest ms e h = at_test (nat_eq arity (length ms)) h
  where
    at_test : (u : Bool) → IsAs k (choice_of u (result ms) Nothing) T R → IsAs k (result ms) T R
    at_test true h = h
    at_test false h = absurd (nothing_as k T R h)

pub binds : ApplyingBinds
binds n S R items faultless at item none f ps body is ts fine sets rels us from has =
    let ss = senses_after (senses_of items) (namings_of items) (bare_item item) in
    let names = names_after (senses_of items) (namings_of items) at (bare_item item) in
    let outer : Names ℕ = bound_of_items (λ a. a < n) (tested S R) items in
    let bound : Names ℕ = cat.names_after (λ a. a < n) outer (Function f ps body) in
    let sound : AreSound (λ a. a < n) ss names bound =
    subst (λ (c : Clause). AreSound (λ a. a < n) ss names (cat.names_after (λ a. a < n) outer c))
    is
    (item_sound (λ a. a < n) (senses_of items) (namings_of items) outer
    (model_sound (λ a. a < n) (tested S R) items faultless) at item
    (no_item_fault (senses_of items) (namings_of items) at (bare_item item) none)) in
    applied_as (kind_in ss names (Apply f ts))
    (MeansSet n (Passing sets) (set_tree us from (formula_in ss names [] (Apply f ts))))
    (MeansRelation n (Passing sets) (PairsPassing rels)
    (rel_tree us from (formula_in ss names [] (Apply f ts)))) (bytes_eq f f) (length ps)
    (λ ms. meaning_of (λ a. a < n) (with_arguments ps ms outer) body) (cat.bound_of outer f)
    (meanings_of (λ a. a < n) bound ts) ((bytes_eq-Decides f f).1 refl)
    (term_as n ss names bound sound (length names) (Apply f ts)
    (no_term_fault ss names (length names) (Apply f ts) fine) (Passing sets) (PairsPassing rels) us
    from has)

-- ---- recursive groups

module _ (n : ℕ) (ss : List Sense) (names : List Naming) (N : Names ℕ)
    (sound : AreSound (λ a. a < n) ss names N) (at : ℕ) (bs : List code_binding.Binding)
    (none : first_of_item ss names at (Group true (map bound_value_of bs)) ≡ None)
    (sets : Source → ℕ → Type 0) (outer : Source → ℕ → ℕ → Type 0) (us : ℕ → List Used)
    (trees : List RelTree)
    (made : AreTrees ss (with_own names at 0 (map bound_value_of bs)) (length names) us bs trees)
    (has : (j : ℕ) → j < length bs → HasOuterSources (value_at N) sets outer (us j) (length names)
    (formula_in ss (with_own names at 0 (map bound_value_of bs)) [] (term_at (map binding_of bs) j))) where
  fine : AreFaultless ss (with_own names at 0 (map bound_value_of bs)) (length names) [] bs
  fine = faultless_group ss (with_own names at 0 (map bound_value_of bs)) (length names) [] bs none

  bodies_given : HasBodies n N (map binding_of bs) sets outer trees
  bodies_given R P same j lt a b =
      let long = long_bindings bs in
      subst
      (λ (t : RelTree). HasPair (meaning_of (λ a. a < n) (with_group R (map binding_of bs) N)
      (term_at (map binding_of bs) j)) a b
      ↔ MeansRelation n sets (WithOwn outer P) t a b) (sym (made.each j (omega (arith, lt, long))))
      (body_as n ss names N sound at bs sets outer R P
      (λ k below c d. same k (omega (arith, below, long)) c d) (us j)
      (term_at (map binding_of bs) j) (fine.no_fault j (omega (arith, lt, long)))
      (fine.no_set j (omega (arith, lt, long))) (has j (omega (arith, lt, long))) a b)

  pub group_least : (values : List Relation) → IsLeast n sets outer trees values → (j : ℕ)
      → j < length bs → (a b : ℕ)
      → Least (λ a. a < n) N (map binding_of bs) (name_at (map binding_of bs) j) a b
      ↔ OwnPairs n values j a b
  group_least values least j lt a b =
      let long = long_bindings bs in
      least_same n N (map binding_of bs) sets outer trees bodies_given fine.apart
      (made.as_many ∙ sym long) values least j (omega (arith, lt, long)) a b

pub rec_is_least : LetRecIsLeast
rec_is_least n S R items faultless at bs none sets outer us trees made has values least j lt a b =
    group_least n (senses_of items) (namings_of items)
    (bound_of_items (λ a. a < n) (tested S R) items)
    (model_sound (λ a. a < n) (tested S R) items faultless) at bs
    (no_item_fault (senses_of items) (namings_of items) at (Group true (map bound_value_of bs)) none)
    (Passing sets) (PairsPassing outer) us trees made has values least j lt a b
