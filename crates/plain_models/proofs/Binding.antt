-- The names that an item binds, in the code and by the definitions.
use Rattle.std.proofs.Common.{◌≡◌, ◌↔◌, ◌⊎◌, ℕ, ◌+◌, ◌<◌, suc, List, [], ◌∷◌, ◌++◌, length, drop, get_or, map, Bool, true, false, Option, Some, Contains, IsTrue, refl, sym, ap, subst, ◌∙◌}
use Rattle.std.specs.Prelude.{slice_get}
use Rattle.std.proofs.lemmas.List.{at_drop_more}
use Rattle.text_values.specs.declared.model.Item.{Item}
use Rattle.text_values.specs.declared.model.Item.TheVariants as items
use Rattle.text_values.specs.declared.model.Binding as code_binding
use Rattle.text_values.specs.ModelValue.{Term, Clause, Binding, Function, Checking, Flagging, Showing, Including}
use Rattle.text_values.specs.ModelValues.{term_of, binding_of, clause_of, clauses_of}
use Rattle.meaning.specs.Sets.{Set, Relation}
use Rattle.meaning.specs.Names.{Name}
use Rattle.meaning.specs.Cat.{Meaning, ARelation, ToMeaning, ToFunction, Names, meaning_of, with_arguments, with_group, Least, with_bodies, names_after, IsItemMet, AreMet, IsFlagMet}
use Rattle.meaning.specs.Cat as cat
use Rattle.meaning.specs.Faults.{Known, AsFunction, Scope, in_body, faults_from, known_after}
use Rattle.plain_models.specs.declared.value.Value.{Value}
use Rattle.plain_models.specs.declared.scope.Bound.{Bound}
use Rattle.plain_models.specs.declared.scope.Bound.TheVariants as bounds
use Rattle.plain_models.specs.declared.scope.Named.{Named}
use Rattle.plain_models.specs.Values.{meaning_as, IsEvaluatedTo, HaveValues}
use Rattle.plain_models.specs.Scopes.{function_of, bound_as, with_named}
use Rattle.meaning_laws.proofs.Inside.{alike_through}
use Rattle.meaning_laws.proofs.Alike.{AlikeBound, meanings, AlikeNames, none, more}
use Rattle.plain_models.proofs.Applying.{named_alike, function_alike}
use Rattle.plain_models.specs.Groups.{name_of, body_of, AreRelations}
use Rattle.plain_models.specs.Items.{IsBoundTo, AreBoundTo, AreBound, Binds}
use Rattle.plain_models.proofs.Knowing.{IsKnown, IsFunctionKnown, Knows, knows_append, with_append, group_known, bodies_known}

bound_to_alike : (all : Set ℕ) (is : List Item) (N : Names ℕ) (v : Value) (b : Bound)
    (m : Meaning ℕ) → IsBoundTo v b → IsEvaluatedTo m v → AlikeBound (bound_as all is N b) (ToMeaning m)
bound_to_alike all is N v (bounds.Value w) m h is_meant =
    meanings (meaning_as w) m (alike_through (meaning_as w) (meaning_as v) m h is_meant)
bound_to_alike all is N v (bounds.Function i) m h is_meant = absurd h

solved_alike : (all : Set ℕ) (is : List Item) (R : Name → Relation ℕ)
    (gs : List code_binding.Binding) (vs : List Value) (added : List Named) (N K : Names ℕ)
    → AreRelations R (map name_of gs) vs → AreBoundTo (map name_of gs) vs added
    → AlikeNames N K
    → AlikeNames (with_named all is added N) (with_group R (map binding_of gs) K)
solved_alike all is R [] [] [] N K h bound alike = alike
solved_alike all is R [] [] (a ∷ others) N K h bound alike = absurd bound
solved_alike all is R [] (v ∷ vs) others N K h bound alike = absurd bound
solved_alike all is R (g ∷ gs) [] others N K h bound alike = absurd bound
solved_alike all is R (g ∷ gs) (v ∷ vs) [] N K h bound alike = absurd bound
solved_alike all is R (g ∷ gs) (v ∷ vs) (a ∷ others) N K h bound alike =
    let c : cat.Bound ℕ = bound_as all is N a.bound in
    let d : cat.Bound ℕ = ToMeaning (ARelation (R g.name)) in
    subst
    (λ (n : Name). AlikeNames (with_named all is others ((n, c) ∷ N)) (with_group R (map binding_of gs) ((g.name, d) ∷ K)))
    (sym bound.0)
    (solved_alike all is R gs vs others ((g.name, c) ∷ N) ((g.name, d) ∷ K) h.1 bound.2
    (more g.name c d N K (bound_to_alike all is N v a.bound (ARelation (R g.name)) bound.1 h.0) alike))

named_bodies_alike : (all : Set ℕ) (is : List Item) (outer : Names ℕ)
    (gs : List code_binding.Binding) (vs : List Value) (added : List Named) (N K : Names ℕ)
    → HaveValues all outer (map body_of gs) vs → AreBoundTo (map name_of gs) vs added
    → AlikeNames N K
    → AlikeNames (with_named all is added N) (with_bodies all outer (map binding_of gs) K)
named_bodies_alike all is outer [] [] [] N K h bound alike = alike
named_bodies_alike all is outer [] [] (a ∷ others) N K h bound alike = absurd bound
named_bodies_alike all is outer [] (v ∷ vs) others N K h bound alike = absurd bound
named_bodies_alike all is outer (g ∷ gs) [] others N K h bound alike = absurd bound
named_bodies_alike all is outer (g ∷ gs) (v ∷ vs) [] N K h bound alike = absurd bound
named_bodies_alike all is outer (g ∷ gs) (v ∷ vs) (a ∷ others) N K h bound alike =
    let c : cat.Bound ℕ = bound_as all is N a.bound in
    let d : cat.Bound ℕ = ToMeaning (meaning_of all outer (term_of g.body)) in
    subst
    (λ (n : Name). AlikeNames (with_named all is others ((n, c) ∷ N)) (with_bodies all outer (map binding_of gs) ((g.name, d) ∷ K)))
    (sym bound.0)
    (named_bodies_alike all is outer gs vs others ((g.name, c) ∷ N) ((g.name, d) ∷ K) h.1 bound.2
    (more g.name c d N K (bound_to_alike all is N v a.bound (meaning_of all outer (term_of g.body)) bound.1 h.0) alike))

-- what a scope is behind an item, with what is known of it
pub record IsBehind (all : Set ℕ) (is : List Item) (old new : List Named) (c : Clause) : Type 1 where
  pub alike : AlikeNames (with_named all is new []) (names_after all (with_named all is old []) c)
  pub known : (S : Scope) → Knows is old [] S → Knows is new [] (known_after S c)

added_behind : (all : Set ℕ) (is : List Item) (old added new : List Named) (c : Clause)
    → new ≡ old ++ added
    → AlikeNames (with_named all is added (with_named all is old [])) (names_after all (with_named all is old []) c)
    → ((S : Scope) → Knows is added S (known_after S c)) → IsBehind all is old new c
added_behind all is old added new c e alike known = record {
  alike =
      subst (λ (N : Names ℕ). AlikeNames N (names_after all (with_named all is old []) c))
      (sym (ap (λ (l : List Named). with_named all is l []) e ∙ with_append all is old added [])) alike;
  known = λ S h.
      subst (λ (l : List Named). Knows is l [] (known_after S c)) (sym e)
      (knows_append is old added [] S (known_after S c) h (known S));
}

same_behind : (all : Set ℕ) (is : List Item) (old new : List Named) (c : Clause) → new ≡ old
    → AlikeNames (with_named all is old []) (names_after all (with_named all is old []) c)
    → ((S : Scope) → known_after S c ≡ S) → IsBehind all is old new c
same_behind all is old new c e alike known = record {
  alike =
      subst
      (λ (l : List Named). AlikeNames (with_named all is l []) (names_after all (with_named all is old []) c))
      (sym e) alike;
  known = λ S h.
      subst (λ (T : Scope). Knows is new [] T) (sym (known S))
      (subst (λ (l : List Named). Knows is l [] S) (sym e) h);
}

pub item_behind : (all : Set ℕ) (is : List Item) (item : Item) (index : ℕ) (vs : List Value)
    (old new : List Named) → slice_get is index ≡ Some item
    → AreBound all (with_named all is old []) item vs → Binds item index vs old new
    → IsBehind all is old new (clause_of item)
item_behind all is (items.Let true group) index vs old new there bound binds =
    let N : Names ℕ = with_named all is old [] in
    let clauses : List (Name × Term) = map binding_of group.items in
    added_behind all is old binds.0 new (Binding true clauses) binds.1
    (solved_alike all is (Least all N clauses) group.items vs binds.0 N N bound binds.2
    (named_alike all is old [] none))
    (λ S. group_known is group.items vs binds.0 S binds.2)
item_behind all is (items.Let false group) index vs old new there bound binds =
    let N : Names ℕ = with_named all is old [] in
    added_behind all is old binds.0 new (Binding false (map binding_of group.items)) binds.1
    (named_bodies_alike all is N group.items vs binds.0 N N bound binds.2
    (named_alike all is old [] none))
    (λ S. bodies_known is S group.items vs binds.0 S binds.2)
item_behind all is (items.Function name ps body) index vs old new there bound binds =
    let N : Names ℕ = with_named all is old [] in
    let own : AlikeNames N N = named_alike all is old [] none in
    let b : Named = binds.0 in
    let o : Option Item = Some (items.Function name ps body) in
    let is_bound : bound_as all is N b.bound ≡ function_of all N o = ap (bound_as all is N) binds.3 ∙ ap (function_of all N) there in
    added_behind all is old (b ∷ []) new (Function name ps.items (term_of body)) binds.1
    (subst
    (λ (n : Name). AlikeNames ((n, bound_as all is N b.bound) ∷ N) ((name, function_of all N o) ∷ N))
    (sym binds.2)
    (more name (bound_as all is N b.bound) (function_of all N o) N N
    (subst (λ (c : cat.Bound ℕ). AlikeBound c (function_of all N o)) (sym is_bound) (function_alike all N own o)) own))
    (λ S. let k : Known = AsFunction (length ps.items) (in_body S ps.items (term_of body)) in (
      k,
      subst (λ (c : Bound). IsKnown is S c k) (sym binds.3)
          (subst (λ (q : Option Item). IsFunctionKnown S q k) (sym there) refl),
      subst (λ (n : Name). ((name, k) ∷ S) ≡ ((n, k) ∷ S)) (sym binds.2) refl,
    ))
item_behind all is (items.Check check label) index vs old new there bound binds =
    same_behind all is old new (clause_of (items.Check check label)) binds (named_alike all is old [] none) (λ S. refl)
item_behind all is (items.Flag check label) index vs old new there bound binds =
    same_behind all is old new (clause_of (items.Flag check label)) binds (named_alike all is old [] none) (λ S. refl)
item_behind all is (items.Show hidden shown) index vs old new there bound binds =
    same_behind all is old new (clause_of (items.Show hidden shown)) binds (named_alike all is old [] none) (λ S. refl)
item_behind all is (items.Include path) index vs old new there bound binds =
    same_behind all is old new (clause_of (items.Include path)) binds (named_alike all is old [] none) (λ S. refl)

-- ---- the loop over the items

-- what is so when so many items are read: `first` are the names before all of them
pub record IsReadTo (all : Set ℕ) (is : List Item) (first : Names ℕ) (i : ℕ) (outer : List Named)
    (kept : Bool) (flags : List ℕ) : Type 0 where
  pub known : (S : Scope) × Knows is outer [] S × (faults_from S (clauses_of (drop i is)) ≡ [])
  pub checks : AreMet all first (clauses_of is)
      ↔ (IsTrue kept × AreMet all (with_named all is outer []) (clauses_of (drop i is)))
  pub flagged : (j : ℕ) → IsFlagMet all first (clauses_of is) j
      ↔ (Contains flags j
      ⊎ ((k : ℕ) × (j ≡ i + k) × IsFlagMet all (with_named all is outer []) (clauses_of (drop i is)) k))

-- what is left begins with the item
pub left_is : (is : List Item) (i : ℕ) (d : Item) → i < length is
    → clauses_of (drop i is) ≡ clause_of (get_or is i d) ∷ clauses_of (drop (i + 1) is)
left_is is i d lt = at_drop_more clauses_of is i d lt

pub flag_head : (all : Set ℕ) (N : Names ℕ) (c : Clause) (cs ds : List Clause)
    → IsFlagMet all N (c ∷ cs) 0 → IsFlagMet all N (c ∷ ds) 0
flag_head all N (Binding recursive group) cs ds h = h
flag_head all N (Function n ps body) cs ds h = h
flag_head all N (Checking check label) cs ds h = h
flag_head all N (Flagging check label) cs ds h = h
flag_head all N (Showing hidden shown) cs ds h = h
flag_head all N (Including path) cs ds h = h

pub flag_tail : (all : Set ℕ) (N : Names ℕ) (c : Clause) (cs : List Clause) (k : ℕ)
    → IsFlagMet all N (c ∷ cs) (suc k) ↔ IsFlagMet all (names_after all N c) cs k
flag_tail all N (Binding recursive group) cs k = ((λ h. h), (λ h. h))
flag_tail all N (Function n ps body) cs k = ((λ h. h), (λ h. h))
flag_tail all N (Checking check label) cs k = ((λ h. h), (λ h. h))
flag_tail all N (Flagging check label) cs k = ((λ h. h), (λ h. h))
flag_tail all N (Showing hidden shown) cs k = ((λ h. h), (λ h. h))
flag_tail all N (Including path) cs k = ((λ h. h), (λ h. h))
