-- The steps of the items of a model without fault are those of expressions.
use Rattle.std.proofs.Common.{ℕ, ◌≡◌, ◌+◌, inl, inr, List, [], ◌∷◌, length, Bool, true, false, refl, sym, ◌∙◌, subst, rules}
use Rattle.std.specs.List.{AllByRecursion}
use Rattle.text_values.specs.declared.model.CheckWord.{CheckWord}
use Rattle.text_values.specs.declared.model.ModelText.{ModelText}
use Rattle.text_values.specs.ModelValue.{Term}
use Rattle.binding_kinds.specs.declared.fault.ModelFault.{ModelFault}
use Rattle.binding_kinds.specs.declared.fault.ModelFault.TheVariants as faults
use Rattle.binding_kinds.specs.declared.kinds.Kind.{Kind}
use Rattle.binding_kinds.specs.declared.kinds.Kind.TheVariants.{OfSet, OfRelation, OfAny}
use Rattle.binding_kinds.specs.declared.scope.Used.{Used}
use Rattle.binding_kinds.specs.Value.{Naming, Bound, BareItem, Group, Check, Mute, Defined}
use Rattle.binding_kinds.specs.Senses.{Sense, kind_in}
use Rattle.binding_kinds.specs.Functions.{formula_in}
use Rattle.binding_kinds.specs.Faults.{width, with_own, names_after, IsFaultIn, IsFaultOfItem, HasNoFault, senses_after}
use Rattle.binding_kinds.specs.Outermost.{outermost_names}
use Rattle.binding_graph.specs.declared.resolved.Body.{Body}
use Rattle.binding_graph.specs.declared.resolved.Code.{Code}
use Rattle.binding_graph.specs.declared.resolved.ResolvedItem.{ResolvedItem}
use Rattle.binding_graph.specs.declared.resolved.Role.{Role}
use Rattle.binding_graph.specs.declared.resolved.Role.TheVariants as roles
use Rattle.binding_graph.specs.declared.resolved.Step.{Step}
use Rattle.binding_graph.specs.Trees.{SetTree, RelTree}
use Rattle.binding_graph.specs.Meaning.{IsCode, set_tree, rel_tree, steps_of}
use Rattle.binding_graph.specs.Resolved.{AreBodies, IsGroupRole, IsCheckRole, IsResolvedIn, AreResolved}
use Rattle.binding_graph.specs.Usages.{Usage, with_values, usages_after}
use Rattle.from_scratch.specs.Answers.{AreRisingBodies, IsRisingRole}
use Rattle.from_scratch.specs.FromScratch.{bare_items}
use Rattle.from_scratch.proofs.Rising.{resolved_rising}
use Rattle.order_growth.specs.Within.{HasExpression, AreBodyExpressions}
use Rattle.order_growth.specs.Coded.{IsOfExpressions, AreItemsExpressions}

tree_of_kind : (k : Kind) (steps : List Step) (s : SetTree) (r : RelTree) → steps ≡ steps_of k s r
    → HasExpression k steps
tree_of_kind OfSet steps s r e = (s, e)
tree_of_kind OfRelation steps s r e = (r, e)
tree_of_kind OfAny steps s r e = (r, e)

code_coded : (ss : List Sense) (names : List Naming) (us : List Used) (from : ℕ) (t : Term)
    (c : Code) → IsCode ss names us from t c → HasExpression c.kind c.steps.items
code_coded ss names us from t c h =
    let f = formula_in ss names [] t in
    subst (λ (k : Kind). HasExpression k c.steps.items) (sym h.0) (tree_of_kind (kind_in ss names t)
    c.steps.items (set_tree us from f) (rel_tree us from f) h.1)

bodies_coded : (ss : List Sense) (us : List Usage) (names : List Naming) (from : ℕ) (vs : List Used)
    (bs : List Bound) (rs : List Body) → AreBodies ss us names from vs bs rs
    → AllByRecursion (λ b. HasExpression b.code.kind b.code.steps.items) rs
bodies_coded ss us names from vs [] [] h = tt
bodies_coded ss us names from vs [] (r ∷ rs) h = absurd h
bodies_coded ss us names from vs (b ∷ bs) [] h = absurd h
bodies_coded ss us names from vs (b ∷ bs) (r ∷ rs) h =
    let used = with_values us names [] from b.body vs in
    (code_coded ss names used from b.body r.code h.1, bodies_coded ss us names from used bs rs h.2)

-- no body of a recursive group without fault is a set
no_sets : (ss : List Sense) (us : List Usage) (names : List Naming) (from : ℕ) (vs : List Used)
    (before : List (List ℕ)) (bs : List Bound) (rs : List Body)
    → AreBodies ss us names from vs bs rs
    → ((p : ℕ) (k : ModelFault) → IsFaultIn ss names from true before bs p k → ⊥)
    → AllByRecursion (λ b. b.code.kind ≡ OfSet → ⊥) rs
no_sets ss us names from vs before [] [] h none = tt
no_sets ss us names from vs before [] (r ∷ rs) h none = absurd h
no_sets ss us names from vs before (b ∷ bs) [] h none = absurd h
no_sets ss us names from vs before (b ∷ bs) (r ∷ rs) h none =
    let used = with_values us names [] from b.body vs in
    let no_set : kind_in ss names b.body ≡ OfSet → ⊥ = λ e. none 0 faults.SetInRec (inl (refl, inr (search rules, e, refl))) in (
      λ e. no_set (sym h.1.0 ∙ e),
      no_sets ss us names from used (b.name ∷ before) bs rs h.2 (λ p k f.
          none (1 + width b.body + p) k (inr (inr (p, refl, f)))),
    )

recursive_coded : (ss : List Sense) (us : List Usage) (names : List Naming) (from : ℕ)
    (bs : List Bound) (role : Role) → IsGroupRole ss us names from true bs role
    → ((p : ℕ) (k : ModelFault) → IsFaultIn ss names from true [] bs p k → ⊥) → IsRisingRole role
    → IsOfExpressions role
recursive_coded ss us names from bs (roles.Group a rs) h none rises =
    let all : AreBodyExpressions true rs.items = (subst (λ (b : Bool). AreRisingBodies b rs.items) h.0 rises, no_sets ss us names from [] [] bs rs.items h.1 none) in
    subst (λ (b : Bool). AreBodyExpressions b rs.items) (sym h.0) all
recursive_coded ss us names from bs (roles.Check c) h none rises = absurd h
recursive_coded ss us names from bs roles.Silent h none rises = absurd h

plain_coded : (ss : List Sense) (us : List Usage) (names : List Naming) (from : ℕ) (bs : List Bound)
    (role : Role) → IsGroupRole ss us names from false bs role → IsOfExpressions role
plain_coded ss us names from bs (roles.Group a rs) h =
    subst (λ (b : Bool). AreBodyExpressions b rs.items) (sym h.0)
    (bodies_coded ss us names from [] bs rs.items h.1)
plain_coded ss us names from bs (roles.Check c) h = absurd h
plain_coded ss us names from bs roles.Silent h = absurd h

check_coded : (ss : List Sense) (us : List Usage) (names : List Naming) (from : ℕ) (w : CheckWord)
    (e : Term) (role : Role) → IsCheckRole ss us names from w e role → IsOfExpressions role
check_coded ss us names from w e (roles.Group a rs) h = absurd h
check_coded ss us names from w e (roles.Check c) h =
    code_coded ss names (with_values us names [] from e []) from e c.code h.1
check_coded ss us names from w e roles.Silent h = absurd h

item_coded : (ss : List Sense) (us : List Usage) (names : List Naming) (at : ℕ) (c : BareItem)
    (r : ResolvedItem) → ((p : ℕ) (k : ModelFault) → IsFaultOfItem ss names at c p k → ⊥)
    → IsRisingRole r.role → IsResolvedIn ss us names (names_after ss names at c) (length names) c r
    → IsOfExpressions r.role
item_coded ss us names at (Group true bs) r none rises h =
    recursive_coded ss us (with_own names at 0 bs) (length names) bs r.role h.0 none rises
item_coded ss us names at (Group false bs) r none rises h =
    plain_coded ss us names (length names) bs r.role h.0
item_coded ss us names at (Check w e) r none rises h =
    check_coded ss us names (length names) w e r.role h.0
item_coded ss us names at Mute r none rises h = subst (λ (role : Role). IsOfExpressions role) (sym h.0) tt
item_coded ss us names at (Defined n ps b) r none rises h =
    subst (λ (role : Role). IsOfExpressions role) (sym h.0) tt

all_coded : (ss : List Sense) (us : List Usage) (names : List Naming) (at : ℕ) (cs : List BareItem)
    (rs : List ResolvedItem) → HasNoFault ss names at cs
    → AllByRecursion (λ r. IsRisingRole r.role) rs → AreResolved ss us names at cs rs
    → AllByRecursion (λ r. IsOfExpressions r.role) rs
all_coded ss us names at [] [] none rises h = tt
all_coded ss us names at [] (r ∷ rs) none rises h = absurd h
all_coded ss us names at (c ∷ cs) [] none rises h = absurd h
all_coded ss us names at (c ∷ cs) (r ∷ rs) none rises h = (
  item_coded ss us names at c r (λ p k f. none 0 p k (inl (refl, f))) rises.0 h.0,
  all_coded (senses_after ss names c) (usages_after us names at c) (names_after ss names at c) (at + 1)
      cs rs (λ i p k f. none (1 + i) p k (inr (i, refl, f))) rises.1 h.1,
)

pub coded_items : (model : ModelText) → AreItemsExpressions model
coded_items model rs none h =
    all_coded [] [] outermost_names 0 (bare_items model) rs none
    (resolved_rising outermost_names 0 (bare_items model) rs none h.0) h.0
