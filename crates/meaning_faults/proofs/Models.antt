-- The first fault of a model is the head of its faults.
use Rattle.std.proofs.Common.{ℕ, zero, suc, ◌≡◌, ◌<◌, ◌≤◌, ◌⊎◌, inl, inr, ◌↔◌, List, [], ◌∷◌, length, map, reverse, Bool, true, false, Option, Some, None, refl, ap, sym, ◌∙◌, subst, arith}
use Rattle.std.specs.Prelude.{if◌then◌else◌}
use Rattle.text_values.specs.declared.model.Binding as code_binding
use Rattle.text_values.specs.declared.model.Item.{Item}
use Rattle.text_values.specs.declared.model.Item.TheVariants as items
use Rattle.predefined_names.specs.declared.predefined.Predefined.{Predefined}
use Rattle.predefined_names.specs.declared.predefined.TheConstants.{PREDEFINED}
use Rattle.predefined_names.specs.PredefinedNames.{spelling, is_set}
use Rattle.text_values.specs.ModelValues.{binding_of, clause_of, clauses_of}
use Rattle.binding_kinds.specs.declared.fault.ModelFault as program
use Rattle.binding_kinds.specs.declared.fault.ModelFault.TheVariants as program_faults
use Rattle.binding_kinds.specs.declared.kinds.Kind.TheVariants as kinds
use Rattle.binding_kinds.specs.Value.{Naming, Bound, BareItem, Group, bound_value_of, bare_item}
use Rattle.binding_kinds.specs.Outermost.{naming_of}
use Rattle.binding_kinds.specs.Senses.{Sense}
use Rattle.binding_kinds.specs.Faults.{rank, IsFaultNoLater, FirstFault, HasNoFault}
use Rattle.binding_kinds.specs.First.{first}
use Rattle.binding_kinds.proofs.FirstItem.{JudgesItems, judged_items}
use Rattle.meaning.specs.Faults.{ModelFault, OfSet, OfRelation, predefined_known, outermost_scope, faults}
use Rattle.meaning_faults.specs.Laws.{head_of, outer_namings, FirstFaultIsHead, NoFaultIsNone}
use Rattle.meaning_faults.proofs.Likeness.{kind_to}
use Rattle.meaning_faults.proofs.Scopes.{AreTied, not_before}
use Rattle.meaning_faults.proofs.Items.{bound_from, bare_of, items_same}

-- ---- the names that the first item sees

namings_long : (ps : List Predefined) → length (map naming_of ps) ≡ length ps
namings_long [] = refl
namings_long (p ∷ ps) = ap suc (namings_long ps)

predefined_tied : (from : ℕ) (ps : List Predefined) → length ps ≤ from
    → AreTied [] from (map naming_of ps) (map (λ p. (spelling p, predefined_known p)) ps)
predefined_tied from [] le = tt
predefined_tied from (p ∷ ps) le = (
  refl,
  record {
    kind = at_test (is_set p);
    size = refl;
    recursive = sym (not_before from (length (map naming_of ps))
        (let e = namings_long ps in omega (arith, e, le)));
  },
  predefined_tied from ps (omega (arith, le)),
)
  where
    at_test : (b : Bool)
        → (if b then kinds.OfSet else kinds.OfRelation) ≡ kind_to (if b then OfSet else OfRelation)
    at_test true = refl
    at_test false = refl

outer_tied : AreTied [] (length (outer_namings PREDEFINED)) (outer_namings PREDEFINED) outermost_scope
outer_tied = predefined_tied 33 (reverse PREDEFINED) (omega arith)

-- ---- items of the code

bounds_same : (bs : List code_binding.Binding)
    → map bound_value_of bs ≡ map bound_from (map binding_of bs)
bounds_same [] = refl
bounds_same (b ∷ bs) = ap (λ (l : List Bound). bound_value_of b ∷ l) (bounds_same bs)

item_bare : (i : Item) → bare_item i ≡ bare_of (clause_of i)
item_bare (items.Let recursive group) =
    ap (λ (bs : List Bound). Group recursive bs) (bounds_same group.items)
item_bare (items.Function name parameters body) = refl
item_bare (items.Check check label) = refl
item_bare (items.Flag check label) = refl
item_bare (items.Show hidden shown) = refl
item_bare (items.Include path) = refl

items_bare : (is : List Item) → map bare_item is ≡ map bare_of (clauses_of is)
items_bare [] = refl
items_bare (i ∷ is) = more (bare_item i) _ _ _ (item_bare i) (items_bare is)
  where
    more : (a b : BareItem) (xs ys : List BareItem) → a ≡ b → xs ≡ ys → (a ∷ xs) ≡ (b ∷ ys)
    more a b xs ys d e = cc

head_is_first : (is : List Item)
    → head_of (faults (clauses_of is)) ≡ first [] (outer_namings PREDEFINED) 0 (map bare_item is)
head_is_first is =
    items_same [] (outer_namings PREDEFINED) outermost_scope outer_tied 0 (clauses_of is)
    ∙ ap (first [] (outer_namings PREDEFINED) 0) (sym (items_bare is))

-- ---- there is one first fault

with_rank : ℕ → program.ModelFault
with_rank zero = program_faults.Unbound
with_rank (suc zero) = program_faults.Duplicate
with_rank (suc (suc zero)) = program_faults.Arity
with_rank (suc (suc (suc zero))) = program_faults.TooLarge
with_rank (suc (suc (suc (suc zero)))) = program_faults.NotMonotone
with_rank (suc (suc (suc (suc (suc zero))))) = program_faults.Kind
with_rank (suc (suc (suc (suc (suc (suc n)))))) = program_faults.SetInRec

of_rank : (k : program.ModelFault) → with_rank (rank k) ≡ k
unfolding with_rank
of_rank program_faults.Unbound = refl
of_rank program_faults.Kind = refl
of_rank program_faults.NotMonotone = refl
of_rank program_faults.Duplicate = refl
of_rank program_faults.SetInRec = refl
of_rank program_faults.Arity = refl
of_rank program_faults.TooLarge = refl

ranks_same : (k l : program.ModelFault) → rank k ≡ rank l → k ≡ l
ranks_same k l e = sym (of_rank k) ∙ (ap with_rank e ∙ of_rank l)

one_place : (k l : program.ModelFault) (a b c d : ℕ)
    → (a < c) ⊎ ((a ≡ c) × IsFaultNoLater b k d l)
    → (c < a) ⊎ ((c ≡ a) × IsFaultNoLater d l b k) → rank k ≡ rank l
one_place k l a b c d (inl f) (inl g) = absurd (omega (arith, f, g))
one_place k l a b c d (inl f) (inr g) = let e = g.0 in absurd (omega (arith, f, e))
one_place k l a b c d (inr f) (inl g) = let e = f.0 in absurd (omega (arith, g, e))
one_place k l a b c d (inr f) (inr g) = at_index f.1 g.1
  where
    at_index : IsFaultNoLater b k d l → IsFaultNoLater d l b k → rank k ≡ rank l
    at_index (inl s) (inl t) = absurd (omega (arith, s, t))
    at_index (inl s) (inr t) = let e = t.0 in absurd (omega (arith, s, e))
    at_index (inr s) (inl t) = let e = s.0 in absurd (omega (arith, t, e))
    at_index (inr s) (inr t) = let x = s.1 in let y = t.1 in omega (arith, x, y)

one_first : (ss : List Sense) (names : List Naming) (from : ℕ) (cs : List BareItem)
    (k l : program.ModelFault) → FirstFault ss names from cs k → FirstFault ss names from cs l
    → k ≡ l
one_first ss names from cs k l f g =
    ranks_same k l (one_place k l f.item f.index g.item g.index
    (f.none_before g.item g.index l g.there) (g.none_before f.item f.index k f.there))

-- ---- what the program answers

answered : (ss : List Sense) (names : List Naming) (from : ℕ) (cs : List BareItem)
    (o : Option program.ModelFault) → JudgesItems ss names from cs o → (k : program.ModelFault)
    → FirstFault ss names from cs k ↔ (o ≡ Some k)
answered ss names from cs None none k = (
  λ f. absurd (none f.item f.index k f.there),
  λ e. absurd (let g : None ≡ Some k = e in cc),
)
answered ss names from cs (Some l) first k = (
  λ f. ap (λ (m : program.ModelFault). Some m) (one_first ss names from cs l k first f),
  λ e.
      let same : l ≡ k = let g : Some l ≡ Some k = e in cc in
      subst (λ (m : program.ModelFault). FirstFault ss names from cs m) same first,
)

unanswered : (ss : List Sense) (names : List Naming) (from : ℕ) (cs : List BareItem)
    (o : Option program.ModelFault) → JudgesItems ss names from cs o
    → HasNoFault ss names from cs ↔ (o ≡ None)
unanswered ss names from cs None none = (λ h. refl, λ e. none)
unanswered ss names from cs (Some l) first = (
  λ h. absurd (h first.item first.index l first.there),
  λ e. absurd (let g : Some l ≡ None = e in cc),
)

no_head : (ks : List ModelFault) → head_of ks ≡ None → ks ≡ []
no_head [] e = refl
no_head (k ∷ ks) e = absurd (let f : head_of (k ∷ ks) ≡ None = e in cc)

judged : (is : List Item)
    → JudgesItems [] (outer_namings PREDEFINED) 0 (map bare_item is)
    (head_of (faults (clauses_of is)))
judged is =
    subst (JudgesItems [] (outer_namings PREDEFINED) 0 (map bare_item is))
    (sym (head_is_first is)) (judged_items [] (outer_namings PREDEFINED) 0 (map bare_item is))

pub first_is_head : (is : List Item) → FirstFaultIsHead is
first_is_head is k =
    answered [] (outer_namings PREDEFINED) 0 (map bare_item is)
    (head_of (faults (clauses_of is))) (judged is) k

pub no_fault_is_none : (is : List Item) → NoFaultIsNone is
no_fault_is_none is =
    let h = unanswered [] (outer_namings PREDEFINED) 0 (map bare_item is)
    (head_of (faults (clauses_of is))) (judged is) in (
      λ f. no_head (faults (clauses_of is)) (h.0 f),
      λ e. h.1 (ap head_of e),
    )
