-- Names that are bound one by one.
use Rattle.std.proofs.Common.{◌≡◌, ℕ, ◌+◌, ◌<◌, ◌≤◌, List, [], ◌∷◌, ◌++◌, length, take, get_or, map, true, false, sym, ap, subst, ◌∙◌, append_assoc}
use Rattle.std.proofs.lemmas.List.{take_more, take_all, append-nil, map_push, length-map}
use Rattle.text_values.specs.declared.model.Item.{Item}
use Rattle.text_values.specs.declared.model.Item.TheVariants as items
use Rattle.text_values.specs.declared.model.Binding as code_binding
use Rattle.text_values.specs.ModelValues.{binding_of}
use Rattle.meaning.specs.Sets.{Set}
use Rattle.meaning.specs.Names.{Name}
use Rattle.meaning.specs.Cat.{Names, Least}
use Rattle.plain_models.specs.declared.value.Value.{Value}
use Rattle.plain_models.specs.declared.scope.Named.{Named}
use Rattle.plain_models.proofs.Stepping.{relations_length, meant_length}
use Rattle.plain_models.specs.Groups.{name_of, body_of}
use Rattle.plain_models.specs.Items.{IsBoundTo, AreBoundTo, GrowsBy, AreBound, AreAsMany}

bound_more : (ns : List Name) (vs : List Value) (bs : List Named) (n : Name) (v : Value) (b : Named)
    → AreBoundTo ns vs bs → b.name ≡ n → IsBoundTo v b.bound
    → AreBoundTo (ns ++ n ∷ []) (vs ++ v ∷ []) (bs ++ b ∷ [])
bound_more [] [] [] n v b before is h = (is, h, tt)
bound_more [] [] (c ∷ bs) n v b before is h = absurd before
bound_more [] (w ∷ vs) bs n v b before is h = absurd before
bound_more (m ∷ ns) [] bs n v b before is h = absurd before
bound_more (m ∷ ns) (w ∷ vs) [] n v b before is h = absurd before
bound_more (m ∷ ns) (w ∷ vs) (c ∷ bs) n v b before is h =
    (before.0, before.1, bound_more ns vs bs n v b before.2 is h)

pub binds_none : (old : List Named) → GrowsBy [] [] old old
binds_none old = ([], sym (append-nil old), tt)

pub binds_next : (gs : List code_binding.Binding) (vs : List Value) (old mid new : List Named)
    (i : ℕ) (g : code_binding.Binding) (v : Value) (b : Named) → i < length gs → i < length vs
    → GrowsBy (map name_of (take i gs)) (take i vs) old mid → g ≡ get_or gs i g → v ≡ get_or vs i v
    → b.name ≡ g.name → IsBoundTo v b.bound → new ≡ mid ++ b ∷ []
    → GrowsBy (map name_of (take (i + 1) gs)) (take (i + 1) vs) old new
binds_next gs vs old mid new i g v b lt lt_value before here there is h e =
    let names : map name_of (take (i + 1) gs) ≡ map name_of (take i gs) ++ g.name ∷ [] = ap (map name_of) (take_more gs i g lt ∙ ap (λ (x : code_binding.Binding). take i gs ++ x ∷ []) (sym here)) ∙ map_push name_of (take i gs) g in
    let list : take (i + 1) vs ≡ take i vs ++ v ∷ [] = take_more vs i v lt_value ∙ ap (λ (x : Value). take i vs ++ x ∷ []) (sym there) in (
      before.0 ++ b ∷ [],
      e ∙ (ap (λ (l : List Named). l ++ b ∷ []) before.1 ∙ append_assoc old before.0 (b ∷ [])),
      subst (λ (l : List Name). AreBoundTo l (take (i + 1) vs) (before.0 ++ b ∷ [])) (sym names)
          (subst (λ (l : List Value). AreBoundTo (map name_of (take i gs) ++ g.name ∷ []) l (before.0 ++ b ∷ [])) (sym list)
          (bound_more (map name_of (take i gs)) (take i vs) before.0 g.name v b before.2 is h)),
    )

pub binds_whole : (gs : List code_binding.Binding) (vs : List Value) (old new : List Named) (i : ℕ)
    → length gs ≤ i → length vs ≤ i → GrowsBy (map name_of (take i gs)) (take i vs) old new
    → GrowsBy (map name_of gs) vs old new
binds_whole gs vs old new i le le_value h =
    subst (λ (l : List code_binding.Binding). GrowsBy (map name_of l) vs old new) (take_all i gs le)
    (subst (λ (l : List Value). GrowsBy (map name_of (take i gs)) l old new) (take_all i vs le_value) h)

-- what is bound is as many as the names
pub bound_as_many : (all : Set ℕ) (N : Names ℕ) (item : Item) (vs : List Value)
    → AreBound all N item vs → AreAsMany item vs
bound_as_many all N (items.Let true group) vs h =
    sym (length-map group.items name_of)
    ∙ relations_length (Least all N (map binding_of group.items)) (map name_of group.items) vs h
bound_as_many all N (items.Let false group) vs h =
    sym (length-map group.items body_of) ∙ meant_length all N (map body_of group.items) vs h
bound_as_many all N (items.Function name parameters body) vs h = tt
bound_as_many all N (items.Check check label) vs h = tt
bound_as_many all N (items.Flag check label) vs h = tt
bound_as_many all N (items.Show hidden shown) vs h = tt
bound_as_many all N (items.Include path) vs h = tt
