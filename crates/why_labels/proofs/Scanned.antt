-- The steps of a tree, read from the last, give the names that it is a union of.
use Rattle.std.proofs.Common.{◌≡◌, ◌∙◌, ◌++◌, List, [], ◌∷◌, Bool, true, false, refl, sym, ap}
use Rattle.std.proofs.lemmas.List.{append-nil}
use Rattle.std.proofs.Common.{append_assoc}
use Rattle.binding_graph.specs.declared.resolved.Blend.TheVariants as blends
use Rattle.binding_graph.specs.declared.resolved.Source.{Source}
use Rattle.binding_graph.specs.declared.resolved.Step.{Step}
use Rattle.binding_graph.specs.declared.resolved.Step.TheVariants as steps
use Rattle.binding_graph.specs.Trees.{SetTree, SetName, AllEvents, NoEvent, BlendSets, ComplementSet, RelTree, RelName, NoPair, BlendRelations, SequenceRelations, ProductOfSets, IdentityOn, Close, ComplementRelation, set_code, rel_code}
use Rattle.why_labels.specs.Operands.{union_names, IsUnionOf}
use Rattle.why_witness.specs.Pending.{without_next, next_twice, next_inside}
use Rattle.why_labels.specs.Scanning.{source_where, is_operand, open_from, names_from}
use Rattle.std.specs.List.{cons_option}

set_open : (s : SetTree) (rest : List Step) → open_from (set_code s rest) ≡ open_from rest
set_open (SetName source) rest = refl
set_open AllEvents rest = refl
set_open NoEvent rest = refl
set_open (BlendSets how a b) rest =
    set_open a (set_code b (steps.BlendSets how ∷ rest)) ∙ set_open b (steps.BlendSets how ∷ rest)
set_open (ComplementSet a) rest = set_open a (steps.ComplementSet ∷ rest)

set_names : (s : SetTree) (rest : List Step) → names_from (set_code s rest) ≡ names_from rest
set_names (SetName source) rest = refl
set_names AllEvents rest = refl
set_names NoEvent rest = refl
set_names (BlendSets how a b) rest =
    set_names a (set_code b (steps.BlendSets how ∷ rest)) ∙ set_names b (steps.BlendSets how ∷ rest)
set_names (ComplementSet a) rest = set_names a (steps.ComplementSet ∷ rest)

-- a tree is the next relation
rel_open : (t : RelTree) (rest : List Step) (b : Bool) (bs : List Bool) → open_from rest ≡ b ∷ bs
    → open_from (rel_code t rest) ≡ bs
rel_open (RelName source) rest b bs e = ap without_next e
rel_open NoPair rest b bs e = ap without_next e
rel_open (BlendRelations blends.Union x y) rest b bs e =
    rel_open x (rel_code y (steps.BlendRelations blends.Union ∷ rest)) b bs
    (rel_open y (steps.BlendRelations blends.Union ∷ rest) b (b ∷ bs) (ap next_twice e))
rel_open (BlendRelations blends.Intersection x y) rest b bs e =
    rel_open x (rel_code y (steps.BlendRelations blends.Intersection ∷ rest)) false bs
    (rel_open y (steps.BlendRelations blends.Intersection ∷ rest) false (false ∷ bs)
    (ap (λ (l : List Bool). next_twice (next_inside l)) e))
rel_open (BlendRelations blends.Difference x y) rest b bs e =
    rel_open x (rel_code y (steps.BlendRelations blends.Difference ∷ rest)) false bs
    (rel_open y (steps.BlendRelations blends.Difference ∷ rest) false (false ∷ bs)
    (ap (λ (l : List Bool). next_twice (next_inside l)) e))
rel_open (SequenceRelations x y) rest b bs e =
    rel_open x (rel_code y (steps.SequenceRelations ∷ rest)) false bs (rel_open y (steps.SequenceRelations ∷ rest) false
    (false ∷ bs) (ap (λ (l : List Bool). next_twice (next_inside l)) e))
rel_open (ProductOfSets s t) rest b bs e =
    set_open s (set_code t (steps.ProductOfSets ∷ rest)) ∙ set_open t (steps.ProductOfSets ∷ rest)
    ∙ ap without_next e
rel_open (IdentityOn s) rest b bs e = set_open s (steps.IdentityOn ∷ rest) ∙ ap without_next e
rel_open (Close how x) rest b bs e = rel_open x (steps.Close how ∷ rest) false bs (ap next_inside e)
rel_open (ComplementRelation x) rest b bs e =
    rel_open x (steps.ComplementRelation ∷ rest) false bs (ap next_inside e)

-- what stands inside no union adds no name
inner_names : (t : RelTree) (rest : List Step) (bs : List Bool) → open_from rest ≡ false ∷ bs
    → names_from (rel_code t rest) ≡ names_from rest
inner_names (RelName source) rest bs e =
    ap (λ (l : List Bool). cons_option (source_where (is_operand l) source) (names_from rest)) e
inner_names NoPair rest bs e = refl
inner_names (BlendRelations blends.Union x y) rest bs e =
    let one : open_from (steps.BlendRelations blends.Union ∷ rest) ≡ false ∷ false ∷ bs = ap next_twice e in
    inner_names x (rel_code y (steps.BlendRelations blends.Union ∷ rest)) bs
    (rel_open y (steps.BlendRelations blends.Union ∷ rest) false (false ∷ bs) one)
    ∙ inner_names y (steps.BlendRelations blends.Union ∷ rest) (false ∷ bs) one
inner_names (BlendRelations blends.Intersection x y) rest bs e =
    let one : open_from (steps.BlendRelations blends.Intersection ∷ rest) ≡ false ∷ false ∷ bs = ap (λ (l : List Bool). next_twice (next_inside l)) e in
    inner_names x (rel_code y (steps.BlendRelations blends.Intersection ∷ rest)) bs
    (rel_open y (steps.BlendRelations blends.Intersection ∷ rest) false (false ∷ bs) one)
    ∙ inner_names y (steps.BlendRelations blends.Intersection ∷ rest) (false ∷ bs) one
inner_names (BlendRelations blends.Difference x y) rest bs e =
    let one : open_from (steps.BlendRelations blends.Difference ∷ rest) ≡ false ∷ false ∷ bs = ap (λ (l : List Bool). next_twice (next_inside l)) e in
    inner_names x (rel_code y (steps.BlendRelations blends.Difference ∷ rest)) bs
    (rel_open y (steps.BlendRelations blends.Difference ∷ rest) false (false ∷ bs) one)
    ∙ inner_names y (steps.BlendRelations blends.Difference ∷ rest) (false ∷ bs) one
inner_names (SequenceRelations x y) rest bs e =
    let one : open_from (steps.SequenceRelations ∷ rest) ≡ false ∷ false ∷ bs = ap (λ (l : List Bool). next_twice (next_inside l)) e in
    inner_names x (rel_code y (steps.SequenceRelations ∷ rest)) bs
    (rel_open y (steps.SequenceRelations ∷ rest) false (false ∷ bs) one)
    ∙ inner_names y (steps.SequenceRelations ∷ rest) (false ∷ bs) one
inner_names (ProductOfSets s t) rest bs e =
    set_names s (set_code t (steps.ProductOfSets ∷ rest)) ∙ set_names t (steps.ProductOfSets ∷ rest)
inner_names (IdentityOn s) rest bs e = set_names s (steps.IdentityOn ∷ rest)
inner_names (Close how x) rest bs e = inner_names x (steps.Close how ∷ rest) bs (ap next_inside e)
inner_names (ComplementRelation x) rest bs e =
    inner_names x (steps.ComplementRelation ∷ rest) bs (ap next_inside e)

-- an operand adds the names that it is a union of
outer_names : (t : RelTree) (rest : List Step) (bs : List Bool) → open_from rest ≡ true ∷ bs
    → names_from (rel_code t rest) ≡ union_names t ++ names_from rest
outer_names (RelName source) rest bs e =
    ap (λ (l : List Bool). cons_option (source_where (is_operand l) source) (names_from rest)) e
outer_names NoPair rest bs e = refl
outer_names (BlendRelations blends.Union x y) rest bs e =
    let one : open_from (steps.BlendRelations blends.Union ∷ rest) ≡ true ∷ true ∷ bs = ap next_twice e in
    let left = outer_names x (rel_code y (steps.BlendRelations blends.Union ∷ rest)) bs (rel_open y (steps.BlendRelations blends.Union ∷ rest) true (true ∷ bs) one) in
    let right = outer_names y (steps.BlendRelations blends.Union ∷ rest) (true ∷ bs) one in
    left ∙ ap (λ (l : List Source). union_names x ++ l) right
    ∙ sym (append_assoc (union_names x) (union_names y) (names_from rest))
outer_names (BlendRelations blends.Intersection x y) rest bs e =
    let one : open_from (steps.BlendRelations blends.Intersection ∷ rest) ≡ false ∷ false ∷ bs = ap (λ (l : List Bool). next_twice (next_inside l)) e in
    inner_names x (rel_code y (steps.BlendRelations blends.Intersection ∷ rest)) bs
    (rel_open y (steps.BlendRelations blends.Intersection ∷ rest) false (false ∷ bs) one)
    ∙ inner_names y (steps.BlendRelations blends.Intersection ∷ rest) (false ∷ bs) one
outer_names (BlendRelations blends.Difference x y) rest bs e =
    let one : open_from (steps.BlendRelations blends.Difference ∷ rest) ≡ false ∷ false ∷ bs = ap (λ (l : List Bool). next_twice (next_inside l)) e in
    inner_names x (rel_code y (steps.BlendRelations blends.Difference ∷ rest)) bs
    (rel_open y (steps.BlendRelations blends.Difference ∷ rest) false (false ∷ bs) one)
    ∙ inner_names y (steps.BlendRelations blends.Difference ∷ rest) (false ∷ bs) one
outer_names (SequenceRelations x y) rest bs e =
    let one : open_from (steps.SequenceRelations ∷ rest) ≡ false ∷ false ∷ bs = ap (λ (l : List Bool). next_twice (next_inside l)) e in
    inner_names x (rel_code y (steps.SequenceRelations ∷ rest)) bs
    (rel_open y (steps.SequenceRelations ∷ rest) false (false ∷ bs) one)
    ∙ inner_names y (steps.SequenceRelations ∷ rest) (false ∷ bs) one
outer_names (ProductOfSets s t) rest bs e =
    set_names s (set_code t (steps.ProductOfSets ∷ rest)) ∙ set_names t (steps.ProductOfSets ∷ rest)
outer_names (IdentityOn s) rest bs e = set_names s (steps.IdentityOn ∷ rest)
outer_names (Close how x) rest bs e = inner_names x (steps.Close how ∷ rest) bs (ap next_inside e)
outer_names (ComplementRelation x) rest bs e =
    inner_names x (steps.ComplementRelation ∷ rest) bs (ap next_inside e)

pub names_are : (xs : List Step) → IsUnionOf xs (names_from xs)
names_are xs t code = ap names_from code ∙ outer_names t [] [] refl ∙ append-nil (union_names t)
