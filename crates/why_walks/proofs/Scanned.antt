-- The steps of a tree, read from the last, give its factors.
use Rattle.std.proofs.Common.{◌≡◌, ◌∙◌, ◌++◌, List, [], ◌∷◌, reverse, map, Bool, true, false, refl, sym, ap, append_assoc}
use Rattle.std.proofs.lemmas.List.{append-nil, map-append, reverse-append}
use Rattle.binding_graph.specs.declared.resolved.Step.{Step}
use Rattle.binding_graph.specs.declared.resolved.Step.TheVariants as steps
use Rattle.binding_graph.specs.Trees.{SetTree, SetName, AllEvents, NoEvent, BlendSets, ComplementSet, RelTree, RelName, NoPair, BlendRelations, SequenceRelations, ProductOfSets, IdentityOn, Close, ComplementRelation, set_code, rel_code}
use Rattle.text_values.specs.declared.model.Postfix.{Postfix}
use Rattle.text_values.specs.declared.model.Postfix.TheVariants as postfix
use Rattle.why_walks.specs.declared.factor.Factor.{Factor}
use Rattle.why_walks.specs.declared.factor.Repeats.{Repeats}
use Rattle.why_walks.specs.declared.factor.Repeats.TheVariants as repeats
use Rattle.why_walks.specs.Factors.{FactorSteps, factors_of, tree_part, factor_steps, AreFactors}
use Rattle.why_witness.specs.Pending.{without_next, next_twice, next_inside}
use Rattle.why_walks.specs.Scanning.{makes_relation, with_step, with_last, pending_from, parts_from}

set_pending : (s : SetTree) (rest : List Step) → pending_from (set_code s rest) ≡ pending_from rest
set_pending (SetName source) rest = refl
set_pending AllEvents rest = refl
set_pending NoEvent rest = refl
set_pending (BlendSets how a b) rest =
    set_pending a (set_code b (steps.BlendSets how ∷ rest))
    ∙ set_pending b (steps.BlendSets how ∷ rest)
set_pending (ComplementSet a) rest = set_pending a (steps.ComplementSet ∷ rest)

-- a tree is the next relation
rel_pending : (t : RelTree) (rest : List Step) (b : Bool) (bs : List Bool)
    → pending_from rest ≡ b ∷ bs → pending_from (rel_code t rest) ≡ bs
rel_pending (RelName source) rest b bs e = ap without_next e
rel_pending NoPair rest b bs e = ap without_next e
rel_pending (BlendRelations how x y) rest b bs e =
    rel_pending x (rel_code y (steps.BlendRelations how ∷ rest)) false bs (rel_pending y
    (steps.BlendRelations how ∷ rest) false (false ∷ bs)
    (ap (λ (l : List Bool). next_twice (next_inside l)) e))
rel_pending (SequenceRelations x y) rest b bs e =
    rel_pending x (rel_code y (steps.SequenceRelations ∷ rest)) b bs (rel_pending y (steps.SequenceRelations ∷ rest) b
    (b ∷ bs) (ap next_twice e))
rel_pending (ProductOfSets s t) rest b bs e =
    set_pending s (set_code t (steps.ProductOfSets ∷ rest)) ∙ set_pending t (steps.ProductOfSets ∷ rest)
    ∙ ap without_next e
rel_pending (IdentityOn s) rest b bs e = set_pending s (steps.IdentityOn ∷ rest) ∙ ap without_next e
rel_pending (Close how x) rest b bs e =
    rel_pending x (steps.Close how ∷ rest) false bs (ap next_inside e)
rel_pending (ComplementRelation x) rest b bs e =
    rel_pending x (steps.ComplementRelation ∷ rest) false bs (ap next_inside e)

-- a set belongs to the first of the parts
set_parts : (s : SetTree) (rest : List Step) (r : Repeats) (xs : List Step) (ps : List FactorSteps)
    → parts_from rest ≡ record { repeats = r; steps = xs } ∷ ps
    → parts_from (set_code s rest) ≡ record { repeats = r; steps = set_code s xs } ∷ ps
set_parts (SetName source) rest r xs ps e = ap (with_step (steps.PushSet source)) e
set_parts AllEvents rest r xs ps e = ap (with_step steps.PushEverything) e
set_parts NoEvent rest r xs ps e = ap (with_step steps.PushNoEvents) e
set_parts (BlendSets how a b) rest r xs ps e =
    set_parts a (set_code b (steps.BlendSets how ∷ rest)) r (set_code b (steps.BlendSets how ∷ xs))
    ps (set_parts b (steps.BlendSets how ∷ rest) r (steps.BlendSets how ∷ xs) ps
    (ap (with_step (steps.BlendSets how)) e))
set_parts (ComplementSet a) rest r xs ps e =
    set_parts a (steps.ComplementSet ∷ rest) r (steps.ComplementSet ∷ xs) ps
    (ap (with_step steps.ComplementSet) e)

-- a step of a relation that is no factor
inside : (x : Step) (rest : List Step) (bs : List Bool) (ps : List FactorSteps) → makes_relation x ≡ true
    → pending_from rest ≡ false ∷ bs → parts_from rest ≡ ps → parts_from (x ∷ rest) ≡ with_step x ps
inside x rest bs ps relation e p = rw (relation, e, p) refl

-- a relation that is no factor belongs to the first of the parts
inner_parts : (t : RelTree) (rest : List Step) (bs : List Bool) (r : Repeats) (xs : List Step)
    (ps : List FactorSteps) → pending_from rest ≡ false ∷ bs
    → parts_from rest ≡ record { repeats = r; steps = xs } ∷ ps
    → parts_from (rel_code t rest) ≡ record { repeats = r; steps = rel_code t xs } ∷ ps
inner_parts (RelName source) rest bs r xs ps e p =
    inside (steps.PushRelation source) rest bs (record { repeats = r; steps = xs } ∷ ps) refl e p
inner_parts NoPair rest bs r xs ps e p =
    inside steps.PushNoPairs rest bs (record { repeats = r; steps = xs } ∷ ps) refl e p
inner_parts (BlendRelations how x y) rest bs r xs ps e p =
    let one : pending_from (steps.BlendRelations how ∷ rest) ≡ false ∷ false ∷ bs = ap (λ (l : List Bool). next_twice (next_inside l)) e in
    inner_parts x (rel_code y (steps.BlendRelations how ∷ rest)) bs r
    (rel_code y (steps.BlendRelations how ∷ xs)) ps (rel_pending y
    (steps.BlendRelations how ∷ rest) false (false ∷ bs) one)
    (inner_parts y (steps.BlendRelations how ∷ rest) (false ∷ bs) r (steps.BlendRelations how ∷ xs)
    ps one (inside (steps.BlendRelations how) rest bs
    (record { repeats = r; steps = xs } ∷ ps) refl e p))
inner_parts (SequenceRelations x y) rest bs r xs ps e p =
    let one : pending_from (steps.SequenceRelations ∷ rest) ≡ false ∷ false ∷ bs = ap next_twice e in
    inner_parts x (rel_code y (steps.SequenceRelations ∷ rest)) bs r (rel_code y (steps.SequenceRelations ∷ xs)) ps
    (rel_pending y (steps.SequenceRelations ∷ rest) false (false ∷ bs) one)
    (inner_parts y (steps.SequenceRelations ∷ rest) (false ∷ bs) r (steps.SequenceRelations ∷ xs) ps one
    (inside steps.SequenceRelations rest bs (record { repeats = r; steps = xs } ∷ ps) refl e p))
inner_parts (ProductOfSets s t) rest bs r xs ps e p =
    set_parts s (set_code t (steps.ProductOfSets ∷ rest)) r (set_code t (steps.ProductOfSets ∷ xs)) ps
    (set_parts t (steps.ProductOfSets ∷ rest) r (steps.ProductOfSets ∷ xs) ps
    (inside steps.ProductOfSets rest bs (record { repeats = r; steps = xs } ∷ ps) refl e p))
inner_parts (IdentityOn s) rest bs r xs ps e p =
    set_parts s (steps.IdentityOn ∷ rest) r (steps.IdentityOn ∷ xs) ps
    (inside steps.IdentityOn rest bs (record { repeats = r; steps = xs } ∷ ps) refl e p)
inner_parts (Close how x) rest bs r xs ps e p =
    inner_parts x (steps.Close how ∷ rest) bs r (steps.Close how ∷ xs) ps (ap next_inside e)
    (inside (steps.Close how) rest bs (record { repeats = r; steps = xs } ∷ ps) refl e p)
inner_parts (ComplementRelation x) rest bs r xs ps e p =
    inner_parts x (steps.ComplementRelation ∷ rest) bs r (steps.ComplementRelation ∷ xs) ps
    (ap next_inside e) (inside steps.ComplementRelation rest bs
    (record { repeats = r; steps = xs } ∷ ps) refl e p)

-- a step of a relation that is a factor
ends : (x : Step) (rest : List Step) (bs : List Bool) → makes_relation x ≡ true
    → pending_from rest ≡ true ∷ bs → parts_from (x ∷ rest) ≡ with_last x (parts_from rest)
ends x rest bs relation e = rw (relation, e) refl

closed_parts : (how : Postfix) (x : RelTree) (rest : List Step) (bs : List Bool)
    → pending_from rest ≡ true ∷ bs
    → parts_from (rel_code (Close how x) rest) ≡ tree_part (Close how x) ∷ parts_from rest
closed_parts postfix.Transitive x rest bs e =
    inner_parts x (steps.Close postfix.Transitive ∷ rest) bs repeats.OnceOrMore [] (parts_from rest)
    (ap next_inside e) (ends (steps.Close postfix.Transitive) rest bs refl e)
closed_parts postfix.Reflexive x rest bs e =
    inner_parts x (steps.Close postfix.Reflexive ∷ rest) bs repeats.AtMostOnce [] (parts_from rest)
    (ap next_inside e) (ends (steps.Close postfix.Reflexive) rest bs refl e)
closed_parts postfix.Inverse x rest bs e =
    inner_parts x (steps.Close postfix.Inverse ∷ rest) bs repeats.Once
    (steps.Close postfix.Inverse ∷ []) (parts_from rest) (ap next_inside e)
    (ends (steps.Close postfix.Inverse) rest bs refl e)
closed_parts postfix.Closure x rest bs e =
    inner_parts x (steps.Close postfix.Closure ∷ rest) bs repeats.AnyNumber [] (parts_from rest)
    (ap next_inside e) (ends (steps.Close postfix.Closure) rest bs refl e)

-- a relation that is a factor, or a composition of factors
outer_parts : (t : RelTree) (rest : List Step) (bs : List Bool) → pending_from rest ≡ true ∷ bs
    → parts_from (rel_code t rest) ≡ map tree_part (factors_of t) ++ parts_from rest
outer_parts (RelName source) rest bs e = ends (steps.PushRelation source) rest bs refl e
outer_parts NoPair rest bs e = ends steps.PushNoPairs rest bs refl e
outer_parts (BlendRelations how x y) rest bs e =
    let one : pending_from (steps.BlendRelations how ∷ rest) ≡ false ∷ false ∷ bs = ap (λ (l : List Bool). next_twice (next_inside l)) e in
    inner_parts x (rel_code y (steps.BlendRelations how ∷ rest)) bs repeats.Once
    (rel_code y (steps.BlendRelations how ∷ [])) (parts_from rest)
    (rel_pending y (steps.BlendRelations how ∷ rest) false (false ∷ bs) one)
    (inner_parts y (steps.BlendRelations how ∷ rest) (false ∷ bs) repeats.Once
    (steps.BlendRelations how ∷ []) (parts_from rest) one
    (ends (steps.BlendRelations how) rest bs refl e))
outer_parts (SequenceRelations x y) rest bs e =
    let one : pending_from (steps.SequenceRelations ∷ rest) ≡ true ∷ true ∷ bs = ap next_twice e in
    let left = outer_parts x (rel_code y (steps.SequenceRelations ∷ rest)) bs (rel_pending y (steps.SequenceRelations ∷ rest) true (true ∷ bs) one) in
    let right = outer_parts y (steps.SequenceRelations ∷ rest) (true ∷ bs) one in
    let skip : parts_from (steps.SequenceRelations ∷ rest) ≡ parts_from rest = ends steps.SequenceRelations rest bs refl e in
    left
    ∙ ap (λ (l : List FactorSteps). map tree_part (factors_of x) ++ l) (right
    ∙ ap (λ (l : List FactorSteps). map tree_part (factors_of y) ++ l) skip)
    ∙ sym (append_assoc (map tree_part (factors_of x)) (map tree_part (factors_of y))
    (parts_from rest))
    ∙ ap (λ (l : List FactorSteps). l ++ parts_from rest)
    (sym (map-append tree_part (factors_of x) (factors_of y)))
outer_parts (ProductOfSets s t) rest bs e =
    set_parts s (set_code t (steps.ProductOfSets ∷ rest)) repeats.Once (set_code t (steps.ProductOfSets ∷ []))
    (parts_from rest) (set_parts t (steps.ProductOfSets ∷ rest) repeats.Once (steps.ProductOfSets ∷ [])
    (parts_from rest) (ends steps.ProductOfSets rest bs refl e))
outer_parts (IdentityOn s) rest bs e =
    set_parts s (steps.IdentityOn ∷ rest) repeats.Once (steps.IdentityOn ∷ []) (parts_from rest)
    (ends steps.IdentityOn rest bs refl e)
outer_parts (Close how x) rest bs e = closed_parts how x rest bs e
outer_parts (ComplementRelation x) rest bs e =
    inner_parts x (steps.ComplementRelation ∷ rest) bs repeats.Once (steps.ComplementRelation ∷ [])
    (parts_from rest) (ap next_inside e) (ends steps.ComplementRelation rest bs refl e)

parts_are : (t : RelTree) → parts_from (rel_code t []) ≡ map tree_part (factors_of t)
parts_are t = outer_parts t [] [] refl ∙ append-nil (map tree_part (factors_of t))

reverse_map : (fs : List Factor) → map factor_steps (reverse fs) ≡ reverse (map factor_steps fs)
reverse_map [] = refl
reverse_map (f ∷ fs) =
    ap (map factor_steps) (reverse-append (f ∷ []) fs) ∙ map-append factor_steps (reverse fs) (f ∷ [])
    ∙ ap (λ (l : List FactorSteps). l ++ factor_steps f ∷ []) (reverse_map fs)
    ∙ sym (reverse-append (factor_steps f ∷ []) (map factor_steps fs))

pub factors_are : (xs : List Step) (fs : List Factor) → reverse (map factor_steps fs) ≡ parts_from xs
    → AreFactors xs (reverse fs)
factors_are xs fs e t code = reverse_map fs ∙ e ∙ ap parts_from code ∙ parts_are t
