-- The steps of an expression leave its growth on the stack.
use Rattle.std.proofs.Common.{ℕ, ◌≡◌, ◌<◌, ◌≤◌, ◌+◌, ◌∙◌, ◌++◌, zero, suc, List, [], ◌∷◌, length, get_or, take, drop, reverse, refl, sym, ap, subst, arith, add-one, drop-cons}
use Rattle.std.proofs.lemmas.List.{take_more, reverse-append}
use Rattle.binding_graph.proofs.Labels.{zip_push}
use Rattle.binding_graph.specs.declared.resolved.Body.{Body}
use Rattle.binding_graph.specs.declared.resolved.Step.{Step}
use Rattle.binding_graph.specs.declared.resolved.Step.TheVariants as steps
use Rattle.binding_graph.specs.Trees.{SetTree, SetName, AllEvents, NoEvent, BlendSets, ComplementSet, RelTree, RelName, NoPair, BlendRelations, SequenceRelations, ProductOfSets, IdentityOn, Close, ComplementRelation, set_code, rel_code}
use Rattle.order_growth.specs.declared.growth.Growth.{Growth}
use Rattle.order_growth.specs.declared.growth.Growth.TheVariants.{Stays, Grows, Unknown}
use Rattle.order_growth.specs.Growth.{growth_of, growth_of_both, growth_of_all, source_growth, IsGrowthOf, AreGrowthsOf}
use Rattle.order_growth.specs.Stacks.{top_of, below_top, growths_after}

-- the stack behind all steps
abbrev pub stack_behind : List Growth → List Step → List Growth → List Growth
stack_behind inputs [] gs = gs
stack_behind inputs (x ∷ xs) gs = stack_behind inputs xs (growths_after inputs x gs)

set_leaves : (inputs : List Growth) (s : SetTree) (rest : List Step) (gs : List Growth)
    → stack_behind inputs (set_code s rest) gs ≡ stack_behind inputs rest gs
set_leaves inputs (SetName source) rest gs = refl
set_leaves inputs AllEvents rest gs = refl
set_leaves inputs NoEvent rest gs = refl
set_leaves inputs (BlendSets how s t) rest gs =
    set_leaves inputs s (set_code t (steps.BlendSets how ∷ rest)) gs
    ∙ set_leaves inputs t (steps.BlendSets how ∷ rest) gs
set_leaves inputs (ComplementSet s) rest gs = set_leaves inputs s (steps.ComplementSet ∷ rest) gs

tree_leaves : (inputs : List Growth) (e : RelTree) (rest : List Step) (gs : List Growth)
    → stack_behind inputs (rel_code e rest) gs
    ≡ stack_behind inputs rest (growth_of (source_growth inputs) e ∷ gs)
tree_leaves inputs (RelName source) rest gs = refl
tree_leaves inputs NoPair rest gs = refl
tree_leaves inputs (BlendRelations how e f) rest gs =
    tree_leaves inputs e (rel_code f (steps.BlendRelations how ∷ rest)) gs
    ∙ tree_leaves inputs f (steps.BlendRelations how ∷ rest) (growth_of (source_growth inputs) e ∷ gs)
tree_leaves inputs (SequenceRelations e f) rest gs =
    tree_leaves inputs e (rel_code f (steps.SequenceRelations ∷ rest)) gs
    ∙ tree_leaves inputs f (steps.SequenceRelations ∷ rest) (growth_of (source_growth inputs) e ∷ gs)
tree_leaves inputs (ProductOfSets s t) rest gs =
    set_leaves inputs s (set_code t (steps.ProductOfSets ∷ rest)) gs
    ∙ set_leaves inputs t (steps.ProductOfSets ∷ rest) gs
tree_leaves inputs (IdentityOn s) rest gs = set_leaves inputs s (steps.IdentityOn ∷ rest) gs
tree_leaves inputs (Close how e) rest gs = tree_leaves inputs e (steps.Close how ∷ rest) gs
tree_leaves inputs (ComplementRelation e) rest gs =
    tree_leaves inputs e (steps.ComplementRelation ∷ rest) gs

-- from the empty stack
pub code_leaves : (inputs : List Growth) (e : RelTree)
    → stack_behind inputs (rel_code e []) [] ≡ growth_of (source_growth inputs) e ∷ []
code_leaves inputs e = tree_leaves inputs e [] []

-- what is known of three
pub three : (a b c : Growth)
    → growth_of_both (growth_of_both a b) c ≡ growth_of_both a (growth_of_both b c)
three Stays b c = refl
three Grows Stays c = refl
three Grows Grows Stays = refl
three Grows Grows Grows = refl
three Grows Grows Unknown = refl
three Grows Unknown c = refl
three Unknown b c = refl

pub stays_right : (g : Growth) → growth_of_both g Stays ≡ g
stays_right Stays = refl
stays_right Grows = refl
stays_right Unknown = refl

-- the steps from an index on are one and those behind it
pub one_step : (inputs : List Growth) (xs : List Step) (i : ℕ) (d : Step) (gs : List Growth)
    → i < length xs
    → stack_behind inputs (drop i xs) gs
    ≡ stack_behind inputs (drop (i + 1) xs) (growths_after inputs (get_or xs i d) gs)
one_step inputs xs i d gs lt =
    ap (λ (ys : List Step). stack_behind inputs ys gs) (drop-cons xs i d lt)
    ∙ ap (λ (k : ℕ). stack_behind inputs (drop k xs) (growths_after inputs (get_or xs i d) gs))
    (sym (add-one i))

-- behind all steps stands the growth of the expression
pub at_end : (inputs : List Growth) (xs : List Step) (i : ℕ) (gs : List Growth) (e : RelTree)
    → length xs ≤ i → stack_behind inputs (drop i xs) gs ≡ stack_behind inputs xs []
    → xs ≡ rel_code e [] → top_of gs ≡ growth_of (source_growth inputs) e
at_end inputs xs i gs e past same code =
    let none : drop i xs ≡ [] = drop_past xs i past in
    let here : gs ≡ stack_behind inputs xs [] = sym (ap (λ (ys : List Step). stack_behind inputs ys gs) none) ∙ same in
    let there : stack_behind inputs xs [] ≡ growth_of (source_growth inputs) e ∷ [] = ap (λ (ys : List Step). stack_behind inputs ys []) code ∙ code_leaves inputs e in
    ap top_of (here ∙ there)
  where
    drop_past : (xs : List Step) (i : ℕ) → length xs ≤ i → drop i xs ≡ []
    drop_past [] zero le = refl
    drop_past [] (suc i) le = refl
    drop_past (x ∷ xs) zero le = absurd (omega (arith, le))
    drop_past (x ∷ xs) (suc i) le = drop_past xs i (omega (arith, le))

-- what stood on the stack
pub popped : (old new : List Growth) (g : Growth) → old ≡ new ++ g ∷ []
    → (g ≡ top_of (reverse old)) × (reverse new ≡ below_top (reverse old))
popped old new g e =
    let turned : reverse old ≡ g ∷ reverse new = ap (λ (gs : List Growth). reverse gs) e ∙ reverse-append new (g ∷ []) in
    (sym (ap top_of turned), sym (ap below_top turned))

pub emptied : (old new : List Growth) → length old ≡ 0 → length new ≡ 0
    → (Unknown ≡ top_of (reverse old)) × (reverse new ≡ below_top (reverse old))
emptied [] [] e f = (refl, refl)
emptied [] (g ∷ new) e f = absurd (omega (arith, f))
emptied (g ∷ old) new e f = absurd (omega (arith, e))

pub pushed : (old new : List Growth) (g : Growth) → new ≡ old ++ g ∷ []
    → reverse new ≡ g ∷ reverse old
pushed old new g e = ap (λ (gs : List Growth). reverse gs) e ∙ reverse-append old (g ∷ [])

-- one body more
pub one_body : (inputs : List Growth) (bodies : List Body) (i : ℕ) (b : Body) (gs more : List Growth)
    (g : Growth) → i < length bodies → b ≡ get_or bodies i b → more ≡ gs ++ g ∷ []
    → IsGrowthOf inputs b.code.steps.items g → AreGrowthsOf inputs (take i bodies) gs
    → AreGrowthsOf inputs (take (i + 1) bodies) more
one_body inputs bodies i b gs more g lt is e growth h =
    subst (λ (bs : List Body). AreGrowthsOf inputs bs more)
    (sym (take_more bodies i b lt ∙ ap (λ (x : Body). take i bodies ++ x ∷ []) (sym is)))
    (subst (λ (hs : List Growth). AreGrowthsOf inputs (take i bodies ++ b ∷ []) hs) (sym e)
    (zip_push (λ x y. IsGrowthOf inputs x.code.steps.items y) (take i bodies) gs b g h growth))

-- one growth more
pub one_growth : (all : Growth) (gs : List Growth) (i : ℕ) (d : Growth) → i < length gs
    → growth_of_both all (growth_of_all (drop i gs))
    ≡ growth_of_both (growth_of_both all (get_or gs i d)) (growth_of_all (drop (i + 1) gs))
one_growth all gs i d lt =
    ap (λ (hs : List Growth). growth_of_both all (growth_of_all hs)) (drop-cons gs i d lt)
    ∙ (sym (three all (get_or gs i d) (growth_of_all (drop (suc i) gs)))
    ∙ ap (λ (k : ℕ). growth_of_both (growth_of_both all (get_or gs i d)) (growth_of_all (drop k gs)))
    (sym (add-one i)))

pub no_more : (all : Growth) (gs : List Growth) (i : ℕ) → length gs ≤ i
    → growth_of_both all (growth_of_all (drop i gs)) ≡ growth_of_all gs → all ≡ growth_of_all gs
no_more all gs i past h =
    sym (stays_right all)
    ∙ (ap (λ (hs : List Growth). growth_of_both all (growth_of_all hs)) (sym (drop_past gs i past)) ∙ h)
  where
    drop_past : (gs : List Growth) (i : ℕ) → length gs ≤ i → drop i gs ≡ []
    drop_past [] zero le = refl
    drop_past [] (suc i) le = refl
    drop_past (x ∷ xs) zero le = absurd (omega (arith, le))
    drop_past (x ∷ xs) (suc i) le = drop_past xs i (omega (arith, le))
