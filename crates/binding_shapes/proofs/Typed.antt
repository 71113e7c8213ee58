-- Of an expression whose kinds are known: the shape of its steps, and its steps again where the names
-- have the kinds that they are read by.
use Rattle.std.proofs.Common.{ℕ, ◌≡◌, List, [], ◌∷◌, ◌++◌, map, IsTrue, refl, sym, ap, ◌∙◌}
use Rattle.std.proofs.lemmas.List.{append-nil}
use Rattle.text_values.specs.declared.model.Infix.{Infix}
use Rattle.text_values.specs.declared.model.Infix.TheVariants as infixes
use Rattle.text_values.specs.declared.model.Postfix.{Postfix}
use Rattle.binding_kinds.specs.declared.kinds.Kind.{Kind}
use Rattle.binding_kinds.specs.declared.kinds.Kind.TheVariants.{OfSet, OfRelation, OfAny}
use Rattle.binding_kinds.specs.declared.scope.Used.{Used}
use Rattle.binding_kinds.specs.declared.function.Piece.{Piece}
use Rattle.binding_kinds.specs.declared.function.Piece.TheVariants as pieces
use Rattle.binding_kinds.specs.Kinds.{takes, is_relation, is_set_kind, joined_kind, marked, narrowed}
use Rattle.binding_kinds.specs.Fits.{IsKnown, kind_of, IsTyped}
use Rattle.binding_kinds.specs.Formula.{Formula, Value, Parameter, Everything, NoPairs, NoEvents, Joined, Marked, Complement, Identity, postfix}
use Rattle.binding_kinds.proofs.Fitting.{typed_known}
use Rattle.binding_graph.specs.declared.resolved.Blend.TheVariants as blends
use Rattle.binding_graph.specs.declared.resolved.Code.{Code}
use Rattle.binding_graph.specs.declared.resolved.Source.{Source}
use Rattle.binding_graph.specs.declared.resolved.Step.{Step}
use Rattle.binding_graph.specs.declared.resolved.Step.TheVariants as steps
use Rattle.binding_graph.specs.Contents.{code_content}
use Rattle.binding_graph.specs.Lowering.{LoweringState, known, with_piece, with_either, run_pieces, lowering_start}
use Rattle.binding_graph.specs.Meaning.{source_of, set_tree, rel_tree, steps_of, joined_sets, joined_relations}
use Rattle.binding_graph.specs.Trees.{SetTree, RelTree, NoEvent, ComplementSet, IdentityOn, Close, ComplementRelation, set_code, rel_code}
use Rattle.binding_graph.proofs.Lowered.{after, run_of}
use Rattle.binding_shapes.specs.Shapes.{shape_of_step, source_kind, step_with, steps_with, code_in, code_with}
use Rattle.binding_shapes.proofs.Shaped.{steps_by_shape}

-- ---- the shape of an expression's steps

abbrev pub shape_of_infix : Infix → Step
shape_of_infix infixes.Union = steps.BlendRelations blends.Union
shape_of_infix infixes.Intersection = steps.BlendRelations blends.Intersection
shape_of_infix infixes.Difference = steps.BlendRelations blends.Difference
shape_of_infix infixes.Sequence = steps.SequenceRelations
shape_of_infix infixes.Product = steps.ProductOfSets

-- the steps of an expression without kinds, and then the rest
abbrev pub shape_steps : List Used → ℕ → Formula → List Step → List Step
shape_steps us from (Value f) rest = steps.PushRelation (source_of us from f) ∷ rest
shape_steps us from (Parameter i) rest = steps.PushNoPairs ∷ rest
shape_steps us from Everything rest = steps.PushEverything ∷ rest
shape_steps us from NoPairs rest = steps.PushNoPairs ∷ rest
shape_steps us from NoEvents rest = steps.PushNoEvents ∷ rest
shape_steps us from (Joined op a b) rest =
    shape_steps us from a (shape_steps us from b (shape_of_infix op ∷ rest))
shape_steps us from (Marked op a) rest = shape_steps us from a (steps.Close op ∷ rest)
shape_steps us from (Complement a) rest = shape_steps us from a (steps.ComplementRelation ∷ rest)
shape_steps us from (Identity a) rest = shape_steps us from a (steps.IdentityOn ∷ rest)

-- the steps of the one of two trees that is of that kind, and then the rest
abbrev pub code_then : Kind → SetTree → RelTree → List Step → List Step
code_then OfSet s r rest = set_code s rest
code_then OfRelation s r rest = rel_code r rest
code_then OfAny s r rest = rel_code r rest

-- the shape of what puts a value on its stack
abbrev HasShape : Kind → SetTree → RelTree → (List Step → List Step) → Type 0
HasShape k s r A =
    (rest : List Step) → map shape_of_step (code_then k s r rest) ≡ A (map shape_of_step rest)

shape_two : (X Y : List Step → List Step) (A B : List Step → List Step)
    → ((rest : List Step) → map shape_of_step (X rest) ≡ A (map shape_of_step rest))
    → ((rest : List Step) → map shape_of_step (Y rest) ≡ B (map shape_of_step rest))
    → (s : Step) (rest : List Step)
    → map shape_of_step (X (Y (s ∷ rest))) ≡ A (B (shape_of_step s ∷ map shape_of_step rest))
shape_two X Y A B f g s rest = f (Y (s ∷ rest)) ∙ ap A (g (s ∷ rest))

shape_joined : (op : Infix) (k l : Kind) (s t : SetTree) (a b : RelTree)
    (A B : List Step → List Step) → IsKnown k → IsKnown l → IsTrue (takes op k l)
    → HasShape k s a A → HasShape l t b B
    → HasShape (joined_kind op k l) (joined_sets op s t) (joined_relations op a b s t)
    (λ rest. A (B (shape_of_infix op ∷ rest)))
shape_joined infixes.Union OfSet OfSet s t a b A B k l h f g =
    shape_two (set_code s) (set_code t) A B f g (steps.BlendSets blends.Union)
shape_joined infixes.Union OfRelation OfRelation s t a b A B k l h f g =
    shape_two (rel_code a) (rel_code b) A B f g (steps.BlendRelations blends.Union)
shape_joined infixes.Union OfSet OfRelation s t a b A B k l h f g = cc
shape_joined infixes.Union OfRelation OfSet s t a b A B k l h f g = cc
shape_joined infixes.Union OfAny _ s t a b A B k l h f g = absurd k
shape_joined infixes.Union OfSet OfAny s t a b A B k l h f g = absurd l
shape_joined infixes.Union OfRelation OfAny s t a b A B k l h f g = absurd l
shape_joined infixes.Intersection OfSet OfSet s t a b A B k l h f g =
    shape_two (set_code s) (set_code t) A B f g (steps.BlendSets blends.Intersection)
shape_joined infixes.Intersection OfRelation OfRelation s t a b A B k l h f g =
    shape_two (rel_code a) (rel_code b) A B f g (steps.BlendRelations blends.Intersection)
shape_joined infixes.Intersection OfSet OfRelation s t a b A B k l h f g = cc
shape_joined infixes.Intersection OfRelation OfSet s t a b A B k l h f g = cc
shape_joined infixes.Intersection OfAny _ s t a b A B k l h f g = absurd k
shape_joined infixes.Intersection OfSet OfAny s t a b A B k l h f g = absurd l
shape_joined infixes.Intersection OfRelation OfAny s t a b A B k l h f g = absurd l
shape_joined infixes.Difference OfSet OfSet s t a b A B k l h f g =
    shape_two (set_code s) (set_code t) A B f g (steps.BlendSets blends.Difference)
shape_joined infixes.Difference OfRelation OfRelation s t a b A B k l h f g =
    shape_two (rel_code a) (rel_code b) A B f g (steps.BlendRelations blends.Difference)
shape_joined infixes.Difference OfSet OfRelation s t a b A B k l h f g = cc
shape_joined infixes.Difference OfRelation OfSet s t a b A B k l h f g = cc
shape_joined infixes.Difference OfAny _ s t a b A B k l h f g = absurd k
shape_joined infixes.Difference OfSet OfAny s t a b A B k l h f g = absurd l
shape_joined infixes.Difference OfRelation OfAny s t a b A B k l h f g = absurd l
shape_joined infixes.Sequence OfRelation OfRelation s t a b A B k l h f g =
    shape_two (rel_code a) (rel_code b) A B f g steps.SequenceRelations
shape_joined infixes.Sequence OfSet _ s t a b A B k l h f g = cc
shape_joined infixes.Sequence OfRelation OfSet s t a b A B k l h f g = cc
shape_joined infixes.Sequence OfAny _ s t a b A B k l h f g = absurd k
shape_joined infixes.Sequence OfRelation OfAny s t a b A B k l h f g = absurd l
shape_joined infixes.Product OfSet OfSet s t a b A B k l h f g =
    shape_two (set_code s) (set_code t) A B f g steps.ProductOfSets
shape_joined infixes.Product OfRelation _ s t a b A B k l h f g = cc
shape_joined infixes.Product OfSet OfRelation s t a b A B k l h f g = cc
shape_joined infixes.Product OfAny _ s t a b A B k l h f g = absurd k
shape_joined infixes.Product OfSet OfAny s t a b A B k l h f g = absurd l

shape_value : (source : Source) (k : Kind) → IsKnown k
    → HasShape k (SetTree.SetName source) (RelTree.RelName source)
    (λ rest. steps.PushRelation source ∷ rest)
shape_value source OfSet h rest = refl
shape_value source OfRelation h rest = refl
shape_value source OfAny h rest = absurd h

shape_marked : (op : Postfix) (k : Kind) (s : SetTree) (a : RelTree) (A : List Step → List Step)
    → IsKnown k → IsTrue (is_relation k) → HasShape k s a A
    → HasShape (marked k) NoEvent (Close op a) (λ rest. A (steps.Close op ∷ rest))
shape_marked op OfRelation s a A k h f = λ rest. f (steps.Close op ∷ rest)
shape_marked op OfSet s a A k h f = cc
shape_marked op OfAny s a A k h f = absurd k

shape_only : (k : Kind) (s : SetTree) (a : RelTree) (A : List Step → List Step) → IsKnown k
    → IsTrue (is_set_kind k) → HasShape k s a A
    → HasShape (narrowed k) NoEvent (IdentityOn s) (λ rest. A (steps.IdentityOn ∷ rest))
shape_only OfSet s a A k h f = λ rest. f (steps.IdentityOn ∷ rest)
shape_only OfRelation s a A k h f = cc
shape_only OfAny s a A k h f = absurd k

shape_not : (k : Kind) (s : SetTree) (a : RelTree) (A : List Step → List Step) → IsKnown k
    → HasShape k s a A
    → HasShape k (ComplementSet s) (ComplementRelation a)
    (λ rest. A (steps.ComplementRelation ∷ rest))
shape_not OfSet s a A k f = λ rest. f (steps.ComplementSet ∷ rest)
shape_not OfRelation s a A k f = λ rest. f (steps.ComplementRelation ∷ rest)
shape_not OfAny s a A k f = absurd k

pub shape_typed : (us : List Used) (from : ℕ) (f : Formula) → IsTyped [] f
    → HasShape (kind_of [] f) (set_tree us from f) (rel_tree us from f) (shape_steps us from f)
shape_typed us from (Value f) h = shape_value (source_of us from f) f.kind h
shape_typed us from (Parameter i) h = absurd h
shape_typed us from Everything h = λ rest. refl
shape_typed us from NoPairs h = λ rest. refl
shape_typed us from NoEvents h = λ rest. refl
shape_typed us from (Joined op a b) h =
    shape_joined op (kind_of [] a) (kind_of [] b) (set_tree us from a) (set_tree us from b)
    (rel_tree us from a) (rel_tree us from b) (shape_steps us from a) (shape_steps us from b)
    (typed_known [] a h.0) (typed_known [] b h.1) h.2 (shape_typed us from a h.0)
    (shape_typed us from b h.1)
shape_typed us from (Marked op a) h =
    shape_marked op (kind_of [] a) (set_tree us from a) (rel_tree us from a) (shape_steps us from a)
    (typed_known [] a h.0) h.1 (shape_typed us from a h.0)
shape_typed us from (Complement a) h =
    shape_not (kind_of [] a) (set_tree us from a) (rel_tree us from a) (shape_steps us from a)
    (typed_known [] a h) (shape_typed us from a h)
shape_typed us from (Identity a) h =
    shape_only (kind_of [] a) (set_tree us from a) (rel_tree us from a) (shape_steps us from a)
    (typed_known [] a h.0) h.1 (shape_typed us from a h.0)

then_nothing : (k : Kind) (s : SetTree) (r : RelTree) → steps_of k s r ≡ code_then k s r []
then_nothing OfSet s r = refl
then_nothing OfRelation s r = refl
then_nothing OfAny s r = refl

-- the shape of all steps of an expression
pub shape_whole : (us : List Used) (from : ℕ) (f : Formula) → IsTyped [] f
    → map shape_of_step (steps_of (kind_of [] f) (set_tree us from f) (rel_tree us from f))
    ≡ shape_steps us from f []
shape_whole us from f h =
    ap (map shape_of_step) (then_nothing (kind_of [] f) (set_tree us from f) (rel_tree us from f))
    ∙ shape_typed us from f h []

-- ---- kinds put in

-- each name of the expression has the kind by which it is read
abbrev pub HasReadKinds : List Kind → List Used → ℕ → Formula → Type 0
HasReadKinds ks us from (Value f) = source_kind ks (source_of us from f) ≡ f.kind
HasReadKinds ks us from (Parameter i) = Unit {0}
HasReadKinds ks us from Everything = Unit {0}
HasReadKinds ks us from NoPairs = Unit {0}
HasReadKinds ks us from NoEvents = Unit {0}
HasReadKinds ks us from (Joined op a b) = HasReadKinds ks us from a × HasReadKinds ks us from b
HasReadKinds ks us from (Marked op a) = HasReadKinds ks us from a
HasReadKinds ks us from (Complement a) = HasReadKinds ks us from a
HasReadKinds ks us from (Identity a) = HasReadKinds ks us from a

run_append : (us : List Used) (from : ℕ) (ps qs : List Piece) (st : LoweringState)
    → run_pieces us from (ps ++ qs) st ≡ run_pieces us from qs (run_pieces us from ps st)
run_append us from [] qs st = refl
run_append us from (p ∷ ps) qs st = run_append us from ps qs (with_piece us from p st)

infix_with : (ks : List Kind) (us : List Used) (from : ℕ) (op : Infix) (st : LoweringState)
    → step_with ks (shape_of_infix op) st ≡ with_piece us from (pieces.Joined op) st
infix_with ks us from infixes.Union st = refl
infix_with ks us from infixes.Intersection st = refl
infix_with ks us from infixes.Difference st = refl
infix_with ks us from infixes.Sequence st = refl
infix_with ks us from infixes.Product st = refl

steps_are_pieces : (ks : List Kind) (us : List Used) (from : ℕ) (f : Formula) (rest : List Step)
    (st : LoweringState) → HasReadKinds ks us from f
    → steps_with ks (shape_steps us from f rest) st
    ≡ steps_with ks rest (run_pieces us from (postfix f) st)
steps_are_pieces ks us from (Value f) rest st h =
    let source = source_of us from f in
    ap (λ (k : Kind). steps_with ks rest
    (with_either st.kinds st.steps k (steps.PushSet source) (steps.PushRelation source))) h
steps_are_pieces ks us from (Parameter i) rest st h = refl
steps_are_pieces ks us from Everything rest st h = refl
steps_are_pieces ks us from NoPairs rest st h = refl
steps_are_pieces ks us from NoEvents rest st h = refl
steps_are_pieces ks us from (Joined op a b) rest st h =
    let first = run_pieces us from (postfix a) st in
    let second = run_pieces us from (postfix b) first in
    steps_are_pieces ks us from a (shape_steps us from b (shape_of_infix op ∷ rest)) st h.0
    ∙ (steps_are_pieces ks us from b (shape_of_infix op ∷ rest) first h.1
    ∙ ap (steps_with ks rest) (infix_with ks us from op second
    ∙ sym (run_append us from (postfix a) (postfix b ++ pieces.Joined op ∷ []) st
    ∙ run_append us from (postfix b) (pieces.Joined op ∷ []) first)))
steps_are_pieces ks us from (Marked op a) rest st h =
    steps_are_pieces ks us from a (steps.Close op ∷ rest) st h
    ∙ ap (steps_with ks rest) (sym (run_append us from (postfix a) (pieces.Marked op ∷ []) st))
steps_are_pieces ks us from (Complement a) rest st h =
    steps_are_pieces ks us from a (steps.ComplementRelation ∷ rest) st h
    ∙ ap (steps_with ks rest) (sym (run_append us from (postfix a) (pieces.Complement ∷ []) st))
steps_are_pieces ks us from (Identity a) rest st h =
    steps_are_pieces ks us from a (steps.IdentityOn ∷ rest) st h
    ∙ ap (steps_with ks rest) (sym (run_append us from (postfix a) (pieces.Identity ∷ []) st))

pub known_same : (k : Kind) → IsKnown k → known k ≡ k
known_same OfSet h = refl
known_same OfRelation h = refl
known_same OfAny h = absurd h

-- where its names have the kinds by which they are read, an expression has its steps
pub code_again : (ks : List Kind) (us : List Used) (from : ℕ) (f : Formula) (k : Kind) (c : Code)
    → IsTyped [] f → kind_of [] f ≡ k → HasReadKinds ks us from f → c.kind ≡ k
    → c.steps.items ≡ steps_of k (set_tree us from f) (rel_tree us from f)
    → code_with ks (code_content c) ≡ code_content c
code_again ks us from f k c typed is agree kind made =
    let s = set_tree us from f in
    let r = rel_tree us from f in
    let made_so : c.steps.items ≡ steps_of (kind_of [] f) s r = made ∙ ap (λ (j : Kind). steps_of j s r) (sym is) in
    let run : steps_with ks c.steps.items lowering_start ≡ after (kind_of [] f) s r lowering_start =
    sym (steps_by_shape ks c.steps.items lowering_start)
    ∙ (ap (λ (l : List Step). steps_with ks l lowering_start)
    (ap (map shape_of_step) made_so ∙ shape_whole us from f typed)
    ∙ (steps_are_pieces ks us from f [] lowering_start agree
    ∙ (ap (λ (l : List Piece). run_pieces us from l lowering_start) (sym (append-nil (postfix f)))
    ∙ run_of us from f [] lowering_start typed))) in
    let whole : code_with ks (code_content c) ≡ code_in (after (kind_of [] f) s r lowering_start) = ap code_in run in
    let kind_is : known (kind_of [] f) ≡ c.kind = known_same (kind_of [] f) (typed_known [] f typed) ∙ (is ∙ sym kind) in
    whole ∙ (λ i. record { kind = kind_is i; steps = sym made_so i })
