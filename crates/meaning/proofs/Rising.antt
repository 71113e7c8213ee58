-- A body in which no name of the group stands under `~`, right of `\` or in an application grows
-- with the relations that the names stand for; so the least solution solves the equations.
use Rattle.std.proofs.Common.{◌↔◌, ◌⊎◌, inl, inr, suc, Bool, true, false, List, [], ◌∷◌, Contains, bytes_eq, refl, subst, arith}
use Rattle.std.proofs.lemmas.Slice.Eq.{bytes_eq-Decides}
use Rattle.text_values.specs.declared.model.Infix.TheVariants as infixes
use Rattle.text_values.specs.declared.model.Postfix.{Postfix}
use Rattle.text_values.specs.declared.model.Postfix.TheVariants as postfixes
use Rattle.text_values.specs.TestValue.{Content}
use Rattle.text_values.specs.ModelValue.{Term, Atom, AllEvents, EmptyRelation, EmptySet, Join, Mark, Not, On, Apply, Clause}
use Rattle.meaning.specs.Sets.{Set, Relation, Path}
use Rattle.meaning.specs.Names.{Name}
use Rattle.meaning.specs.Executions.{Event, Execution, IsEvent}
use Rattle.meaning.specs.Cat.{Meaning, ASet, ARelation, Nothing, Bound, ToMeaning, Names, choice_of, bound_of, of_name, of_infix, of_postfix, of_complement, of_identity, meaning_of, HasPair, with_group, Choice, IsChosen, Least}
use Rattle.meaning.specs.Evaluates.{outermost}
use Rattle.meaning.specs.Laws.{IsOutside, IsRising, names_behind, Solves}
use Rattle.meaning.proofs.Agreeing.{Agree, same_meaning}
use Rattle.meaning.proofs.Communication.{passed_over}

-- the first means the same set, or a relation inside of the other
data Below {E : Type 0} : Meaning E → Meaning E → Type 1 where
  sets : (S T : Set E) → ((a : E) → S a ↔ T a) → Below (ASet S) (ASet T)
  relations : (R S : Relation E) → ((a b : E) → R a b → S a b)
      → Below (ARelation R) (ARelation S)
  nothing : Below Nothing Nothing

itself : {E : Type 0} (m : Meaning E) → Below m m
itself (ASet S) = sets S S (λ a. (λ h. h, λ h. h))
itself (ARelation R) = relations R R (λ a b h. h)
itself Nothing = nothing

pair_of : {E : Type 0} (m k : Meaning E) → Below m k → (a b : E) → HasPair m a b → HasPair k a b
pair_of m k (sets S T h) a b p = absurd p
pair_of m k (relations R S h) a b p = h a b p
pair_of m k nothing a b p = absurd p

path_of : {E : Type 0} (R S : Relation E) → ((a b : E) → R a b → S a b) → (a : E)
    (through : List E) (b : E) → Path R a through b → Path S a through b
path_of R S h a [] b p = h a b p
path_of R S h a (c ∷ cs) b p = (h a c p.0, path_of R S h c cs b p.1)

either : {A B C D : Type 0} → (A → C) → (B → D) → A ⊎ B → C ⊎ D
either f g (inl a) = inl (f a)
either f g (inr b) = inr (g b)

union_below : {E : Type 0} (m k n l : Meaning E) → Below m k → Below n l
    → Below (of_infix infixes.Union m n) (of_infix infixes.Union k l)
union_below m k n l (sets S T h) (sets U V g) =
    sets (λ a. S a ⊎ U a) (λ a. T a ⊎ V a)
    (λ a. (either (h a).0 (g a).0, either (h a).1 (g a).1))
union_below m k n l (relations R S h) (relations U V g) =
    relations (λ a b. R a b ⊎ U a b) (λ a b. S a b ⊎ V a b) (λ a b. either (h a b) (g a b))
union_below m k n l _ _ = nothing

intersection_below : {E : Type 0} (m k n l : Meaning E) → Below m k → Below n l
    → Below (of_infix infixes.Intersection m n) (of_infix infixes.Intersection k l)
intersection_below m k n l (sets S T h) (sets U V g) =
    sets (λ a. S a × U a) (λ a. T a × V a)
    (λ a. (λ x. ((h a).0 x.0, (g a).0 x.1), λ x. ((h a).1 x.0, (g a).1 x.1)))
intersection_below m k n l (relations R S h) (relations U V g) =
    relations (λ a b. R a b × U a b) (λ a b. S a b × V a b)
    (λ a b x. (h a b x.0, g a b x.1))
intersection_below m k n l _ _ = nothing

sequence_below : {E : Type 0} (m k n l : Meaning E) → Below m k → Below n l
    → Below (of_infix infixes.Sequence m n) (of_infix infixes.Sequence k l)
sequence_below {E} m k n l (relations R S h) (relations U V g) =
    relations (λ a b. (c : E) × R a c × U c b) (λ a b. (c : E) × S a c × V c b)
    (λ a b x. (x.0, h a x.0 x.1, g x.0 b x.2))
sequence_below m k n l _ _ = nothing

product_below : {E : Type 0} (m k n l : Meaning E) → Below m k → Below n l
    → Below (of_infix infixes.Product m n) (of_infix infixes.Product k l)
product_below m k n l (sets S T h) (sets U V g) =
    relations (λ a b. S a × U b) (λ a b. T a × V b) (λ a b x. ((h a).0 x.0, (g b).0 x.1))
product_below m k n l _ _ = nothing

difference_below : {E : Type 0} (m k n : Meaning E) → Below m k
    → Below (of_infix infixes.Difference m n) (of_infix infixes.Difference k n)
difference_below m k (ASet U) (sets S T h) =
    sets (λ a. S a × (U a → ⊥)) (λ a. T a × (U a → ⊥))
    (λ a. (λ x. ((h a).0 x.0, x.1), λ x. ((h a).1 x.0, x.1)))
difference_below m k (ARelation U) (relations R S h) =
    relations (λ a b. R a b × (U a b → ⊥)) (λ a b. S a b × (U a b → ⊥))
    (λ a b x. (h a b x.0, x.1))
difference_below m k n (sets S T h) = nothing
difference_below m k n (relations R S h) = nothing
difference_below m k n nothing = nothing

postfix_below : {E : Type 0} (all : Set E) (op : Postfix) (m k : Meaning E) → Below m k
    → Below (of_postfix all op m) (of_postfix all op k)
postfix_below all postfixes.Transitive m k (relations R S h) =
    relations _ _ (λ a b x. (x.0, path_of R S h a x.0 b x.1))
postfix_below all postfixes.Reflexive m k (relations R S h) =
    relations _ _ (λ a b. either (λ x. x) (h a b))
postfix_below all postfixes.Closure m k (relations R S h) =
    relations _ _ (λ a b. either (λ x. x) (λ x. (x.0, path_of R S h a x.0 b x.1)))
postfix_below all postfixes.Inverse m k (relations R S h) = relations _ _ (λ a b x. h b a x)
postfix_below all op m k _ = nothing

identity_below : {E : Type 0} (m k : Meaning E) → Below m k
    → Below (of_identity m) (of_identity k)
identity_below m k (sets S T h) = relations _ _ (λ a b x. ((h a).0 x.0, x.1))
identity_below m k (relations R S h) = nothing
identity_below m k nothing = nothing

-- the names are bound to meanings of which the first are below the second
abbrev AreBelow : {E : Type 0} → Names E → Names E → Type 1
AreBelow names others =
    (n : Name) → Below (of_name (bound_of names n)) (of_name (bound_of others n))

choice_below : {E : Type 0} (test : Bool) (m k : Meaning E) (b c : Bound E) → Below m k
    → Below (of_name b) (of_name c)
    → Below (of_name (choice_of test (ToMeaning m) b)) (of_name (choice_of test (ToMeaning k) c))
choice_below true m k b c first second = first
choice_below false m k b c first second = second

group_below : {E : Type 0} (R S : Name → Relation E) (group : List (Name × Term))
    → ((b : Name × Term) → Contains group b → (x y : E) → R b.0 x y → S b.0 x y)
    → (names others : Names E)
    → AreBelow names others → AreBelow (with_group R group names) (with_group S group others)
group_below R S [] inside names others below = below
group_below R S (b ∷ bs) inside names others below =
    group_below R S bs (λ d there. inside d (suc there.0, omega arith, there.2))
    ((b.0, ToMeaning (ARelation (R b.0))) ∷ names)
    ((b.0, ToMeaning (ARelation (S b.0))) ∷ others)
    (λ n. choice_below (bytes_eq b.0 n) (ARelation (R b.0)) (ARelation (S b.0))
    (bound_of names n) (bound_of others n)
    (relations (R b.0) (S b.0) (inside b (0, omega arith, refl))) (below n))

-- names that are none of the group are bound alike
outside_agree : {E : Type 0} (R S : Name → Relation E) (whole group : List (Name × Term))
    → ((b : Name × Term) → Contains group b → Contains whole b) → (names others : Names E)
    → Agree (IsOutside whole) names others
    → Agree (IsOutside whole) (with_group R group names) (with_group S group others)
outside_agree R S whole [] among names others agree = agree
outside_agree R S whole (b ∷ bs) among names others agree =
    outside_agree R S whole bs (λ d there. among d (suc there.0, omega arith, there.2))
    ((b.0, ToMeaning (ARelation (R b.0))) ∷ names)
    ((b.0, ToMeaning (ARelation (S b.0))) ∷ others)
    (λ n outside. passed_over (bytes_eq b.0 n)
    (λ eq. outside b (among b (0, omega arith, refl)) ((bytes_eq-Decides b.0 n).0 eq))
    (ToMeaning (ARelation (R b.0))) (ToMeaning (ARelation (S b.0))) (bound_of names n)
    (bound_of others n) (agree n outside))

-- what a rising body means grows with the relations of the group
rising : {E : Type 0} (all : Set E) (group : List (Name × Term)) (names others : Names E)
    → AreBelow names others
    → Agree (IsOutside group) names others → (e : Term) → IsRising group e
    → Below (meaning_of all names e) (meaning_of all others e)
rising all group names others below agree (Atom n) is = below n
rising all group names others below agree AllEvents is = itself _
rising all group names others below agree EmptyRelation is = itself _
rising all group names others below agree EmptySet is = itself _
rising all group names others below agree (Join infixes.Union a b) is =
    union_below _ _ _ _ (rising all group names others below agree a is.0)
    (rising all group names others below agree b is.1)
rising all group names others below agree (Join infixes.Intersection a b) is =
    intersection_below _ _ _ _ (rising all group names others below agree a is.0)
    (rising all group names others below agree b is.1)
rising all group names others below agree (Join infixes.Sequence a b) is =
    sequence_below _ _ _ _ (rising all group names others below agree a is.0)
    (rising all group names others below agree b is.1)
rising all group names others below agree (Join infixes.Product a b) is =
    product_below _ _ _ _ (rising all group names others below agree a is.0)
    (rising all group names others below agree b is.1)
rising all group names others below agree (Join infixes.Difference a b) is =
    subst
    (λ m. Below (meaning_of all names (Join infixes.Difference a b))
    (of_infix infixes.Difference (meaning_of all others a) m))
    (same_meaning (IsOutside group) all names others agree b is.1)
    (difference_below (meaning_of all names a) (meaning_of all others a)
    (meaning_of all names b) (rising all group names others below agree a is.0))
rising all group names others below agree (Mark op a) is =
    postfix_below all op _ _ (rising all group names others below agree a is)
rising all group names others below agree (Not a) is =
    subst (λ m. Below (meaning_of all names (Not a)) (of_complement all m))
    (same_meaning (IsOutside group) all names others agree a is)
    (itself (meaning_of all names (Not a)))
rising all group names others below agree (On a) is =
    identity_below _ _ (rising all group names others below agree a is)
rising all group names others below agree (Apply n ts) is =
    subst (λ m. Below (meaning_of all names (Apply n ts)) m)
    (same_meaning (IsOutside group) all names others agree (Apply n ts) is)
    (itself (meaning_of all names (Apply n ts)))

-- a rising body gives more where the names of its group stand for more
more_is_given : {E : Type 0} (all : Set E) (names : Names E) (group : List (Name × Term))
    (R S : Name → Relation E)
    → ((b : Name × Term) → Contains group b → (x y : E) → R b.0 x y → S b.0 x y)
    → (e : Term) → IsRising group e → (a c : E)
    → HasPair (meaning_of all (with_group R group names) e) a c
    → HasPair (meaning_of all (with_group S group names) e) a c
more_is_given all names group R S inside e is a c h =
    pair_of (meaning_of all (with_group R group names) e)
    (meaning_of all (with_group S group names) e)
    (rising all group (with_group R group names) (with_group S group names)
    (group_below R S group inside names names (λ n. itself (of_name (bound_of names n))))
    (outside_agree R S group group (λ b there. there) names names (λ n outside. refl)) e is)
    a c h

abbrev Rise : List (Name × Term) → Type 0
Rise group = (b : Name × Term) → Contains group b → IsRising group b.1

-- the least solution has what the bodies give
closed : {E : Type 0} (all : Set E) (names : Names E) (group : List (Name × Term)) → Rise group
    → (b : Name × Term) → Contains group b → (a c : E)
    → HasPair (meaning_of all (with_group (Least all names group) group names) b.1) a c
    → Least all names group b.0 a c
closed all names group rise b there a c h = λ choice is_closed.
    is_closed b there a c
    (more_is_given all names group (Least all names group) (IsChosen choice)
    (λ d among x y least. least choice is_closed) b.1 (rise b there) a c h)

-- and nothing else, where what they give is decided
exact : {E : Type 0} (all : Set E) (names : Names E) (group : List (Name × Term)) → Rise group
    → (choice : Choice E) → ((b : Name × Term) → Contains group b → (a c : E)
    → IsChosen choice b.0 a c
    ↔ HasPair (meaning_of all (with_group (Least all names group) group names) b.1) a c)
    → (b : Name × Term) → Contains group b → (a c : E) → Least all names group b.0 a c
    → HasPair (meaning_of all (with_group (Least all names group) group names) b.1) a c
exact all names group rise choice decides b there a c least =
    (decides b there a c).0
    (least choice
    (λ d among x y h. (decides d among x y).1
    (more_is_given all names group (IsChosen choice) (Least all names group)
    (λ e within u v chosen. closed all names group rise e within u v
    ((decides e within u v).0 chosen))
    d.1 (rise d among) x y h)))

pub solves : (t : Content) (x : Execution) (items : List Clause) (group : List (Name × Term))
    → Rise group → Solves t x items group
solves t x items group rise =
    let all : Set Event = IsEvent t x in
    let names : Names Event = names_behind all (outermost t x) items in
    record { closed = closed all names group rise; exact = exact all names group rise }
