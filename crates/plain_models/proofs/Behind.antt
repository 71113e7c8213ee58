-- Behind names that are bound alike the same checks and flags are met.
use Rattle.std.proofs.Common.{◌↔◌, ℕ, zero, suc, List, [], ◌∷◌, length, Bool, true, false}
use Rattle.text_values.specs.declared.model.CheckWord.{CheckWord}
use Rattle.text_values.specs.declared.model.CheckWord.TheVariants.{Acyclic, Irreflexive, Empty}
use Rattle.text_values.specs.ModelValue.{Term, Checked, Clause, Binding, Function, Checking, Flagging, Showing, Including}
use Rattle.meaning.specs.Sets.{Set, Relation, Path}
use Rattle.meaning.specs.Names.{Name}
use Rattle.meaning.specs.Cat.{Meaning, ASet, ARelation, Nothing, Bound, ToMeaning, ToFunction, Names, meaning_of, with_arguments, with_group, Choice, IsChosen, IsClosed, Least, with_bodies, names_after, HasProperty, NegatedIf, IsMet, IsItemMet, AreMet, IsFlagMet}
use Rattle.meaning_laws.specs.Inside.{IsAlike}
use Rattle.meaning_laws.proofs.Inside.{pair_inside}
use Rattle.meaning_laws.proofs.Alike.{AllAlike, AlikeBound, meanings, functions, nothing, AlikeNames, none, more, alike_meaning, alike_arguments}

turned_all : (ms ks : List (Meaning ℕ)) → AllAlike ms ks → AllAlike ks ms
turned_all [] [] h = tt
turned_all [] (k ∷ ks) h = absurd h
turned_all (m ∷ ms) [] h = absurd h
turned_all (m ∷ ms) (k ∷ ks) h = ((h.0.1, h.0.0), turned_all ms ks h.1)

turned_bound : (b c : Bound ℕ) → AlikeBound b c → AlikeBound c b
turned_bound b c (meanings m k h) = meanings k m (h.1, h.0)
turned_bound b c (functions n r q h) =
    functions n q r
    (λ ms ks all. let one : IsAlike (r ks) (q ms) = h ks ms (turned_all ms ks all) in (one.1, one.0))
turned_bound b c nothing = nothing

pub turned_names : (N K : Names ℕ) → AlikeNames N K → AlikeNames K N
turned_names N K none = none
turned_names N K (more n b c M L first rest) =
    more n c b L M (turned_bound b c first) (turned_names M L rest)

pub group_alike : (R Q : Name → Relation ℕ) → ((n : Name) (x y : ℕ) → R n x y ↔ Q n x y)
    → (group : List (Name × Term)) (N K : Names ℕ) → AlikeNames N K
    → AlikeNames (with_group R group N) (with_group Q group K)
group_alike R Q same [] N K alike = alike
group_alike R Q same (b ∷ bs) N K alike =
    group_alike R Q same bs ((b.0, ToMeaning (ARelation (R b.0))) ∷ N)
    ((b.0, ToMeaning (ARelation (Q b.0))) ∷ K)
    (more b.0 (ToMeaning (ARelation (R b.0))) (ToMeaning (ARelation (Q b.0))) N K
    (meanings (ARelation (R b.0)) (ARelation (Q b.0)) ((λ x y. (same b.0 x y).0), (λ x y. (same b.0 x y).1)))
    alike)

closed_alike : (all : Set ℕ) (N K : Names ℕ) → AlikeNames N K → (group : List (Name × Term))
    (choice : Choice ℕ) → IsClosed all N group choice → IsClosed all K group choice
closed_alike all N K alike group choice closed b there x y h =
    closed b there x y
    (pair_inside (meaning_of all (with_group (IsChosen choice) group K) b.1)
    (meaning_of all (with_group (IsChosen choice) group N) b.1)
    (alike_meaning all (with_group (IsChosen choice) group N)
    (with_group (IsChosen choice) group K)
    (group_alike (IsChosen choice) (IsChosen choice) (λ n a c. ((λ g. g), (λ g. g))) group N K alike)
    b.1).1 x y h)

least_alike : (all : Set ℕ) (N K : Names ℕ) → AlikeNames N K → AlikeNames K N
    → (group : List (Name × Term)) (n : Name) (x y : ℕ)
    → Least all N group n x y ↔ Least all K group n x y
least_alike all N K alike back group n x y = (
  (λ h choice closed. h choice (closed_alike all K N back group choice closed)),
  (λ h choice closed. h choice (closed_alike all N K alike group choice closed)),
)

bodies_alike : (all : Set ℕ) (N K : Names ℕ) → AlikeNames N K → (group : List (Name × Term))
    (M L : Names ℕ) → AlikeNames M L
    → AlikeNames (with_bodies all N group M) (with_bodies all K group L)
bodies_alike all N K outer [] M L alike = alike
bodies_alike all N K outer (b ∷ bs) M L alike =
    bodies_alike all N K outer bs ((b.0, ToMeaning (meaning_of all N b.1)) ∷ M)
    ((b.0, ToMeaning (meaning_of all K b.1)) ∷ L)
    (more b.0 (ToMeaning (meaning_of all N b.1)) (ToMeaning (meaning_of all K b.1)) M L
    (meanings (meaning_of all N b.1) (meaning_of all K b.1) (alike_meaning all N K outer b.1))
    alike)

after_alike : (all : Set ℕ) (N K : Names ℕ) → AlikeNames N K → (c : Clause)
    → AlikeNames (names_after all N c) (names_after all K c)
after_alike all N K alike (Binding true group) =
    group_alike (Least all N group) (Least all K group)
    (least_alike all N K alike (turned_names N K alike) group) group N K alike
after_alike all N K alike (Binding false group) =
    bodies_alike all N K alike group N K alike
after_alike all N K alike (Function n ps body) =
    more n (ToFunction (length ps) (λ ms. meaning_of all (with_arguments ps ms N) body))
    (ToFunction (length ps) (λ ms. meaning_of all (with_arguments ps ms K) body)) N K
    (functions (length ps) (λ ms. meaning_of all (with_arguments ps ms N) body)
    (λ ms. meaning_of all (with_arguments ps ms K) body)
    (λ ms ks same. alike_meaning all (with_arguments ps ms N) (with_arguments ps ks K)
    (alike_arguments ps ms ks N K same alike) body)) alike
after_alike all N K alike (Checking check label) = alike
after_alike all N K alike (Flagging check label) = alike
after_alike all N K alike (Showing hidden shown) = alike
after_alike all N K alike (Including path) = alike

path_alike : (R Q : Relation ℕ) → ((x y : ℕ) → R x y → Q x y) → (a : ℕ) (cs : List ℕ) (b : ℕ)
    → Path R a cs b → Path Q a cs b
path_alike R Q h a [] b p = h a b p
path_alike R Q h a (c ∷ cs) b p = (h a c p.0, path_alike R Q h c cs b p.1)

relation_property : (word : CheckWord) (R Q : Relation ℕ) → ((x y : ℕ) → Q x y → R x y)
    → HasProperty word (ARelation R) → HasProperty word (ARelation Q)
relation_property Acyclic R Q h p = λ a q. p a (q.0, path_alike Q R h a q.0 a q.1)
relation_property Irreflexive R Q h p = λ a q. p a (h a a q)
relation_property Empty R Q h p = λ a b q. p a b (h a b q)

set_property : (word : CheckWord) (S T : Set ℕ) → ((x : ℕ) → T x → S x)
    → HasProperty word (ASet S) → HasProperty word (ASet T)
set_property Acyclic S T h p = p
set_property Irreflexive S T h p = p
set_property Empty S T h p = λ a q. p a (h a q)

pub property_alike : (word : CheckWord) (m k : Meaning ℕ) → IsAlike m k → HasProperty word m
    → HasProperty word k
property_alike word (ASet S) (ASet T) h p = set_property word S T h.1 p
property_alike word (ARelation R) (ARelation Q) h p = relation_property word R Q h.1 p
property_alike word Nothing Nothing h p = p
property_alike word (ASet S) (ARelation Q) h p = absurd h.0
property_alike word (ASet S) Nothing h p = absurd h.0
property_alike word (ARelation R) (ASet T) h p = absurd h.0
property_alike word (ARelation R) Nothing h p = absurd h.0
property_alike word Nothing (ASet T) h p = absurd h.0
property_alike word Nothing (ARelation Q) h p = absurd h.0

pub negated_alike : (negated : Bool) (P Q : Type 0) → (P → Q) → (Q → P) → NegatedIf negated P
    → NegatedIf negated Q
negated_alike false P Q to back h = to h
negated_alike true P Q to back h = λ q. h (back q)

-- what is met, from its property
pub met_as : (check : Checked) (m k : Meaning ℕ) → IsAlike m k
    → NegatedIf check.negated (HasProperty check.word m)
    → NegatedIf check.negated (HasProperty check.word k)
met_as check m k h =
    negated_alike check.negated (HasProperty check.word m) (HasProperty check.word k)
    (property_alike check.word m k h) (property_alike check.word k m (h.1, h.0))

check_alike : (all : Set ℕ) (N K : Names ℕ) → AlikeNames N K → (check : Checked)
    → IsMet all N check → IsMet all K check
check_alike all N K alike check =
    met_as check (meaning_of all N check.body) (meaning_of all K check.body)
    (alike_meaning all N K alike check.body)

item_alike : (all : Set ℕ) (N K : Names ℕ) → AlikeNames N K → (c : Clause)
    → IsItemMet all N c → IsItemMet all K c
item_alike all N K alike (Binding recursive group) h = tt
item_alike all N K alike (Function n ps body) h = tt
item_alike all N K alike (Checking check label) h = check_alike all N K alike check h
item_alike all N K alike (Flagging check label) h = tt
item_alike all N K alike (Showing hidden shown) h = tt
item_alike all N K alike (Including path) h = tt

pub met_alike : (all : Set ℕ) (N K : Names ℕ) → AlikeNames N K → (cs : List Clause)
    → AreMet all N cs → AreMet all K cs
met_alike all N K alike [] h = tt
met_alike all N K alike (c ∷ cs) h = (
  item_alike all N K alike c h.0,
  met_alike all (names_after all N c) (names_after all K c) (after_alike all N K alike c) cs h.1,
)

pub flag_alike : (all : Set ℕ) (N K : Names ℕ) → AlikeNames N K → (cs : List Clause) (i : ℕ)
    → IsFlagMet all N cs i → IsFlagMet all K cs i
flag_alike all N K alike [] i h = h
flag_alike all N K alike (Flagging check label ∷ cs) zero h = check_alike all N K alike check h
flag_alike all N K alike (Binding recursive group ∷ cs) zero h = h
flag_alike all N K alike (Function n ps body ∷ cs) zero h = h
flag_alike all N K alike (Checking check label ∷ cs) zero h = h
flag_alike all N K alike (Showing hidden shown ∷ cs) zero h = h
flag_alike all N K alike (Including path ∷ cs) zero h = h
flag_alike all N K alike (c ∷ cs) (suc i) h =
    flag_alike all (names_after all N c) (names_after all K c) (after_alike all N K alike c) cs i
    h
