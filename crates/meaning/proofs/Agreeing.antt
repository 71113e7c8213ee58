-- Names that agree on all that some items see: the items mean the same under both.
use Rattle.std.proofs.Common.{◌≡◌, zero, suc, true, false, List, [], ◌∷◌, length, Contains, bytes_eq, refl, ap, ap₂, subst, arith}
use Rattle.text_values.specs.ModelValue.{Term, Terms, Atom, AllEvents, EmptyRelation, EmptySet, Join, Mark, Not, On, Apply, NoTerm, OneMore, Checked, Clause, Binding, Function, Checking, Flagging, Showing, Including}
use Rattle.meaning.specs.Sets.{Set, Relation}
use Rattle.meaning.specs.Names.{Name}
use Rattle.meaning.specs.Cat.{Meaning, ARelation, Bound, ToMeaning, ToFunction, Names, choice_of, bound_of, of_name, of_application, of_infix, of_postfix, of_complement, of_identity, meaning_of, meanings_of, with_arguments, HasPair, with_group, Choice, IsChosen, IsClosed, Least, with_bodies, names_after, HasProperty, NegatedIf, IsMet, IsItemMet, AreMet}
use Rattle.meaning.specs.Laws.{HasNames, HaveArgumentsNames, HaveBodiesNames, HasItemNames, HaveNames}

-- the names of P are bound alike
abbrev pub Agree : {E : Type 0} → (Name → Type 0) → Names E → Names E → Type 1
Agree P names others = (n : Name) → P n → bound_of names n ≡ bound_of others n

-- one name more, bound alike
one_more : {E : Type 0} (P : Name → Type 0) (names others : Names E) (name : Name) (b c : Bound E)
    → b ≡ c
    → Agree P names others → Agree P ((name, b) ∷ names) ((name, c) ∷ others)
one_more P names others name b c same agree n free =
    ap₂ (choice_of (bytes_eq name n)) same (agree n free)

mutual
  pub same_meaning : {E : Type 0} (P : Name → Type 0) (all : Set E) (names others : Names E)
      → Agree P names others
      → (e : Term) → HasNames P e → meaning_of all names e ≡ meaning_of all others e
  same_meaning P all names others agree (Atom n) free = ap of_name (agree n free)
  same_meaning P all names others agree AllEvents free = refl
  same_meaning P all names others agree EmptyRelation free = refl
  same_meaning P all names others agree EmptySet free = refl
  same_meaning P all names others agree (Join op a b) free =
      ap₂ (of_infix op) (same_meaning P all names others agree a free.0)
      (same_meaning P all names others agree b free.1)
  same_meaning P all names others agree (Mark op a) free =
      ap (of_postfix all op) (same_meaning P all names others agree a free)
  same_meaning P all names others agree (Not a) free =
      ap (of_complement all) (same_meaning P all names others agree a free)
  same_meaning P all names others agree (On a) free =
      ap of_identity (same_meaning P all names others agree a free)
  same_meaning P all names others agree (Apply n ts) free =
      ap₂ of_application (agree n free.0) (same_meanings P all names others agree ts free.1)

  pub same_meanings : {E : Type 0} (P : Name → Type 0) (all : Set E) (names others : Names E)
      → Agree P names others
      → (ts : Terms) → HaveArgumentsNames P ts
      → meanings_of all names ts ≡ meanings_of all others ts
  same_meanings P all names others agree NoTerm free = refl
  same_meanings P all names others agree (OneMore a ts) free =
      ap₂ (λ m ms. m ∷ ms) (same_meaning P all names others agree a free.0)
      (same_meanings P all names others agree ts free.1)

-- the parameters of a function
agree_inside : {E : Type 0} (P : Name → Type 0) (names others : Names E) → Agree P names others →
    (ps : List Name)
    (ms : List (Meaning E)) → Agree P (with_arguments ps ms names) (with_arguments ps ms others)
agree_inside P names others agree [] ms = agree
agree_inside P names others agree (p ∷ ps) [] = agree
agree_inside P names others agree (p ∷ ps) (m ∷ ms) =
    agree_inside P ((p, ToMeaning m) ∷ names) ((p, ToMeaning m) ∷ others)
    (one_more P names others p (ToMeaning m) (ToMeaning m) refl agree) ps ms

-- the names of a group
agree_behind : {E : Type 0} (P : Name → Type 0) (names others : Names E) → Agree P names others
    → (R S : Name → Relation E) → R ≡ S → (group : List (Name × Term))
    → Agree P (with_group R group names) (with_group S group others)
agree_behind P names others agree R S same [] = agree
agree_behind P names others agree R S same (b ∷ bs) =
    agree_behind P ((b.0, ToMeaning (ARelation (R b.0))) ∷ names)
    ((b.0, ToMeaning (ARelation (S b.0))) ∷ others)
    (one_more P names others b.0 (ToMeaning (ARelation (R b.0))) (ToMeaning (ARelation (S b.0)))
    (λ i. ToMeaning (ARelation (same i b.0))) agree)
    R S same bs

pub free_body : (P : Name → Type 0) (group : List (Name × Term)) → HaveBodiesNames P group →
    (b : Name × Term)
    → Contains group b → HasNames P b.1
free_body P [] free b (k, lt, eq) = absurd (omega arith)
free_body P (d ∷ ds) free b (zero, lt, eq) =
    subst (λ (one : Name × Term). HasNames P one.1) eq free.0
free_body P (d ∷ ds) free b (suc k, lt, eq) = free_body P ds free.1 b (k, omega arith, eq)

same_closed : {E : Type 0} (P : Name → Type 0) (all : Set E) (names others : Names E)
    → Agree P names others
    → (group : List (Name × Term)) → HaveBodiesNames P group → (choice : Choice E)
    → IsClosed all names group choice ≡ IsClosed all others group choice
same_closed {E} P all names others agree group free choice = λ i.
    (b : Name × Term) → (there : Contains group b) → (x y : E)
    → HasPair (same_meaning P all (with_group (IsChosen choice) group names)
    (with_group (IsChosen choice) group others)
    (agree_behind P names others agree (IsChosen choice) (IsChosen choice) refl group) b.1
    (free_body P group free b there) i) x y
    → IsChosen choice b.0 x y

same_least : {E : Type 0} (P : Name → Type 0) (all : Set E) (names others : Names E)
    → Agree P names others
    → (group : List (Name × Term)) → HaveBodiesNames P group
    → Least all names group ≡ Least all others group
same_least {E} P all names others agree group free = λ i n x y.
    (choice : Choice E) → same_closed P all names others agree group free choice i
    → IsChosen choice n x y

-- the names of another group
agree_bodies : {E : Type 0} (P : Name → Type 0) (all : Set E) (outer inner : Names E)
    → Agree P outer inner
    → (group : List (Name × Term)) → HaveBodiesNames P group → (names others : Names E)
    → Agree P names others
    → Agree P (with_bodies all outer group names) (with_bodies all inner group others)
agree_bodies P all outer inner same [] free names others agree = agree
agree_bodies P all outer inner same (b ∷ bs) free names others agree =
    agree_bodies P all outer inner same bs free.1
    ((b.0, ToMeaning (meaning_of all outer b.1)) ∷ names)
    ((b.0, ToMeaning (meaning_of all inner b.1)) ∷ others)
    (one_more P names others b.0 (ToMeaning (meaning_of all outer b.1))
    (ToMeaning (meaning_of all inner b.1))
    (ap ToMeaning (same_meaning P all outer inner same b.1 free.0)) agree)

agree_after : {E : Type 0} (P : Name → Type 0) (all : Set E) (names others : Names E)
    → Agree P names others
    → (c : Clause) → HasItemNames P c
    → Agree P (names_after all names c) (names_after all others c)
agree_after P all names others agree (Binding true group) free =
    agree_behind P names others agree (Least all names group) (Least all others group)
    (same_least P all names others agree group free) group
agree_after P all names others agree (Binding false group) free =
    agree_bodies P all names others agree group free names others agree
agree_after P all names others agree (Function n ps body) free =
    one_more P names others n
    (ToFunction (length ps) (λ ms. meaning_of all (with_arguments ps ms names) body))
    (ToFunction (length ps) (λ ms. meaning_of all (with_arguments ps ms others) body))
    (λ i. ToFunction (length ps)
    (λ ms. same_meaning P all (with_arguments ps ms names) (with_arguments ps ms others)
    (agree_inside P names others agree ps ms) body free i))
    agree
agree_after P all names others agree (Checking check label) free = agree
agree_after P all names others agree (Flagging check name) free = agree
agree_after P all names others agree (Showing hidden shown) free = agree
agree_after P all names others agree (Including path) free = agree

same_met : {E : Type 0} (P : Name → Type 0) (all : Set E) (names others : Names E)
    → Agree P names others
    → (check : Checked) → HasNames P check.body → IsMet all names check → IsMet all others check
same_met P all names others agree check free h =
    subst (λ m. NegatedIf check.negated (HasProperty check.word m))
    (same_meaning P all names others agree check.body free) h

item_met : {E : Type 0} (P : Name → Type 0) (all : Set E) (names others : Names E)
    → Agree P names others
    → (c : Clause) → HasItemNames P c → IsItemMet all names c → IsItemMet all others c
item_met P all names others agree (Binding recursive group) free h = tt
item_met P all names others agree (Function n ps body) free h = tt
item_met P all names others agree (Checking check label) free h =
    same_met P all names others agree check free h
item_met P all names others agree (Flagging check name) free h = tt
item_met P all names others agree (Showing hidden shown) free h = tt
item_met P all names others agree (Including path) free h = tt

-- items that see only such names are met under both
pub met_alike : {E : Type 0} (P : Name → Type 0) (all : Set E) (names others : Names E)
    → Agree P names others
    → (cs : List Clause) → HaveNames P cs → AreMet all names cs → AreMet all others cs
met_alike P all names others agree [] free h = tt
met_alike P all names others agree (c ∷ cs) free h = (
  item_met P all names others agree c free.0 h.0,
  met_alike P all (names_after all names c) (names_after all others c)
      (agree_after P all names others agree c free.0) cs free.1 h.1,
)
