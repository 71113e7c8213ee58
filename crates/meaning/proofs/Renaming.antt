-- A binding may have another name.
use Rattle.std.proofs.Common.{◌≡◌, ◌↔◌, zero, suc, Bool, true, false, List, [], ◌∷◌, ◌++◌, map, length, Contains, bytes_eq, if◌then◌else◌, refl, sym, ap, ap₂, subst, ◌∙◌, arith}
use mathlib.Core.HProp.{h_prop_ext}
use mathlib.Core.Path.{subst⁻¹}
use mathlib.Core.Bool.{Bool-set}
use Rattle.std.specs.Cmp.{both_ways}
use Rattle.std.proofs.lemmas.Slice.Eq.{bytes_eq-Decides}
use Rattle.text_values.specs.ModelValue.{Term, Terms, Atom, AllEvents, EmptyRelation, EmptySet, Join, Mark, Not, On, Apply, NoTerm, OneMore, Clause, Binding, Function, Checking, Flagging, Showing, Including}
use Rattle.meaning.specs.Sets.{Set, Relation}
use Rattle.meaning.specs.Names.{Name}
use Rattle.meaning.specs.Cat.{Meaning, ARelation, Bound, ToMeaning, ToFunction, Names, choice_of, bound_of, of_name, of_application, of_infix, of_postfix, of_complement, of_identity, meaning_of, meanings_of, with_arguments, HasPair, with_group, Choice, IsChosen, IsClosed, Least, with_bodies, names_after, HasProperty, NegatedIf, IsItemMet, AreMet}
use Rattle.meaning.specs.Laws.{HasNames, HaveArgumentsNames, HaveBodiesNames, HasItemNames, HaveNames, renamed, renamed_term, renamed_terms, renamed_body, renamed_item, IsOther, BindsOthers, BindOthers, let_one}
use Rattle.meaning.proofs.Agreeing.{free_body}
use Rattle.meaning.proofs.Counting.{here, behind}

-- but for `m`, a name is bound as it is where it is renamed
abbrev Agree : {E : Type 0} → Name → Name → Names E → Names E → Type 1
Agree n m names others =
    (q : Name) → (m ≡ q → ⊥) → bound_of names q ≡ bound_of others (renamed n m q)

test_by : (n m k q : Name) → IsOther n m k → (test : Bool) → bytes_eq n q ≡ test
    → bytes_eq k q ≡ bytes_eq k (if test then m else q)
test_by n m k q other true is =
    both_ways (bytes_eq k q) (bytes_eq k m)
    (λ h. absurd (other.0 ((bytes_eq-Decides k q).0 h ∙ sym ((bytes_eq-Decides n q).0 is))))
    (λ h. absurd (other.1 ((bytes_eq-Decides k m).0 h)))
test_by n m k q other false is = refl

one_more : {E : Type 0} (n m : Name) (names others : Names E) (k : Name) (b c : Bound E)
    → IsOther n m k → b ≡ c → Agree n m names others
    → Agree n m ((k, b) ∷ names) ((k, c) ∷ others)
one_more n m names others k b c other same agree q free = λ i.
    choice_of (test_by n m k q other (bytes_eq n q) refl i) (same i) (agree q free i)

mutual
  same_meaning : {E : Type 0} (n m : Name) (all : Set E) (names others : Names E)
      → Agree n m names others → (e : Term) → HasNames (λ q. m ≡ q → ⊥) e
      → meaning_of all names e ≡ meaning_of all others (renamed_term n m e)
  same_meaning n m all names others agree (Atom q) free = ap of_name (agree q free)
  same_meaning n m all names others agree AllEvents free = refl
  same_meaning n m all names others agree EmptyRelation free = refl
  same_meaning n m all names others agree EmptySet free = refl
  same_meaning n m all names others agree (Join op a b) free =
      ap₂ (of_infix op) (same_meaning n m all names others agree a free.0)
      (same_meaning n m all names others agree b free.1)
  same_meaning n m all names others agree (Mark op a) free =
      ap (of_postfix all op) (same_meaning n m all names others agree a free)
  same_meaning n m all names others agree (Not a) free =
      ap (of_complement all) (same_meaning n m all names others agree a free)
  same_meaning n m all names others agree (On a) free =
      ap of_identity (same_meaning n m all names others agree a free)
  same_meaning n m all names others agree (Apply q ts) free =
      ap₂ of_application (agree q free.0) (same_meanings n m all names others agree ts free.1)

  same_meanings : {E : Type 0} (n m : Name) (all : Set E) (names others : Names E)
      → Agree n m names others → (ts : Terms) → HaveArgumentsNames (λ q. m ≡ q → ⊥) ts
      → meanings_of all names ts ≡ meanings_of all others (renamed_terms n m ts)
  same_meanings n m all names others agree NoTerm free = refl
  same_meanings n m all names others agree (OneMore a ts) free =
      ap₂ (λ one rest. one ∷ rest) (same_meaning n m all names others agree a free.0)
      (same_meanings n m all names others agree ts free.1)

-- the parameters of a function
agree_inside : {E : Type 0} (n m : Name) (names others : Names E) → Agree n m names others
    → (ps : List Name) → ((p : Name) → Contains ps p → IsOther n m p) → (ms : List (Meaning E))
    → Agree n m (with_arguments ps ms names) (with_arguments ps ms others)
agree_inside n m names others agree [] are ms = agree
agree_inside n m names others agree (p ∷ ps) are [] = agree
agree_inside n m names others agree (p ∷ ps) are (k ∷ ms) =
    agree_inside n m ((p, ToMeaning k) ∷ names) ((p, ToMeaning k) ∷ others)
    (one_more n m names others p (ToMeaning k) (ToMeaning k) (are p (here p ps)) refl agree) ps
    (λ q there. are q (behind p ps q there)) ms

-- the names of a group
agree_behind : {E : Type 0} (n m : Name) (names others : Names E) → Agree n m names others
    → (R S : Name → Relation E) → R ≡ S → (group : List (Name × Term))
    → ((b : Name × Term) → Contains group b → IsOther n m b.0)
    → Agree n m (with_group R group names) (with_group S (map (renamed_body n m) group) others)
agree_behind n m names others agree R S same [] are = agree
agree_behind n m names others agree R S same (b ∷ bs) are =
    agree_behind n m ((b.0, ToMeaning (ARelation (R b.0))) ∷ names)
    ((b.0, ToMeaning (ARelation (S b.0))) ∷ others)
    (one_more n m names others b.0 (ToMeaning (ARelation (R b.0)))
    (ToMeaning (ARelation (S b.0))) (are b (here b bs))
    (λ i. ToMeaning (ARelation (same i b.0))) agree)
    R S same bs (λ d there. are d (behind b bs d there))

-- what stands in a list of renamed bodies
mapped : (n m : Name) (group : List (Name × Term)) (c : Name × Term)
    → Contains (map (renamed_body n m) group) c
    → (b : Name × Term) × Contains group b × (renamed_body n m b ≡ c)
mapped n m [] c h = absurd (let lt : _ = h.1 in omega arith)
mapped n m (b ∷ bs) c (zero, lt, eq) = (b, here b bs, eq)
mapped n m (b ∷ bs) c (suc k, lt, eq) =
    let rest : _ = mapped n m bs c (k, omega arith, eq) in
    (rest.0, behind b bs rest.0 rest.1, rest.2)

also_mapped : (n m : Name) (group : List (Name × Term)) (b : Name × Term) → Contains group b
    → Contains (map (renamed_body n m) group) (renamed_body n m b)
also_mapped n m [] b h = absurd (let lt : _ = h.1 in omega arith)
also_mapped n m (d ∷ ds) b (zero, lt, eq) = (0, omega arith, ap (renamed_body n m) eq)
also_mapped n m (d ∷ ds) b (suc k, lt, eq) =
    behind (renamed_body n m d) (map (renamed_body n m) ds) (renamed_body n m b)
    (also_mapped n m ds b (k, omega arith, eq))

abbrev Others : Name → Name → List (Name × Term) → Type 0
Others n m group = (b : Name × Term) → Contains group b → IsOther n m b.0

-- what a body of the group means, where its names stand for a choice
body_means : {E : Type 0} (n m : Name) (all : Set E) (names others : Names E)
    → Agree n m names others → (group : List (Name × Term))
    → HaveBodiesNames (λ q. m ≡ q → ⊥) group → Others n m group → (choice : Choice E)
    → (b : Name × Term) → Contains group b
    → meaning_of all (with_group (IsChosen choice) group names) b.1
    ≡ meaning_of all (with_group (IsChosen choice) (map (renamed_body n m) group) others)
    (renamed_term n m b.1)
body_means n m all names others agree group free are choice b there =
    same_meaning n m all (with_group (IsChosen choice) group names)
    (with_group (IsChosen choice) (map (renamed_body n m) group) others)
    (agree_behind n m names others agree (IsChosen choice) (IsChosen choice) refl group are) b.1
    (free_body (λ q. m ≡ q → ⊥) group free b there)

same_closed : {E : Type 0} (n m : Name) (all : Set E) (names others : Names E)
    → Agree n m names others → (group : List (Name × Term))
    → HaveBodiesNames (λ q. m ≡ q → ⊥) group → Others n m group → (choice : Choice E)
    → IsClosed all names group choice
    ↔ IsClosed all others (map (renamed_body n m) group) choice
same_closed {E} n m all names others agree group free are choice = (
  λ closed c there.
      let b : _ = mapped n m group c there in
      let Gives : Name × Term → Type 0 = λ one. (x y : E)
      → HasPair (meaning_of all
      (with_group (IsChosen choice) (map (renamed_body n m) group) others) one.1) x y
      → IsChosen choice one.0 x y in
      subst Gives b.2
      (λ x y h. closed b.0 b.1 x y
      (subst⁻¹ (λ k. HasPair k x y)
      (body_means n m all names others agree group free are choice b.0 b.1) h)),
  λ closed b there x y h.
      closed (renamed_body n m b) (also_mapped n m group b there) x y
      (subst (λ k. HasPair k x y)
      (body_means n m all names others agree group free are choice b there) h),
)

least_is_prop : {E : Type 0} (all : Set E) (names : Names E) (group : List (Name × Term))
    (n : Name) (x y : E) → IsProp (Least all names group n x y)
least_is_prop all names group n x y p q = λ i choice closed.
    Bool-set (choice n x y) true (p choice closed) (q choice closed) i

same_least : {E : Type 0} (n m : Name) (all : Set E) (names others : Names E)
    → Agree n m names others → (group : List (Name × Term))
    → HaveBodiesNames (λ q. m ≡ q → ⊥) group → Others n m group
    → Least all names group ≡ Least all others (map (renamed_body n m) group)
same_least n m all names others agree group free are = λ i q x y.
    h_prop_ext (least_is_prop all names group q x y)
    (least_is_prop all others (map (renamed_body n m) group) q x y)
    (λ least choice closed. least choice
    ((same_closed n m all names others agree group free are choice).1 closed))
    (λ least choice closed. least choice
    ((same_closed n m all names others agree group free are choice).0 closed)) i

-- the names of another group
agree_bodies : {E : Type 0} (n m : Name) (all : Set E) (outer inner : Names E)
    → Agree n m outer inner → (group : List (Name × Term))
    → HaveBodiesNames (λ q. m ≡ q → ⊥) group → Others n m group → (names others : Names E)
    → Agree n m names others
    → Agree n m (with_bodies all outer group names)
    (with_bodies all inner (map (renamed_body n m) group) others)
agree_bodies n m all outer inner same [] free are names others agree = agree
agree_bodies n m all outer inner same (b ∷ bs) free are names others agree =
    agree_bodies n m all outer inner same bs free.1 (λ d there. are d (behind b bs d there))
    ((b.0, ToMeaning (meaning_of all outer b.1)) ∷ names)
    ((b.0, ToMeaning (meaning_of all inner (renamed_term n m b.1))) ∷ others)
    (one_more n m names others b.0 (ToMeaning (meaning_of all outer b.1))
    (ToMeaning (meaning_of all inner (renamed_term n m b.1))) (are b (here b bs))
    (ap ToMeaning (same_meaning n m all outer inner same b.1 free.0)) agree)

agree_after : {E : Type 0} (n m : Name) (all : Set E) (names others : Names E)
    → Agree n m names others → (c : Clause) → HasItemNames (λ q. m ≡ q → ⊥) c
    → BindsOthers n m c
    → Agree n m (names_after all names c) (names_after all others (renamed_item n m c))
agree_after n m all names others agree (Binding true group) free are =
    agree_behind n m names others agree (Least all names group)
    (Least all others (map (renamed_body n m) group))
    (same_least n m all names others agree group free are) group are
agree_after n m all names others agree (Binding false group) free are =
    agree_bodies n m all names others agree group free are names others agree
agree_after n m all names others agree (Function f ps body) free are =
    one_more n m names others f
    (ToFunction (length ps) (λ ms. meaning_of all (with_arguments ps ms names) body))
    (ToFunction (length ps)
    (λ ms. meaning_of all (with_arguments ps ms others) (renamed_term n m body)))
    (are f (here f ps))
    (λ i. ToFunction (length ps)
    (λ ms. same_meaning n m all (with_arguments ps ms names) (with_arguments ps ms others)
    (agree_inside n m names others agree ps (λ p there. are p (behind f ps p there)) ms) body
    free i))
    agree
agree_after n m all names others agree (Checking check label) free are = agree
agree_after n m all names others agree (Flagging check name) free are = agree
agree_after n m all names others agree (Showing hidden shown) free are = agree
agree_after n m all names others agree (Including path) free are = agree

same_item : {E : Type 0} (n m : Name) (all : Set E) (names others : Names E)
    → Agree n m names others → (c : Clause) → HasItemNames (λ q. m ≡ q → ⊥) c
    → IsItemMet all names c ≡ IsItemMet all others (renamed_item n m c)
same_item n m all names others agree (Binding recursive group) free = refl
same_item n m all names others agree (Function f ps body) free = refl
same_item n m all names others agree (Checking check label) free =
    ap (λ k. NegatedIf check.negated (HasProperty check.word k))
    (same_meaning n m all names others agree check.body free)
same_item n m all names others agree (Flagging check name) free = refl
same_item n m all names others agree (Showing hidden shown) free = refl
same_item n m all names others agree (Including path) free = refl

same_met : {E : Type 0} (n m : Name) (all : Set E) (names others : Names E)
    → Agree n m names others → (cs : List Clause) → HaveNames (λ q. m ≡ q → ⊥) cs
    → BindOthers n m cs → AreMet all names cs ≡ AreMet all others (map (renamed_item n m) cs)
same_met n m all names others agree [] free are = refl
same_met n m all names others agree (c ∷ cs) free are = λ i.
    same_item n m all names others agree c free.0 i
    × same_met n m all (names_after all names c) (names_after all others (renamed_item n m c))
    (agree_after n m all names others agree c free.0 are.0) cs free.1 are.1 i

-- the second of two, where the test is not true
second : {A : Type 1} (test : Bool) → (test ≡ true → ⊥) → (a b : A) → b ≡ choice_of test a b
second true not_true a b = absurd (not_true refl)
second false not_true a b = refl

-- the names behind the binding itself
found_by : {E : Type 0} (n m q : Name) (b : Bound E) (names : Names E) → (m ≡ q → ⊥)
    → (test : Bool) → bytes_eq n q ≡ test
    → choice_of test b (bound_of names q)
    ≡ bound_of ((m, b) ∷ names) (if test then m else q)
found_by n m q b names free true is = λ i.
    choice_of (sym ((bytes_eq-Decides m m).1 refl) i) b (bound_of names m)
found_by n m q b names free false is =
    second (bytes_eq m q) (λ eq. free ((bytes_eq-Decides m q).0 eq)) b (bound_of names q)

agree_first : {E : Type 0} (n m : Name) (b : Bound E) (names : Names E)
    → Agree n m ((n, b) ∷ names) ((m, b) ∷ names)
agree_first n m b names q free = found_by n m q b names free (bytes_eq n q) refl

-- items behind others, and the binding
pub renaming_keeps : {E : Type 0} (all : Set E) (names : Names E) (before behind : List Clause)
    (n m : Name) (e : Term) → HaveNames (λ q. m ≡ q → ⊥) behind → BindOthers n m behind
    → AreMet all names (before ++ let_one n e ∷ behind)
    ≡ AreMet all names (before ++ let_one m e ∷ map (renamed_item n m) behind)
renaming_keeps all names [] behind n m e free are = λ i.
    Unit {0}
    × same_met n m all ((n, ToMeaning (meaning_of all names e)) ∷ names)
    ((m, ToMeaning (meaning_of all names e)) ∷ names)
    (agree_first n m (ToMeaning (meaning_of all names e)) names) behind free are i
renaming_keeps all names (c ∷ cs) behind n m e free are = λ i.
    IsItemMet all names c
    × renaming_keeps all (names_after all names c) cs behind n m e free are i
