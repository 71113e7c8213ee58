-- What items that are added do to what is kept, and to the faults of a model.
use Rattle.std.proofs.Common.{◌≡◌, ◌↔◌, zero, suc, List, [], ◌∷◌, ◌++◌, Contains, refl, sym, ap, subst, ◌∙◌, append_assoc, arith}
use Rattle.text_values.specs.ModelValue.{Clause, Binding, Function, Checking, Flagging, Showing, Including}
use Rattle.meaning.specs.Sets.{Set}
use Rattle.meaning.specs.Cat.{Names, AreMet, IsItemMet, names_after}
use Rattle.meaning.specs.Faults as of
use Rattle.meaning.specs.Laws.{IsCheck, AreChecks, IsAside}

-- the checks among the first items are met where all are
pub first_are_met : {E : Type 0} (all : Set E) (names : Names E) (items more : List Clause)
    → AreMet all names (items ++ more) → AreMet all names items
first_are_met all names [] more h = tt
first_are_met all names (c ∷ cs) more h =
    (h.0, first_are_met all (names_after all names c) cs more h.1)

-- without a check in the middle, the others are met
pub others_are_met : {E : Type 0} (all : Set E) (names : Names E) (before behind : List Clause)
    (c : Clause) → IsCheck c → AreMet all names (before ++ c ∷ behind)
    → AreMet all names (before ++ behind)
others_are_met all names [] behind (Checking check label) is_check h = h.1
others_are_met all names [] behind (Binding r bs) is_check h = absurd is_check
others_are_met all names [] behind (Function n ps b) is_check h = absurd is_check
others_are_met all names [] behind (Flagging check name) is_check h = absurd is_check
others_are_met all names [] behind (Showing hidden shown) is_check h = absurd is_check
others_are_met all names [] behind (Including path) is_check h = absurd is_check
others_are_met all names (d ∷ ds) behind c is_check h =
    (h.0, others_are_met all (names_after all names d) ds behind c is_check h.1)

-- what is no definition and no check makes no difference
pub aside_is_met : {E : Type 0} (all : Set E) (names : Names E) (before behind : List Clause)
    (c : Clause) → IsAside c
    → AreMet all names (before ++ c ∷ behind) ↔ AreMet all names (before ++ behind)
aside_is_met all names [] behind (Checking check label) aside = absurd aside
aside_is_met all names [] behind (Binding r bs) aside = absurd aside
aside_is_met all names [] behind (Function n ps b) aside = absurd aside
aside_is_met all names [] behind (Flagging check name) aside = (λ h. h.1, λ h. (tt, h))
aside_is_met all names [] behind (Showing hidden shown) aside = (λ h. h.1, λ h. (tt, h))
aside_is_met all names [] behind (Including path) aside = (λ h. h.1, λ h. (tt, h))
aside_is_met all names (d ∷ ds) behind c aside =
    let rest : _ = aside_is_met all (names_after all names d) ds behind c aside in
    (λ h. (h.0, rest.0 h.1), λ h. (h.0, rest.1 h.1))

-- a check binds no name
names_stay : {E : Type 0} (all : Set E) (names : Names E) (c : Clause) (cs : List Clause)
    → IsCheck c → AreMet all (names_after all names c) cs ↔ AreMet all names cs
names_stay all names (Checking check label) cs is_check = (λ h. h, λ h. h)
names_stay all names (Binding r bs) cs is_check = absurd is_check
names_stay all names (Function n ps b) cs is_check = absurd is_check
names_stay all names (Flagging check name) cs is_check = absurd is_check
names_stay all names (Showing hidden shown) cs is_check = absurd is_check
names_stay all names (Including path) cs is_check = absurd is_check

-- each of some checks that are met
each_is_met : {E : Type 0} (all : Set E) (names : Names E) (cs : List Clause) → AreChecks cs
    → AreMet all names cs → (c : Clause) → Contains cs c → IsItemMet all names c
each_is_met all names [] are h c (k, lt, eq) = absurd (omega arith)
each_is_met all names (d ∷ ds) are h c (zero, lt, eq) =
    subst (λ (one : Clause). IsItemMet all names one) eq h.0
each_is_met all names (d ∷ ds) are h c (suc k, lt, eq) =
    each_is_met all names ds are.1 ((names_stay all names d ds are.0).0 h.1) c
    (k, omega arith, eq)

-- checks of which each is met are all met
all_are_met : {E : Type 0} (all : Set E) (names : Names E) (cs : List Clause) → AreChecks cs
    → ((c : Clause) → Contains cs c → IsItemMet all names c) → AreMet all names cs
all_are_met all names [] are each = tt
all_are_met all names (d ∷ ds) are each = (
  each d (0, omega arith, refl),
  (names_stay all names d ds are.0).1
      (all_are_met all names ds are.1 (λ c h. each c (suc h.0, omega arith, h.2))),
)

-- checks among others are met where the others are, behind the same definitions
pub fewer_are_met : {E : Type 0} (all : Set E) (names : Names E)
    (definitions many few : List Clause) → AreChecks many → AreChecks few
    → ((c : Clause) → Contains few c → Contains many c)
    → AreMet all names (definitions ++ many) → AreMet all names (definitions ++ few)
fewer_are_met all names [] many few are_many are_few among h =
    all_are_met all names few are_few
    (λ c there. each_is_met all names many are_many h c (among c there))
fewer_are_met all names (d ∷ ds) many few are_many are_few among h = (
  h.0,
  fewer_are_met all (names_after all names d) ds many few are_many are_few among h.1,
)

-- the faults of the first items come first
pub faults_first : (names : of.Scope) (items more : List Clause)
    → (rest : List of.ModelFault)
    × (of.faults_from names (items ++ more) ≡ of.faults_from names items ++ rest)
faults_first names [] more = (of.faults_from names more, refl)
faults_first names (c ∷ cs) more =
    let behind : _ = faults_first (of.known_after names c) cs more in (
      behind.0,
      ap (λ (fs : List of.ModelFault). of.faults_of_item names c ++ fs) behind.1
          ∙ sym (append_assoc (of.faults_of_item names c)
          (of.faults_from (of.known_after names c) cs) behind.0),
    )
