-- Names keep their numbers as a history grows.
use Rattle.std.proofs.Common.{ℕ, ◌+◌, ◌≤◌, ◌≡◌, ◌==◌, true, false, List, [], ◌∷◌, ◌++◌, length, map, inl, inr, refl, sym, ap, subst, ◌∙◌, append_assoc, length-append, eq-eqb, ne_eqb, arith}
use Rattle.std.specs.Str.{bytes_eq}
use Rattle.std.specs.List.{AllByRecursion as Each}
use mathlib.Core.List.{head-eq_of_cons-eq, tail-eq_of_cons-eq}
use Rattle.std.proofs.lemmas.Bool.{cases_Bool}
use Rattle.std.proofs.lemmas.List.{append-nil}
use Rattle.std.proofs.lemmas.Slice.Eq.{bytes_eq-Decides}
use Rattle.bench_items.specs.Items.{RoleContent}
use Rattle.bench_items.specs.Laws.{KeepsNumbers, TellsNamesApart, HoldsNames}
use Rattle.bench_items.specs.Naming.{SeenName, seen_names_in, number_in_history, IsInHistory, IsNumberedAlike, AreInHistory, with_new_name, with_names, with_role_names}

-- ---- names that are the same

itself : (n : SeenName) → bytes_eq n n ≡ true
itself n = (bytes_eq-Decides n n).1 refl

pub one_name : (n m : SeenName) → bytes_eq n m ≡ true → n ≡ m
one_name n m e = (bytes_eq-Decides n m).0 e

-- ---- numbers of a history

number_within : (h : List SeenName) (a : SeenName) → number_in_history h a ≤ length h
number_within [] a = omega arith
number_within (n ∷ h) a = elim (cases_Bool (bytes_eq n a)) [
  | inl e ↦ rw e (omega arith)
  | inr f ↦ rw f (let within = number_within h a in omega (arith, within))
]

-- a name keeps its number where names are added behind
pub number_stays : (h rest : List SeenName) (a : SeenName) → IsInHistory h a
    → number_in_history (h ++ rest) a ≡ number_in_history h a
number_stays [] rest a lt = absurd (omega (arith, lt))
number_stays (n ∷ h) rest a lt = elim (cases_Bool (bytes_eq n a)) [
  | inl e ↦ rw e refl
  | inr f ↦ (
      let here = rw f at lt in
      rw f (ap (λ (k : ℕ). 1 + k) (number_stays h rest a (omega (arith, here)))))
]

pub still_named : (h rest : List SeenName) (a : SeenName) → IsInHistory h a → IsInHistory (h ++ rest) a
still_named h rest a lt =
    let same = number_stays h rest a lt in
    let long = length-append h rest in
    omega (arith, lt, same, long)

last_named : (h : List SeenName) (a : SeenName) → IsInHistory (h ++ a ∷ []) a
last_named [] a = rw (itself a) (omega arith)
last_named (n ∷ h) a = elim (cases_Bool (bytes_eq n a)) [
  | inl e ↦ rw e (omega arith)
  | inr f ↦ rw f (let later = last_named h a in omega (arith, later))
]

-- two names of one number are one name
pub number_tells : (h : List SeenName) → TellsNamesApart h
number_tells [] a b lt same = absurd (omega (arith, lt))
number_tells (n ∷ h) a b lt same = elim (cases_Bool (bytes_eq n a)) [
  | inl e ↦ elim (cases_Bool (bytes_eq n b)) [
    | inl g ↦ sym (one_name n a e) ∙ one_name n b g
    | inr g ↦ absurd (let now = rw g at (rw e at same) in omega (arith, now))
  ]
  | inr f ↦ elim (cases_Bool (bytes_eq n b)) [
    | inl g ↦ absurd (let now = rw g at (rw f at same) in omega (arith, now))
    | inr g ↦ (
        let here = rw f at lt in
        let now = rw g at (rw f at same) in
        number_tells h a b (omega (arith, here)) (omega (arith, now)))
  ]
]

-- ---- how a history grows

with_name_named : (h : List SeenName) (a : SeenName) → IsInHistory (with_new_name h a) a
with_name_named h a = elim (cases_Bool (number_in_history h a == length h)) [
  | inl e ↦ rw e (last_named h a)
  | inr f ↦ (
      let within = number_within h a in
      let unlike : number_in_history h a ≡ length h → ⊥ = λ same. (let no : false ≡ true = sym f ∙ eq-eqb (number_in_history h a) (length h) same in cc) in
      rw f (omega (arith, within, unlike)))
]

with_name_begins : (h : List SeenName) (a : SeenName)
    → (rest : List SeenName) × (with_new_name h a ≡ h ++ rest)
with_name_begins h a = elim (cases_Bool (number_in_history h a == length h)) [
  | inl e ↦ (a ∷ [], rw e refl)
  | inr f ↦ ([], rw f (sym (append-nil h)))
]

-- a history with more names begins with what it was
with_names_begin : (h names : List SeenName)
    → (rest : List SeenName) × (with_names h names ≡ h ++ rest)
with_names_begin h [] = ([], sym (append-nil h))
with_names_begin h (n ∷ ns) =
    let first = with_name_begins h n in
    let later = with_names_begin (with_new_name h n) ns in (
      first.0 ++ later.0,
      later.1 ∙ ap (λ (l : List SeenName). l ++ later.0) first.1
          ∙ append_assoc h first.0 later.0,
    )

-- it is what it was where it has the names
pub names_stay : (h names : List SeenName) → Each (IsInHistory h) names → with_names h names ≡ h
names_stay h [] named = refl
names_stay h (n ∷ ns) named =
    let unlike : number_in_history h n ≡ length h → ⊥ = λ same. (let lt = named.0 in omega (arith, lt, same)) in
    let same : with_new_name h n ≡ h = rw (ne_eqb (number_in_history h n) (length h) unlike) refl in
    ap (λ (l : List SeenName). with_names l ns) same ∙ names_stay h ns named.1

names_named : (h names : List SeenName) → Each (IsInHistory (with_names h names)) names
names_named h [] = tt
names_named h (n ∷ ns) =
    let first = with_new_name h n in
    let later = with_names_begin first ns in (
      subst (λ (l : List SeenName). IsInHistory l n) (sym later.1)
          (still_named first later.0 n (with_name_named h n)),
      names_named first ns,
    )

pub grown_begins : (h : List SeenName) (role : RoleContent)
    → (rest : List SeenName) × (with_role_names h role ≡ h ++ rest)
grown_begins h role = with_names_begin h (seen_names_in role)

pub grown_stays : (h : List SeenName) (role : RoleContent) → AreInHistory h role
    → with_role_names h role ≡ h
grown_stays h role named = names_stay h (seen_names_in role) named

pub grown_named : (h : List SeenName) (role : RoleContent) → AreInHistory (with_role_names h role) role
grown_named h role = names_named h (seen_names_in role)

-- the history of what an item does holds its names
pub all_named : (h old : List SeenName) (role : RoleContent) → h ≡ with_role_names old role
    → AreInHistory h role
all_named h old role e =
    subst (λ (l : List SeenName). AreInHistory l role) (sym e) (grown_named old role)

-- and grows no more by what the item does
pub holds_itself : (h old : List SeenName) (role : RoleContent) → h ≡ with_role_names old role
    → with_role_names h role ≡ h
holds_itself h old role e = grown_stays h role (all_named h old role e)

pub keeps_numbers : (h : List SeenName) (role : RoleContent) → KeepsNumbers h role
keeps_numbers h role a named =
    let begins = grown_begins h role in
    ap (λ (l : List SeenName). number_in_history l a) begins.1 ∙ number_stays h begins.0 a named

pub holds_names : (h : List SeenName) (role : RoleContent) → HoldsNames h role
holds_names h role = (grown_named h role, grown_stays h role)

-- ---- the numbers of some names in two histories

pub numbers_alike : (h g names : List SeenName) → Each (IsNumberedAlike h g) names
    → map (number_in_history h) names ≡ map (number_in_history g) names
numbers_alike h g [] alike = refl
numbers_alike h g (n ∷ ns) alike =
    let rest : map (number_in_history h) ns ≡ map (number_in_history g) ns = numbers_alike h g ns alike.1 in
    λ i. alike.0 i ∷ rest i

pub alike_numbers : (h g names : List SeenName) → map (number_in_history h) names ≡ map (number_in_history g) names
    → Each (IsNumberedAlike h g) names
alike_numbers h g [] same = tt
alike_numbers h g (n ∷ ns) same =
    (head-eq_of_cons-eq same, alike_numbers h g ns (tail-eq_of_cons-eq same))
