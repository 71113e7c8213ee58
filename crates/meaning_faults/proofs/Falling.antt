-- Which parameters must not grow; and that a function is the same to both.
use Rattle.std.proofs.Common.{ℕ, zero, suc, ◌≡◌, ◌<◌, ◌≤◌, ◌+◌, inl, inr, List, [], ◌∷◌, ◌++◌, length, reverse, get_or, Bool, true, false, ◌&&◌, ◌||◌, Option, Some, None, refl, ap, sym, ◌∙◌, arith}
use Rattle.std.specs.Prelude.{nat_eq, not, if◌then◌else◌, replicate, is_some}
use Rattle.std.specs.List.{list_any}
use Rattle.std.proofs.lemmas.Bool.{cases_eq, eq-eqb, ne_eqb}
use Rattle.std.proofs.lemmas.List.Folds.{list_any-append}
use Rattle.text_values.specs.ModelValue.{Term, Terms, Atom, AllEvents, EmptyRelation, EmptySet, Join, Mark, Not, On, Apply, NoTerm, OneMore}
use Rattle.binding_kinds.specs.declared.kinds.Kind as code_kind
use Rattle.binding_kinds.specs.declared.kinds.Kind.TheVariants as kinds
use Rattle.binding_kinds.specs.Value.{Naming}
use Rattle.binding_kinds.specs.Combinations.{has_any}
use Rattle.binding_kinds.specs.Meanings.{parameter_of}
use Rattle.binding_kinds.specs.Senses.{Sense, count_of}
use Rattle.binding_kinds.specs.Functions.{under_at, is_at, is_under_in, is_under_among, sense_of_function}
use Rattle.binding_kinds.specs.First.{first_of_body, first_of_bodies}
use Rattle.binding_functions.proofs.Filling.{formula_within}
use Rattle.meaning.specs.Names.{Name}
use Rattle.meaning.specs.Faults.{OfAny, ModelFault, Kind, NotMonotone, Finding, KnownName, Known, AsValue, AsFunction, Scope, known_as, takes, is_set, is_relation, is_falling_right, fault_if, is_monotone_fault, value_with, in_name, is_falling_parameter, faults_in, with_parameters, in_body}
use Rattle.meaning_faults.specs.Laws.{fault_of}
use Rattle.meaning_faults.proofs.Likeness.{value_kinds, values_of, turned_same}
use Rattle.meaning_faults.proofs.Scopes.{IsSense, AreTied, IsPlain, plain_tied, plain_value, known_inside, known_parameter}
use Rattle.meaning_faults.proofs.Applying.{long_terms, right_use, monotone_if, under_inside_application}
use Rattle.meaning_faults.proofs.Inside.{answer_at, use_inside, look, looks, argued, kind_inside, size_inside}
use Rattle.meaning_faults.proofs.Clashes.{none_first, clash_inside}

-- the arguments, of which the one at that index is recursive
abbrev pub one_recursive : ℕ → List KnownName
one_recursive j = replicate j plain_value ++ value_with OfAny 1 true ∷ []

recursive_there : (j : ℕ) → (get_or (one_recursive j) j plain_value).recursive ≡ true
recursive_there zero = refl
recursive_there (suc j) = recursive_there j

plain_elsewhere : (j p : ℕ) → (p ≡ j → ⊥)
    → (get_or (one_recursive j) p plain_value).recursive ≡ false
plain_elsewhere zero zero other = absurd (other refl)
plain_elsewhere zero (suc p) other = refl
plain_elsewhere (suc j) zero other = refl
plain_elsewhere (suc j) (suc p) other =
    plain_elsewhere j p (λ e. other (ap (λ (n : ℕ). suc n) e))

recursive_at : (j p : ℕ) → (get_or (one_recursive j) p plain_value).recursive ≡ nat_eq p j
recursive_at j p = elim (cases_eq p j) [
  | inl same ↦
      ap (λ (n : ℕ). (get_or (one_recursive j) n plain_value).recursive) same
      ∙ (recursive_there j ∙ sym (eq-eqb p j same))
  | inr other ↦ plain_elsewhere j p other ∙ sym (ne_eqb p j other)
]

name_plain : (u : Bool) (k : Option Known) → IsPlain k
    → list_any is_monotone_fault (in_name u k).faults ≡ false
name_plain u None h = refl
name_plain u (Some (AsValue v)) h =
    ap (λ (b : Bool). list_any is_monotone_fault (fault_if (b && u) NotMonotone)) h
name_plain u (Some (AsFunction n body)) h = refl

atom_under : (ss : List Sense) (from : ℕ) (names : List Naming) (ps : List Name) (j : ℕ)
    (S : Scope) (u : Bool) (x : Name) → AreTied ss from names S → length names ≤ from
    → (u && is_at j (parameter_of (reverse ps) x))
    ≡ list_any is_monotone_fault
    (in_name u (known_as (with_parameters ps (one_recursive j) S) x)).faults
atom_under ss from names ps j S u x tied le =
    at_parameter (parameter_of (reverse ps) x)
    ∙ sym (ap (λ (k : Option Known). list_any is_monotone_fault (in_name u k).faults)
    (known_parameter ps (one_recursive j) S x))
  where
    at_tests : (b c : Bool)
        → (c && b) ≡ list_any is_monotone_fault (fault_if (b && c) NotMonotone)
    at_tests true true = refl
    at_tests true false = refl
    at_tests false true = refl
    at_tests false false = refl

    never : (c : Bool) → (c && false) ≡ false
    never true = refl
    never false = refl

    at_parameter : (o : Option ℕ)
        → (u && is_at j o)
        ≡ list_any is_monotone_fault
        (in_name u (known_inside (one_recursive j) o (known_as S x))).faults
    at_parameter (Some p) =
        ap (λ (b : Bool). u && b) (sym (recursive_at j p))
        ∙ at_tests (get_or (one_recursive j) p plain_value).recursive u
    at_parameter None =
        never u ∙ sym (name_plain u (known_as S x) (plain_tied ss from names S x tied le))

under_parts : (x y : Bool) (z : Bool) (ks ls : List ModelFault)
    → x ≡ list_any is_monotone_fault ks → y ≡ list_any is_monotone_fault ls
    → (x || y) ≡ list_any is_monotone_fault (ks ++ (fault_if z Kind ++ ls))
under_parts x y z ks ls d e =
    rw (d, e) refl
    ∙ sym (list_any-append is_monotone_fault ks (fault_if z Kind ++ ls)
    ∙ ap (λ (b : Bool). list_any is_monotone_fault ks || b)
    (list_any-append is_monotone_fault (fault_if z Kind) ls
    ∙ ap (λ (b : Bool). b || list_any is_monotone_fault ls) (monotone_if z)))

under_ends : (x z : Bool) (ks : List ModelFault) → x ≡ list_any is_monotone_fault ks
    → x ≡ list_any is_monotone_fault (ks ++ fault_if z Kind)
under_ends x z ks d =
    d
    ∙ (sym (or_false (list_any is_monotone_fault ks))
    ∙ sym (list_any-append is_monotone_fault ks (fault_if z Kind)
    ∙ ap (λ (b : Bool). list_any is_monotone_fault ks || b) (monotone_if z)))
  where
    or_false : (b : Bool) → (b || false) ≡ b
    or_false true = refl
    or_false false = refl

under_begins : (x z : Bool) (ks : List ModelFault) → x ≡ list_any is_monotone_fault ks
    → x ≡ list_any is_monotone_fault (fault_if z Kind ++ ks)
under_begins x true ks d = d
under_begins x false ks d = d

mutual
  pub under_inside : (ss : List Sense) (from : ℕ) (names : List Naming) (ps : List Name)
      (j : ℕ) (S : Scope) → AreTied ss from names S → length names ≤ from
      → (u : Bool) (t : Term) → first_of_body ss names ps t ≡ None
      → is_under_in ss names ps j u t
      ≡ list_any is_monotone_fault (look ps (one_recursive j) S u t).faults
  under_inside ss from names ps j S tied le u (Atom x) none =
      atom_under ss from names ps j S u x tied le
  under_inside ss from names ps j S tied le u AllEvents none = refl
  under_inside ss from names ps j S tied le u EmptyRelation none = refl
  under_inside ss from names ps j S tied le u EmptySet none = refl
  under_inside ss from names ps j S tied le u (Join op a b) none =
      let split = none_first (first_of_body ss names ps a) (first_of_body ss names ps b) none in
      ap (λ (v : Bool). is_under_in ss names ps j u a || is_under_in ss names ps j v b)
      (turned_same op u)
      ∙ under_parts (is_under_in ss names ps j u a)
      (is_under_in ss names ps j (is_falling_right op u) b)
      (not (takes op (look ps (one_recursive j) S u a).kind
      (look ps (one_recursive j) S (is_falling_right op u) b).kind))
      (look ps (one_recursive j) S u a).faults
      (look ps (one_recursive j) S (is_falling_right op u) b).faults
      (under_inside ss from names ps j S tied le u a split.0)
      (under_inside ss from names ps j S tied le (is_falling_right op u) b split.1)
  under_inside ss from names ps j S tied le u (Mark op a) none =
      under_ends (is_under_in ss names ps j u a)
      (not (is_relation (look ps (one_recursive j) S u a).kind))
      (look ps (one_recursive j) S u a).faults
      (under_inside ss from names ps j S tied le u a none)
  under_inside ss from names ps j S tied le u (Not a) none =
      under_inside ss from names ps j S tied le true a none
  under_inside ss from names ps j S tied le u (On a) none =
      under_begins (is_under_in ss names ps j u a)
      (not (is_set (look ps (one_recursive j) S u a).kind))
      (look ps (one_recursive j) S u a).faults
      (under_inside ss from names ps j S tied le u a none)
  under_inside ss from names ps j S tied le u (Apply x ts) none =
      let split =
      none_first (answer_at ss names ps (count_of ts) x) (first_of_bodies ss names ps ts) none in
      elim (use_inside ss from names ps (one_recursive j) S (count_of ts) x tied) [
        | inl w ↦ absurd (let f : Some (fault_of w.fault) ≡ None = sym w.answer ∙ split.0 in cc)
        | inr r ↦
            ap (λ (q : Option Sense). is_some q
            && is_under_among ss names ps j u (under_at q) 0 ts) r.some
            ∙ (under_inside_all ss from names ps j S tied le u r.sense.is_under
            (λ i. u || is_falling_parameter r.body i) 0 ts
            (λ k lt. ap (λ (b : Bool). u || b)
            (sym (r.same.under k (omega (arith, lt))))) split.1
            ∙ (sym (under_inside_application
            (r.body (values_of (argued ps (one_recursive j) S u ts (λ i. false))))
            (argued ps (one_recursive j) S u ts (is_falling_parameter r.body)))
            ∙ sym (ap (λ (f : Finding). list_any is_monotone_fault f.faults)
            (right_use true _ (count_of ts) r.body (argued ps (one_recursive j) S u ts) r.known
            (long_terms true (with_parameters ps (one_recursive j) S) _ 0 ts)))))
      ]

  under_inside_all : (ss : List Sense) (from : ℕ) (names : List Naming) (ps : List Name)
      (j : ℕ) (S : Scope) → AreTied ss from names S → length names ≤ from
      → (u : Bool) (turned g : ℕ → Bool) (i : ℕ) (ts : Terms)
      → ((k : ℕ) → k < i + count_of ts → g k ≡ (u || turned k))
      → first_of_bodies ss names ps ts ≡ None
      → is_under_among ss names ps j u turned i ts
      ≡ list_any is_monotone_fault (faults_in (looks ps (one_recursive j) S g i ts))
  under_inside_all ss from names ps j S tied le u turned g i NoTerm same none = refl
  under_inside_all ss from names ps j S tied le u turned g i (OneMore a ts) same none =
      let split = none_first (first_of_body ss names ps a) (first_of_bodies ss names ps ts) none in
      let here : g i ≡ (u || turned i) = same i (omega arith) in
      ap (λ (b : Bool). is_under_in ss names ps j b a
      || is_under_among ss names ps j u turned (suc i) ts) (sym here)
      ∙ rw (
        under_inside ss from names ps j S tied le (g i) a split.0,
        under_inside_all ss from names ps j S tied le u turned g (suc i) ts
            (λ k lt. same k (omega (arith, lt))) split.1,
      )
      (sym (list_any-append is_monotone_fault (look ps (one_recursive j) S (g i) a).faults
      (faults_in (looks ps (one_recursive j) S g (suc i) ts))))

-- A function whose body has no fault is the same to both.
pub function_same : (ss : List Sense) (from : ℕ) (names : List Naming) (S : Scope)
    (ps : List Name) (body : Term) → AreTied ss from names S → length names ≤ from
    → first_of_body ss names ps body ≡ None
    → IsSense (sense_of_function ss names ps body) (length ps) (in_body S ps body)
function_same ss from names S ps body tied le none = record {
  arity = refl;
  within = formula_within ss names ps body;
  kind = λ vs long.
      ap (λ (k : code_kind.Kind). if has_any (value_kinds vs) then kinds.OfAny else k)
      (kind_inside ss from names ps vs S tied long false body);
  size = λ vs long. size_inside ss from names ps vs S tied long false body;
  clash = λ vs long. clash_inside ss from names ps vs S tied long false body none;
  under = λ i lt. under_inside ss from names ps i S tied le false body none;
}
