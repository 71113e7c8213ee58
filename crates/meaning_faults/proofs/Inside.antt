-- What is found in the body of a function is what the program says of it.
use Rattle.std.proofs.Common.{ℕ, zero, suc, ◌≡◌, ◌<◌, ◌⊎◌, inl, inr, List, [], ◌∷◌, length, reverse, map, get_or, Bool, true, false, ◌||◌, Option, Some, None, refl, ap, sym, ◌∙◌, subst, arith}
use Rattle.std.specs.Prelude.{nat_le}
use Rattle.std.proofs.lemmas.List.{length-map}
use Rattle.text_values.specs.declared.model.Infix.{Infix}
use Rattle.text_values.specs.ModelValue.{Term, Terms, Atom, AllEvents, EmptyRelation, EmptySet, Join, Mark, Not, On, Apply, NoTerm, OneMore}
use Rattle.binding_kinds.specs.declared.fault.ModelFault as program
use Rattle.binding_kinds.specs.declared.kinds.Kind as code_kind
use Rattle.binding_kinds.specs.declared.kinds.Kind.TheVariants as kinds
use Rattle.binding_kinds.specs.declared.scope.Found.{Found}
use Rattle.binding_kinds.specs.declared.scope.Binder.{Binder}
use Rattle.binding_kinds.specs.declared.scope.Binder.TheVariants as binders
use Rattle.binding_kinds.specs.Value.{Naming}
use Rattle.binding_kinds.specs.Kinds as of_program
use Rattle.binding_kinds.specs.Kinds.{found, kind_found}
use Rattle.binding_kinds.specs.Meanings.{parameter_of}
use Rattle.binding_kinds.specs.Formula as formulas
use Rattle.binding_kinds.specs.Formula.{Formula, factor_of}
use Rattle.binding_kinds.specs.Senses.{Sense, sense_of, count_of}
use Rattle.binding_kinds.specs.Functions as functions
use Rattle.binding_kinds.specs.Functions.{sense_seen, kind_of_sense, clash_of_sense, kind_of_body, kinds_of_body, clashes_in, clash_among, under_at, is_at, is_under_in, is_under_among, named_formula, bound_formula, applied_formula, formula_in, formulas_in, sense_of_function}
use Rattle.binding_kinds.specs.First.{apply_fault}
use Rattle.binding_kinds.proofs.Sizes.{args_both}
use Rattle.binding_kinds.proofs.Tables.{parameter_kind, other_kind, parameter_below}
use Rattle.meaning.specs.Names.{Name}
use Rattle.meaning.specs.Faults.{KindOf, ModelFault, Arity, Finding, KnownName, Known, AsValue, AsFunction, Scope, known_as, takes, kind_of_infix, is_falling_right, in_name, is_falling_parameter, in_use, in_wrong_application, in_term, in_terms, with_parameters, is_body_fault}
use Rattle.meaning_faults.specs.Laws.{fault_of}
use Rattle.meaning_faults.proofs.Likeness.{kind_to, kinds_of, sizes_of, value_kinds, value_sizes, marked_same, narrowed_same, takes_same, joined_same}
use Rattle.meaning_faults.proofs.Scopes.{IsSense, IsKnownAs, IsFoundAs, AreTied, found_tied, plain_value, known_inside, known_parameter, use_of}
use Rattle.meaning_faults.proofs.Applying.{long_terms, right_use, application_kind, application_size, size_at, no_arguments, argument_at, filled_size}

-- ---- names with arguments

-- It is no function of so many arguments, to both.
pub record IsWrongInside (q : Option Sense) (a : Option program.ModelFault) (o : Option Known)
    (count : ℕ) : Type 0 where
  pub fault : ModelFault
  pub none : q ≡ None
  pub answer : a ≡ Some (fault_of fault)
  pub of_body : is_body_fault fault ≡ true
  pub wrong : (inside : Bool) (arguments : (ℕ → Bool) → List Finding)
      → length (arguments (λ i. false)) ≡ count
      → in_use inside o arguments ≡ in_wrong_application fault arguments

-- It is a function of so many arguments, to both.
pub record IsRightInside (q : Option Sense) (a : Option program.ModelFault) (o : Option Known)
    (count : ℕ) : Type 0 where
  pub sense : Sense
  pub body : List KnownName → Finding
  pub some : q ≡ Some sense
  pub no_fault : a ≡ None
  pub known : o ≡ Some (AsFunction count body)
  pub same : IsSense sense count body

-- what the program answers of a name with arguments
abbrev pub answer_at : List Sense → List Naming → List Name → ℕ → Name → Option program.ModelFault
answer_at ss names ps count x =
    apply_fault (parameter_of (reverse ps) x) (sense_of ss count (found names x))

pub use_inside : (ss : List Sense) (from : ℕ) (names : List Naming) (ps : List Name)
    (vs : List KnownName) (S : Scope) (count : ℕ) (x : Name) → AreTied ss from names S
    → IsWrongInside (sense_seen ss names ps count x) (answer_at ss names ps count x)
    (known_as (with_parameters ps vs S) x) count
    ⊎ IsRightInside (sense_seen ss names ps count x) (answer_at ss names ps count x)
    (known_as (with_parameters ps vs S) x) count
use_inside ss from names ps vs S count x tied =
    subst
    (λ (k : Option Known). IsWrongInside (sense_seen ss names ps count x)
    (answer_at ss names ps count x) k count
    ⊎ IsRightInside (sense_seen ss names ps count x) (answer_at ss names ps count x) k count)
    (sym (known_parameter ps vs S x)) (at_parameter (parameter_of (reverse ps) x) refl)
  where
    at_parameter : (o : Option ℕ) → parameter_of (reverse ps) x ≡ o
        → IsWrongInside (sense_seen ss names ps count x)
        (apply_fault o (sense_of ss count (found names x))) (known_inside vs o (known_as S x))
        count
        ⊎ IsRightInside (sense_seen ss names ps count x)
        (apply_fault o (sense_of ss count (found names x))) (known_inside vs o (known_as S x))
        count
    at_parameter (Some i) is =
        inl record {
          fault = Arity;
          none = rw is refl;
          answer = refl;
          of_body = refl;
          wrong = λ inside arguments long. refl;
        }
    at_parameter None is =
        elim (use_of ss from count (found names x) (known_as S x)
        (found_tied ss from names S x tied)) [
          | inl w ↦ inl record {
            fault = w.fault;
            none = rw (is, w.answer) refl;
            answer = rw w.answer refl;
            of_body = w.of_body;
            wrong = w.wrong;
          }
          | inr r ↦ inr record {
            sense = r.sense;
            body = r.body;
            some = rw (is, r.answer) refl;
            no_fault = rw r.answer refl;
            known = r.known;
            same = r.same;
          }
        ]

-- what is found in a term of the body, and in arguments there
abbrev pub look : List Name → List KnownName → Scope → Bool → Term → Finding
look ps vs S u t = in_term true (with_parameters ps vs S) u t

abbrev pub looks : List Name → List KnownName → Scope → (ℕ → Bool) → ℕ → Terms → List Finding
looks ps vs S g i ts = in_terms true (with_parameters ps vs S) g i ts

-- what is found in the arguments of an application
abbrev pub argued : List Name → List KnownName → Scope → Bool → Terms → (ℕ → Bool) → List Finding
argued ps vs S u ts = λ g. in_terms true (with_parameters ps vs S) (λ i. u || g i) 0 ts

-- ---- kinds

pub name_kind : (ss : List Sense) (from : ℕ) (u : Bool) (o : Option Found) (k : Option Known)
    → IsFoundAs ss from o k → kind_found o ≡ kind_to (in_name u k).kind
name_kind ss from u None None h = refl
name_kind ss from u None (Some k) h = absurd h
name_kind ss from u (Some f) None h = absurd h
name_kind ss from u (Some f) (Some k) h = at_binder f.binder k h
  where
    at_binder : (b : Binder) (known : Known) → IsKnownAs ss f.kind (nat_le from f.slot) b known
        → f.kind ≡ kind_to (in_name u (Some known)).kind
    at_binder (binders.Predefined p) (AsValue v) h = h.kind
    at_binder (binders.Predefined p) (AsFunction n body) h = absurd h
    at_binder (binders.Bound i) (AsValue v) h = h.kind
    at_binder (binders.Bound i) (AsFunction n body) h = absurd h
    at_binder (binders.Applicable g) (AsValue v) h = absurd h
    at_binder (binders.Applicable g) (AsFunction n body) h = h.kind

kind_at : (vs : List KnownName) (i : ℕ)
    → get_or (value_kinds vs) i kinds.OfAny ≡ kind_to (get_or vs i plain_value).kind
kind_at [] i = refl
kind_at (v ∷ vs) zero = refl
kind_at (v ∷ vs) (suc i) = kind_at vs i

atom_kind : (ss : List Sense) (from : ℕ) (names : List Naming) (ps : List Name)
    (vs : List KnownName) (S : Scope) (u : Bool) (x : Name) → AreTied ss from names S
    → length vs ≡ length ps
    → kind_found (found (functions.with_parameters ps (value_kinds vs) names) x)
    ≡ kind_to (in_name u (known_as (with_parameters ps vs S) x)).kind
atom_kind ss from names ps vs S u x tied long =
    at_parameter (parameter_of (reverse ps) x) refl
    ∙ sym (ap (λ (k : Option Known). kind_to (in_name u k).kind) (known_parameter ps vs S x))
  where
    at_parameter : (o : Option ℕ) → parameter_of (reverse ps) x ≡ o
        → kind_found (found (functions.with_parameters ps (value_kinds vs) names) x)
        ≡ kind_to (in_name u (known_inside vs o (known_as S x))).kind
    at_parameter (Some i) is =
        sym (parameter_kind ps (value_kinds vs) names x i (length-map vs _ ∙ long) (sym is))
        ∙ kind_at vs i
    at_parameter None is =
        sym (other_kind ps (value_kinds vs) names x (length-map vs _ ∙ long) (sym is))
        ∙ name_kind ss from u (found names x) (known_as S x) (found_tied ss from names S x tied)

pub joined_parts : (op : Infix) (k l : code_kind.Kind) (m n : KindOf) → k ≡ kind_to m
    → l ≡ kind_to n → of_program.joined_kind op k l ≡ kind_to (kind_of_infix op m n)
joined_parts op k l m n d e =
    ap (λ (j : code_kind.Kind). of_program.joined_kind op j l) d
    ∙ (ap (λ (j : code_kind.Kind). of_program.joined_kind op (kind_to m) j) e ∙ joined_same op m n)

pub taken_parts : (op : Infix) (k l : code_kind.Kind) (m n : KindOf) → k ≡ kind_to m
    → l ≡ kind_to n → of_program.takes op k l ≡ takes op m n
taken_parts op k l m n d e =
    ap (λ (j : code_kind.Kind). of_program.takes op j l) d
    ∙ (ap (λ (j : code_kind.Kind). of_program.takes op (kind_to m) j) e ∙ takes_same op m n)

pub more_kinds : (k l : code_kind.Kind) (ks ls : List code_kind.Kind) → k ≡ l → ks ≡ ls
    → (k ∷ ks) ≡ (l ∷ ls)
more_kinds k l ks ls d e = cc

mutual
  pub kind_inside : (ss : List Sense) (from : ℕ) (names : List Naming) (ps : List Name)
      (vs : List KnownName) (S : Scope) → AreTied ss from names S → length vs ≡ length ps
      → (u : Bool) (t : Term)
      → kind_of_body ss names ps (value_kinds vs) t ≡ kind_to (look ps vs S u t).kind
  kind_inside ss from names ps vs S tied long u (Atom x) =
      atom_kind ss from names ps vs S u x tied long
  kind_inside ss from names ps vs S tied long u AllEvents = refl
  kind_inside ss from names ps vs S tied long u EmptyRelation = refl
  kind_inside ss from names ps vs S tied long u EmptySet = refl
  kind_inside ss from names ps vs S tied long u (Join op a b) =
      joined_parts op _ _ (look ps vs S u a).kind (look ps vs S (is_falling_right op u) b).kind
      (kind_inside ss from names ps vs S tied long u a)
      (kind_inside ss from names ps vs S tied long (is_falling_right op u) b)
  kind_inside ss from names ps vs S tied long u (Mark op a) =
      ap of_program.marked (kind_inside ss from names ps vs S tied long u a)
      ∙ marked_same (look ps vs S u a).kind
  kind_inside ss from names ps vs S tied long u (Not a) =
      kind_inside ss from names ps vs S tied long true a
  kind_inside ss from names ps vs S tied long u (On a) =
      ap of_program.narrowed (kind_inside ss from names ps vs S tied long u a)
      ∙ narrowed_same (look ps vs S u a).kind
  kind_inside ss from names ps vs S tied long u (Apply x ts) =
      elim (use_inside ss from names ps vs S (count_of ts) x tied) [
        | inl w ↦
            ap (λ (q : Option Sense). kind_of_sense q (kinds_of_body ss names ps (value_kinds vs)
            ts)) w.none
            ∙ sym (ap (λ (f : Finding). kind_to f.kind) (w.wrong true (argued ps vs S u ts)
            (long_terms true (with_parameters ps vs S) _ 0 ts)))
        | inr r ↦
            ap (λ (q : Option Sense). kind_of_sense q (kinds_of_body ss names ps (value_kinds vs)
            ts)) r.some
            ∙ (application_kind r.sense true (count_of ts) r.body
            (kinds_of_body ss names ps (value_kinds vs) ts)
            (argued ps vs S u ts (λ i. false))
            (argued ps vs S u ts (is_falling_parameter r.body)) r.same
            (long_terms true (with_parameters ps vs S) _ 0 ts)
            (kinds_inside ss from names ps vs S tied long (λ i. u || false) 0 ts)
            (kinds_inside ss from names ps vs S tied long
            (λ i. u || is_falling_parameter r.body i) 0 ts) refl
            ∙ sym (ap (λ (f : Finding). kind_to f.kind)
            (right_use true _ (count_of ts) r.body (argued ps vs S u ts) r.known
            (long_terms true (with_parameters ps vs S) _ 0 ts))))
      ]

  pub kinds_inside : (ss : List Sense) (from : ℕ) (names : List Naming) (ps : List Name)
      (vs : List KnownName) (S : Scope) → AreTied ss from names S → length vs ≡ length ps
      → (g : ℕ → Bool) (i : ℕ) (ts : Terms)
      → kinds_of_body ss names ps (value_kinds vs) ts ≡ kinds_of (looks ps vs S g i ts)
  kinds_inside ss from names ps vs S tied long g i NoTerm = refl
  kinds_inside ss from names ps vs S tied long g i (OneMore a ts) =
      more_kinds _ _ _ _ (kind_inside ss from names ps vs S tied long (g i) a)
      (kinds_inside ss from names ps vs S tied long g (suc i) ts)

-- ---- sizes

pub name_size : (ss : List Sense) (from : ℕ) (u : Bool) (ns : List ℕ) (o : Option Found)
    (k : Option Known) → IsFoundAs ss from o k
    → size_at ns (named_formula None o) ≡ (in_name u k).size
name_size ss from u ns None None h = let e = no_arguments 0 ns in omega (arith, e)
name_size ss from u ns None (Some k) h = absurd h
name_size ss from u ns (Some f) None h = absurd h
name_size ss from u ns (Some f) (Some k) h = at_binder f.binder k h
  where
    at_binder : (b : Binder) (known : Known) → IsKnownAs ss f.kind (nat_le from f.slot) b known
        → size_at ns (bound_formula f b) ≡ (in_name u (Some known)).size
    at_binder (binders.Predefined p) (AsValue v) h =
        let e = no_arguments 0 ns in omega (arith, e, h.size)
    at_binder (binders.Predefined p) (AsFunction n body) h = absurd h
    at_binder (binders.Bound i) (AsValue v) h =
        let e = no_arguments 0 ns in omega (arith, e, h.size)
    at_binder (binders.Bound i) (AsFunction n body) h = absurd h
    at_binder (binders.Applicable g) (AsValue v) h = absurd h
    at_binder (binders.Applicable g) (AsFunction n body) h =
        let e = no_arguments 0 ns in omega (arith, e)

size_of_value : (vs : List KnownName) (i : ℕ) → i < length vs
    → get_or (value_sizes vs) i 0 ≡ (get_or vs i plain_value).size
size_of_value [] i lt = absurd (omega (arith, lt))
size_of_value (v ∷ vs) zero lt = refl
size_of_value (v ∷ vs) (suc i) lt = size_of_value vs i (omega (arith, lt))

atom_size : (ss : List Sense) (from : ℕ) (names : List Naming) (ps : List Name)
    (vs : List KnownName) (S : Scope) (u : Bool) (x : Name) → AreTied ss from names S
    → length vs ≡ length ps
    → size_at (value_sizes vs) (named_formula (parameter_of (reverse ps) x) (found names x))
    ≡ (in_name u (known_as (with_parameters ps vs S) x)).size
atom_size ss from names ps vs S u x tied long =
    at_parameter (parameter_of (reverse ps) x) refl
    ∙ sym (ap (λ (k : Option Known). (in_name u k).size) (known_parameter ps vs S x))
  where
    at_parameter : (o : Option ℕ) → parameter_of (reverse ps) x ≡ o
        → size_at (value_sizes vs) (named_formula o (found names x))
        ≡ (in_name u (known_inside vs o (known_as S x))).size
    at_parameter (Some i) is =
        let lt = parameter_below ps x i (sym is) in
        let below : i < length vs = omega (arith, lt, long) in
        let many = length-map vs (λ (v : KnownName). v.size) in
        let e = argument_at i i 0 (value_sizes vs) (omega arith) (omega (arith, below, many)) in
        let d = size_of_value vs i below in omega (arith, d, e)
    at_parameter None is =
        name_size ss from u (value_sizes vs) (found names x) (known_as S x)
        (found_tied ss from names S x tied)

long_formulas : (ss : List Sense) (names : List Naming) (ps : List Name) (ts : Terms)
    → length (formulas_in ss names ps ts) ≡ count_of ts
long_formulas ss names ps NoTerm = refl
long_formulas ss names ps (OneMore a ts) = ap suc (long_formulas ss names ps ts)

pub more_sizes : (k l : ℕ) (ks ls : List ℕ) → k ≡ l → ks ≡ ls → (k ∷ ks) ≡ (l ∷ ls)
more_sizes k l ks ls d e = cc

mutual
  pub size_inside : (ss : List Sense) (from : ℕ) (names : List Naming) (ps : List Name)
      (vs : List KnownName) (S : Scope) → AreTied ss from names S → length vs ≡ length ps
      → (u : Bool) (t : Term)
      → size_at (value_sizes vs) (formula_in ss names ps t) ≡ (look ps vs S u t).size
  size_inside ss from names ps vs S tied long u (Atom x) =
      atom_size ss from names ps vs S u x tied long
  size_inside ss from names ps vs S tied long u AllEvents =
      let e = no_arguments 0 (value_sizes vs) in omega (arith, e)
  size_inside ss from names ps vs S tied long u EmptyRelation =
      let e = no_arguments 0 (value_sizes vs) in omega (arith, e)
  size_inside ss from names ps vs S tied long u EmptySet =
      let e = no_arguments 0 (value_sizes vs) in omega (arith, e)
  size_inside ss from names ps vs S tied long u (Join op a b) =
      let l = size_inside ss from names ps vs S tied long u a in
      let r = size_inside ss from names ps vs S tied long (is_falling_right op u) b in
      let e =
      args_both (factor_of (formula_in ss names ps a)) (factor_of (formula_in ss names ps b)) 0
      (value_sizes vs) in
      omega (arith, l, r, e)
  size_inside ss from names ps vs S tied long u (Mark op a) =
      let l = size_inside ss from names ps vs S tied long u a in omega (arith, l)
  size_inside ss from names ps vs S tied long u (Not a) =
      let l = size_inside ss from names ps vs S tied long true a in omega (arith, l)
  size_inside ss from names ps vs S tied long u (On a) =
      let l = size_inside ss from names ps vs S tied long u a in omega (arith, l)
  size_inside ss from names ps vs S tied long u (Apply x ts) =
      elim (use_inside ss from names ps vs S (count_of ts) x tied) [
        | inl w ↦
            ap (λ (q : Option Sense). size_at (value_sizes vs)
            (applied_formula q (formulas_in ss names ps ts))) w.none
            ∙ (one (value_sizes vs)
            ∙ sym (ap (λ (f : Finding). f.size) (w.wrong true (argued ps vs S u ts)
            (long_terms true (with_parameters ps vs S) _ 0 ts))))
        | inr r ↦
            ap (λ (q : Option Sense). size_at (value_sizes vs)
            (applied_formula q (formulas_in ss names ps ts))) r.some
            ∙ (filled_size (value_sizes vs) (formulas_in ss names ps ts) r.sense.formula
            (rw (long_formulas ss names ps ts) r.same.within)
            ∙ (application_size r.sense (count_of ts) r.body
            (map (size_at (value_sizes vs)) (formulas_in ss names ps ts))
            (argued ps vs S u ts (λ i. false)) r.same
            (long_terms true (with_parameters ps vs S) _ 0 ts)
            (sizes_inside ss from names ps vs S tied long (λ i. u || false) 0 ts)
            ∙ sym (ap (λ (f : Finding). f.size)
            (right_use true _ (count_of ts) r.body (argued ps vs S u ts) r.known
            (long_terms true (with_parameters ps vs S) _ 0 ts)))))
      ]
    where
      one : (ns : List ℕ) → size_at ns formulas.NoPairs ≡ 1
      one ns = let e = no_arguments 0 ns in omega (arith, e)

  pub sizes_inside : (ss : List Sense) (from : ℕ) (names : List Naming) (ps : List Name)
      (vs : List KnownName) (S : Scope) → AreTied ss from names S → length vs ≡ length ps
      → (g : ℕ → Bool) (i : ℕ) (ts : Terms)
      → map (size_at (value_sizes vs)) (formulas_in ss names ps ts)
      ≡ sizes_of (looks ps vs S g i ts)
  sizes_inside ss from names ps vs S tied long g i NoTerm = refl
  sizes_inside ss from names ps vs S tied long g i (OneMore a ts) =
      more_sizes _ _ _ _ (size_inside ss from names ps vs S tied long (g i) a)
      (sizes_inside ss from names ps vs S tied long g (suc i) ts)
