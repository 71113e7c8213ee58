-- The faults that are found in the body of a function are those that the program finds there.
use Rattle.std.proofs.Common.{ℕ, suc, ◌≡◌, inl, inr, List, [], ◌∷◌, ◌++◌, length, reverse, get_or, Bool, true, false, ◌&&◌, ◌||◌, Option, Some, None, refl, ap, sym, ◌∙◌}
use Rattle.std.specs.Prelude.{nat_le, not, filter}
use Rattle.std.specs.List.{list_any}
use Rattle.std.proofs.lemmas.List.Elements.{filter-append}
use Rattle.std.proofs.lemmas.List.Folds.{list_any-append}
use Rattle.text_values.specs.ModelValue.{Term, Terms, Atom, AllEvents, EmptyRelation, EmptySet, Join, Mark, Not, On, Apply, NoTerm, OneMore}
use Rattle.binding_kinds.specs.declared.fault.ModelFault as program
use Rattle.binding_kinds.specs.declared.scope.Found.{Found}
use Rattle.binding_kinds.specs.declared.scope.Binder.{Binder}
use Rattle.binding_kinds.specs.declared.scope.Binder.TheVariants as binders
use Rattle.binding_kinds.specs.Value.{Naming}
use Rattle.binding_kinds.specs.Kinds as of_program
use Rattle.binding_kinds.specs.Kinds.{found, kind_found}
use Rattle.binding_kinds.specs.Meanings.{parameter_of}
use Rattle.binding_kinds.specs.Verdict.{or_else, of_name, of_use}
use Rattle.binding_kinds.specs.Senses.{Sense, count_of}
use Rattle.binding_kinds.specs.Functions.{clash_of_sense, kind_of_body, kinds_of_body, clashes_in, clash_among}
use Rattle.binding_kinds.specs.First.{fault_inside, first_of_body, first_of_bodies}
use Rattle.meaning.specs.Names.{Name}
use Rattle.meaning.specs.Faults.{ModelFault, Kind, NotMonotone, Finding, KnownName, Known, AsValue, AsFunction, Scope, known_as, takes, is_set, is_relation, is_falling_right, fault_if, is_kind_fault, in_name, is_falling_parameter, faults_in, with_parameters, is_body_fault}
use Rattle.meaning_faults.specs.Laws.{fault_of, head_of}
use Rattle.meaning_faults.proofs.Likeness.{value_kinds, values_of, set_same, relation_same, head_append, or_parts}
use Rattle.meaning_faults.proofs.Scopes.{IsKnownAs, IsFoundAs, AreTied, found_tied, plain_value, known_inside, known_parameter}
use Rattle.meaning_faults.proofs.Applying.{long_terms, right_use, application_clash, kind_if, clash_inside_application}
use Rattle.meaning_faults.proofs.Inside.{answer_at, use_inside, look, looks, argued, taken_parts, kind_inside, kinds_inside}

pub none_first : (o q : Option program.ModelFault) → or_else o q ≡ None → (o ≡ None) × (q ≡ None)
none_first None q e = (refl, e)
none_first (Some k) q e = absurd (let f : Some k ≡ None = e in cc)

-- ---- the faults that are found where the function stands

body_if : (b : Bool) → filter is_body_fault (fault_if b Kind) ≡ []
body_if true = refl
body_if false = refl

recursive_if : (b : Bool) → filter is_body_fault (fault_if b NotMonotone) ≡ []
recursive_if true = refl
recursive_if false = refl

-- the head of faults of a body
abbrev body_head : List ModelFault → Option program.ModelFault
body_head ks = head_of (filter is_body_fault ks)

body_parts : (ks ls : List ModelFault) (o q : Option program.ModelFault) → body_head ks ≡ o
    → body_head ls ≡ q → body_head (ks ++ ls) ≡ or_else o q
body_parts ks ls o q d e =
    ap head_of (filter-append is_body_fault ks ls)
    ∙ (head_append (filter is_body_fault ks) (filter is_body_fault ls)
    ∙ or_parts _ _ o q d e)

body_skips : (b : Bool) (ks : List ModelFault) (o : Option program.ModelFault)
    → body_head ks ≡ o → body_head (fault_if b Kind ++ ks) ≡ o
body_skips true ks o e = e
body_skips false ks o e = e

body_ends : (b : Bool) (ks : List ModelFault) (o : Option program.ModelFault)
    → body_head ks ≡ o → body_head (ks ++ fault_if b Kind) ≡ o
body_ends b ks o e =
    body_parts ks (fault_if b Kind) o None e (ap head_of (body_if b)) ∙ or_none o
  where
    or_none : (o : Option program.ModelFault) → or_else o None ≡ o
    or_none None = refl
    or_none (Some k) = refl

name_fault : (ss : List Sense) (from : ℕ) (u : Bool) (o : Option Found) (k : Option Known)
    → IsFoundAs ss from o k → body_head (in_name u k).faults ≡ of_name 0 false o
name_fault ss from u None None h = refl
name_fault ss from u None (Some k) h = absurd h
name_fault ss from u (Some f) None h = absurd h
name_fault ss from u (Some f) (Some k) h = at_binder f.binder k h
  where
    at_binder : (b : Binder) (known : Known) → IsKnownAs ss f.kind (nat_le from f.slot) b known
        → body_head (in_name u (Some known)).faults ≡ of_use b 0 false f.slot
    at_binder (binders.Predefined p) (AsValue v) h = ap head_of (recursive_if (v.recursive && u))
    at_binder (binders.Predefined p) (AsFunction n body) h = absurd h
    at_binder (binders.Bound i) (AsValue v) h = ap head_of (recursive_if (v.recursive && u))
    at_binder (binders.Bound i) (AsFunction n body) h = absurd h
    at_binder (binders.Applicable g) (AsValue v) h = absurd h
    at_binder (binders.Applicable g) (AsFunction n body) h = refl

atom_fault : (ss : List Sense) (from : ℕ) (names : List Naming) (ps : List Name)
    (vs : List KnownName) (S : Scope) (u : Bool) (x : Name) → AreTied ss from names S
    → body_head (in_name u (known_as (with_parameters ps vs S) x)).faults
    ≡ fault_inside (parameter_of (reverse ps) x) (found names x)
atom_fault ss from names ps vs S u x tied =
    ap (λ (k : Option Known). body_head (in_name u k).faults) (known_parameter ps vs S x)
    ∙ at_parameter (parameter_of (reverse ps) x)
  where
    at_parameter : (o : Option ℕ)
        → body_head (in_name u (known_inside vs o (known_as S x))).faults
        ≡ fault_inside o (found names x)
    at_parameter (Some i) =
        ap head_of (recursive_if ((get_or vs i plain_value).recursive && u))
    at_parameter None =
        name_fault ss from u (found names x) (known_as S x) (found_tied ss from names S x tied)

first_kept : (k : ModelFault) (ks : List ModelFault) → is_body_fault k ≡ true
    → body_head (k ∷ ks) ≡ Some (fault_of k)
first_kept k ks e = rw e refl

or_some : (k : program.ModelFault) (o q r : Option program.ModelFault) → o ≡ Some k
    → or_else o q ≡ Some k
or_some k o q r e = rw e refl

mutual
  pub fault_inside_body : (ss : List Sense) (from : ℕ) (names : List Naming) (ps : List Name)
      (vs : List KnownName) (S : Scope) → AreTied ss from names S → (u : Bool) (t : Term)
      → body_head (look ps vs S u t).faults ≡ first_of_body ss names ps t
  fault_inside_body ss from names ps vs S tied u (Atom x) =
      atom_fault ss from names ps vs S u x tied
  fault_inside_body ss from names ps vs S tied u AllEvents = refl
  fault_inside_body ss from names ps vs S tied u EmptyRelation = refl
  fault_inside_body ss from names ps vs S tied u EmptySet = refl
  fault_inside_body ss from names ps vs S tied u (Join op a b) =
      body_parts (look ps vs S u a).faults _ _ _
      (fault_inside_body ss from names ps vs S tied u a)
      (body_skips (not (takes op (look ps vs S u a).kind
      (look ps vs S (is_falling_right op u) b).kind))
      (look ps vs S (is_falling_right op u) b).faults _
      (fault_inside_body ss from names ps vs S tied (is_falling_right op u) b))
  fault_inside_body ss from names ps vs S tied u (Mark op a) =
      body_ends (not (is_relation (look ps vs S u a).kind)) (look ps vs S u a).faults _
      (fault_inside_body ss from names ps vs S tied u a)
  fault_inside_body ss from names ps vs S tied u (Not a) =
      fault_inside_body ss from names ps vs S tied true a
  fault_inside_body ss from names ps vs S tied u (On a) =
      body_skips (not (is_set (look ps vs S u a).kind)) (look ps vs S u a).faults _
      (fault_inside_body ss from names ps vs S tied u a)
  fault_inside_body ss from names ps vs S tied u (Apply x ts) =
      elim (use_inside ss from names ps vs S (count_of ts) x tied) [
        | inl w ↦
            ap (λ (f : Finding). body_head f.faults) (w.wrong true (argued ps vs S u ts)
            (long_terms true (with_parameters ps vs S) _ 0 ts))
            ∙ (first_kept w.fault (faults_in (argued ps vs S u ts (λ i. false))) w.of_body
            ∙ sym (or_some (fault_of w.fault) (answer_at ss names ps (count_of ts) x)
            (first_of_bodies ss names ps ts) None w.answer))
        | inr r ↦
            ap (λ (f : Finding). body_head f.faults)
            (right_use true _ (count_of ts) r.body (argued ps vs S u ts) r.known
            (long_terms true (with_parameters ps vs S) _ 0 ts))
            ∙ (body_skips
            (list_any is_kind_fault (r.body (values_of (argued ps vs S u ts (λ i. false)))).faults)
            (faults_in (argued ps vs S u ts (is_falling_parameter r.body))) _
            (faults_inside_bodies ss from names ps vs S tied
            (λ i. u || is_falling_parameter r.body i) 0 ts)
            ∙ sym (ap (λ (o : Option program.ModelFault). or_else o
            (first_of_bodies ss names ps ts)) r.no_fault))
      ]

  faults_inside_bodies : (ss : List Sense) (from : ℕ) (names : List Naming) (ps : List Name)
      (vs : List KnownName) (S : Scope) → AreTied ss from names S → (g : ℕ → Bool) (i : ℕ)
      (ts : Terms)
      → body_head (faults_in (looks ps vs S g i ts)) ≡ first_of_bodies ss names ps ts
  faults_inside_bodies ss from names ps vs S tied g i NoTerm = refl
  faults_inside_bodies ss from names ps vs S tied g i (OneMore a ts) =
      body_parts (look ps vs S (g i) a).faults (faults_in (looks ps vs S g (suc i) ts)) _ _
      (fault_inside_body ss from names ps vs S tied (g i) a)
      (faults_inside_bodies ss from names ps vs S tied g (suc i) ts)

-- ---- operators of the body that do not take their operands

name_clash : (u : Bool) (k : Option Known) → list_any is_kind_fault (in_name u k).faults ≡ false
name_clash u None = refl
name_clash u (Some (AsValue v)) = at_test (v.recursive && u)
  where
    at_test : (b : Bool) → list_any is_kind_fault (fault_if b NotMonotone) ≡ false
    at_test true = refl
    at_test false = refl
name_clash u (Some (AsFunction n body)) = refl

clash_parts : (x y z : Bool) (ks ls : List ModelFault) → x ≡ list_any is_kind_fault ks
    → y ≡ list_any is_kind_fault ls
    → (x || y || z) ≡ list_any is_kind_fault (ks ++ (fault_if z Kind ++ ls))
clash_parts x y z ks ls d e =
    turn x y z
    ∙ (rw (d, e) refl
    ∙ sym (list_any-append is_kind_fault ks (fault_if z Kind ++ ls)
    ∙ ap (λ (b : Bool). list_any is_kind_fault ks || b)
    (list_any-append is_kind_fault (fault_if z Kind) ls
    ∙ ap (λ (b : Bool). b || list_any is_kind_fault ls) (kind_if z))))
  where
    turn : (x y z : Bool) → (x || y || z) ≡ (x || (z || y))
    turn true y z = refl
    turn false true true = refl
    turn false true false = refl
    turn false false true = refl
    turn false false false = refl

clash_ends : (x z : Bool) (ks : List ModelFault) → x ≡ list_any is_kind_fault ks
    → (x || z) ≡ list_any is_kind_fault (ks ++ fault_if z Kind)
clash_ends x z ks d =
    ap (λ (b : Bool). b || z) d
    ∙ sym (list_any-append is_kind_fault ks (fault_if z Kind)
    ∙ ap (λ (b : Bool). list_any is_kind_fault ks || b) (kind_if z))

clash_begins : (x z : Bool) (ks : List ModelFault) → x ≡ list_any is_kind_fault ks
    → (x || z) ≡ list_any is_kind_fault (fault_if z Kind ++ ks)
clash_begins x true ks d = at_test x
  where
    at_test : (b : Bool) → (b || true) ≡ true
    at_test true = refl
    at_test false = refl
clash_begins x false ks d = at_test x ∙ d
  where
    at_test : (b : Bool) → (b || false) ≡ b
    at_test true = refl
    at_test false = refl

pub not_same : (b c : Bool) → b ≡ c → not b ≡ not c
not_same b c e = ap not e

-- either holds
either_same : (x y v w : Bool) → x ≡ v → y ≡ w → (x || y) ≡ (w || v)
either_same x y v w d e = rw (d, e) (turn v w)
  where
    turn : (v w : Bool) → (v || w) ≡ (w || v)
    turn true true = refl
    turn true false = refl
    turn false true = refl
    turn false false = refl

mutual
  pub clash_inside : (ss : List Sense) (from : ℕ) (names : List Naming) (ps : List Name)
      (vs : List KnownName) (S : Scope) → AreTied ss from names S → length vs ≡ length ps
      → (u : Bool) (t : Term) → first_of_body ss names ps t ≡ None
      → clashes_in ss names ps (value_kinds vs) t
      ≡ list_any is_kind_fault (look ps vs S u t).faults
  clash_inside ss from names ps vs S tied long u (Atom x) none =
      sym (name_clash u (known_as (with_parameters ps vs S) x))
  clash_inside ss from names ps vs S tied long u AllEvents none = refl
  clash_inside ss from names ps vs S tied long u EmptyRelation none = refl
  clash_inside ss from names ps vs S tied long u EmptySet none = refl
  clash_inside ss from names ps vs S tied long u (Join op a b) none =
      let split = none_first (first_of_body ss names ps a) (first_of_body ss names ps b) none in
      let right : Bool = is_falling_right op u in
      let same =
      not_same _ _ (taken_parts op (kind_of_body ss names ps (value_kinds vs) a)
      (kind_of_body ss names ps (value_kinds vs) b) (look ps vs S u a).kind
      (look ps vs S (is_falling_right op u) b).kind
      (kind_inside ss from names ps vs S tied long u a)
      (kind_inside ss from names ps vs S tied long (is_falling_right op u) b)) in
      ap (λ (z : Bool). clashes_in ss names ps (value_kinds vs) a
      || clashes_in ss names ps (value_kinds vs) b
      || z) same
      ∙ clash_parts (clashes_in ss names ps (value_kinds vs) a)
      (clashes_in ss names ps (value_kinds vs) b)
      (not (takes op (look ps vs S u a).kind (look ps vs S (is_falling_right op u) b).kind))
      (look ps vs S u a).faults (look ps vs S (is_falling_right op u) b).faults
      (clash_inside ss from names ps vs S tied long u a split.0)
      (clash_inside ss from names ps vs S tied long (is_falling_right op u) b split.1)
  clash_inside ss from names ps vs S tied long u (Mark op a) none =
      ap (λ (z : Bool). clashes_in ss names ps (value_kinds vs) a || not z)
      (ap of_program.is_relation (kind_inside ss from names ps vs S tied long u a)
      ∙ relation_same (look ps vs S u a).kind)
      ∙ clash_ends (clashes_in ss names ps (value_kinds vs) a)
      (not (is_relation (look ps vs S u a).kind)) (look ps vs S u a).faults
      (clash_inside ss from names ps vs S tied long u a none)
  clash_inside ss from names ps vs S tied long u (Not a) none =
      clash_inside ss from names ps vs S tied long true a none
  clash_inside ss from names ps vs S tied long u (On a) none =
      ap (λ (z : Bool). clashes_in ss names ps (value_kinds vs) a || not z)
      (ap of_program.is_set_kind (kind_inside ss from names ps vs S tied long u a)
      ∙ set_same (look ps vs S u a).kind)
      ∙ clash_begins (clashes_in ss names ps (value_kinds vs) a)
      (not (is_set (look ps vs S u a).kind)) (look ps vs S u a).faults
      (clash_inside ss from names ps vs S tied long u a none)
  clash_inside ss from names ps vs S tied long u (Apply x ts) none =
      let split =
      none_first (answer_at ss names ps (count_of ts) x) (first_of_bodies ss names ps ts) none in
      elim (use_inside ss from names ps vs S (count_of ts) x tied) [
        | inl w ↦ absurd (let f : Some (fault_of w.fault) ≡ None = sym w.answer ∙ split.0 in cc)
        | inr r ↦
            ap (λ (q : Option Sense). clash_of_sense q
            (clash_among ss names ps (value_kinds vs) ts)
            (kinds_of_body ss names ps (value_kinds vs) ts)) r.some
            ∙ (either_same (clash_among ss names ps (value_kinds vs) ts)
            (r.sense.clashes (kinds_of_body ss names ps (value_kinds vs) ts))
            (list_any is_kind_fault
            (faults_in (argued ps vs S u ts (is_falling_parameter r.body))))
            (list_any is_kind_fault
            (r.body (values_of (argued ps vs S u ts (λ i. false)))).faults)
            (clash_inside_all ss from names ps vs S tied long
            (λ i. u || is_falling_parameter r.body i) 0 ts split.1)
            (application_clash r.sense (count_of ts) r.body
            (kinds_of_body ss names ps (value_kinds vs) ts)
            (argued ps vs S u ts (λ i. false)) r.same
            (long_terms true (with_parameters ps vs S) _ 0 ts)
            (kinds_inside ss from names ps vs S tied long (λ i. u || false) 0 ts))
            ∙ (sym (clash_inside_application
            (r.body (values_of (argued ps vs S u ts (λ i. false))))
            (argued ps vs S u ts (is_falling_parameter r.body)))
            ∙ sym (ap (λ (f : Finding). list_any is_kind_fault f.faults)
            (right_use true _ (count_of ts) r.body (argued ps vs S u ts) r.known
            (long_terms true (with_parameters ps vs S) _ 0 ts)))))
      ]

  clash_inside_all : (ss : List Sense) (from : ℕ) (names : List Naming) (ps : List Name)
      (vs : List KnownName) (S : Scope) → AreTied ss from names S → length vs ≡ length ps
      → (g : ℕ → Bool) (i : ℕ) (ts : Terms) → first_of_bodies ss names ps ts ≡ None
      → clash_among ss names ps (value_kinds vs) ts
      ≡ list_any is_kind_fault (faults_in (looks ps vs S g i ts))
  clash_inside_all ss from names ps vs S tied long g i NoTerm none = refl
  clash_inside_all ss from names ps vs S tied long g i (OneMore a ts) none =
      let split = none_first (first_of_body ss names ps a) (first_of_bodies ss names ps ts) none in
      rw (
        clash_inside ss from names ps vs S tied long (g i) a split.0,
        clash_inside_all ss from names ps vs S tied long g (suc i) ts split.1,
      )
      (sym (list_any-append is_kind_fault (look ps vs S (g i) a).faults
      (faults_in (looks ps vs S g (suc i) ts))))
