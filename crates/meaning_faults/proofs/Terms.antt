-- One expression: its size, its kind and its first fault are the same to both.
use Rattle.std.proofs.Common.{ℕ, suc, ◌≡◌, ◌<◌, ◌+◌, ◌⊎◌, inl, inr, List, ◌++◌, length, Bool, true, false, ◌&&◌, ◌||◌, Option, Some, None, Result, refl, ap, sym, ◌∙◌, arith}
use Rattle.std.specs.Prelude.{nat_le, nat_lt, not, if◌then◌else◌}
use Rattle.std.specs.List.{list_any}
use Rattle.text_values.specs.ModelValue.{Term, Terms, Atom, AllEvents, EmptyRelation, EmptySet, Join, Mark, Not, On, Apply, NoTerm, OneMore}
use Rattle.binding_kinds.specs.declared.fault.ModelFault as program
use Rattle.binding_kinds.specs.declared.fault.ModelFault.TheVariants as program_faults
use Rattle.binding_kinds.specs.declared.kinds.Kind as code_kind
use Rattle.binding_kinds.specs.declared.kinds.Kind.TheVariants as kinds
use Rattle.binding_kinds.specs.declared.scope.Found.{Found}
use Rattle.binding_kinds.specs.declared.scope.Binder.{Binder}
use Rattle.binding_kinds.specs.declared.scope.Binder.TheVariants as binders
use Rattle.binding_kinds.specs.Value.{Naming}
use Rattle.binding_kinds.specs.Kinds as of_program
use Rattle.binding_kinds.specs.Kinds.{found, kind_found}
use Rattle.binding_kinds.specs.Verdict.{or_else, unless, of_name, of_use}
use Rattle.binding_kinds.specs.Senses.{Sense, sense_of, count_of, size_with, size_applied, size_in, sizes_in, kind_applied, kind_in, kinds_in, under_of, fault_applied, term_fault, first_among}
use Rattle.meaning.specs.Faults.{OfAny, ModelFault, Kind, NotMonotone, TooLarge, Finding, KnownName, Known, AsValue, AsFunction, Scope, known_as, takes, is_set, is_relation, is_falling_right, fault_if, is_kind_fault, in_name, is_falling_parameter, faults_in, in_application, in_term, in_terms}
use Rattle.meaning_faults.specs.Laws.{head_of}
use Rattle.meaning_faults.proofs.Likeness.{kind_to, kinds_of, sizes_of, values_of, set_same, relation_same, marked_same, narrowed_same, turned_same, head_append, head_unless, or_parts}
use Rattle.meaning_faults.proofs.Scopes.{IsSense, IsKnownAs, IsFoundAs, AreTied, found_tied, IsWrongUse, IsRightUse, use_of}
use Rattle.meaning_faults.proofs.Applying.{long_terms, right_use, application_kind, application_size, application_clash}
use Rattle.meaning_faults.proofs.Inside.{name_kind, joined_parts, taken_parts, more_kinds, more_sizes}

-- what is found in the arguments of an application
abbrev argued : Scope → Bool → Terms → (ℕ → Bool) → List Finding
argued S u ts = λ g. in_terms false S (λ i. u || g i) 0 ts

-- how a name with arguments is the same to both
use_outside : (ss : List Sense) (from : ℕ) (names : List Naming) (S : Scope) (count : ℕ)
    (x : List ℕ) → AreTied ss from names S
    → IsWrongUse (sense_of ss count (found names x)) (known_as S x) count
    ⊎ IsRightUse (sense_of ss count (found names x)) (known_as S x) count
use_outside ss from names S count x tied =
    use_of ss from count (found names x) (known_as S x) (found_tied ss from names S x tied)

-- ---- sizes

name_size : (ss : List Sense) (from : ℕ) (u : Bool) (o : Option Found) (k : Option Known)
    → IsFoundAs ss from o k → 1 ≡ (in_name u k).size
name_size ss from u None None h = refl
name_size ss from u None (Some k) h = absurd h
name_size ss from u (Some f) None h = absurd h
name_size ss from u (Some f) (Some k) h = at_binder f.binder k h
  where
    at_binder : (b : Binder) (known : Known) → IsKnownAs ss f.kind (nat_le from f.slot) b known
        → 1 ≡ (in_name u (Some known)).size
    at_binder (binders.Predefined p) (AsValue v) h = sym h.size
    at_binder (binders.Predefined p) (AsFunction n body) h = absurd h
    at_binder (binders.Bound i) (AsValue v) h = sym h.size
    at_binder (binders.Bound i) (AsFunction n body) h = absurd h
    at_binder (binders.Applicable g) (AsValue v) h = absurd h
    at_binder (binders.Applicable g) (AsFunction n body) h = refl

mutual
  pub size_same : (ss : List Sense) (from : ℕ) (names : List Naming) (S : Scope)
      → AreTied ss from names S → (u : Bool) (t : Term)
      → size_in ss names t ≡ (in_term false S u t).size
  size_same ss from names S tied u (Atom x) =
      name_size ss from u (found names x) (known_as S x) (found_tied ss from names S x tied)
  size_same ss from names S tied u AllEvents = refl
  size_same ss from names S tied u EmptyRelation = refl
  size_same ss from names S tied u EmptySet = refl
  size_same ss from names S tied u (Join op a b) =
      let l = size_same ss from names S tied u a in
      let r = size_same ss from names S tied (is_falling_right op u) b in omega (arith, l, r)
  size_same ss from names S tied u (Mark op a) =
      let l = size_same ss from names S tied u a in omega (arith, l)
  size_same ss from names S tied u (Not a) =
      let l = size_same ss from names S tied true a in omega (arith, l)
  size_same ss from names S tied u (On a) =
      let l = size_same ss from names S tied u a in omega (arith, l)
  size_same ss from names S tied u (Apply x ts) =
      elim (use_outside ss from names S (count_of ts) x tied) [
        | inl w ↦
            ap (λ (r : Result Sense program.ModelFault). size_applied r (sizes_in ss names ts))
            w.answer
            ∙ sym (ap (λ (f : Finding). f.size)
            (w.wrong false (argued S u ts) (long_terms false S _ 0 ts)))
        | inr r ↦
            ap (λ (q : Result Sense program.ModelFault). size_applied q (sizes_in ss names ts))
            r.answer
            ∙ (application_size r.sense (count_of ts) r.body (sizes_in ss names ts)
            (argued S u ts (λ i. false)) r.same (long_terms false S _ 0 ts)
            (sizes_same ss from names S tied (λ i. u || false) 0 ts)
            ∙ sym (ap (λ (f : Finding). f.size)
            (right_use false _ (count_of ts) r.body (argued S u ts) r.known
            (long_terms false S _ 0 ts))))
      ]

  pub sizes_same : (ss : List Sense) (from : ℕ) (names : List Naming) (S : Scope)
      → AreTied ss from names S → (g : ℕ → Bool) (i : ℕ) (ts : Terms)
      → sizes_in ss names ts ≡ sizes_of (in_terms false S g i ts)
  sizes_same ss from names S tied g i NoTerm = refl
  sizes_same ss from names S tied g i (OneMore a ts) =
      more_sizes _ _ _ _ (size_same ss from names S tied (g i) a)
      (sizes_same ss from names S tied g (suc i) ts)

-- ---- kinds

applied_kind : (s : Sense) (count : ℕ) (body : List KnownName → Finding)
    (ks : List code_kind.Kind) (plain arguments : List Finding) → IsSense s count body
    → length plain ≡ count → ks ≡ kinds_of plain → ks ≡ kinds_of arguments → (b : Bool)
    → nat_lt 4096 (body (values_of plain)).size ≡ b
    → (if b then kinds.OfAny else s.kind_with ks)
    ≡ kind_to (in_application false (body (values_of plain)) arguments).kind
applied_kind s count body ks plain arguments same long is also true e =
    sym (ap (λ (b : Bool). kind_to (if b || list_any (λ f. is_set f.kind && is_relation f.kind)
    arguments then OfAny else (body (values_of plain)).kind)) e)
applied_kind s count body ks plain arguments same long is also false e =
    application_kind s false count body ks plain arguments same long is also e

mutual
  pub kind_same : (ss : List Sense) (from : ℕ) (names : List Naming) (S : Scope)
      → AreTied ss from names S → (u : Bool) (t : Term)
      → kind_in ss names t ≡ kind_to (in_term false S u t).kind
  kind_same ss from names S tied u (Atom x) =
      name_kind ss from u (found names x) (known_as S x) (found_tied ss from names S x tied)
  kind_same ss from names S tied u AllEvents = refl
  kind_same ss from names S tied u EmptyRelation = refl
  kind_same ss from names S tied u EmptySet = refl
  kind_same ss from names S tied u (Join op a b) =
      joined_parts op _ _ (in_term false S u a).kind
      (in_term false S (is_falling_right op u) b).kind (kind_same ss from names S tied u a)
      (kind_same ss from names S tied (is_falling_right op u) b)
  kind_same ss from names S tied u (Mark op a) =
      ap of_program.marked (kind_same ss from names S tied u a)
      ∙ marked_same (in_term false S u a).kind
  kind_same ss from names S tied u (Not a) = kind_same ss from names S tied true a
  kind_same ss from names S tied u (On a) =
      ap of_program.narrowed (kind_same ss from names S tied u a)
      ∙ narrowed_same (in_term false S u a).kind
  kind_same ss from names S tied u (Apply x ts) =
      elim (use_outside ss from names S (count_of ts) x tied) [
        | inl w ↦
            ap (λ (r : Result Sense program.ModelFault). kind_applied r (sizes_in ss names ts)
            (kinds_in ss names ts)) w.answer
            ∙ sym (ap (λ (f : Finding). kind_to f.kind)
            (w.wrong false (argued S u ts) (long_terms false S _ 0 ts)))
        | inr r ↦
            ap (λ (q : Result Sense program.ModelFault). kind_applied q (sizes_in ss names ts)
            (kinds_in ss names ts)) r.answer
            ∙ (applied_kind r.sense (count_of ts) r.body (kinds_in ss names ts)
            (argued S u ts (λ i. false)) (argued S u ts (is_falling_parameter r.body)) r.same
            (long_terms false S _ 0 ts) (kinds_same ss from names S tied (λ i. u || false) 0 ts)
            (kinds_same ss from names S tied (λ i. u || is_falling_parameter r.body i) 0 ts)
            (nat_lt 4096 (size_with r.sense (sizes_in ss names ts)))
            (sym (ap (nat_lt 4096)
            (application_size r.sense (count_of ts) r.body (sizes_in ss names ts)
            (argued S u ts (λ i. false)) r.same (long_terms false S _ 0 ts)
            (sizes_same ss from names S tied (λ i. u || false) 0 ts))))
            ∙ sym (ap (λ (f : Finding). kind_to f.kind)
            (right_use false _ (count_of ts) r.body (argued S u ts) r.known
            (long_terms false S _ 0 ts))))
      ]

  pub kinds_same : (ss : List Sense) (from : ℕ) (names : List Naming) (S : Scope)
      → AreTied ss from names S → (g : ℕ → Bool) (i : ℕ) (ts : Terms)
      → kinds_in ss names ts ≡ kinds_of (in_terms false S g i ts)
  kinds_same ss from names S tied g i NoTerm = refl
  kinds_same ss from names S tied g i (OneMore a ts) =
      more_kinds _ _ _ _ (kind_same ss from names S tied (g i) a)
      (kinds_same ss from names S tied g (suc i) ts)

-- ---- the first fault

slot_fault : (r b u : Bool) → r ≡ b
    → head_of (fault_if (r && u) NotMonotone)
    ≡ (if u && b then Some program_faults.NotMonotone else None)
slot_fault r b u e =
    ap (λ (c : Bool). head_of (fault_if (c && u) NotMonotone)) e ∙ at_tests b u
  where
    at_tests : (b u : Bool)
        → head_of (fault_if (b && u) NotMonotone)
        ≡ (if u && b then Some program_faults.NotMonotone else None)
    at_tests true true = refl
    at_tests true false = refl
    at_tests false true = refl
    at_tests false false = refl

name_fault : (ss : List Sense) (from : ℕ) (u : Bool) (o : Option Found) (k : Option Known)
    → IsFoundAs ss from o k → head_of (in_name u k).faults ≡ of_name from u o
name_fault ss from u None None h = refl
name_fault ss from u None (Some k) h = absurd h
name_fault ss from u (Some f) None h = absurd h
name_fault ss from u (Some f) (Some k) h = at_binder f.binder k h
  where
    at_binder : (b : Binder) (known : Known) → IsKnownAs ss f.kind (nat_le from f.slot) b known
        → head_of (in_name u (Some known)).faults ≡ of_use b from u f.slot
    at_binder (binders.Predefined p) (AsValue v) h =
        slot_fault v.recursive (nat_le from f.slot) u h.recursive
    at_binder (binders.Predefined p) (AsFunction n body) h = absurd h
    at_binder (binders.Bound i) (AsValue v) h =
        slot_fault v.recursive (nat_le from f.slot) u h.recursive
    at_binder (binders.Bound i) (AsFunction n body) h = absurd h
    at_binder (binders.Applicable g) (AsValue v) h = absurd h
    at_binder (binders.Applicable g) (AsFunction n body) h = refl

-- the heads of two lists, one behind the other
pub head_parts : (ks ls : List ModelFault) (o q : Option program.ModelFault) → head_of ks ≡ o
    → head_of ls ≡ q → head_of (ks ++ ls) ≡ or_else o q
head_parts ks ls o q d e = head_append ks ls ∙ or_parts _ _ o q d e

-- a clash unless the test holds
pub unless_same : (b c : Bool) → b ≡ c
    → head_of (fault_if (not c) Kind) ≡ unless b program_faults.Kind
unless_same b c e = head_unless c Kind ∙ ap (λ (d : Bool). unless d program_faults.Kind) (sym e)

clash_same : (b c : Bool) → b ≡ c
    → head_of (fault_if c Kind) ≡ unless (not b) program_faults.Kind
clash_same b c e = at_test c ∙ ap (λ (d : Bool). unless (not d) program_faults.Kind) (sym e)
  where
    at_test : (c : Bool) → head_of (fault_if c Kind) ≡ unless (not c) program_faults.Kind
    at_test true = refl
    at_test false = refl

applied_fault : (b : Bool) (body : Finding) (arguments : List Finding)
    (o q : Option program.ModelFault) → nat_lt 4096 body.size ≡ b
    → head_of (fault_if (list_any is_kind_fault body.faults) Kind) ≡ o
    → head_of (faults_in arguments) ≡ q
    → head_of (in_application false body arguments).faults
    ≡ (if b then Some program_faults.TooLarge else or_else o q)
applied_fault b body arguments o q e d f =
    ap (λ (c : Bool). head_of (fault_if c TooLarge
    ++ (fault_if (list_any is_kind_fault body.faults) Kind ++ faults_in arguments))) e
    ∙ at_test b
  where
    at_test : (b : Bool)
        → head_of (fault_if b TooLarge
        ++ (fault_if (list_any is_kind_fault body.faults) Kind ++ faults_in arguments))
        ≡ (if b then Some program_faults.TooLarge else or_else o q)
    at_test true = refl
    at_test false =
        head_parts (fault_if (list_any is_kind_fault body.faults) Kind) (faults_in arguments) o q
        d f

mutual
  pub fault_same : (ss : List Sense) (from : ℕ) (names : List Naming) (S : Scope)
      → AreTied ss from names S → (u : Bool) (t : Term)
      → head_of (in_term false S u t).faults ≡ term_fault ss names from u t
  fault_same ss from names S tied u (Atom x) =
      name_fault ss from u (found names x) (known_as S x) (found_tied ss from names S x tied)
  fault_same ss from names S tied u AllEvents = refl
  fault_same ss from names S tied u EmptyRelation = refl
  fault_same ss from names S tied u EmptySet = refl
  fault_same ss from names S tied u (Join op a b) =
      head_parts (in_term false S u a).faults _ _ _ (fault_same ss from names S tied u a)
      (head_parts (fault_if (not (takes op (in_term false S u a).kind
      (in_term false S (is_falling_right op u) b).kind)) Kind)
      (in_term false S (is_falling_right op u) b).faults _ _
      (unless_same (of_program.takes op (kind_in ss names a) (kind_in ss names b)) _
      (taken_parts op _ _ (in_term false S u a).kind
      (in_term false S (is_falling_right op u) b).kind (kind_same ss from names S tied u a)
      (kind_same ss from names S tied (is_falling_right op u) b)))
      (fault_same ss from names S tied (is_falling_right op u) b
      ∙ ap (λ (v : Bool). term_fault ss names from v b) (sym (turned_same op u))))
  fault_same ss from names S tied u (Mark op a) =
      head_parts (in_term false S u a).faults _ _ _ (fault_same ss from names S tied u a)
      (unless_same (of_program.is_relation (kind_in ss names a)) _
      (ap of_program.is_relation (kind_same ss from names S tied u a)
      ∙ relation_same (in_term false S u a).kind))
  fault_same ss from names S tied u (Not a) = fault_same ss from names S tied true a
  fault_same ss from names S tied u (On a) =
      head_parts (fault_if (not (is_set (in_term false S u a).kind)) Kind)
      (in_term false S u a).faults _ _
      (unless_same (of_program.is_set_kind (kind_in ss names a)) _
      (ap of_program.is_set_kind (kind_same ss from names S tied u a)
      ∙ set_same (in_term false S u a).kind)) (fault_same ss from names S tied u a)
  fault_same ss from names S tied u (Apply x ts) =
      elim (use_outside ss from names S (count_of ts) x tied) [
        | inl w ↦
            ap (λ (f : Finding). head_of f.faults)
            (w.wrong false (argued S u ts) (long_terms false S _ 0 ts))
            ∙ sym (ap (λ (r : Result Sense program.ModelFault). fault_applied r
            (sizes_in ss names ts) (kinds_in ss names ts)
            (first_among ss names from u (under_of r) 0 ts)) w.answer)
        | inr r ↦
            ap (λ (f : Finding). head_of f.faults)
            (right_use false _ (count_of ts) r.body (argued S u ts) r.known
            (long_terms false S _ 0 ts))
            ∙ (applied_fault (nat_lt 4096 (size_with r.sense (sizes_in ss names ts)))
            (r.body (values_of (argued S u ts (λ i. false))))
            (argued S u ts (is_falling_parameter r.body))
            (unless (not (r.sense.clashes (kinds_in ss names ts))) program_faults.Kind)
            (first_among ss names from u r.sense.is_under 0 ts)
            (sym (ap (nat_lt 4096)
            (application_size r.sense (count_of ts) r.body (sizes_in ss names ts)
            (argued S u ts (λ i. false)) r.same (long_terms false S _ 0 ts)
            (sizes_same ss from names S tied (λ i. u || false) 0 ts))))
            (clash_same (r.sense.clashes (kinds_in ss names ts)) _
            (application_clash r.sense (count_of ts) r.body (kinds_in ss names ts)
            (argued S u ts (λ i. false)) r.same (long_terms false S _ 0 ts)
            (kinds_same ss from names S tied (λ i. u || false) 0 ts)))
            (faults_same ss from names S tied u r.sense.is_under
            (λ i. u || is_falling_parameter r.body i) 0 ts
            (λ k lt. ap (λ (b : Bool). u || b)
            (sym (r.same.under k (omega (arith, lt))))))
            ∙ sym (ap (λ (q : Result Sense program.ModelFault). fault_applied q
            (sizes_in ss names ts) (kinds_in ss names ts)
            (first_among ss names from u (under_of q) 0 ts)) r.answer))
      ]

  faults_same : (ss : List Sense) (from : ℕ) (names : List Naming) (S : Scope)
      → AreTied ss from names S → (u : Bool) (turned g : ℕ → Bool) (i : ℕ) (ts : Terms)
      → ((k : ℕ) → k < i + count_of ts → g k ≡ (u || turned k))
      → head_of (faults_in (in_terms false S g i ts)) ≡ first_among ss names from u turned i ts
  faults_same ss from names S tied u turned g i NoTerm same = refl
  faults_same ss from names S tied u turned g i (OneMore a ts) same =
      head_parts (in_term false S (g i) a).faults (faults_in (in_terms false S g (suc i) ts)) _ _
      (fault_same ss from names S tied (g i) a
      ∙ ap (λ (v : Bool). term_fault ss names from v a) (same i (omega arith)))
      (faults_same ss from names S tied u turned g (suc i) ts
      (λ k lt. same k (omega (arith, lt))))
