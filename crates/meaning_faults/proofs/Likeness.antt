-- Kinds and faults as the program has them, and what operators make of them.
use Rattle.std.proofs.Common.{ℕ, ◌≡◌, List, [], ◌∷◌, ◌++◌, Bool, true, false, ◌&&◌, ◌||◌, Option, refl, ap}
use Rattle.std.specs.Prelude.{not, map}
use Rattle.std.specs.List.{list_any}
use Rattle.text_values.specs.declared.model.CheckWord.{CheckWord}
use Rattle.text_values.specs.declared.model.CheckWord.TheVariants.{Acyclic, Irreflexive, Empty}
use Rattle.text_values.specs.declared.model.Infix.{Infix}
use Rattle.text_values.specs.declared.model.Infix.TheVariants.{Union, Sequence, Difference, Intersection, Product}
use Rattle.binding_kinds.specs.declared.fault.ModelFault as program
use Rattle.binding_kinds.specs.declared.kinds.Kind.{Kind}
use Rattle.binding_kinds.specs.declared.kinds.Kind.TheVariants as kinds
use Rattle.binding_kinds.specs.Kinds as of_program
use Rattle.binding_kinds.specs.Combinations.{has_any}
use Rattle.binding_kinds.specs.Verdict.{or_else, unless}
use Rattle.meaning.specs.Faults.{KindOf, OfSet, OfRelation, OfAny, ModelFault, Finding, KnownName, is_set, is_relation, takes, kind_of_infix, kind_of_postfix, kind_of_identity, takes_body, is_falling_right, fault_if, value_with}
use Rattle.meaning_faults.specs.Laws.{fault_of, head_of}

-- ---- kinds

-- a kind as the program has it
abbrev pub kind_to : KindOf → Kind
kind_to OfSet = kinds.OfSet
kind_to OfRelation = kinds.OfRelation
kind_to OfAny = kinds.OfAny

pub set_same : (k : KindOf) → of_program.is_set_kind (kind_to k) ≡ is_set k
set_same OfSet = refl
set_same OfRelation = refl
set_same OfAny = refl

pub relation_same : (k : KindOf) → of_program.is_relation (kind_to k) ≡ is_relation k
relation_same OfSet = refl
relation_same OfRelation = refl
relation_same OfAny = refl

pub marked_same : (k : KindOf) → of_program.marked (kind_to k) ≡ kind_to (kind_of_postfix k)
marked_same OfSet = refl
marked_same OfRelation = refl
marked_same OfAny = refl

pub narrowed_same : (k : KindOf) → of_program.narrowed (kind_to k) ≡ kind_to (kind_of_identity k)
narrowed_same OfSet = refl
narrowed_same OfRelation = refl
narrowed_same OfAny = refl

pub takes_same : (op : Infix) (k l : KindOf) → of_program.takes op (kind_to k) (kind_to l) ≡ takes op k l
takes_same Union OfSet OfSet = refl
takes_same Union OfSet OfRelation = refl
takes_same Union OfSet OfAny = refl
takes_same Union OfRelation OfSet = refl
takes_same Union OfRelation OfRelation = refl
takes_same Union OfRelation OfAny = refl
takes_same Union OfAny OfSet = refl
takes_same Union OfAny OfRelation = refl
takes_same Union OfAny OfAny = refl
takes_same Sequence OfSet OfSet = refl
takes_same Sequence OfSet OfRelation = refl
takes_same Sequence OfSet OfAny = refl
takes_same Sequence OfRelation OfSet = refl
takes_same Sequence OfRelation OfRelation = refl
takes_same Sequence OfRelation OfAny = refl
takes_same Sequence OfAny OfSet = refl
takes_same Sequence OfAny OfRelation = refl
takes_same Sequence OfAny OfAny = refl
takes_same Difference OfSet OfSet = refl
takes_same Difference OfSet OfRelation = refl
takes_same Difference OfSet OfAny = refl
takes_same Difference OfRelation OfSet = refl
takes_same Difference OfRelation OfRelation = refl
takes_same Difference OfRelation OfAny = refl
takes_same Difference OfAny OfSet = refl
takes_same Difference OfAny OfRelation = refl
takes_same Difference OfAny OfAny = refl
takes_same Intersection OfSet OfSet = refl
takes_same Intersection OfSet OfRelation = refl
takes_same Intersection OfSet OfAny = refl
takes_same Intersection OfRelation OfSet = refl
takes_same Intersection OfRelation OfRelation = refl
takes_same Intersection OfRelation OfAny = refl
takes_same Intersection OfAny OfSet = refl
takes_same Intersection OfAny OfRelation = refl
takes_same Intersection OfAny OfAny = refl
takes_same Product OfSet OfSet = refl
takes_same Product OfSet OfRelation = refl
takes_same Product OfSet OfAny = refl
takes_same Product OfRelation OfSet = refl
takes_same Product OfRelation OfRelation = refl
takes_same Product OfRelation OfAny = refl
takes_same Product OfAny OfSet = refl
takes_same Product OfAny OfRelation = refl
takes_same Product OfAny OfAny = refl

pub joined_same : (op : Infix) (k l : KindOf)
    → of_program.joined_kind op (kind_to k) (kind_to l) ≡ kind_to (kind_of_infix op k l)
joined_same Union OfSet OfSet = refl
joined_same Union OfSet OfRelation = refl
joined_same Union OfSet OfAny = refl
joined_same Union OfRelation OfSet = refl
joined_same Union OfRelation OfRelation = refl
joined_same Union OfRelation OfAny = refl
joined_same Union OfAny OfSet = refl
joined_same Union OfAny OfRelation = refl
joined_same Union OfAny OfAny = refl
joined_same Sequence OfSet OfSet = refl
joined_same Sequence OfSet OfRelation = refl
joined_same Sequence OfSet OfAny = refl
joined_same Sequence OfRelation OfSet = refl
joined_same Sequence OfRelation OfRelation = refl
joined_same Sequence OfRelation OfAny = refl
joined_same Sequence OfAny OfSet = refl
joined_same Sequence OfAny OfRelation = refl
joined_same Sequence OfAny OfAny = refl
joined_same Difference OfSet OfSet = refl
joined_same Difference OfSet OfRelation = refl
joined_same Difference OfSet OfAny = refl
joined_same Difference OfRelation OfSet = refl
joined_same Difference OfRelation OfRelation = refl
joined_same Difference OfRelation OfAny = refl
joined_same Difference OfAny OfSet = refl
joined_same Difference OfAny OfRelation = refl
joined_same Difference OfAny OfAny = refl
joined_same Intersection OfSet OfSet = refl
joined_same Intersection OfSet OfRelation = refl
joined_same Intersection OfSet OfAny = refl
joined_same Intersection OfRelation OfSet = refl
joined_same Intersection OfRelation OfRelation = refl
joined_same Intersection OfRelation OfAny = refl
joined_same Intersection OfAny OfSet = refl
joined_same Intersection OfAny OfRelation = refl
joined_same Intersection OfAny OfAny = refl
joined_same Product OfSet OfSet = refl
joined_same Product OfSet OfRelation = refl
joined_same Product OfSet OfAny = refl
joined_same Product OfRelation OfSet = refl
joined_same Product OfRelation OfRelation = refl
joined_same Product OfRelation OfAny = refl
joined_same Product OfAny OfSet = refl
joined_same Product OfAny OfRelation = refl
joined_same Product OfAny OfAny = refl

pub turned_same : (op : Infix) (b : Bool) → of_program.is_turned op b ≡ is_falling_right op b
turned_same Union b = refl
turned_same Sequence b = refl
turned_same Difference b = refl
turned_same Intersection b = refl
turned_same Product b = refl

pub body_same : (w : CheckWord) (k : KindOf) → of_program.takes_body w (kind_to k) ≡ takes_body w k
body_same Acyclic OfSet = refl
body_same Acyclic OfRelation = refl
body_same Acyclic OfAny = refl
body_same Irreflexive OfSet = refl
body_same Irreflexive OfRelation = refl
body_same Irreflexive OfAny = refl
body_same Empty OfSet = refl
body_same Empty OfRelation = refl
body_same Empty OfAny = refl

-- ---- arguments

-- the kinds and the sizes of findings
abbrev pub kinds_of : List Finding → List Kind
kinds_of fs = map (λ f. kind_to f.kind) fs

abbrev pub sizes_of : List Finding → List ℕ
sizes_of fs = map (λ f. f.size) fs

-- the kinds and the sizes of arguments
abbrev pub value_kinds : List KnownName → List Kind
value_kinds vs = map (λ v. kind_to v.kind) vs

abbrev pub value_sizes : List KnownName → List ℕ
value_sizes vs = map (λ v. v.size) vs

-- the arguments that findings are
abbrev pub values_of : List Finding → List KnownName
values_of fs = map (λ a. value_with a.kind a.size false) fs

pub kinds_of_values : (fs : List Finding) → value_kinds (values_of fs) ≡ kinds_of fs
kinds_of_values [] = refl
kinds_of_values (f ∷ fs) = ap (λ (ks : List Kind). kind_to f.kind ∷ ks) (kinds_of_values fs)

pub sizes_of_values : (fs : List Finding) → value_sizes (values_of fs) ≡ sizes_of fs
sizes_of_values [] = refl
sizes_of_values (f ∷ fs) = ap (λ (ns : List ℕ). f.size ∷ ns) (sizes_of_values fs)

pub any_same : (fs : List Finding)
    → has_any (kinds_of fs) ≡ list_any (λ f. is_set f.kind && is_relation f.kind) fs
any_same [] = refl
any_same (f ∷ fs) = at_kind f.kind (any_same fs)
  where
    at_kind : (k : KindOf)
        → has_any (kinds_of fs) ≡ list_any (λ f. is_set f.kind && is_relation f.kind) fs
        → has_any (kind_to k ∷ kinds_of fs)
        ≡ ((is_set k && is_relation k) || list_any (λ f. is_set f.kind && is_relation f.kind) fs)
    at_kind OfSet h = h
    at_kind OfRelation h = h
    at_kind OfAny h = refl

-- ---- faults

pub head_append : (ks ls : List ModelFault) → head_of (ks ++ ls) ≡ or_else (head_of ks) (head_of ls)
head_append [] ls = refl
head_append (k ∷ ks) ls = refl

pub head_unless : (b : Bool) (k : ModelFault) → head_of (fault_if (not b) k) ≡ unless b (fault_of k)
head_unless true k = refl
head_unless false k = refl

pub or_parts : (o q r s : Option program.ModelFault) → o ≡ r → q ≡ s → or_else o q ≡ or_else r s
or_parts o q r s d e = rw (d, e) refl
