-- What a name stands for, and the kinds of expressions.
use Rattle.std.specs.Prelude.{ℕ, List, [], ◌∷◌, length, Bool, true, false, ◌&&◌, bytes_eq, if◌then◌else◌, Option, Some, None}
use Rattle.text_values.specs.declared.model.Infix.{Infix}
use Rattle.text_values.specs.declared.model.Infix.TheVariants.{Union, Sequence, Difference, Intersection, Product}
use Rattle.text_values.specs.declared.model.CheckWord.{CheckWord}
use Rattle.text_values.specs.declared.model.CheckWord.TheVariants.{Acyclic, Irreflexive, Empty}
use Rattle.binding_kinds.specs.declared.kinds.Kind.{Kind}
use Rattle.binding_kinds.specs.declared.kinds.Kind.TheVariants.{OfSet, OfRelation, OfAny}
use Rattle.binding_kinds.specs.declared.scope.Found.{Found}
use Rattle.binding_kinds.specs.Value.{Naming}

-- The namings that an expression sees, the latest first. The slot of a naming is the number of
-- those before it, so it stays the same as the scope grows.
abbrev pub found : List Naming → List ℕ → Option Found
found [] x = None
found (n ∷ ns) x =
    if bytes_eq n.name x then Some (record { slot = length ns; kind = n.kind; binder = n.binder })
    else found ns x

abbrev pub is_set_kind : Kind → Bool
is_set_kind OfSet = true
is_set_kind OfRelation = false
is_set_kind OfAny = true

abbrev pub is_relation : Kind → Bool
is_relation OfSet = false
is_relation OfRelation = true
is_relation OfAny = true

-- two of one kind, or one that fits every kind
abbrev pub are_alike : Kind → Kind → Bool
are_alike OfSet k = is_set_kind k
are_alike OfRelation k = is_relation k
are_alike OfAny k = true

-- whether the operator takes operands of these kinds
abbrev pub takes : Infix → Kind → Kind → Bool
takes Union k l = are_alike k l
takes Intersection k l = are_alike k l
takes Difference k l = are_alike k l
takes Sequence k l = is_relation k && is_relation l
takes Product k l = is_set_kind k && is_set_kind l

-- what fits every kind is passed on
abbrev pub unless_any : Kind → Kind → Kind
unless_any OfAny r = OfAny
unless_any OfSet r = r
unless_any OfRelation r = r

-- the kind of what the operator makes of a left operand of this kind
abbrev pub made : Infix → Kind → Kind
made Union k = k
made Intersection k = k
made Difference k = k
made Sequence k = OfRelation
made Product k = OfRelation

abbrev pub joined_kind : Infix → Kind → Kind → Kind
joined_kind op k l = if takes op k l then unless_any k (unless_any l (made op k)) else OfAny

-- the kind of a closure of an operand of this kind
abbrev pub marked : Kind → Kind
marked OfSet = OfAny
marked OfRelation = OfRelation
marked OfAny = OfAny

-- the kind of the identity on an operand of this kind
abbrev pub narrowed : Kind → Kind
narrowed OfSet = OfRelation
narrowed OfRelation = OfAny
narrowed OfAny = OfAny

abbrev pub kind_found : Option Found → Kind
kind_found None = OfAny
kind_found (Some f) = f.kind

-- whether the check takes an expression of this kind
abbrev pub takes_body : CheckWord → Kind → Bool
takes_body Acyclic k = is_relation k
takes_body Irreflexive k = is_relation k
takes_body Empty k = true

-- whether what stands right of the operator must not grow
abbrev pub is_turned : Infix → Bool → Bool
is_turned Union under = under
is_turned Intersection under = under
is_turned Sequence under = under
is_turned Product under = under
is_turned Difference under = true
