-- The operators of cat make tame meanings of tame ones.
use Rattle.std.proofs.Common.{List, Contains}
use Rattle.text_values.specs.declared.model.Infix.{Infix}
use Rattle.text_values.specs.declared.model.Infix.TheVariants as infixes
use Rattle.text_values.specs.declared.model.Postfix.{Postfix}
use Rattle.text_values.specs.declared.model.Postfix.TheVariants as postfixes
use Rattle.meaning.specs.Sets.{Identity, Transitive}
use Rattle.meaning.specs.Cat.{Meaning, ASet, ARelation, Nothing, of_infix, of_postfix, of_complement, of_identity, HasPair}
use Rattle.meanings_exist.proofs.Decisions.{Decided, none_decided}
use Rattle.meanings_exist.proofs.Tame.{IsTameSet, IsTameRelation, Frame, union_set, intersection_set, difference_set, union, intersection, difference, product, inverse, sequence, transitive, identity, complement}

abbrev pub IsTame : {E : Type 0} → List E → Meaning E → Type 0
IsTame C (ASet S) = IsTameSet C S
IsTame C (ARelation R) = IsTameRelation C R
IsTame C Nothing = Unit {0}

pub pair_or_not : {E : Type 0} (C : List E) (m : Meaning E) → IsTame C m → (a b : E)
    → Decided (HasPair m a b)
pair_or_not C (ASet S) h a b = none_decided
pair_or_not C (ARelation R) h a b = h.decided a b
pair_or_not C Nothing h a b = none_decided

pub pair_from : {E : Type 0} (C : List E) (m : Meaning E) → IsTame C m → (a b : E)
    → HasPair m a b → Contains C a
pair_from C (ASet S) h a b p = absurd p
pair_from C (ARelation R) h a b p = h.from a b p
pair_from C Nothing h a b p = absurd p

pub pair_into : {E : Type 0} (C : List E) (m : Meaning E) → IsTame C m → (a b : E)
    → HasPair m a b → Contains C b
pair_into C (ASet S) h a b p = absurd p
pair_into C (ARelation R) h a b p = h.into a b p
pair_into C Nothing h a b p = absurd p

pub tame_infix : {E : Type 0} (C : List E) (op : Infix) (m n : Meaning E) → IsTame C m
    → IsTame C n → IsTame C (of_infix op m n)
tame_infix C infixes.Union (ASet S) (ASet T) h g = union_set C S T h g
tame_infix C infixes.Intersection (ASet S) (ASet T) h g = intersection_set C S T h g
tame_infix C infixes.Difference (ASet S) (ASet T) h g = difference_set C S T h g
tame_infix C infixes.Product (ASet S) (ASet T) h g = product C S T h g
tame_infix C infixes.Union (ARelation R) (ARelation Q) h g = union C R Q h g
tame_infix C infixes.Intersection (ARelation R) (ARelation Q) h g = intersection C R Q h g
tame_infix C infixes.Difference (ARelation R) (ARelation Q) h g = difference C R Q h g
tame_infix C infixes.Sequence (ARelation R) (ARelation Q) h g = sequence C R Q h g
tame_infix C op m n h g = tt

pub tame_postfix : {E : Type 0} (F : Frame E) (op : Postfix) (m : Meaning E)
    → IsTame F.things m → IsTame F.things (of_postfix F.all op m)
tame_postfix F postfixes.Transitive (ARelation R) h = transitive F.things R h
tame_postfix F postfixes.Reflexive (ARelation R) h =
    union F.things (Identity F.all) R (identity F.things F.same F.all F.tame) h
tame_postfix F postfixes.Closure (ARelation R) h =
    union F.things (Identity F.all) (Transitive R) (identity F.things F.same F.all F.tame)
    (transitive F.things R h)
tame_postfix F postfixes.Inverse (ARelation R) h = inverse F.things R h
tame_postfix F op m h = tt

pub tame_complement : {E : Type 0} (F : Frame E) (m : Meaning E) → IsTame F.things m
    → IsTame F.things (of_complement F.all m)
tame_complement F (ASet S) h = difference_set F.things F.all S F.tame h
tame_complement F (ARelation R) h = complement F.things F.all F.tame R h
tame_complement F Nothing h = tt

pub tame_identity : {E : Type 0} (F : Frame E) (m : Meaning E) → IsTame F.things m
    → IsTame F.things (of_identity m)
tame_identity F (ASet S) h = identity F.things F.same S h
tame_identity F (ARelation R) h = tt
tame_identity F Nothing h = tt
