-- The names, the signs and the operators of an item, in the order of the indexes that its faults
-- have (binding_kinds, specs/Faults). Read this file first, then Found; Search is how the first
-- fault is looked for.
use Rattle.std.specs.Prelude.{ℕ, List, [], ◌∷◌, ◌++◌, codes}
use Rattle.text_values.specs.declared.model.CheckWord.{CheckWord}
use Rattle.text_values.specs.declared.model.CheckWord.TheVariants.{Acyclic, Irreflexive, Empty}
use Rattle.text_values.specs.declared.model.Infix.{Infix}
use Rattle.text_values.specs.declared.model.Infix.TheVariants.{Union, Sequence, Difference, Intersection, Product}
use Rattle.text_values.specs.declared.model.Postfix.{Postfix}
use Rattle.text_values.specs.declared.model.Postfix.TheVariants as postfix
use Rattle.text_values.specs.ModelValue.{Term, Terms, Atom, AllEvents, EmptyRelation, EmptySet, Join, Mark, Not, On, Apply, NoTerm, OneMore}
use Rattle.binding_kinds.specs.Value.{Bound, BareItem, Group, Check, Mute, Defined}

abbrev pub infix_sign : Infix → List ℕ
infix_sign Union = codes "|"
infix_sign Sequence = codes ";"
infix_sign Difference = 92 ∷ []
infix_sign Intersection = codes "&"
infix_sign Product = codes "*"

abbrev pub postfix_sign : Postfix → List ℕ
postfix_sign postfix.Transitive = codes "+"
postfix_sign postfix.Reflexive = codes "?"
postfix_sign postfix.Inverse = codes "^-1"
postfix_sign postfix.Closure = codes "*"

abbrev pub check_sign : CheckWord → List ℕ
check_sign Acyclic = codes "acyclic"
check_sign Irreflexive = codes "irreflexive"
check_sign Empty = codes "empty"

abbrev mutual
  pub signs : Term → List (List ℕ)
  signs (Atom x) = x ∷ []
  signs AllEvents = codes "_" ∷ []
  signs EmptyRelation = codes "0" ∷ []
  signs EmptySet = codes "{}" ∷ []
  signs (Join op a b) = signs a ++ infix_sign op ∷ signs b
  signs (Mark op a) = signs a ++ postfix_sign op ∷ []
  signs (Not a) = codes "~" ∷ signs a
  signs (On a) = codes "[" ∷ signs a
  signs (Apply x arguments) = x ∷ signs_of_all arguments

  pub signs_of_all : Terms → List (List ℕ)
  signs_of_all NoTerm = []
  signs_of_all (OneMore a others) = signs a ++ signs_of_all others

-- each name, and then its body
abbrev pub signs_of_bounds : List Bound → List (List ℕ)
signs_of_bounds [] = []
signs_of_bounds (b ∷ bs) = b.name ∷ (signs b.body ++ signs_of_bounds bs)

abbrev pub signs_of_item : BareItem → List (List ℕ)
signs_of_item (Group recursive bounds) = signs_of_bounds bounds
signs_of_item (Check word body) = check_sign word ∷ signs body
signs_of_item Mute = []
signs_of_item (Defined name parameters body) = parameters ++ signs body
