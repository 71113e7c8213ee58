-- Behind names of tame meanings each expression has a tame meaning.
use Rattle.std.proofs.Common.{ℕ, List, [], ◌∷◌, Bool, true, false, length, nat_eq, bytes_eq}
use Rattle.text_values.specs.ModelValue.{Term, Terms, Atom, AllEvents, EmptyRelation, EmptySet, Join, Mark, Not, On, Apply, NoTerm, OneMore}
use Rattle.meaning.specs.Sets.{Relation}
use Rattle.meaning.specs.Names.{Name}
use Rattle.meaning.specs.Cat.{Meaning, ARelation, Nothing, Bound, ToMeaning, ToFunction, ToNothing, Names, choice_of, bound_of, of_name, of_application, meaning_of, meanings_of, with_arguments, with_group, with_bodies}
use Rattle.meanings_exist.proofs.Tame.{IsTameRelation, Frame, no_members, no_pairs}
use Rattle.meanings_exist.proofs.Operators.{IsTame, tame_infix, tame_postfix, tame_complement, tame_identity}

abbrev pub AllTame : {E : Type 0} → List E → List (Meaning E) → Type 0
AllTame C [] = Unit {0}
AllTame C (m ∷ ms) = IsTame C m × AllTame C ms

pub data TameBound {E : Type 0} (C : List E) : Bound E → Type 1 where
  a_meaning : (m : Meaning E) → IsTame C m → TameBound C (ToMeaning m)
  a_function : (n : ℕ) (r : List (Meaning E) → Meaning E)
      → ((ms : List (Meaning E)) → AllTame C ms → IsTame C (r ms))
      → TameBound C (ToFunction n r)
  nothing : TameBound C ToNothing

pub data TameNames {E : Type 0} (C : List E) : Names E → Type 1 where
  none : TameNames C []
  more : (n : Name) (b : Bound E) (N : Names E) → TameBound C b → TameNames C N
      → TameNames C ((n, b) ∷ N)

choice_tame : {E : Type 0} (C : List E) (t : Bool) (b c : Bound E) → TameBound C b
    → TameBound C c → TameBound C (choice_of t b c)
choice_tame C true b c h g = h
choice_tame C false b c h g = g

bound_tame : {E : Type 0} (C : List E) (N : Names E) → TameNames C N → (n : Name)
    → TameBound C (bound_of N n)
bound_tame C N none n = nothing
bound_tame C N (more q b M h rest) n =
    choice_tame C (bytes_eq q n) b (bound_of M n) h (bound_tame C M rest n)

name_tame : {E : Type 0} (C : List E) (b : Bound E) → TameBound C b → IsTame C (of_name b)
name_tame C b (a_meaning m h) = h
name_tame C b (a_function n r h) = tt
name_tame C b nothing = tt

result_tame : {E : Type 0} (C : List E) (t : Bool) (m : Meaning E) → IsTame C m
    → IsTame C (choice_of t m Nothing)
result_tame C true m h = h
result_tame C false m h = tt

application_tame : {E : Type 0} (C : List E) (b : Bound E) (ms : List (Meaning E))
    → TameBound C b → AllTame C ms → IsTame C (of_application b ms)
application_tame C b ms (a_meaning m h) all = tt
application_tame C b ms (a_function n r h) all =
    result_tame C (nat_eq n (length ms)) (r ms) (h ms all)
application_tame C b ms nothing all = tt

mutual
  pub meaning_tame : {E : Type 0} (F : Frame E) (N : Names E) → TameNames F.things N → (t : Term)
      → IsTame F.things (meaning_of F.all N t)
  meaning_tame F N names (Atom n) =
      name_tame F.things (bound_of N n) (bound_tame F.things N names n)
  meaning_tame F N names AllEvents = F.tame
  meaning_tame F N names EmptyRelation = no_pairs F.things
  meaning_tame F N names EmptySet = no_members F.things
  meaning_tame F N names (Join op a b) =
      tame_infix F.things op (meaning_of F.all N a) (meaning_of F.all N b)
      (meaning_tame F N names a) (meaning_tame F N names b)
  meaning_tame F N names (Mark op a) =
      tame_postfix F op (meaning_of F.all N a) (meaning_tame F N names a)
  meaning_tame F N names (Not a) =
      tame_complement F (meaning_of F.all N a) (meaning_tame F N names a)
  meaning_tame F N names (On a) =
      tame_identity F (meaning_of F.all N a) (meaning_tame F N names a)
  meaning_tame F N names (Apply n ts) =
      application_tame F.things (bound_of N n) (meanings_of F.all N ts)
      (bound_tame F.things N names n) (meanings_tame F N names ts)

  pub meanings_tame : {E : Type 0} (F : Frame E) (N : Names E) → TameNames F.things N
      → (ts : Terms) → AllTame F.things (meanings_of F.all N ts)
  meanings_tame F N names NoTerm = tt
  meanings_tame F N names (OneMore a ts) =
      (meaning_tame F N names a, meanings_tame F N names ts)

-- ---- more names

pub arguments_tame : {E : Type 0} (C : List E) (ps : List Name) (ms : List (Meaning E))
    (N : Names E) → AllTame C ms → TameNames C N → TameNames C (with_arguments ps ms N)
arguments_tame C [] ms N all names = names
arguments_tame C (p ∷ ps) [] N all names = names
arguments_tame C (p ∷ ps) (m ∷ ms) N all names =
    arguments_tame C ps ms ((p, ToMeaning m) ∷ N) all.1
    (more p (ToMeaning m) N (a_meaning m all.0) names)

pub group_tame : {E : Type 0} (C : List E) (R : Name → Relation E)
    → ((n : Name) → IsTameRelation C (R n)) → (group : List (Name × Term)) (N : Names E)
    → TameNames C N → TameNames C (with_group R group N)
group_tame C R each [] N names = names
group_tame C R each (b ∷ bs) N names =
    group_tame C R each bs ((b.0, ToMeaning (ARelation (R b.0))) ∷ N)
    (more b.0 (ToMeaning (ARelation (R b.0))) N (a_meaning (ARelation (R b.0)) (each b.0)) names)

pub bodies_tame : {E : Type 0} (F : Frame E) (outer : Names E) → TameNames F.things outer
    → (group : List (Name × Term)) (N : Names E) → TameNames F.things N
    → TameNames F.things (with_bodies F.all outer group N)
bodies_tame F outer out [] N names = names
bodies_tame F outer out (b ∷ bs) N names =
    bodies_tame F outer out bs ((b.0, ToMeaning (meaning_of F.all outer b.1)) ∷ N)
    (more b.0 (ToMeaning (meaning_of F.all outer b.1)) N
    (a_meaning (meaning_of F.all outer b.1) (meaning_tame F outer out b.1)) names)
