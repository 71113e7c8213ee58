-- What an expression means is the same along functions there and back between two kinds of things,
-- where the names that it sees are.
use Rattle.std.proofs.Common.{ℕ, suc, ◌≡◌, ◌↔◌, Bool, true, false, List, [], ◌∷◌, length, bytes_eq, nat_eq, refl, ap, subst}
use Rattle.text_values.specs.ModelValue.{Term, Terms, Atom, AllEvents, EmptyRelation, EmptySet, Join, Mark, Not, On, Apply, NoTerm, OneMore}
use Rattle.meaning.specs.Sets.{Set, Relation}
use Rattle.meaning.specs.Names.{Name}
use Rattle.meaning.specs.Cat.{Meaning, ARelation, Nothing, Bound, ToMeaning, ToFunction, ToNothing, Names, choice_of, bound_of, of_name, of_application, meaning_of, meanings_of, with_arguments, with_group}
use Rattle.meaning_laws.proofs.Operators.{Same, sets, relations, nothing, infix_same, postfix_same, complement_same, identity_same}

pub data AllSame {X Y : Type 0} (f : X → Y) : List (Meaning X) → List (Meaning Y) → Type 1 where
  none : AllSame f [] []
  more : (m : Meaning X) (k : Meaning Y) (ms : List (Meaning X)) (ks : List (Meaning Y))
      → Same f m k → AllSame f ms ks → AllSame f (m ∷ ms) (k ∷ ks)

-- a function gives the same of arguments that are the same
pub data SameBound {X Y : Type 0} (f : X → Y) : Bound X → Bound Y → Type 1 where
  meanings : (m : Meaning X) (k : Meaning Y) → Same f m k → SameBound f (ToMeaning m) (ToMeaning k)
  functions : (arity : ℕ) (r : List (Meaning X) → Meaning X) (s : List (Meaning Y) → Meaning Y)
      → ((ms : List (Meaning X)) (ks : List (Meaning Y)) → AllSame f ms ks → Same f (r ms) (s ks))
      → SameBound f (ToFunction arity r) (ToFunction arity s)
  unbound : SameBound f ToNothing ToNothing

pub data SameNames {X Y : Type 0} (f : X → Y) : Names X → Names Y → Type 1 where
  no_name : SameNames f [] []
  one_more : (n : Name) (b : Bound X) (c : Bound Y) (bs : Names X) (cs : Names Y)
      → SameBound f b c → SameNames f bs cs → SameNames f ((n, b) ∷ bs) ((n, c) ∷ cs)

module _ {X Y : Type 0} (f : X → Y) where
  all_long : (ms : List (Meaning X)) (ks : List (Meaning Y)) → AllSame f ms ks
      → length ms ≡ length ks
  all_long _ _ none = refl
  all_long _ _ (more m k ms ks h rest) = ap (λ (n : ℕ). suc n) (all_long ms ks rest)

  bound_same : (bs : Names X) (cs : Names Y) → SameNames f bs cs → (n : Name)
      → SameBound f (bound_of bs n) (bound_of cs n)
  bound_same _ _ no_name n = unbound
  bound_same _ _ (one_more m b c bs cs h rest) n = at (bytes_eq m n) (bound_same bs cs rest n)
    where
      at : (t : Bool) → SameBound f (bound_of bs n) (bound_of cs n)
          → SameBound f (choice_of t b (bound_of bs n)) (choice_of t c (bound_of cs n))
      at true later = h
      at false later = later

  name_same : (b : Bound X) (c : Bound Y) → SameBound f b c → Same f (of_name b) (of_name c)
  name_same _ _ (meanings m k h) = h
  name_same _ _ (functions arity r s h) = nothing
  name_same _ _ unbound = nothing

  application_same : (b : Bound X) (c : Bound Y) → SameBound f b c → (ms : List (Meaning X))
      (ks : List (Meaning Y)) → AllSame f ms ks
      → Same f (of_application b ms) (of_application c ks)
  application_same _ _ (meanings m k h) ms ks are = nothing
  application_same _ _ unbound ms ks are = nothing
  application_same _ _ (functions arity r s h) ms ks are =
      subst
      (λ (n : ℕ). Same f (choice_of (nat_eq arity (length ms)) (r ms) Nothing)
      (choice_of (nat_eq arity n) (s ks) Nothing)) (all_long ms ks are)
      (at (nat_eq arity (length ms)))
    where
      at : (t : Bool) → Same f (choice_of t (r ms) Nothing) (choice_of t (s ks) Nothing)
      at true = h ms ks are
      at false = nothing

  pub arguments_same : (ps : List Name) (ms : List (Meaning X)) (ks : List (Meaning Y))
      → AllSame f ms ks → (bs : Names X) (cs : Names Y) → SameNames f bs cs
      → SameNames f (with_arguments ps ms bs) (with_arguments ps ks cs)
  arguments_same [] ms ks are bs cs h = h
  arguments_same (p ∷ ps) _ _ none bs cs h = h
  arguments_same (p ∷ ps) _ _ (more m k ms ks same rest) bs cs h =
      arguments_same ps ms ks rest ((p, ToMeaning m) ∷ bs) ((p, ToMeaning k) ∷ cs)
      (one_more p (ToMeaning m) (ToMeaning k) bs cs (meanings m k same) h)

  pub group_same : (R : Name → Relation X) (Q : Name → Relation Y)
      → ((n : Name) (x z : X) → R n x z ↔ Q n (f x) (f z)) → (group : List (Name × Term))
      (bs : Names X) (cs : Names Y) → SameNames f bs cs
      → SameNames f (with_group R group bs) (with_group Q group cs)
  group_same R Q same [] bs cs h = h
  group_same R Q same (b ∷ group) bs cs h =
      group_same R Q same group ((b.0, ToMeaning (ARelation (R b.0))) ∷ bs)
      ((b.0, ToMeaning (ARelation (Q b.0))) ∷ cs)
      (one_more b.0 (ToMeaning (ARelation (R b.0))) (ToMeaning (ARelation (Q b.0))) bs cs
      (meanings (ARelation (R b.0)) (ARelation (Q b.0)) (relations (R b.0) (Q b.0) (same b.0))) h)

  module _ (g : Y → X) (there : (x : X) → g (f x) ≡ x) (back : (y : Y) → f (g y) ≡ y)
      (all : Set X) (every : Set Y) (whole : (x : X) → all x ↔ every (f x)) where
    mutual
      pub meaning_same : (bs : Names X) (cs : Names Y) → SameNames f bs cs → (t : Term)
          → Same f (meaning_of all bs t) (meaning_of every cs t)
      meaning_same bs cs h (Atom n) =
          name_same (bound_of bs n) (bound_of cs n) (bound_same bs cs h n)
      meaning_same bs cs h AllEvents = sets all every whole
      meaning_same bs cs h EmptyRelation = relations _ _ (λ x z. (λ p. p, λ p. p))
      meaning_same bs cs h EmptySet = sets _ _ (λ x. (λ p. p, λ p. p))
      meaning_same bs cs h (Join op a b) =
          infix_same f g there back op (meaning_of all bs a) (meaning_of all bs b)
          (meaning_of every cs a) (meaning_of every cs b) (meaning_same bs cs h a)
          (meaning_same bs cs h b)
      meaning_same bs cs h (Mark op a) =
          postfix_same f g there back all every whole op (meaning_of all bs a)
          (meaning_of every cs a) (meaning_same bs cs h a)
      meaning_same bs cs h (Not a) =
          complement_same f g there back all every whole (meaning_of all bs a)
          (meaning_of every cs a) (meaning_same bs cs h a)
      meaning_same bs cs h (On a) =
          identity_same f g there back (meaning_of all bs a) (meaning_of every cs a)
          (meaning_same bs cs h a)
      meaning_same bs cs h (Apply n ts) =
          application_same (bound_of bs n) (bound_of cs n) (bound_same bs cs h n)
          (meanings_of all bs ts) (meanings_of every cs ts) (meanings_same bs cs h ts)

      pub meanings_same : (bs : Names X) (cs : Names Y) → SameNames f bs cs → (ts : Terms)
          → AllSame f (meanings_of all bs ts) (meanings_of every cs ts)
      meanings_same bs cs h NoTerm = none
      meanings_same bs cs h (OneMore a ts) =
          more (meaning_of all bs a) (meaning_of every cs a) (meanings_of all bs ts)
          (meanings_of every cs ts) (meaning_same bs cs h a) (meanings_same bs cs h ts)
