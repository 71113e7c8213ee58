-- What the names of an expression stand for: values, and functions that are applied.
use Rattle.std.proofs.Common.{ℕ, ◌≡◌, zero, suc, List, [], ◌∷◌, map, reverse, Bool, true, false, Option, Some, None, Result, Ok, Err, refl, sym, ap, ◌∙◌, arith}
use Rattle.std.specs.Prelude.{nat_eq, slice_get, if◌then◌else◌}
use Rattle.std.proofs.lemmas.Bool.Decides.{nat_tests}
use Rattle.std.proofs.lemmas.Option.{none-some}
use Rattle.text_values.specs.ModelValue.{Term, Terms, Atom, AllEvents, EmptyRelation, EmptySet, Join, Mark, Not, On, Apply, NoTerm, OneMore}
use Rattle.binding_kinds.specs.declared.fault.ModelFault.{ModelFault}
use Rattle.binding_kinds.specs.declared.fault.ModelFault.TheVariants as faults
use Rattle.binding_kinds.specs.declared.scope.Binder.{Binder}
use Rattle.binding_kinds.specs.declared.scope.Binder.TheVariants as binders
use Rattle.binding_kinds.specs.declared.scope.Found.{Found}
use Rattle.binding_kinds.specs.Value.{Naming}
use Rattle.binding_kinds.specs.Kinds.{found}
use Rattle.binding_kinds.specs.Fits.{IsValue}
use Rattle.binding_kinds.specs.Meanings.{parameter_of}
use Rattle.binding_kinds.specs.Senses.{Sense, sense_of, sense_of_binder, with_arity, count_of}
use Rattle.binding_graph.specs.Usages.{Usage, usage_seen}
use Rattle.binding_laws.specs.ItemLaws.{Scope}

-- the name stands for a value
pub record IsNamed (names : List Naming) (x : List ℕ) : Type 0 where
  pub now : Found
  pub there : found names x ≡ Some now
  pub value : IsValue now.binder

-- the name stands for a function of so many parameters
pub record IsApplied (s : Scope) (count : ℕ) (x : List ℕ) : Type 0 where
  pub now : Found
  pub there : found s.names x ≡ Some now
  pub at : ℕ
  pub binder : now.binder ≡ binders.Applicable at
  pub sense : Sense
  pub has_sense : slice_get s.senses at ≡ Some sense
  pub known : sense_of s.senses count (found s.names x) ≡ Ok sense
  pub usage : Usage
  pub has_usage : slice_get s.usages at ≡ Some usage
  pub many : usage.arity ≡ count

abbrev mutual
  -- each name of an expression that sees these parameters stands for something of its sort
  pub HasNames : Scope → List (List ℕ) → Term → Type 0
  HasNames s ps (Atom x) = parameter_of (reverse ps) x ≡ None → IsNamed s.names x
  HasNames s ps AllEvents = Unit {0}
  HasNames s ps EmptyRelation = Unit {0}
  HasNames s ps EmptySet = Unit {0}
  HasNames s ps (Join op a b) = HasNames s ps a × HasNames s ps b
  HasNames s ps (Mark op a) = HasNames s ps a
  HasNames s ps (Not a) = HasNames s ps a
  HasNames s ps (On a) = HasNames s ps a
  HasNames s ps (Apply x ts) =
      (parameter_of (reverse ps) x ≡ None) × IsApplied s (count_of ts) x × HaveNames s ps ts

  pub HaveNames : Scope → List (List ℕ) → Terms → Type 0
  HaveNames s ps NoTerm = Unit {0}
  HaveNames s ps (OneMore a others) = HasNames s ps a × HaveNames s ps others

-- ---- functions that are applied

-- what a name that is applied stands for
record IsSense (ss : List Sense) (n : ℕ) (o : Option Found) (a : Sense) : Type 0 where
  pub now : Found
  pub there : o ≡ Some now
  pub at : ℕ
  pub binder : now.binder ≡ binders.Applicable at
  pub has : slice_get ss at ≡ Some a
  pub many : a.arity ≡ n

abbrev sense_in : Sense → Result Sense ModelFault → Sense
sense_in s (Ok a) = a
sense_in s (Err k) = s

arity_sense : (ss : List Sense) (n g : ℕ) (o : Option Sense) (a : Sense) → slice_get ss g ≡ o
    → with_arity n o ≡ Ok a → (slice_get ss g ≡ Some a) × (a.arity ≡ n)
arity_sense ss n g None a is e = absurd (let f : Err faults.Arity ≡ Ok a = e in cc)
arity_sense ss n g (Some b) a is e = at_test (nat_eq b.arity n) refl e
  where
    at_test : (t : Bool) → nat_eq b.arity n ≡ t → (if t then Ok b else Err faults.Arity) ≡ Ok a
        → (slice_get ss g ≡ Some a) × (a.arity ≡ n)
    at_test true t h =
        let one : b ≡ a = ap (sense_in b) h in
        let many : b.arity ≡ n = grind (arith, nat_tests, t) in
        (is ∙ ap (λ (c : Sense). Some c) one, ap (λ (c : Sense). c.arity) (sym one) ∙ many)
    at_test false t h = absurd (let f : Err faults.Arity ≡ Ok a = h in cc)

binder_sense : (ss : List Sense) (n : ℕ) (f : Found) (b : Binder) (a : Sense) → f.binder ≡ b
    → sense_of_binder ss n b ≡ Ok a → IsSense ss n (Some f) a
binder_sense ss n f (binders.Predefined p) a is e = cc
binder_sense ss n f (binders.Bound i) a is e = cc
binder_sense ss n f (binders.Applicable g) a is e =
    let both = arity_sense ss n g (slice_get ss g) a refl e in
    record { now = f; there = refl; at = g; binder = is; has = both.0; many = both.1 }

sense_found : (ss : List Sense) (n : ℕ) (o : Option Found) (a : Sense) → sense_of ss n o ≡ Ok a
    → IsSense ss n o a
sense_found ss n None a e = cc
sense_found ss n (Some f) a e = binder_sense ss n f f.binder a refl e

-- a list that has the same values at the index
same_at : {X Y Z : Type 0} (f : X → Z) (g : Y → Z) (xs : List X) (ys : List Y) (k : ℕ) (y : Y)
    → map f xs ≡ map g ys → slice_get ys k ≡ Some y
    → (x : X) × (slice_get xs k ≡ Some x) × (f x ≡ g y)
same_at f g [] [] k y e h = absurd (none-some y h)
same_at f g [] (z ∷ ys) k y e h = cc
same_at f g (x ∷ xs) [] k y e h = absurd (none-some y h)
same_at f g (x ∷ xs) (z ∷ ys) zero y e h =
    let first : f x ≡ g z = cc in
    let is : z ≡ y = cc in
    (x, refl, first ∙ ap g is)
same_at f g (x ∷ xs) (z ∷ ys) (suc k) y e h =
    let rest : map f xs ≡ map g ys = cc in
    same_at f g xs ys k y rest h

pub applied_by : (s : Scope) (n : ℕ) (x : List ℕ) (a : Sense)
    → map (λ (u : Usage). u.arity) s.usages ≡ map (λ (b : Sense). b.arity) s.senses
    → sense_of s.senses n (found s.names x) ≡ Ok a → IsApplied s n x
applied_by s n x a counts e =
    let is = sense_found s.senses n (found s.names x) a e in
    let at = same_at (λ (u : Usage). u.arity) (λ (b : Sense). b.arity) s.usages s.senses is.at a counts is.has in
    record { now = is.now; there = is.there; at = is.at; binder = is.binder; sense = a; has_sense = is.has; known = e; usage = at.0; has_usage = at.1; many = at.2 ∙ is.many }

pub map_at : {X Y : Type 0} (f : X → Y) (xs : List X) (k : ℕ) (x : X) → slice_get xs k ≡ Some x
    → slice_get (map f xs) k ≡ Some (f x)
map_at f [] k x e = absurd (none-some x e)
map_at f (z ∷ xs) zero x e = let is : z ≡ x = cc in ap (λ y. Some (f y)) is
map_at f (z ∷ xs) (suc k) x e = map_at f xs k x e

-- what is seen of the function that is applied
pub seen_usage : (s : Scope) (n : ℕ) (ps : List (List ℕ)) (x : List ℕ)
    → parameter_of (reverse ps) x ≡ None → (h : IsApplied s n x)
    → usage_seen s.usages s.names ps n x ≡ Some h.usage
seen_usage s n ps x none h =
    let there = h.there in
    let binder = h.binder in
    let arity : slice_get (map (λ (u : Usage). u.arity) s.usages) h.at ≡ Some n = map_at (λ (u : Usage). u.arity) s.usages h.at h.usage h.has_usage ∙ ap (λ (k : ℕ). Some k) h.many in
    let equal : nat_eq n n ≡ true = grind (arith, nat_tests) in
    rw none (rw there (rw binder (rw arity (rw equal h.has_usage))))
