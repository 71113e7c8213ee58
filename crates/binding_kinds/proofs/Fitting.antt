-- Expressions without fault fit.
use Rattle.std.proofs.Common.{ℕ, ◌≡◌, List, [], ◌∷◌, length, Bool, true, false, IsTrue, Option, Some, None, refl, rules}
use Rattle.std.specs.Prelude.{if◌then◌else◌, bytes_eq}
use Rattle.text_values.specs.declared.model.Infix.{Infix}
use Rattle.text_values.specs.declared.model.Infix.TheVariants.{Union, Sequence, Difference, Intersection, Product}
use Rattle.binding_kinds.specs.declared.fault.ModelFault.{ModelFault}
use Rattle.binding_kinds.specs.declared.fault.ModelFault.TheVariants as faults
use Rattle.binding_kinds.specs.declared.kinds.Kind.{Kind}
use Rattle.binding_kinds.specs.declared.kinds.Kind.TheVariants.{OfSet, OfRelation, OfAny}
use Rattle.binding_kinds.specs.declared.scope.Found.{Found}
use Rattle.binding_kinds.specs.declared.scope.Binder.{Binder}
use Rattle.binding_kinds.specs.declared.scope.Binder.TheVariants as binders
use Rattle.binding_kinds.specs.Value.{Naming}
use Rattle.binding_kinds.specs.Kinds.{found, takes, is_relation, is_set_kind, joined_kind, marked, narrowed}
use Rattle.binding_kinds.specs.Verdict.{or_else, unless, of_use, of_name}
use Rattle.binding_kinds.specs.Fits.{IsKnown, IsValue, IsKnownValue, kind_of, IsTyped, IsKnownUnlessFunction, AreKnown}
use Rattle.binding_kinds.specs.Formula.{Formula, Value, Parameter, Everything, NoPairs, NoEvents, Joined, Marked, Complement, Identity}

-- where there is neither fault
pub none_first : (o q : Option ModelFault) → or_else o q ≡ None → o ≡ None
none_first None q e = refl
none_first (Some k) q e = e

pub none_later : (o q : Option ModelFault) → or_else o q ≡ None → q ≡ None
none_later None q e = e
none_later (Some k) q e = absurd (let f : Some k ≡ None = e in cc)

pub holds : (b : Bool) (k : ModelFault) → unless b k ≡ None → IsTrue b
holds true k e = search rules
holds false k e = absurd (let f : Some k ≡ None = e in cc)

-- a name is known among known names, unless it is a function
pub known_found : (names : List Naming) (x : List ℕ) (f : Found) → AreKnown names
    → found names x ≡ Some f → IsKnownUnlessFunction f.binder f.kind
known_found [] x f h e = absurd (let g : None ≡ Some f = e in cc)
known_found (n ∷ ns) x f h e = at_test (bytes_eq n.name x) (known_found ns x f h.1) e
  where
    at_test : (b : Bool) → (found ns x ≡ Some f → IsKnownUnlessFunction f.binder f.kind)
        → (if b then Some (record { slot = length ns; kind = n.kind; binder = n.binder })
        else found ns x) ≡ Some f → IsKnownUnlessFunction f.binder f.kind
    at_test true rest e =
        let g : Found = record { slot = length ns; kind = n.kind; binder = n.binder } in
        let s : g ≡ f = let same : Some g ≡ Some f = e in cc in
        rw (← s) h.0
    at_test false rest e = rest e

known_use : (b : Binder) (k : Kind) (from : ℕ) (under : Bool) (slot : ℕ) → IsKnownUnlessFunction b k
    → of_use b from under slot ≡ None → IsValue b × IsKnown k
known_use (binders.Predefined p) k from under slot h e = (tt, h)
known_use (binders.Bound i) k from under slot h e = (tt, h)
known_use (binders.Applicable f) k from under slot h e =
    absurd (let g : Some faults.Arity ≡ None = e in cc)

pub known_name : (names : List Naming) (x : List ℕ) (from : ℕ) (under : Bool) (o : Option Found)
    → AreKnown names → found names x ≡ o → of_name from under o ≡ None → IsKnownValue o
known_name names x from under None h is e = absurd (let g : Some faults.Unbound ≡ None = e in cc)
known_name names x from under (Some f) h is e =
    known_use f.binder f.kind from under f.slot (known_found names x f h is) e

joined_known : (op : Infix) (k l : Kind) → IsKnown k → IsKnown l → IsTrue (takes op k l)
    → IsKnown (joined_kind op k l)
joined_known Union OfSet OfSet k l t = tt
joined_known Union OfRelation OfRelation k l t = tt
joined_known Union OfSet OfRelation k l t = cc
joined_known Union OfRelation OfSet k l t = cc
joined_known Union OfAny _ k l t = absurd k
joined_known Union _ OfAny k l t = absurd l
joined_known Intersection OfSet OfSet k l t = tt
joined_known Intersection OfRelation OfRelation k l t = tt
joined_known Intersection OfSet OfRelation k l t = cc
joined_known Intersection OfRelation OfSet k l t = cc
joined_known Intersection OfAny _ k l t = absurd k
joined_known Intersection _ OfAny k l t = absurd l
joined_known Difference OfSet OfSet k l t = tt
joined_known Difference OfRelation OfRelation k l t = tt
joined_known Difference OfSet OfRelation k l t = cc
joined_known Difference OfRelation OfSet k l t = cc
joined_known Difference OfAny _ k l t = absurd k
joined_known Difference _ OfAny k l t = absurd l
joined_known Sequence OfRelation OfRelation k l t = tt
joined_known Sequence OfSet _ k l t = cc
joined_known Sequence OfRelation OfSet k l t = cc
joined_known Sequence OfAny _ k l t = absurd k
joined_known Sequence _ OfAny k l t = absurd l
joined_known Product OfSet OfSet k l t = tt
joined_known Product OfRelation _ k l t = cc
joined_known Product OfSet OfRelation k l t = cc
joined_known Product OfAny _ k l t = absurd k
joined_known Product _ OfAny k l t = absurd l

marked_known : (k : Kind) → IsKnown k → IsTrue (is_relation k) → IsKnown (marked k)
marked_known OfRelation k t = tt
marked_known OfSet k t = cc
marked_known OfAny k t = absurd k

narrowed_known : (k : Kind) → IsKnown k → IsTrue (is_set_kind k) → IsKnown (narrowed k)
narrowed_known OfSet k t = tt
narrowed_known OfRelation k t = cc
narrowed_known OfAny k t = absurd k

-- ---- with the functions put in

pub typed_known : (ks : List Kind) (f : Formula) → IsTyped ks f → IsKnown (kind_of ks f)
typed_known ks (Value f) h = h
typed_known ks (Parameter i) h = h
typed_known ks Everything h = tt
typed_known ks NoPairs h = tt
typed_known ks NoEvents h = tt
typed_known ks (Joined op a b) h =
    joined_known op (kind_of ks a) (kind_of ks b) (typed_known ks a h.0) (typed_known ks b h.1) h.2
typed_known ks (Marked op a) h = marked_known (kind_of ks a) (typed_known ks a h.0) h.1
typed_known ks (Complement a) h = typed_known ks a h
typed_known ks (Identity a) h = narrowed_known (kind_of ks a) (typed_known ks a h.0) h.1
