-- The names of the items that two models share, and what they stand for in both.
use Rattle.std.proofs.Common.{ℕ, ◌≡◌, ◌↔◌, ◌+◌, ◌-◌, ◌<◌, ◌≤◌, ◌⊎◌, List, [], ◌∷◌, ◌++◌, length, map, reverse, Bool, true, false, Option, Some, None, Contains, refl, sym, ap, ◌∙◌, subst, inl, inr, arith}
use Rattle.std.specs.Prelude.{bytes_eq, nat_le, slice_get, if◌then◌else◌}
use Rattle.std.specs.List.{AllByRecursion as Each}
use Rattle.std.proofs.lemmas.Bool.Decides.{nat_tests}
use Rattle.std.proofs.lemmas.Option.{none-some, same_Some}
use Rattle.text_values.specs.ModelValue.{Term, Terms, Atom, AllEvents, EmptyRelation, EmptySet, Join, Mark, Not, On, Apply, NoTerm, OneMore}
use Rattle.binding_kinds.specs.declared.scope.Binder.{Binder}
use Rattle.binding_kinds.specs.declared.scope.Binder.TheVariants as binders
use Rattle.binding_kinds.specs.declared.scope.Found.{Found}
use Rattle.binding_kinds.specs.declared.scope.Input.{Input}
use Rattle.binding_kinds.specs.declared.scope.Used.{Used}
use Rattle.binding_kinds.specs.Formula.{Formula, Value, Parameter, Everything, NoPairs, NoEvents, Joined, Marked, Complement, Identity}
use Rattle.binding_kinds.specs.Functions.{sense_seen}
use Rattle.binding_kinds.specs.declared.kinds.Kind.{Kind}
use Rattle.binding_kinds.specs.Kinds.{found}
use Rattle.binding_kinds.specs.Fits.{IsValue}
use Rattle.binding_kinds.specs.Meanings.{parameter_of}
use Rattle.binding_kinds.specs.Senses.{Sense, count_of}
use Rattle.binding_kinds.specs.Value.{Naming}
use Rattle.binding_graph.specs.Usages.{Usage, usage_seen, values_of}
use Rattle.bench_slots.proofs.Lists.{each_to}
use Rattle.binding_laws.specs.ItemLaws.{Scope, Pairing, IsPairing, IsSameBinder, IsSameKind, IsSameName, IsSameUnless, IsSameFormula, IsSameSense, IsSameFunction, AreSameUsed, HasSameNames, HaveSameNames}
use Rattle.binding_laws.proofs.Before.{get_kept}
use Rattle.binding_laws.proofs.Told.{found_here}
use Rattle.binding_laws.proofs.Lists.{contains_later, contains_one_of, IsSamePair}
use Rattle.binding_laws.proofs.Named.{IsApplied, seen_usage}
use Rattle.evaluation_laws.proofs.Kept.{Reach, IsKept, IsNameKept, IsFunctionKept, HasKeptNames, HaveKeptNames}

-- ---- names of both models

pub record Shared : Type 0 where
  pub name : List ℕ
  pub left : Found
  pub right : Found

abbrev pub first : List Shared → List ℕ → Option Shared
first [] x = None
first (c ∷ cs) x = if bytes_eq c.name x then Some c else first cs x

-- of the names that are used, the latest of a spelling is the one that is found
abbrev pub Looks : Reach → List Naming → (Shared → Found) → List Shared → Type 0
Looks u names side cs =
    (x : List ℕ) (f : Found) → found names x ≡ Some f → IsKept u f.binder
    → (c : Shared) × (first cs x ≡ Some c) × (side c ≡ f)

-- a name that is not used
pub look_past : (u : Reach) (side : Shared → Found) (names : List Naming) (cs : List Shared)
    (n : Naming) → (IsKept u n.binder → ⊥) → Looks u names side cs → Looks u (n ∷ names) side cs
look_past u side names cs n unused look x f is kept = at_test (bytes_eq n.name x) is
  where
    at_test : (t : Bool) → (if t then Some (found_here names n) else found names x) ≡ Some f
        → (c : Shared) × (first cs x ≡ Some c) × (side c ≡ f)
    at_test true e =
        absurd (unused (subst (λ (g : Found). IsKept u g.binder) (sym (same_Some _ _ e)) kept))
    at_test false e = look x f e kept

-- one that is
pub look_one : (u : Reach) (side : Shared → Found) (names : List Naming) (cs : List Shared)
    (n : Naming) (c : Shared) → c.name ≡ n.name → side c ≡ found_here names n
    → Looks u names side cs → Looks u (n ∷ names) side (c ∷ cs)
look_one u side names cs n c name here look x f is kept =
    at_test (bytes_eq n.name x) (ap (λ (l : List ℕ). bytes_eq l x) name) is
  where
    at_test : (t : Bool) → bytes_eq c.name x ≡ t
        → (if t then Some (found_here names n) else found names x) ≡ Some f
        → (d : Shared) × (first (c ∷ cs) x ≡ Some d) × (side d ≡ f)
    at_test true t e = (c, rw t refl, here ∙ same_Some _ _ e)
    at_test false t e = let old = look x f e kept in (old.0, rw t old.1, old.2)

-- ---- what stands for what

abbrev pub slots_of : List Shared → List (ℕ × ℕ)
slots_of cs = map (λ c. (c.left.slot, c.right.slot)) cs

abbrev pub with_inputs : Binder → Binder → List (Input × Input) → List (Input × Input)
with_inputs (binders.Predefined p) b is = is
with_inputs (binders.Bound i) (binders.Predefined q) is = is
with_inputs (binders.Bound i) (binders.Bound j) is = (i, j) ∷ is
with_inputs (binders.Bound i) (binders.Applicable g) is = is
with_inputs (binders.Applicable f) b is = is

abbrev pub inputs_of : List Shared → List (Input × Input)
inputs_of [] = []
inputs_of (c ∷ cs) = with_inputs c.left.binder c.right.binder (inputs_of cs)

abbrev pub pairing_of : List Shared → Pairing
pairing_of cs = record { slots = slots_of cs; inputs = inputs_of cs; kinds = true }

-- the functions are the same to those who apply them
pub record IsSameApplied (p : Pairing) (s o : Scope) (f g : ℕ) : Type 0 where
  pub sense : Sense
  pub other : Sense
  pub has_sense : slice_get s.senses f ≡ Some sense
  pub has_other : slice_get o.senses g ≡ Some other
  pub same : IsSameSense p sense other
  pub usage : Usage
  pub more : Usage
  pub has_usage : slice_get s.usages f ≡ Some usage
  pub has_more : slice_get o.usages g ≡ Some more
  pub used : AreSameUsed p usage.values more.values

abbrev pub IsMatched : Pairing → Scope → Scope → Binder → Binder → Type 0
IsMatched p s o (binders.Predefined x) (binders.Predefined y) = x ≡ y
IsMatched p s o (binders.Bound i) (binders.Bound j) = Contains p.inputs (i, j)
IsMatched p s o (binders.Applicable f) (binders.Applicable g) = IsSameApplied p s o f g
IsMatched p s o _ _ = ⊥

pub record IsCommon (p : Pairing) (s o : Scope) (c : Shared) : Type 0 where
  pub slots : Contains p.slots (c.left.slot, c.right.slot)
  pub kinds : c.left.kind ≡ c.right.kind
  pub matched : IsMatched p s o c.left.binder c.right.binder

-- the slots fall, and are below these
abbrev pub IsFalling : List Shared → ℕ → ℕ → Type 0
IsFalling [] n m = Unit {0}
IsFalling (c ∷ cs) n m =
    (c.left.slot < n) × (c.right.slot < m) × IsFalling cs c.left.slot c.right.slot

pub record AreShared (u v : Reach) (s o : Scope) (cs : List Shared) : Type 0 where
  pub left : Looks u s.names (λ c. c.left) cs
  pub right : Looks v o.names (λ c. c.right) cs
  pub falling : IsFalling cs (length s.names) (length o.names)
  pub common : Each (IsCommon (pairing_of cs) s o) cs

-- ---- more stands for more

pub record IsWithin (p q : Pairing) : Type 0 where
  pub slots : (a b : ℕ) → Contains p.slots (a, b) → Contains q.slots (a, b)
  pub inputs : (i j : Input) → Contains p.inputs (i, j) → Contains q.inputs (i, j)
  pub kinds : q.kinds ≡ p.kinds

abbrev pub IsFront : {X : Type 0} → List X → List X → Type 0
IsFront {X} xs ys = (n : ℕ) (x : X) → slice_get xs n ≡ Some x → slice_get ys n ≡ Some x

pub front_append : {X : Type 0} (xs ys : List X) → IsFront xs (xs ++ ys)
front_append xs ys n x e = get_kept xs ys n x e

module _ (p q : Pairing) (w : IsWithin p q) where
  binder_within : (a b : Binder) → IsSameBinder p a b → IsSameBinder q a b
  binder_within (binders.Predefined x) (binders.Predefined y) h = h
  binder_within (binders.Predefined x) (binders.Bound j) h = absurd h
  binder_within (binders.Predefined x) (binders.Applicable j) h = absurd h
  binder_within (binders.Bound i) (binders.Predefined y) h = absurd h
  binder_within (binders.Bound i) (binders.Bound j) h = w.inputs i j h
  binder_within (binders.Bound i) (binders.Applicable j) h = absurd h
  binder_within (binders.Applicable i) (binders.Predefined y) h = absurd h
  binder_within (binders.Applicable i) (binders.Bound j) h = absurd h
  binder_within (binders.Applicable i) (binders.Applicable j) h = h

  kind_within : (k l : Kind) → IsSameKind p.kinds k l → IsSameKind q.kinds k l
  kind_within k l h = subst (λ (b : Bool). IsSameKind b k l) (sym w.kinds) h

  formula_within : (f g : Formula) → IsSameFormula p f g → IsSameFormula q f g
  formula_within (Value f) (Value g) h = (
    w.slots f.slot g.slot h.0,
    kind_within f.kind g.kind h.1,
    binder_within f.binder g.binder h.2,
  )
  formula_within (Parameter i) (Parameter j) h = h
  formula_within Everything Everything h = tt
  formula_within NoPairs NoPairs h = tt
  formula_within NoEvents NoEvents h = tt
  formula_within (Joined op a b) (Joined oq c d) h =
      (h.0, formula_within a c h.1, formula_within b d h.2)
  formula_within (Marked op a) (Marked oq c) h = (h.0, formula_within a c h.1)
  formula_within (Complement a) (Complement c) h = formula_within a c h
  formula_within (Identity a) (Identity c) h = formula_within a c h
  formula_within f g h = absurd h

  pub used_within : (us ws : List Used) → AreSameUsed p us ws → AreSameUsed q us ws
  used_within [] [] h = tt
  used_within [] (x ∷ ws) h = absurd h
  used_within (u ∷ us) [] h = absurd h
  used_within (u ∷ us) (x ∷ ws) h =
      ((w.slots u.slot x.slot h.0.0, w.inputs u.input x.input h.0.1), used_within us ws h.1)

  pub sense_within : (a b : Sense) → IsSameSense p a b → IsSameSense q a b
  sense_within a b h =
      record {
        arity = h.arity;
        kind_with = λ counts. h.kind_with (sym w.kinds ∙ counts);
        formula = formula_within a.formula b.formula h.formula;
      }

  -- functions stay at their numbers
  module _ (s o t r : Scope) (left : IsFront s.senses t.senses) (right : IsFront o.senses r.senses)
      (uses : IsFront s.usages t.usages) (others : IsFront o.usages r.usages) where
    matched_within : (a b : Binder) → IsMatched p s o a b → IsMatched q t r a b
    matched_within (binders.Predefined x) (binders.Predefined y) h = h
    matched_within (binders.Predefined x) (binders.Bound j) h = absurd h
    matched_within (binders.Predefined x) (binders.Applicable j) h = absurd h
    matched_within (binders.Bound i) (binders.Predefined y) h = absurd h
    matched_within (binders.Bound i) (binders.Bound j) h = w.inputs i j h
    matched_within (binders.Bound i) (binders.Applicable j) h = absurd h
    matched_within (binders.Applicable i) (binders.Predefined y) h = absurd h
    matched_within (binders.Applicable i) (binders.Bound j) h = absurd h
    matched_within (binders.Applicable f) (binders.Applicable g) h = record {
      sense = h.sense;
      other = h.other;
      has_sense = left f h.sense h.has_sense;
      has_other = right g h.other h.has_other;
      same = sense_within h.sense h.other h.same;
      usage = h.usage;
      more = h.more;
      has_usage = uses f h.usage h.has_usage;
      has_more = others g h.more h.has_more;
      used = used_within h.usage.values h.more.values h.used;
    }

    pub all_within : (cs : List Shared) → Each (IsCommon p s o) cs → Each (IsCommon q t r) cs
    all_within cs h =
        each_to (IsCommon p s o) (IsCommon q t r)
        (λ c k. record {
          slots = w.slots c.left.slot c.right.slot k.slots;
          kinds = k.kinds;
          matched = matched_within c.left.binder c.right.binder k.matched;
        }) cs h

pub within_self : (p : Pairing) → IsWithin p p
within_self p = record { slots = λ a b h. h; inputs = λ i j h. h; kinds = refl }

inputs_later : (a b : Binder) (is : List (Input × Input)) (x : Input × Input) → Contains is x
    → Contains (with_inputs a b is) x
inputs_later (binders.Predefined p) b is x h = h
inputs_later (binders.Bound i) (binders.Predefined q) is x h = h
inputs_later (binders.Bound i) (binders.Bound j) is x h = contains_later (i, j) is x h
inputs_later (binders.Bound i) (binders.Applicable g) is x h = h
inputs_later (binders.Applicable f) b is x h = h

pub within_one : (c : Shared) (cs : List Shared) → IsWithin (pairing_of cs) (pairing_of (c ∷ cs))
within_one c cs = record {
  slots = λ a b h. contains_later (c.left.slot, c.right.slot) (slots_of cs) (a, b) h;
  inputs = λ i j h. inputs_later c.left.binder c.right.binder (inputs_of cs) (i, j) h;
  kinds = refl;
}

-- ---- slots

pub falling_more : (cs : List Shared) (n m k l : ℕ) → IsFalling cs n m → n ≤ k → m ≤ l
    → IsFalling cs k l
falling_more [] n m k l h a b = tt
falling_more (c ∷ cs) n m k l h a b = (omega (arith, h.0, a), omega (arith, h.1, b), h.2)

pub falling_below : (cs : List Shared) (n m a b : ℕ) → IsFalling cs n m
    → Contains (slots_of cs) (a, b) → (a < n) × (b < m)
falling_below [] n m a b h c = absurd (omega (arith, c.1))
falling_below (d ∷ cs) n m a b h c =
    at_one (λ g. falling_below cs d.left.slot d.right.slot a b h.2 g) (contains_one_of
    (d.left.slot, d.right.slot) (slots_of cs) (a, b) c)
  where
    at_one : (Contains (slots_of cs) (a, b) → (a < d.left.slot) × (b < d.right.slot))
        → IsSamePair (d.left.slot, d.right.slot) (a, b) ⊎ Contains (slots_of cs) (a, b)
        → (a < n) × (b < m)
    at_one rest (inl e) =
        let x : d.left.slot ≡ a = ap (λ (y : ℕ × ℕ). y.0) e in
        let z : d.right.slot ≡ b = ap (λ (y : ℕ × ℕ). y.1) e in
        (omega (arith, x, h.0), omega (arith, z, h.1))
    at_one rest (inr g) =
        let both = rest g in (omega (arith, both.0, h.0), omega (arith, both.1, h.1))

pub falling_one : (cs : List Shared) (n m : ℕ) → IsFalling cs n m → (a b c d : ℕ)
    → Contains (slots_of cs) (a, b) → Contains (slots_of cs) (c, d) → (a ≡ c) ↔ (b ≡ d)
falling_one [] n m h a b c d x y = absurd (omega (arith, x.1))
falling_one (e ∷ cs) n m h a b c d x y =
    at_both (λ i j. falling_one cs e.left.slot e.right.slot h.2 a b c d i j)
    (contains_one_of (e.left.slot, e.right.slot) (slots_of cs) (a, b) x)
    (contains_one_of (e.left.slot, e.right.slot) (slots_of cs) (c, d) y)
  where
    at_both : (Contains (slots_of cs) (a, b) → Contains (slots_of cs) (c, d) → (a ≡ c) ↔ (b ≡ d))
        → IsSamePair (e.left.slot, e.right.slot) (a, b) ⊎ Contains (slots_of cs) (a, b)
        → IsSamePair (e.left.slot, e.right.slot) (c, d) ⊎ Contains (slots_of cs) (c, d)
        → (a ≡ c) ↔ (b ≡ d)
    at_both rest (inl i) (inl j) =
        ((λ k. ap (λ (z : ℕ × ℕ). z.1) (sym i ∙ j)), (λ k. ap (λ (z : ℕ × ℕ). z.0) (sym i ∙ j)))
    at_both rest (inl i) (inr j) =
        let l : e.left.slot ≡ a = ap (λ (z : ℕ × ℕ). z.0) i in
        let r : e.right.slot ≡ b = ap (λ (z : ℕ × ℕ). z.1) i in
        let low = falling_below cs e.left.slot e.right.slot c d h.2 j in
        ((λ k. absurd (omega (arith, k, l, low.0))), (λ k. absurd (omega (arith, k, r, low.1))))
    at_both rest (inr i) (inl j) =
        let l : e.left.slot ≡ c = ap (λ (z : ℕ × ℕ). z.0) j in
        let r : e.right.slot ≡ d = ap (λ (z : ℕ × ℕ). z.1) j in
        let low = falling_below cs e.left.slot e.right.slot a b h.2 i in
        ((λ k. absurd (omega (arith, k, l, low.0))), (λ k. absurd (omega (arith, k, r, low.1))))
    at_both rest (inr i) (inr j) = rest i j

-- names that are below, or behind those of an item at the same positions
abbrev pub IsPlaced : ℕ → ℕ → ℕ → ℕ → Type 0
IsPlaced n m a b = ((a < n) × (b < m)) ⊎ ((d : ℕ) × (a ≡ n + d) × (b ≡ m + d))

pub placed_pairing : (cs : List Shared) (n m k l : ℕ) → IsFalling cs k l
    → ((a b : ℕ) → Contains (slots_of cs) (a, b) → IsPlaced n m a b) → IsPairing (pairing_of cs) n m
placed_pairing cs n m k l falling placed = record {
  one = falling_one cs k l falling;
  own = λ a b h. own a b (placed a b h);
  position = λ a b h t. position a b t (placed a b h);
}
  where
    own : (a b : ℕ) → IsPlaced n m a b → nat_le n a ≡ nat_le m b
    own a b (inl h) =
        let x : nat_le n a ≡ false = grind (arith, nat_tests, h.0) in
        let y : nat_le m b ≡ false = grind (arith, nat_tests, h.1) in x ∙ sym y
    own a b (inr h) =
        let x : nat_le n a ≡ true = grind (arith, nat_tests, h.1) in
        let y : nat_le m b ≡ true = grind (arith, nat_tests, h.2) in x ∙ sym y

    position : (a b : ℕ) → nat_le n a ≡ true → IsPlaced n m a b → a - n ≡ b - m
    position a b t (inl h) =
        absurd (let x : nat_le n a ≡ false = grind (arith, nat_tests, h.0) in
        let y : true ≡ false = sym t ∙ x in cc)
    position a b t (inr h) = omega (arith, h.1, h.2)

-- ---- names that stand for the same

module _ (u v : Reach) (s o : Scope) (cs : List Shared) (shared : AreShared u v s o cs) where
  common_at : (ds : List Shared) (x : List ℕ) (c : Shared) → Each (IsCommon (pairing_of cs) s o) ds
      → first ds x ≡ Some c → IsCommon (pairing_of cs) s o c
  common_at [] x c all e = absurd (none-some c e)
  common_at (d ∷ ds) x c all e = at_test (λ h. common_at ds x c all.1 h) (bytes_eq d.name x) e
    where
      at_test : (first ds x ≡ Some c → IsCommon (pairing_of cs) s o c) → (t : Bool)
          → (if t then Some d else first ds x) ≡ Some c → IsCommon (pairing_of cs) s o c
      at_test rest true h = subst (IsCommon (pairing_of cs) s o) (same_Some _ _ h) all.0
      at_test rest false h = rest h

  -- what one name is in both
  pub record IsBoth (f g : Found) : Type 0 where
    pub slots : Contains (slots_of cs) (f.slot, g.slot)
    pub kinds : f.kind ≡ g.kind
    pub matched : IsMatched (pairing_of cs) s o f.binder g.binder

  both_found : (x : List ℕ) (f g : Found) → found s.names x ≡ Some f → IsKept u f.binder
      → found o.names x ≡ Some g → IsKept v g.binder → IsBoth f g
  both_found x f g is kept at there =
      let l = shared.left x f is kept in
      let r = shared.right x g at there in
      let one : l.0 ≡ r.0 = same_Some _ _ (sym l.1 ∙ r.1) in
      let common = common_at cs x l.0 shared.common l.1 in
      let right : l.0.right ≡ g = ap (λ (c : Shared). c.right) one ∙ r.2 in
      let here : IsBoth l.0.left l.0.right = record { slots = common.slots; kinds = common.kinds; matched = common.matched } in
      subst (λ (y : Found). IsBoth y g) l.2 (subst (λ (y : Found). IsBoth l.0.left y) right here)

  value_same : (a b : Binder) → IsValue a → IsMatched (pairing_of cs) s o a b
      → IsSameBinder (pairing_of cs) a b
  value_same (binders.Predefined x) (binders.Predefined y) v h = h
  value_same (binders.Predefined x) (binders.Bound j) v h = absurd h
  value_same (binders.Predefined x) (binders.Applicable j) v h = absurd h
  value_same (binders.Bound i) (binders.Predefined y) v h = absurd h
  value_same (binders.Bound i) (binders.Bound j) v h = h
  value_same (binders.Bound i) (binders.Applicable j) v h = absurd h
  value_same (binders.Applicable i) b v h = absurd v

  module _ (ps : List (List ℕ)) where
    atom_same : (x : List ℕ) (q : Option ℕ) → (q ≡ None → IsNameKept u s.names x)
        → (q ≡ None → IsNameKept v o.names x)
        → IsSameUnless (pairing_of cs) q (found s.names x) (found o.names x)
    atom_same x (Some i) l r = tt
    atom_same x None l r =
        let a = l refl in
        let b = r refl in
        let both = both_found x a.now b.now a.there a.kept b.there b.kept in
        subst (λ (y : Option Found). IsSameName (pairing_of cs) y (found o.names x)) (sym a.there)
        (subst (λ (y : Option Found). IsSameName (pairing_of cs) (Some a.now) y) (sym b.there)
        (both.slots, both.kinds, value_same a.now.binder b.now.binder a.value both.matched))

    sense_is : (r : Scope) (n : ℕ) (x : List ℕ) → parameter_of (reverse ps) x ≡ None
        → (h : IsApplied r n x) → sense_seen r.senses r.names ps n x ≡ Some h.sense
    sense_is r n x none h = let known = h.known in rw (none, known) refl

    record IsBothApplied (n : ℕ) (x : List ℕ) : Type 0 where
      pub sense : IsSameFunction (pairing_of cs) (sense_seen s.senses s.names ps n x)
          (sense_seen o.senses o.names ps n x)
      pub used : AreSameUsed (pairing_of cs) (values_of (usage_seen s.usages s.names ps n x))
          (values_of (usage_seen o.usages o.names ps n x))

    applied_same : (n : ℕ) (x : List ℕ) → parameter_of (reverse ps) x ≡ None
        → IsFunctionKept u s n x → IsFunctionKept v o n x → IsBothApplied n x
    applied_same n x none l r =
        let a = l.applied in
        let b = r.applied in
        let both = both_found x a.now b.now a.there (subst (IsKept u) (sym a.binder) l.kept) b.there (subst (IsKept v) (sym b.binder) r.kept) in
        let half : IsMatched (pairing_of cs) s o (binders.Applicable a.at) b.now.binder = subst (λ (y : Binder). IsMatched (pairing_of cs) s o y b.now.binder) a.binder both.matched in
        let m : IsSameApplied (pairing_of cs) s o a.at b.at = subst (λ (y : Binder). IsMatched (pairing_of cs) s o (binders.Applicable a.at) y) b.binder half in
        let one : m.sense ≡ a.sense = same_Some _ _ (sym m.has_sense ∙ a.has_sense) in
        let two : m.other ≡ b.sense = same_Some _ _ (sym m.has_other ∙ b.has_sense) in
        let three : m.usage ≡ a.usage = same_Some _ _ (sym m.has_usage ∙ a.has_usage) in
        let four : m.more ≡ b.usage = same_Some _ _ (sym m.has_more ∙ b.has_usage) in
        let same : IsSameSense (pairing_of cs) a.sense b.sense = subst (λ (y : Sense). IsSameSense (pairing_of cs) y b.sense) one (subst (λ (y : Sense). IsSameSense (pairing_of cs) m.sense y) two m.same) in
        let used : AreSameUsed (pairing_of cs) a.usage.values b.usage.values = subst (λ (y : Usage). AreSameUsed (pairing_of cs) y.values b.usage.values) three (subst (λ (y : Usage). AreSameUsed (pairing_of cs) m.usage.values y.values) four m.used) in
        record {
          sense =
              subst
              (λ (y : Option Sense).
              IsSameFunction (pairing_of cs) y (sense_seen o.senses o.names ps n x))
              (sym (sense_is s n x none a))
              (subst (λ (y : Option Sense). IsSameFunction (pairing_of cs) (Some a.sense) y)
              (sym (sense_is o n x none b)) same);
          used =
              subst
              (λ (y : Option Usage). AreSameUsed (pairing_of cs) (values_of y)
              (values_of (usage_seen o.usages o.names ps n x)))
              (sym (seen_usage s n ps x none a))
              (subst
              (λ (y : Option Usage). AreSameUsed (pairing_of cs) a.usage.values (values_of y))
              (sym (seen_usage o n ps x none b)) used);
        }

    mutual
      pub term_same : (t : Term) → HasKeptNames u s ps t → HasKeptNames v o ps t
          → HasSameNames (pairing_of cs) s o ps t
      term_same (Atom x) l r = atom_same x (parameter_of (reverse ps) x) l r
      term_same AllEvents l r = tt
      term_same EmptyRelation l r = tt
      term_same EmptySet l r = tt
      term_same (Join op a b) l r = (term_same a l.0 r.0, term_same b l.1 r.1)
      term_same (Mark op a) l r = term_same a l r
      term_same (Not a) l r = term_same a l r
      term_same (On a) l r = term_same a l r
      term_same (Apply x ts) l r =
          let both = applied_same (count_of ts) x l.0 l.1 r.1 in
          (both.sense, both.used, terms_same ts l.2 r.2)

      pub terms_same : (ts : Terms) → HaveKeptNames u s ps ts → HaveKeptNames v o ps ts
          → HaveSameNames (pairing_of cs) s o ps ts
      terms_same NoTerm l r = tt
      terms_same (OneMore a others) l r = (term_same a l.0 r.0, terms_same others l.1 r.1)
