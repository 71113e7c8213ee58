-- The faults of an expression and of an item, each at its index, and the first of them.
use Rattle.std.specs.Prelude.{◌≡◌, ℕ, suc, ◌+◌, ◌<◌, ◌≤◌, ◌⊎◌, List, [], ◌∷◌, ◌++◌, length, reverse, Bool, true, false, ◌||◌, IsTrue, IsFalse, Option, Some, None, Result, Ok, Err}
use Rattle.text_values.specs.ModelValue.{Term, Terms, Atom, AllEvents, EmptyRelation, EmptySet, Join, Mark, Not, On, Apply, NoTerm, OneMore}
use Rattle.binding_kinds.specs.declared.fault.ModelFault.{ModelFault}
use Rattle.binding_kinds.specs.declared.fault.ModelFault.TheVariants as faults
use Rattle.binding_kinds.specs.declared.kinds.Kind.{Kind}
use Rattle.binding_kinds.specs.declared.kinds.Kind.TheVariants.{OfSet, OfRelation, OfAny}
use Rattle.binding_kinds.specs.declared.scope.Found.{Found}
use Rattle.binding_kinds.specs.declared.scope.Binder.{Binder}
use Rattle.binding_kinds.specs.declared.scope.Binder.TheVariants as binders
use Rattle.binding_kinds.specs.Value.{Naming, Bound, BareItem, Group, Check, Mute, Defined}
use Rattle.binding_kinds.specs.Kinds.{found, takes, is_relation, is_set_kind, is_turned, takes_body}
use Rattle.binding_kinds.specs.Meanings.{parameter_of}
use Rattle.binding_kinds.specs.Senses.{Sense, size_with, sense_of, count_of, sizes_in, kind_in, kinds_in, under_of}
use Rattle.binding_kinds.specs.Functions.{sense_of_function}

abbrev mutual
  -- how many names, signs and brackets an expression has: its indexes are those below
  pub width : Term → ℕ
  width (Atom x) = 1
  width AllEvents = 1
  width EmptyRelation = 1
  width EmptySet = 1
  width (Join op a b) = width a + 1 + width b
  width (Mark op a) = width a + 1
  width (Not a) = 1 + width a
  width (On a) = 1 + width a
  width (Apply x arguments) = 1 + widths arguments

  pub widths : Terms → ℕ
  widths NoTerm = 0
  widths (OneMore a others) = width a + widths others

-- A name is recursive where its slot is not below `from`.
abbrev pub IsFaultOfUse : Binder → ℕ → Bool → ℕ → ModelFault → Type 0
IsFaultOfUse (binders.Predefined p) from under slot k =
    (from ≤ slot) × IsTrue under × (k ≡ faults.NotMonotone)
IsFaultOfUse (binders.Bound i) from under slot k =
    (from ≤ slot) × IsTrue under × (k ≡ faults.NotMonotone)
IsFaultOfUse (binders.Applicable f) from under slot k = k ≡ faults.Arity

-- A name that nothing binds, a function without arguments, or a recursive name where it must not
-- stand.
abbrev pub IsFaultOfName : ℕ → Bool → Option Found → ModelFault → Type 0
IsFaultOfName from under None k = k ≡ faults.Unbound
IsFaultOfName from under (Some f) k = IsFaultOfUse f.binder from under f.slot k

-- A name applied that is no function of so many parameters, an application that is too large, or an
-- operator of the body that does not take its operands.
abbrev pub IsFaultOfApplication : Result Sense ModelFault → List ℕ → List Kind → ModelFault → Type 0
IsFaultOfApplication (Err l) sizes kinds k = k ≡ l
IsFaultOfApplication (Ok s) sizes kinds k =
    ((4096 < size_with s sizes) × (k ≡ faults.TooLarge))
    ⊎ (IsTrue (s.clashes kinds) × (k ≡ faults.Kind))

abbrev mutual
  -- The expression, seen under a complement or not, has this fault at this index.
  pub IsFaultAt : List Sense → List Naming → ℕ → Bool → Term → ℕ → ModelFault → Type 0
  IsFaultAt ss names from under (Atom x) index k =
      (index ≡ 0) × IsFaultOfName from under (found names x) k
  IsFaultAt ss names from under AllEvents index k = ⊥
  IsFaultAt ss names from under EmptyRelation index k = ⊥
  IsFaultAt ss names from under EmptySet index k = ⊥
  IsFaultAt ss names from under (Join op a b) index k =
      IsFaultAt ss names from under a index k
      ⊎ (((index ≡ width a) × IsFalse (takes op (kind_in ss names a) (kind_in ss names b))
      × (k ≡ faults.Kind))
      ⊎ ((after : ℕ) × (index ≡ width a + 1 + after)
      × IsFaultAt ss names from (is_turned op under) b after k))
  IsFaultAt ss names from under (Mark op a) index k =
      IsFaultAt ss names from under a index k
      ⊎ ((index ≡ width a) × IsFalse (is_relation (kind_in ss names a)) × (k ≡ faults.Kind))
  IsFaultAt ss names from under (Not a) index k =
      (after : ℕ) × (index ≡ 1 + after) × IsFaultAt ss names from true a after k
  IsFaultAt ss names from under (On a) index k =
      ((index ≡ 0) × IsFalse (is_set_kind (kind_in ss names a)) × (k ≡ faults.Kind))
      ⊎ ((after : ℕ) × (index ≡ 1 + after) × IsFaultAt ss names from under a after k)
  IsFaultAt ss names from under (Apply x arguments) index k =
      let f = sense_of ss (count_of arguments) (found names x) in
      ((index ≡ 0)
      × IsFaultOfApplication f (sizes_in ss names arguments) (kinds_in ss names arguments)
      k)
      ⊎ ((after : ℕ) × (index ≡ 1 + after)
      × IsFaultAmong ss names from under (under_of f) 0 arguments after k)

  -- the arguments from that one on have this fault at this index
  pub IsFaultAmong : List Sense → List Naming → ℕ → Bool → (ℕ → Bool) → ℕ → Terms → ℕ → ModelFault
      → Type 0
  IsFaultAmong ss names from under is_under i NoTerm index k = ⊥
  IsFaultAmong ss names from under is_under i (OneMore a others) index k =
      IsFaultAt ss names from (under || is_under i) a index k
      ⊎ ((after : ℕ) × (index ≡ width a + after)
      × IsFaultAmong ss names from under is_under (suc i) others after k)

abbrev pub IsAmong : List (List ℕ) → List ℕ → Type 0
IsAmong [] x = ⊥
IsAmong (n ∷ ns) x = (n ≡ x) ⊎ IsAmong ns x

-- The binding's own name has this fault: it stands earlier in the group, or its recursive body is a
-- set.
abbrev pub IsFaultOfBinding : List Sense → List Naming → Bool → List (List ℕ) → Bound → ModelFault
    → Type 0
IsFaultOfBinding ss names recursive earlier b k =
    (IsAmong earlier b.name × (k ≡ faults.Duplicate))
    ⊎ (IsTrue recursive × (kind_in ss names b.body ≡ OfSet) × (k ≡ faults.SetInRec))

-- The bindings, after those of the names seen, have this fault: a name, its body, and the rest
-- follow one another.
abbrev pub IsFaultIn : List Sense → List Naming → ℕ → Bool → List (List ℕ) → List Bound → ℕ
    → ModelFault → Type 0
IsFaultIn ss names from recursive earlier [] index k = ⊥
IsFaultIn ss names from recursive earlier (b ∷ bs) index k =
    ((index ≡ 0) × IsFaultOfBinding ss names recursive earlier b k)
    ⊎ (((after : ℕ) × (index ≡ 1 + after) × IsFaultAt ss names from false b.body after k)
    ⊎ ((after : ℕ) × (index ≡ 1 + width b.body + after)
    × IsFaultIn ss names from recursive (b.name ∷ earlier) bs after k))

-- A parameter, after those seen, has this fault: it stands twice, or it is the ninth.
abbrev pub IsFaultOfParameter : List (List ℕ) → List ℕ → ModelFault → Type 0
IsFaultOfParameter earlier p k =
    (IsAmong earlier p × (k ≡ faults.Duplicate)) ⊎ ((8 ≤ length earlier) × (k ≡ faults.TooLarge))

-- The parameters, after those seen, have this fault at this index.
abbrev pub IsFaultOfParameters : List (List ℕ) → List (List ℕ) → ℕ → ModelFault → Type 0
IsFaultOfParameters earlier [] index k = ⊥
IsFaultOfParameters earlier (p ∷ ps) index k =
    ((index ≡ 0) × IsFaultOfParameter earlier p k)
    ⊎ ((after : ℕ) × (index ≡ 1 + after) × IsFaultOfParameters (p ∷ earlier) ps after k)

-- A name of a body that is no parameter: nothing binds it, or it is a function without arguments.
abbrev pub IsFaultInside : Option ℕ → Option Found → ModelFault → Type 0
IsFaultInside (Some p) o k = ⊥
IsFaultInside None o k = IsFaultOfName 0 false o k

-- A name applied in a body: a parameter, or no function of so many parameters.
abbrev pub IsFaultApplied : Option ℕ → Result Sense ModelFault → ModelFault → Type 0
IsFaultApplied (Some p) f k = k ≡ faults.Arity
IsFaultApplied None (Err l) k = k ≡ l
IsFaultApplied None (Ok s) k = ⊥

abbrev mutual
  -- The body of a function has this fault at this index. Nothing else is looked for there: kinds,
  -- sizes and complements count where the function is applied.
  pub IsFaultOfBody : List Sense → List Naming → List (List ℕ) → Term → ℕ → ModelFault → Type 0
  IsFaultOfBody ss names ps (Atom x) index k =
      (index ≡ 0) × IsFaultInside (parameter_of (reverse ps) x) (found names x) k
  IsFaultOfBody ss names ps AllEvents index k = ⊥
  IsFaultOfBody ss names ps EmptyRelation index k = ⊥
  IsFaultOfBody ss names ps EmptySet index k = ⊥
  IsFaultOfBody ss names ps (Join op a b) index k =
      IsFaultOfBody ss names ps a index k
      ⊎ ((after : ℕ) × (index ≡ width a + 1 + after) × IsFaultOfBody ss names ps b after k)
  IsFaultOfBody ss names ps (Mark op a) index k = IsFaultOfBody ss names ps a index k
  IsFaultOfBody ss names ps (Not a) index k =
      (after : ℕ) × (index ≡ 1 + after) × IsFaultOfBody ss names ps a after k
  IsFaultOfBody ss names ps (On a) index k =
      (after : ℕ) × (index ≡ 1 + after) × IsFaultOfBody ss names ps a after k
  IsFaultOfBody ss names ps (Apply x arguments) index k =
      ((index ≡ 0)
      × IsFaultApplied (parameter_of (reverse ps) x)
      (sense_of ss (count_of arguments) (found names x)) k)
      ⊎ ((after : ℕ) × (index ≡ 1 + after) × IsFaultOfBodies ss names ps arguments after k)

  -- the arguments, one after another
  pub IsFaultOfBodies : List Sense → List Naming → List (List ℕ) → Terms → ℕ → ModelFault → Type 0
  IsFaultOfBodies ss names ps NoTerm index k = ⊥
  IsFaultOfBodies ss names ps (OneMore a others) index k =
      IsFaultOfBody ss names ps a index k
      ⊎ ((after : ℕ) × (index ≡ width a + after) × IsFaultOfBodies ss names ps others after k)

-- the name that a binding at that position of the item is
abbrev pub naming_at : ℕ → ℕ → Bound → Kind → Naming
naming_at item at b kind =
    record {
      name = b.name;
      kind = kind;
      binder = binders.Bound (record { item = item; position = at });
    }

-- the recursive names of a group, from that position of the item on, seen after the names
abbrev pub with_own : List Naming → ℕ → ℕ → List Bound → List Naming
with_own names item at [] = names
with_own names item at (b ∷ bs) = with_own (naming_at item at b OfRelation ∷ names) item (suc at) bs

-- the names of a group that is not recursive, whose bodies see the outer names
abbrev pub with_all : List Sense → List Naming → List Naming → ℕ → ℕ → List Bound → List Naming
with_all ss outer names item at [] = names
with_all ss outer names item at (b ∷ bs) =
    with_all ss outer (naming_at item at b (kind_in ss outer b.body) ∷ names) item (suc at) bs

-- the names that are seen after the item of that number
abbrev pub names_after : List Sense → List Naming → ℕ → BareItem → List Naming
names_after ss names item (Group true bs) = with_own names item 0 bs
names_after ss names item (Group false bs) = with_all ss names names item 0 bs
names_after ss names item (Check w e) = names
names_after ss names item Mute = names
names_after ss names item (Defined n ps b) =
    record { name = n; kind = OfAny; binder = binders.Applicable (length ss) } ∷ names

-- what the functions are after the item
abbrev pub senses_after : List Sense → List Naming → BareItem → List Sense
senses_after ss names (Group r bs) = ss
senses_after ss names (Check w e) = ss
senses_after ss names Mute = ss
senses_after ss names (Defined n ps b) = ss ++ sense_of_function ss names ps b ∷ []

-- the item of that number has this fault at this index
abbrev pub IsFaultOfItem : List Sense → List Naming → ℕ → BareItem → ℕ → ModelFault → Type 0
IsFaultOfItem ss names item (Group true bs) index k =
    IsFaultIn ss (with_own names item 0 bs) (length names) true [] bs index k
IsFaultOfItem ss names item (Group false bs) index k =
    IsFaultIn ss names (length names) false [] bs index k
IsFaultOfItem ss names item (Check w e) index k =
    ((index ≡ 0) × IsFalse (takes_body w (kind_in ss names e)) × (k ≡ faults.Kind))
    ⊎ ((after : ℕ) × (index ≡ 1 + after) × IsFaultAt ss names (length names) false e after k)
IsFaultOfItem ss names item Mute index k = ⊥
IsFaultOfItem ss names item (Defined n ps b) index k =
    IsFaultOfParameters [] ps index k
    ⊎ ((after : ℕ) × (index ≡ length ps + after) × IsFaultOfBody ss names ps b after k)

-- Of the items, the first of which has the number `from`, the one that many behind the first has
-- this fault at this index.
abbrev pub IsFaultBehind : List Sense → List Naming → ℕ → List BareItem → ℕ → ℕ → ModelFault → Type 0
IsFaultBehind ss names from [] item index k = ⊥
IsFaultBehind ss names from (c ∷ cs) item index k =
    ((item ≡ 0) × IsFaultOfItem ss names from c index k)
    ⊎ ((after : ℕ) × (item ≡ 1 + after)
    × IsFaultBehind (senses_after ss names c) (names_after ss names from c) (from + 1) cs after index
    k)

-- which fault is answered at one index
abbrev pub rank : ModelFault → ℕ
rank faults.Unbound = 0
rank faults.Duplicate = 1
rank faults.Arity = 2
rank faults.TooLarge = 3
rank faults.NotMonotone = 4
rank faults.Kind = 5
rank faults.SetInRec = 6

-- one fault stands no later than another
abbrev pub IsFaultNoLater : ℕ → ModelFault → ℕ → ModelFault → Type 0
IsFaultNoLater index k other l = (index < other) ⊎ ((index ≡ other) × (rank k ≤ rank l))

-- one of these faults is at that index, and none of them is earlier
pub record IsFirst (Faulty : ℕ → ModelFault → Type 0) (k : ModelFault) : Type 0 where
  pub index : ℕ
  pub there : Faulty index k
  pub none_before : (other : ℕ) (l : ModelFault) → Faulty other l → IsFaultNoLater index k other l

-- the items have this fault as the first, by item and then by index
pub record FirstFault (ss : List Sense) (names : List Naming) (from : ℕ) (items : List BareItem)
    (k : ModelFault) : Type 0 where
  pub item : ℕ
  pub index : ℕ
  pub there : IsFaultBehind ss names from items item index k
  pub none_before : (i p : ℕ) (l : ModelFault) → IsFaultBehind ss names from items i p l
      → (item < i) ⊎ ((item ≡ i) × IsFaultNoLater index k p l)

abbrev pub HasNoFault : List Sense → List Naming → ℕ → List BareItem → Type 0
HasNoFault ss names from items = (i p : ℕ) (l : ModelFault) → IsFaultBehind ss names from items i p l → ⊥
