-- Laws of resolved items, each the contract of a call of this crate: what an item is resolved to
-- depends only on its text and on what its names stand for, not on where it stands. Read `Resolved`
-- of binding_graph first.
use Rattle.std.specs.Prelude.{◌≡◌, ℕ, zero, suc, ◌+◌, ◌-◌, ◌↔◌, nat_le, List, [], ◌∷◌, length, map, reverse, slice_get, Bool, true, false, Contains, Option, Some, None}
use Rattle.std.specs.List.{AllZip, AllByRecursion}
use Rattle.text_values.specs.declared.model.Item.{Item}
use Rattle.text_values.specs.declared.model.Item.TheVariants as items
use Rattle.text_values.specs.declared.model.ModelText.{ModelText}
use Rattle.text_values.specs.ModelValue.{Term, Terms, Atom, AllEvents, EmptyRelation, EmptySet, Join, Mark, Not, On, Apply, NoTerm, OneMore}
use Rattle.binding_kinds.specs.declared.kinds.Kind.{Kind}
use Rattle.binding_kinds.specs.declared.scope.Binder.{Binder}
use Rattle.binding_kinds.specs.declared.scope.Binder.TheVariants as binders
use Rattle.binding_kinds.specs.declared.scope.Found.{Found}
use Rattle.binding_kinds.specs.declared.scope.Input.{Input}
use Rattle.binding_kinds.specs.declared.scope.Used.{Used}
use Rattle.binding_kinds.specs.Value.{Naming, BareItem, Group, Check, Mute, Defined, bare_item}
use Rattle.binding_kinds.specs.Kinds.{found}
use Rattle.binding_kinds.specs.Meanings.{parameter_of}
use Rattle.binding_kinds.specs.Formula.{Formula, Value, Parameter, Everything, NoPairs, NoEvents, Joined, Marked, Complement, Identity}
use Rattle.binding_kinds.specs.Senses.{Sense, count_of}
use Rattle.binding_kinds.specs.Faults.{names_after, senses_after}
use Rattle.binding_kinds.specs.Functions.{sense_seen, sense_of_function}
use Rattle.binding_graph.specs.declared.resolved.ResolvedItem.{ResolvedItem}
use Rattle.binding_graph.specs.Usages.{Usage, values_of, usage_seen, usage_of_function, usages_after}
use Rattle.binding_graph.specs.Resolved.{IsResolvedIn, AreResolved, IsLabelledAs, AreLabelledAs}
use Rattle.binding_graph.specs.Contents.{role_content}

-- what an expression sees: functions, what they use, and names
pub record Scope : Type 0 where
  pub senses : List Sense
  pub usages : List Usage
  pub names : List Naming

-- which slots of one model stand for those of another, and which names of items; and whether kinds
-- count: names that stand for each other have one kind then
pub record Pairing : Type 0 where
  pub slots : List (ℕ × ℕ)
  pub inputs : List (Input × Input)
  pub kinds : Bool

-- no slot stands for two; names of the item itself, from these slots on, stand for those at the
-- same positions
pub record IsPairing (p : Pairing) (from other : ℕ) : Type 0 where
  pub one : (a b c d : ℕ) → Contains p.slots (a, b) → Contains p.slots (c, d) → (a ≡ c) ↔ (b ≡ d)
  pub own : (a b : ℕ) → Contains p.slots (a, b) → nat_le from a ≡ nat_le other b
  pub position : (a b : ℕ) → Contains p.slots (a, b) → nat_le from a ≡ true → a - from ≡ b - other

-- ---- what stands for the same

abbrev pub IsSameBinder : Pairing → Binder → Binder → Type 0
IsSameBinder p (binders.Predefined x) (binders.Predefined y) = x ≡ y
IsSameBinder p (binders.Bound i) (binders.Bound j) = Contains p.inputs (i, j)
IsSameBinder p (binders.Applicable f) (binders.Applicable g) = Unit {0}
IsSameBinder p _ _ = ⊥

-- where kinds count, they are one
abbrev pub IsSameKind : Bool → Kind → Kind → Type 0
IsSameKind true k l = k ≡ l
IsSameKind false k l = Unit {0}

-- the names stand for the same, and have one kind where kinds count
abbrev pub IsSameFound : Pairing → Found → Found → Type 0
IsSameFound p f g =
    Contains p.slots (f.slot, g.slot) × IsSameKind p.kinds f.kind g.kind
    × IsSameBinder p f.binder g.binder

abbrev pub IsSameName : Pairing → Option Found → Option Found → Type 0
IsSameName p None None = Unit {0}
IsSameName p (Some f) (Some g) = IsSameFound p f g
IsSameName p _ _ = ⊥

-- a parameter hides any other name
abbrev pub IsSameUnless : Pairing → Option ℕ → Option Found → Option Found → Type 0
IsSameUnless p (Some i) f g = Unit {0}
IsSameUnless p None f g = IsSameName p f g

abbrev pub IsSameFormula : Pairing → Formula → Formula → Type 0
IsSameFormula p (Value f) (Value g) = IsSameFound p f g
IsSameFormula p (Parameter i) (Parameter j) = i ≡ j
IsSameFormula p Everything Everything = Unit {0}
IsSameFormula p NoPairs NoPairs = Unit {0}
IsSameFormula p NoEvents NoEvents = Unit {0}
IsSameFormula p (Joined op a b) (Joined oq c d) =
    (op ≡ oq) × IsSameFormula p a c × IsSameFormula p b d
IsSameFormula p (Marked op a) (Marked oq c) = (op ≡ oq) × IsSameFormula p a c
IsSameFormula p (Complement a) (Complement c) = IsSameFormula p a c
IsSameFormula p (Identity a) (Identity c) = IsSameFormula p a c
IsSameFormula p _ _ = ⊥

-- two functions are the same to those who apply them
pub record IsSameSense (p : Pairing) (s o : Sense) : Type 0 where
  pub arity : s.arity ≡ o.arity
  pub kind_with : p.kinds ≡ true → (kinds : List Kind) → length kinds ≡ s.arity
      → s.kind_with kinds ≡ o.kind_with kinds
  pub formula : IsSameFormula p s.formula o.formula

abbrev pub IsSameFunction : Pairing → Option Sense → Option Sense → Type 0
IsSameFunction p None None = Unit {0}
IsSameFunction p (Some s) (Some o) = IsSameSense p s o
IsSameFunction p _ _ = ⊥

abbrev pub IsSameUsed : Pairing → Used → Used → Type 0
IsSameUsed p u w = Contains p.slots (u.slot, w.slot) × Contains p.inputs (u.input, w.input)

abbrev pub AreSameUsed : Pairing → List Used → List Used → Type 0
AreSameUsed p us ws = AllZip (IsSameUsed p) us ws

abbrev mutual
  -- each name of an expression that sees these parameters stands for the same in both scopes
  pub HasSameNames : Pairing → Scope → Scope → List (List ℕ) → Term → Type 0
  HasSameNames p s o ps (Atom x) =
      IsSameUnless p (parameter_of (reverse ps) x) (found s.names x) (found o.names x)
  HasSameNames p s o ps AllEvents = Unit {0}
  HasSameNames p s o ps EmptyRelation = Unit {0}
  HasSameNames p s o ps EmptySet = Unit {0}
  HasSameNames p s o ps (Join op a b) = HasSameNames p s o ps a × HasSameNames p s o ps b
  HasSameNames p s o ps (Mark op a) = HasSameNames p s o ps a
  HasSameNames p s o ps (Not a) = HasSameNames p s o ps a
  HasSameNames p s o ps (On a) = HasSameNames p s o ps a
  HasSameNames p s o ps (Apply x ts) =
      IsSameFunction p (sense_seen s.senses s.names ps (count_of ts) x)
      (sense_seen o.senses o.names ps (count_of ts) x)
      × AreSameUsed p (values_of (usage_seen s.usages s.names ps (count_of ts) x))
      (values_of (usage_seen o.usages o.names ps (count_of ts) x))
      × HaveSameNames p s o ps ts

  pub HaveSameNames : Pairing → Scope → Scope → List (List ℕ) → Terms → Type 0
  HaveSameNames p s o ps NoTerm = Unit {0}
  HaveSameNames p s o ps (OneMore a others) =
      HasSameNames p s o ps a × HaveSameNames p s o ps others

-- a function with one text, whose names stand for the same in two scopes, is the same to those who
-- apply it, and its body uses names that stand for each other
abbrev pub IsAlikeFunction : Pairing → Scope → Scope → Type 0
IsAlikeFunction p s o =
    (ps : List (List ℕ)) (body : Term) (item other : ℕ)
    → IsPairing p (length s.names) (length o.names) → HasSameNames p s o ps body
    → IsSameSense p (sense_of_function s.senses s.names ps body)
    (sense_of_function o.senses o.names ps body)
    × AreSameUsed p (usage_of_function s.usages s.names item ps body).values
    (usage_of_function o.usages o.names other ps body).values

-- ---- items

abbrev pub scope_with_names : Scope → List Naming → Scope
scope_with_names s names = record s { names = names }

-- each name of an item stands for the same: the bodies of a recursive group see its own names too
abbrev pub HasSameNamesIn : Pairing → Scope → Scope → List Naming → List Naming → BareItem → Type 0
HasSameNamesIn p s o own other (Group true bs) =
    AllByRecursion (λ b. HasSameNames p (scope_with_names s own) (scope_with_names o other) [] b.body) bs
HasSameNamesIn p s o own other (Group false bs) =
    AllByRecursion (λ b. HasSameNames p s o [] b.body) bs
HasSameNamesIn p s o own other (Check w e) = HasSameNames p s o [] e
HasSameNamesIn p s o own other Mute = Unit {0}
HasSameNamesIn p s o own other (Defined n ps b) = HasSameNames p s o ps b

-- two items are resolved to the same where kinds count, and the names that they use stand for each
-- other, in the same order
abbrev pub DoTheSame : Pairing → ResolvedItem → ResolvedItem → Type 0
DoTheSame p r q =
    (p.kinds ≡ true → role_content r.role ≡ role_content q.role)
    × AllZip (λ i j. Contains p.inputs (i, j)) r.inputs.items q.inputs.items

-- the item is resolved in this scope, where bodies of a recursive group see these names, and those
-- from that slot on are its own
abbrev pub IsItem : Scope → List Naming → ℕ → Item → ResolvedItem → Type 0
IsItem s own from x r =
    IsResolvedIn s.senses s.usages s.names own from (bare_item x) r × IsLabelledAs x r

-- an item whose names stand for the same in two scopes does the same there, with inputs that stand
-- for each other
abbrev pub IsAlike : Item → Type 0
IsAlike x =
    (p : Pairing) (s o : Scope) (own other : List Naming) (from start : ℕ) (r q : ResolvedItem)
    → IsPairing p from start
    → HasSameNamesIn p s o own other (bare_item x) → IsItem s own from x r
    → IsItem o other start x q → DoTheSame p r q

-- ---- items of models

-- whether a check or a flag is negated, and the name of a flag
abbrev pub label_of : Item → Option (Bool × Option (List ℕ))
label_of (items.Let r g) = None
label_of (items.Function n ps b) = None
label_of (items.Check c l) = Some (c.negated, None)
label_of (items.Flag c l) = Some (c.negated, Some l)
label_of (items.Show h s) = None
label_of (items.Include n) = None

-- two items have one text
abbrev pub SayTheSame : Item → Item → Type 0
SayTheSame x y = (bare_item x ≡ bare_item y) × (label_of x ≡ label_of y)

-- what the items after one see
abbrev pub scope_after : Scope → ℕ → Item → Scope
scope_after s at x = record {
  senses = senses_after s.senses s.names (bare_item x);
  usages = usages_after s.usages s.names at (bare_item x);
  names = names_after s.senses s.names at (bare_item x);
}

-- what the item of that index sees, and what the bodies of a recursive group there see, where the
-- first item has the number `at`
abbrev pub scope_at : Scope → ℕ → List Item → ℕ → Scope
scope_at s at [] index = s
scope_at s at (x ∷ xs) zero = s
scope_at s at (x ∷ xs) (suc index) = scope_at (scope_after s at x) (at + 1) xs index

abbrev pub own_at : Scope → ℕ → List Item → ℕ → List Naming
own_at s at [] index = s.names
own_at s at (x ∷ xs) zero = names_after s.senses s.names at (bare_item x)
own_at s at (x ∷ xs) (suc index) = own_at (scope_after s at x) (at + 1) xs index

abbrev pub first_scope : List Naming → Scope
first_scope names = record { senses = []; usages = []; names = names }

-- the item of that index of a model, whose first item sees these names, and what it is resolved to
pub record IsItemAt (names : List Naming) (model : List Item) (resolved : List ResolvedItem)
    (index : ℕ) (x : Item) (r : ResolvedItem) : Type 0 where
  pub all : AreResolved [] [] names 0 (map bare_item model) resolved
  pub labels : AreLabelledAs model resolved
  pub text : slice_get model index ≡ Some x
  pub item : slice_get resolved index ≡ Some r

-- the names of an item stand for the same at these indices of two models
pub record HasSameNamesAt (p : Pairing) (names more : List Naming) (model other : List Item)
    (k l : ℕ) (x : Item) : Type 0 where
  pub pairing : IsPairing p (length (scope_at (first_scope names) 0 model k).names)
      (length (scope_at (first_scope more) 0 other l).names)
  pub same : HasSameNamesIn p (scope_at (first_scope names) 0 model k)
      (scope_at (first_scope more) 0 other l) (own_at (first_scope names) 0 model k)
      (own_at (first_scope more) 0 other l) (bare_item x)

-- items of one text, at any indices of two models, whose names stand for the same do the same
abbrev pub HaveAlikeItems : ModelText → ModelText → Type 0
HaveAlikeItems model other =
    (p : Pairing) (names more : List Naming) (resolved others : List ResolvedItem) (k l : ℕ)
    (x y : Item) (r q : ResolvedItem)
    → IsItemAt names model.items.items resolved k x r → IsItemAt more other.items.items others l y q
    → SayTheSame x y → HasSameNamesAt p names more model.items.items other.items.items k l x
    → DoTheSame p r q

-- ---- items by what they say

-- the indices of the items that are functions, before the item of that index, where the first item
-- has the number `at`: what the name of the n-th function stands for is the n-th of them
abbrev pub with_function : ℕ → BareItem → List ℕ → List ℕ
with_function at (Group r bs) later = later
with_function at (Check w e) later = later
with_function at Mute later = later
with_function at (Defined n ps b) later = at ∷ later

abbrev pub functions_before : ℕ → List Item → ℕ → List ℕ
functions_before at [] index = []
functions_before at (x ∷ xs) zero = []
functions_before at (x ∷ xs) (suc index) =
    with_function at (bare_item x) (functions_before (at + 1) xs index)

-- what an expression sees of the text before it: functions, by the indices of their items, and
-- names
pub record Sight : Type 0 where
  pub functions : List ℕ
  pub names : List Naming

-- which slots and names of items of one model stand for those of another, and which functions, by
-- the indices of their items
pub record Matching : Type 0 where
  pub pairing : Pairing
  pub functions : List (ℕ × ℕ)

-- these stand for functions that stand for each other
abbrev pub IsFunctionAlike : Matching → Sight → Sight → Binder → Binder → Type 0
IsFunctionAlike m s o (binders.Applicable f) (binders.Applicable g) =
    (i : ℕ) × (j : ℕ) × (slice_get s.functions f ≡ Some i) × (slice_get o.functions g ≡ Some j)
    × Contains m.functions (i, j)
IsFunctionAlike m s o _ _ = ⊥

abbrev pub IsAppliedAlike : Matching → Sight → Sight → Option Found → Option Found → Type 0
IsAppliedAlike m s o (Some f) (Some g) = IsFunctionAlike m s o f.binder g.binder
IsAppliedAlike m s o _ _ = ⊥

abbrev mutual
  -- each name of an expression that sees these parameters is resolved alike: one that is applied to
  -- functions that stand for each other, and any other to what stands for the same
  pub IsNamedAlike : Matching → Sight → Sight → List (List ℕ) → Term → Type 0
  IsNamedAlike m s o ps (Atom x) =
      IsSameUnless m.pairing (parameter_of (reverse ps) x) (found s.names x) (found o.names x)
  IsNamedAlike m s o ps AllEvents = Unit {0}
  IsNamedAlike m s o ps EmptyRelation = Unit {0}
  IsNamedAlike m s o ps EmptySet = Unit {0}
  IsNamedAlike m s o ps (Join op a b) = IsNamedAlike m s o ps a × IsNamedAlike m s o ps b
  IsNamedAlike m s o ps (Mark op a) = IsNamedAlike m s o ps a
  IsNamedAlike m s o ps (Not a) = IsNamedAlike m s o ps a
  IsNamedAlike m s o ps (On a) = IsNamedAlike m s o ps a
  IsNamedAlike m s o ps (Apply x ts) =
      IsAppliedAlike m s o (found s.names x) (found o.names x) × AreNamedAlike m s o ps ts

  pub AreNamedAlike : Matching → Sight → Sight → List (List ℕ) → Terms → Type 0
  AreNamedAlike m s o ps NoTerm = Unit {0}
  AreNamedAlike m s o ps (OneMore a others) =
      IsNamedAlike m s o ps a × AreNamedAlike m s o ps others

abbrev pub seeing : Sight → List Naming → Sight
seeing s names = record s { names = names }

-- each name of an item is resolved alike: the bodies of a recursive group see its own names too
abbrev pub IsNamedAlikeIn : Matching → Sight → Sight → List Naming → List Naming → BareItem → Type 0
IsNamedAlikeIn m s o own other (Group true bs) =
    AllByRecursion (λ b. IsNamedAlike m (seeing s own) (seeing o other) [] b.body) bs
IsNamedAlikeIn m s o own other (Group false bs) =
    AllByRecursion (λ b. IsNamedAlike m s o [] b.body) bs
IsNamedAlikeIn m s o own other (Check w e) = IsNamedAlike m s o [] e
IsNamedAlikeIn m s o own other Mute = Unit {0}
IsNamedAlikeIn m s o own other (Defined n ps b) = IsNamedAlike m s o ps b

-- what the item of that index sees of a model, whose first item sees these names
abbrev pub sight_at : List Naming → List Item → ℕ → Sight
sight_at names model index =
    record {
      functions = functions_before 0 model index;
      names = (scope_at (first_scope names) 0 model index).names;
    }

abbrev pub IsNamedAlikeAt : Matching → List Naming → List Naming → List Item → List Item → ℕ → ℕ
    → BareItem → Type 0
IsNamedAlikeAt m names more model other k l c =
    IsNamedAlikeIn m (sight_at names model k) (sight_at more other l)
    (own_at (first_scope names) 0 model k) (own_at (first_scope more) 0 other l) c

-- functions that stand for each other have one text, and their names are resolved alike in turn
abbrev pub HasAlikeFunctions : Matching → List Naming → List Naming → List Item → List Item → Type 0
HasAlikeFunctions m names more model other =
    (i j : ℕ) (x y : Item) → Contains m.functions (i, j) → slice_get model i ≡ Some x
    → slice_get other j ≡ Some y
    → (bare_item x ≡ bare_item y) × IsNamedAlikeAt m names more model other i j (bare_item x)

-- The names of an item are resolved alike at these indices of two models, and so are those of the
-- functions that it applies, through others too. The slots of names that only functions see stand
-- for each other as well.
pub record IsResolvedAlike (m : Matching) (names more : List Naming) (model other : List Item)
    (k l : ℕ) (x : Item) : Type 0 where
  pub pairing : IsPairing m.pairing (length (sight_at names model k).names)
      (length (sight_at more other l).names)
  pub functions : HasAlikeFunctions m names more model other
  pub item : IsNamedAlikeAt m names more model other k l (bare_item x)

-- items of one text, at any indices of two models, do the same where their names are resolved alike
abbrev pub HaveItemsAlikeByText : ModelText → ModelText → Type 0
HaveItemsAlikeByText model other =
    (m : Matching) (names more : List Naming) (resolved others : List ResolvedItem) (k l : ℕ)
    (x y : Item) (r q : ResolvedItem)
    → IsItemAt names model.items.items resolved k x r → IsItemAt more other.items.items others l y q
    → SayTheSame x y → IsResolvedAlike m names more model.items.items other.items.items k l x
    → DoTheSame m.pairing r q
