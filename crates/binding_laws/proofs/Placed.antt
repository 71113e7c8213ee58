-- The names that the items of a model see, by the items that bind them.
use Rattle.std.proofs.Common.{ℕ, ◌≡◌, ◌<◌, ◌≤◌, ◌+◌, zero, suc, List, [], ◌∷◌, length, Bool, Some, refl, sym, ap, ◌∙◌, subst, inl, inr, arith}
use Rattle.std.specs.Prelude.{nat_le, slice_get}
use Rattle.std.proofs.lemmas.Bool.{cases_Bool, leb-true, leb-false}
use Rattle.std.proofs.lemmas.Option.{none-some, same_Some}
use Rattle.text_values.specs.declared.model.Item.{Item}
use Rattle.predefined_names.specs.declared.predefined.Predefined.{Predefined}
use Rattle.text_values.specs.ModelValue.{Term}
use Rattle.binding_kinds.specs.declared.scope.Binder.{Binder}
use Rattle.binding_kinds.specs.declared.scope.Binder.TheVariants as binders
use Rattle.binding_kinds.specs.declared.scope.Input.{Input}
use Rattle.binding_kinds.specs.declared.kinds.Kind.{Kind}
use Rattle.binding_kinds.specs.declared.kinds.Kind.TheVariants.{OfAny}
use Rattle.binding_kinds.specs.Value.{Naming, Bound, BareItem, Group, Check, Mute, Defined, bare_item}
use Rattle.binding_kinds.specs.Faults.{naming_at, names_after, senses_after}
use Rattle.binding_kinds.specs.Functions.{sense_of_function}
use Rattle.binding_laws.specs.ItemLaws.{Scope, scope_after, scope_at, own_at, first_scope, with_function, functions_before}
use Rattle.binding_laws.proofs.Before.{one_longer}
use Rattle.binding_laws.proofs.Told.{told, told_here, told_below, IsUnder, under_self, under_both, under_told}
use Rattle.binding_laws.proofs.Added.{kind_seen, extended_under, IsAdded, new_name_is_added, told_added}

-- ---- what an item sees, later items see too

pub under_at : (s : Scope) (at : ℕ) (xs : List Item) (k : ℕ)
    → IsUnder s.names (scope_at s at xs k).names
under_at s at [] k = under_self s.names
under_at s at (x ∷ xs) zero = under_self s.names
under_at s at (x ∷ xs) (suc k) =
    under_both s.names (scope_after s at x).names
    (scope_at (scope_after s at x) (at + 1) xs k).names
    (extended_under s.senses s.names at (bare_item x))
    (under_at (scope_after s at x) (at + 1) xs k)

pub under_later : (s : Scope) (at : ℕ) (xs : List Item) (k l : ℕ) → k ≤ l
    → IsUnder (scope_at s at xs k).names (scope_at s at xs l).names
under_later s at [] k l le = under_self s.names
under_later s at (x ∷ xs) zero l le = under_at s at (x ∷ xs) l
under_later s at (x ∷ xs) (suc k) zero le = absurd (omega (arith, le))
under_later s at (x ∷ xs) (suc k) (suc l) le =
    under_later (scope_after s at x) (at + 1) xs k l (omega (arith, le))

pub next_names : (s : Scope) (at : ℕ) (xs : List Item) (k : ℕ) (x : Item) → slice_get xs k ≡ Some x
    → (scope_at s at xs (suc k)).names
    ≡ names_after (scope_at s at xs k).senses (scope_at s at xs k).names (at + k) (bare_item x)
next_names s at [] k x h = absurd (none-some x h)
next_names s at (y ∷ xs) zero x h =
    let none : at ≡ at + 0 = omega arith in
    let same : y ≡ x = same_Some y x h in
    first_names xs ∙ (λ i. names_after s.senses s.names (none i) (bare_item (same i)))
  where
    first_names : (zs : List Item)
        → (scope_at (scope_after s at y) (at + 1) zs zero).names
        ≡ names_after s.senses s.names at (bare_item y)
    first_names [] = refl
    first_names (z ∷ zs) = refl
next_names s at (y ∷ xs) (suc k) x h =
    let moved : (at + 1) + k ≡ at + suc k = omega arith in
    let there = scope_at (scope_after s at y) (at + 1) xs k in
    next_names (scope_after s at y) (at + 1) xs k x h
    ∙ ap (λ (n : ℕ). names_after there.senses there.names n (bare_item x)) moved

-- the bodies of a recursive group see what the next item sees
pub own_names : (s : Scope) (at : ℕ) (xs : List Item) (k : ℕ) (x : Item) → slice_get xs k ≡ Some x
    → own_at s at xs k ≡ (scope_at s at xs (suc k)).names
own_names s at [] k x h = absurd (none-some x h)
own_names s at (y ∷ xs) zero x h = first_names xs
  where
    first_names : (zs : List Item)
        → names_after s.senses s.names at (bare_item y)
        ≡ (scope_at (scope_after s at y) (at + 1) zs zero).names
    first_names [] = refl
    first_names (z ∷ zs) = refl
own_names s at (y ∷ xs) (suc k) x h = own_names (scope_after s at y) (at + 1) xs k x h

-- ---- which item binds a name

pub record IsBoundAt (s : Scope) (at : ℕ) (xs : List Item) (k slot : ℕ) (n : Naming) : Type 0 where
  pub index : ℕ
  pub before : index < k
  pub item : Item
  pub there : slice_get xs index ≡ Some item
  pub low : length (scope_at s at xs index).names ≤ slot
  pub is_added : IsAdded (scope_at s at xs index).senses (scope_at s at xs index).names (at + index)
      (bare_item item) slot n

bound_later : (s : Scope) (at : ℕ) (x : Item) (xs : List Item) (k slot : ℕ) (n : Naming)
    → IsBoundAt (scope_after s at x) (at + 1) xs k slot n → IsBoundAt s at (x ∷ xs) (suc k) slot n
bound_later s at x xs k slot n h =
    let moved : (at + 1) + h.index ≡ at + suc h.index = omega arith in
    let there = scope_at (scope_after s at x) (at + 1) xs h.index in
    record {
      index = suc h.index;
      before = omega (arith, h.before);
      item = h.item;
      there = h.there;
      low = h.low;
      is_added =
          subst (λ (m : ℕ). IsAdded there.senses there.names m (bare_item h.item) slot n) moved
          h.is_added;
    }

pub bound_at : (s : Scope) (at : ℕ) (xs : List Item) (k slot : ℕ) (n : Naming)
    → told (scope_at s at xs k).names slot ≡ Some n → length s.names ≤ slot
    → IsBoundAt s at xs k slot n
bound_at s at [] k slot n h le =
    absurd (let lt = told_below s.names slot n h in omega (arith, lt, le))
bound_at s at (x ∷ xs) zero slot n h le =
    absurd (let lt = told_below s.names slot n h in omega (arith, lt, le))
bound_at s at (x ∷ xs) (suc k) slot n h le =
    elim (cases_Bool (nat_le (length (scope_after s at x).names) slot)) [
      | inl e ↦ bound_later s at x xs k slot n (bound_at (scope_after s at x) (at + 1) xs k slot n h
          (leb-true (length (scope_after s at x).names) slot e))
      | inr f ↦ at_first (leb-false (length (scope_after s at x).names) slot f)
    ]
  where
    at_first : slot < length (scope_after s at x).names → IsBoundAt s at (x ∷ xs) (suc k) slot n
    at_first lt =
        let under = under_at (scope_after s at x) (at + 1) xs k in
        let now : told (names_after s.senses s.names at (bare_item x)) slot ≡ Some n = sym (under.same slot lt) ∙ h in
        let none : at ≡ at + 0 = omega arith in
        record {
          index = 0;
          before = omega arith;
          item = x;
          there = refl;
          low = le;
          is_added =
              subst (λ (m : ℕ). IsAdded s.senses s.names m (bare_item x) slot n) none
              (new_name_is_added s.senses s.names at (bare_item x) slot n now le);
        }

-- ---- binders

abbrev same_bound : Binder → Input → Input
same_bound (binders.Predefined p) i = i
same_bound (binders.Bound j) i = j
same_bound (binders.Applicable g) i = i

pub same_input : (i j : Input) → binders.Bound i ≡ binders.Bound j → i ≡ j
same_input i j e = ap (λ (b : Binder). same_bound b i) e

abbrev same_applicable : Binder → ℕ → ℕ
same_applicable (binders.Predefined p) g = g
same_applicable (binders.Bound j) g = g
same_applicable (binders.Applicable f) g = f

pub same_function : (f g : ℕ) → binders.Applicable f ≡ binders.Applicable g → f ≡ g
same_function f g e = ap (λ (b : Binder). same_applicable b f) e

pub no_function : (g : ℕ) (i : Input) → binders.Applicable g ≡ binders.Bound i → ⊥
no_function g i e = cc

pub no_predefined_input : (p : Predefined) (i : Input) → binders.Predefined p ≡ binders.Bound i → ⊥
no_predefined_input p i e = cc

pub no_predefined_function : (p : Predefined) (g : ℕ) → binders.Predefined p ≡ binders.Applicable g
    → ⊥
no_predefined_function p g e = cc

-- ---- the numbers of functions

senses_grow : (s : Scope) (at : ℕ) (c : BareItem)
    → length s.senses ≤ length (senses_after s.senses s.names c)
senses_grow s at (Group r bs) = omega arith
senses_grow s at (Check w e) = omega arith
senses_grow s at Mute = omega arith
senses_grow s at (Defined n ps b) =
    let long = one_longer s.senses (sense_of_function s.senses s.names ps b) in omega (arith, long)

senses_more : (s : Scope) (at : ℕ) (xs : List Item) (k : ℕ)
    → length s.senses ≤ length (scope_at s at xs k).senses
senses_more s at [] k = omega arith
senses_more s at (x ∷ xs) zero = omega arith
senses_more s at (x ∷ xs) (suc k) =
    let one = senses_grow s at (bare_item x) in
    let more = senses_more (scope_after s at x) (at + 1) xs k in omega (arith, one, more)

number_behind : (s : Scope) (at : ℕ) (c : BareItem) (later : List ℕ) (d many i : ℕ)
    → many ≡ length s.senses + d → length (senses_after s.senses s.names c) ≤ many
    → ((l : ℕ) → many ≡ length (senses_after s.senses s.names c) + l → slice_get later l ≡ Some i)
    → slice_get (with_function at c later) d ≡ Some i
number_behind s at (Group r bs) later d many i long low rest = rest d long
number_behind s at (Check w e) later d many i long low rest = rest d long
number_behind s at Mute later d many i long low rest = rest d long
number_behind s at (Defined n ps b) later zero many i long low rest =
    absurd (let one = one_longer s.senses (sense_of_function s.senses s.names ps b) in
    omega (arith, one, long, low))
number_behind s at (Defined n ps b) later (suc d) many i long low rest =
    rest d (let one = one_longer s.senses (sense_of_function s.senses s.names ps b) in
    omega (arith, one, long))

-- the function that an item is has that number to later items
function_number : (s : Scope) (at : ℕ) (xs : List Item) (index k d : ℕ) (x : Item) (n : List ℕ)
    (ps : List (List ℕ)) (b : Term) → slice_get xs index ≡ Some x → bare_item x ≡ Defined n ps b
    → index < k
    → length (scope_at s at xs index).senses ≡ length s.senses + d
    → slice_get (functions_before at xs k) d ≡ Some (at + index)
function_number s at [] index k d x n ps b h e lt long = absurd (none-some x h)
function_number s at (y ∷ ys) index zero d x n ps b h e lt long = absurd (omega (arith, lt))
function_number s at (y ∷ ys) zero (suc k) d x n ps b h e lt long =
    let same : y ≡ x = same_Some y x h in
    let none : d ≡ 0 = omega (arith, long) in
    let clause : bare_item y ≡ Defined n ps b = ap bare_item same ∙ e in
    let left : at ≡ at + 0 = omega arith in
    ap (slice_get (with_function at (bare_item y) (functions_before (at + 1) ys k))) none
    ∙ (ap (λ (c : BareItem). slice_get (with_function at c (functions_before (at + 1) ys k)) 0) clause
    ∙ ap (λ (m : ℕ). Some m) left)
function_number s at (y ∷ ys) (suc index) (suc k) d x n ps b h e lt long =
    let moved : (at + 1) + index ≡ at + suc index = omega arith in
    number_behind s at (bare_item y) (functions_before (at + 1) ys k) d
    (length (scope_at (scope_after s at y) (at + 1) ys index).senses) (at + suc index) long
    (senses_more (scope_after s at y) (at + 1) ys index)
    (λ l g. function_number (scope_after s at y) (at + 1) ys index k l x n ps b h e
    (omega (arith, lt)) g ∙ ap (λ (m : ℕ). Some m) moved)

-- ---- models

module _ (names : List Naming) (items : List Item) where
  -- what the item of that index sees
  abbrev pub sees : ℕ → Scope
  sees k = scope_at (first_scope names) 0 items k

  abbrev pub start : ℕ → ℕ
  start k = length (sees k).names

  -- the slot of a name of an item
  abbrev pub slot_of : Input → ℕ
  slot_of i = start i.item + i.position

  pub later : (k l : ℕ) → k ≤ l → IsUnder (sees k).names (sees l).names
  later k l le = under_later (first_scope names) 0 items k l le

  -- the input is a name of a group, spelt so and of that kind
  pub record IsInput (i : Input) (x : List ℕ) (kind : Kind) : Type 0 where
    pub item : Item
    pub there : slice_get items i.item ≡ Some item
    pub recursive : Bool
    pub bounds : List Bound
    pub clause : bare_item item ≡ Group recursive bounds
    pub bound : Bound
    pub has_bound : slice_get bounds i.position ≡ Some bound
    pub name : bound.name ≡ x
    pub is_kind : kind_seen (sees i.item).senses (sees i.item).names recursive bound ≡ kind

  -- the input is a name of a group before that item
  pub record IsNameOfGroup (k : ℕ) (i : Input) : Type 0 where
    pub name : List ℕ
    pub kind : Kind
    pub input : IsInput i name kind
    pub before : i.item < k

  -- it is seen by later items
  pub input_told : (i : Input) (x : List ℕ) (kind : Kind) → IsInput i x kind → (k : ℕ) → i.item < k
      → told (sees k).names (slot_of i)
      ≡ Some (record { name = x; kind = kind; binder = binders.Bound i })
  input_told i x kind h k lt =
      let s = sees i.item in
      let zero_left : 0 + i.item ≡ i.item = omega arith in
      let grown : (sees (suc i.item)).names ≡ names_after s.senses s.names i.item (Group h.recursive h.bounds) =
      next_names (first_scope names) 0 items i.item h.item h.there
      ∙ (λ d. names_after s.senses s.names (zero_left d) (h.clause d)) in
      let here = told_added s.senses s.names i.item h.recursive h.bounds i.position h.bound h.has_bound in
      let spelt : naming_at i.item i.position h.bound (kind_seen s.senses s.names h.recursive h.bound) ≡ record { name = x; kind = kind; binder = binders.Bound i } =
      λ d. record { name = h.name d; kind = h.is_kind d; binder = binders.Bound i } in
      under_told (sees (suc i.item)).names (sees k).names (later (suc i.item) k (omega (arith, lt)))
      (slot_of i) (record { name = x; kind = kind; binder = binders.Bound i })
      (ap (λ (ns : List Naming). told ns (slot_of i)) grown
      ∙ (here ∙ ap (λ (n : Naming). Some n) spelt))

  -- ---- names of groups

  -- the slot is that of an input
  pub record IsInputAt (k slot : ℕ) (n : Naming) (i : Input) : Type 0 where
    pub input : IsInput i n.name n.kind
    pub place : slot ≡ slot_of i
    pub before : i.item < k

  pub told_input : (k slot : ℕ) (n : Naming) (i : Input) → told (sees k).names slot ≡ Some n
      → length names ≤ slot → n.binder ≡ binders.Bound i → IsInputAt k slot n i
  told_input k slot n i h le is = by_clause (bare_item h0.item) refl h0.is_added
    where
      h0 : IsBoundAt (first_scope names) 0 items k slot n
      h0 = bound_at (first_scope names) 0 items k slot n h le

      s : Scope
      s = sees h0.index

      by_clause : (c : BareItem) → bare_item h0.item ≡ c
          → IsAdded s.senses s.names (0 + h0.index) c slot n → IsInputAt k slot n i
      by_clause (Group recursive bs) e a =
          let j : Input = record { item = h0.index; position = a.position } in
          let zero_left : 0 + h0.index ≡ h0.index = omega arith in
          let left_zero : 0 + a.position ≡ a.position = omega arith in
          let kind = kind_seen s.senses s.names recursive a.bound in
          let naming : n ≡ naming_at h0.index a.position a.bound kind = a.naming ∙ (λ d. naming_at (zero_left d) (left_zero d) a.bound kind) in
          let same : j ≡ i = same_input j i (sym (ap (λ (m : Naming). m.binder) naming) ∙ is) in
          subst (IsInputAt k slot n) same (record {
            input = record {
              item = h0.item;
              there = h0.there;
              recursive = recursive;
              bounds = bs;
              clause = e;
              bound = a.bound;
              has_bound = a.there;
              name = sym (ap (λ (m : Naming). m.name) naming);
              is_kind = sym (ap (λ (m : Naming). m.kind) naming);
            };
            place = a.place;
            before = h0.before;
          })
      by_clause (Check w e) q a = absurd a
      by_clause Mute q a = absurd a
      by_clause (Defined x ps b) q a =
          absurd (no_function (length s.senses) i (sym (ap (λ (m : Naming). m.binder) a.1) ∙ is))

  -- an input has one slot
  pub one_input : (i j : Input) (x y : List ℕ) (kind other : Kind) → IsInput i x kind
      → IsInput j y other → slot_of i ≡ slot_of j → i ≡ j
  one_input i j x y kind other h g e =
      let k = suc (i.item + j.item) in
      let left = input_told i x kind h k (omega arith) in
      let right = input_told j y other g k (omega arith) in
      let same : record { name = x; kind = kind; binder = binders.Bound i } ≡ record { name = y; kind = other; binder = binders.Bound j } = same_Some _ _ (sym left ∙ (ap (told (sees k).names) e ∙ right)) in
      same_input i j (ap (λ (m : Naming). m.binder) same)

  -- and one kind
  -- ---- functions

  pub record IsFunction (i : ℕ) (x : List ℕ) : Type 0 where
    pub item : Item
    pub there : slice_get items i ≡ Some item
    pub parameters : List (List ℕ)
    pub body : Term
    pub clause : bare_item item ≡ Defined x parameters body

  abbrev pub naming_of_function : ℕ → List ℕ → Naming
  naming_of_function i x =
      record { name = x; kind = OfAny; binder = binders.Applicable (length (sees i).senses) }

  pub function_told : (i : ℕ) (x : List ℕ) → IsFunction i x → (k : ℕ) → i < k
      → told (sees k).names (start i) ≡ Some (naming_of_function i x)
  function_told i x h k lt =
      let s = sees i in
      let grown : (sees (suc i)).names ≡ naming_of_function i x ∷ s.names =
      next_names (first_scope names) 0 items i h.item h.there
      ∙ ap (names_after s.senses s.names (0 + i)) h.clause in
      under_told (sees (suc i)).names (sees k).names (later (suc i) k (omega (arith, lt))) (start i)
      (naming_of_function i x)
      (ap (λ (ns : List Naming). told ns (start i)) grown
      ∙ told_here (naming_of_function i x) s.names)

  pub record IsFunctionSeen (k slot : ℕ) (n : Naming) (g : ℕ) : Type 0 where
    pub index : ℕ
    pub function : IsFunction index n.name
    pub place : slot ≡ start index
    pub before : index < k
    pub number : slice_get (functions_before 0 items k) g ≡ Some index

  pub told_function : (k slot : ℕ) (n : Naming) (g : ℕ) → told (sees k).names slot ≡ Some n
      → length names ≤ slot → n.binder ≡ binders.Applicable g → IsFunctionSeen k slot n g
  told_function k slot n g h le is = by_clause (bare_item h0.item) refl h0.is_added
    where
      h0 : IsBoundAt (first_scope names) 0 items k slot n
      h0 = bound_at (first_scope names) 0 items k slot n h le

      s : Scope
      s = sees h0.index

      by_clause : (c : BareItem) → bare_item h0.item ≡ c
          → IsAdded s.senses s.names (0 + h0.index) c slot n → IsFunctionSeen k slot n g
      by_clause (Group recursive bs) e a =
          absurd (no_function g _ (sym is ∙ ap (λ (m : Naming). m.binder) a.naming))
      by_clause (Check w e) q a = absurd a
      by_clause Mute q a = absurd a
      by_clause (Defined x ps b) q a =
          let zero_left : 0 + h0.index ≡ h0.index = omega arith in
          let numbered : length s.senses ≡ g = same_function (length s.senses) g (sym (ap (λ (m : Naming). m.binder) a.1) ∙ is) in
          let there = function_number (first_scope names) 0 items h0.index k (length s.senses) h0.item x ps b h0.there q h0.before (omega arith) in
          record {
            index = h0.index;
            function =
                record {
                  item = h0.item;
                  there = h0.there;
                  parameters = ps;
                  body = b;
                  clause = q ∙ (λ d. Defined (sym (ap (λ (m : Naming). m.name) a.1) d) ps b);
                };
            place = a.0;
            before = h0.before;
            number =
                ap (slice_get (functions_before 0 items k)) (sym numbered)
                ∙ (there ∙ ap (λ (m : ℕ). Some m) zero_left);
          }

  -- names of items before it stand at lower slots
  pub input_order : (i j : Input) (x : List ℕ) (kind : Kind) → IsInput j x kind
      → slot_of i ≤ slot_of j → i.item ≤ j.item
  input_order i j x kind h le = elim (cases_Bool (nat_le i.item j.item)) [
    | inl t ↦ leb-true i.item j.item t
    | inr f ↦ (
        let lt = leb-false i.item j.item f in
        let low = told_below (sees (suc j.item)).names (slot_of j) _ (input_told j x kind h (suc j.item) (omega arith)) in
        let under = (later (suc j.item) i.item (omega (arith, lt))).shorter in
        absurd (omega (arith, le, low, under))
        )
  ]

  pub function_order : (i j : ℕ) (x : List ℕ) → IsFunction j x → start i ≤ start j → i ≤ j
  function_order i j x h le = elim (cases_Bool (nat_le i j)) [
    | inl t ↦ leb-true i j t
    | inr f ↦ (
        let lt = leb-false i j f in
        let low = told_below (sees (suc j)).names (start j) _ (function_told j x h (suc j) (omega arith)) in
        let under = (later (suc j) i (omega (arith, lt))).shorter in
        absurd (omega (arith, le, low, under))
        )
  ]

  -- the items bind no predefined name
  pub told_outer : (k slot : ℕ) (n : Naming) (p : Predefined) → told (sees k).names slot ≡ Some n
      → n.binder ≡ binders.Predefined p → slot < length names
  told_outer k slot n p h is = elim (cases_Bool (nat_le (length names) slot)) [
    | inl t ↦ at_item (bound_at (first_scope names) 0 items k slot n h
        (leb-true (length names) slot t))
    | inr f ↦ leb-false (length names) slot f
  ]
    where
      at_item : IsBoundAt (first_scope names) 0 items k slot n → slot < length names
      at_item b = by_clause (bare_item b.item) b.is_added
        where
          by_clause : (c : BareItem)
              → IsAdded (sees b.index).senses (sees b.index).names (0 + b.index) c slot n
              → slot < length names
          by_clause (Group recursive bs) a =
              absurd (no_predefined_input p _ (sym is ∙ ap (λ (m : Naming). m.binder) a.naming))
          by_clause (Check w e) a = absurd a
          by_clause Mute a = absurd a
          by_clause (Defined x ps e) a =
              absurd (no_predefined_function p _ (sym is ∙ ap (λ (m : Naming). m.binder) a.1))
