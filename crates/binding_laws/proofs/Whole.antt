-- What each item of a model without fault sees and uses.
use Rattle.std.proofs.Common.{ℕ, ◌≡◌, ◌<◌, ◌≤◌, ◌+◌, zero, suc, List, [], ◌∷◌, ◌++◌, length, map, Bool, true, false, Some, refl, sym, ap, ◌∙◌, subst, inl, inr, arith}
use Rattle.std.specs.Prelude.{nat_le, slice_get, option_map}
use Rattle.std.specs.List.{AllByRecursion as Each}
use Rattle.std.proofs.lemmas.Bool.{cases_Bool, leb-true, leb-false}
use Rattle.std.proofs.lemmas.List.{map-append, append_assoc, append-nil}
use Rattle.std.proofs.lemmas.Option.{none-some, same_Some, slice_get-map}
use Rattle.text_values.specs.declared.model.Item.{Item}
use Rattle.predefined_names.specs.declared.predefined.Predefined.{Predefined}
use Rattle.text_values.specs.ModelValue.{Term}
use Rattle.binding_kinds.specs.declared.fault.ModelFault.{ModelFault}
use Rattle.binding_kinds.specs.declared.kinds.Kind.{Kind}
use Rattle.binding_kinds.specs.declared.scope.Binder.TheVariants as binders
use Rattle.binding_kinds.specs.declared.scope.Found.{Found}
use Rattle.binding_kinds.specs.declared.scope.Input.{Input}
use Rattle.binding_kinds.specs.declared.scope.Used.{Used}
use Rattle.binding_kinds.specs.Value.{Naming, BareItem, Group, Check, Mute, Defined, bare_item}
use Rattle.binding_kinds.specs.Kinds.{found}
use Rattle.binding_kinds.specs.Outermost.{naming_of}
use Rattle.binding_kinds.specs.Senses.{Sense}
use Rattle.binding_kinds.specs.Faults.{IsFaultOfItem, HasNoFault}
use Rattle.binding_graph.specs.Usages.{Usage, usages_after, usage_of_function, with_values, with_functions}
use Rattle.binding_laws.specs.ItemLaws.{Scope, scope_after, scope_at, first_scope, with_function, functions_before}
use Rattle.binding_laws.proofs.Before.{next_counts, IsFunctionAt, function_at}
use Rattle.binding_laws.proofs.Lists.{each_reverse, each_reversed, each_to}
use Rattle.binding_laws.proofs.Told.{told, told_found, naming_found}
use Rattle.binding_laws.proofs.Placed.{no_predefined_input, no_predefined_function, under_at, later, sees, start, slot_of, IsInput, told_input, one_input}
use Rattle.binding_laws.proofs.Used.{Hold, AreKept, term_right, term_kept, term_good}

-- ---- senses and usages of functions

abbrev pub HasCounts : Scope → Type 0
HasCounts s = map (λ (u : Usage). u.arity) s.usages ≡ map (λ (b : Sense). b.arity) s.senses

pub counts_at : (s : Scope) (at : ℕ) (xs : List Item) (k : ℕ) → HasCounts s
    → HasCounts (scope_at s at xs k)
counts_at s at [] k h = h
counts_at s at (x ∷ xs) zero h = h
counts_at s at (x ∷ xs) (suc k) h =
    counts_at (scope_after s at x) (at + 1) xs k (next_counts s at (bare_item x) h)

items_after : (s : Scope) (at : ℕ) (c : BareItem) (later : List ℕ)
    → map (λ (u : Usage). u.item) (usages_after s.usages s.names at c) ++ later
    ≡ map (λ (u : Usage). u.item) s.usages ++ with_function at c later
items_after s at (Group r bs) later = refl
items_after s at (Check w e) later = refl
items_after s at Mute later = refl
items_after s at (Defined n ps b) later =
    let u = usage_of_function s.usages s.names at ps b in
    ap (λ (l : List ℕ). l ++ later) (map-append (λ (v : Usage). v.item) s.usages (u ∷ []))
    ∙ append_assoc (map (λ (v : Usage). v.item) s.usages) (at ∷ []) later

-- the usages of the functions are in the order of their items
pub usages_numbered : (s : Scope) (at : ℕ) (xs : List Item) (k : ℕ)
    → map (λ (u : Usage). u.item) (scope_at s at xs k).usages
    ≡ map (λ (u : Usage). u.item) s.usages ++ functions_before at xs k
usages_numbered s at [] k = sym (append-nil (map (λ (u : Usage). u.item) s.usages))
usages_numbered s at (x ∷ xs) zero = sym (append-nil (map (λ (u : Usage). u.item) s.usages))
usages_numbered s at (x ∷ xs) (suc k) =
    usages_numbered (scope_after s at x) (at + 1) xs k
    ∙ items_after s at (bare_item x) (functions_before (at + 1) xs k)

-- ---- faults

pub no_fault_at : (s : Scope) (at : ℕ) (xs : List Item) (k : ℕ) (x : Item)
    → HasNoFault s.senses s.names at (map bare_item xs) → slice_get xs k ≡ Some x
    → (i : ℕ) (l : ModelFault)
    → IsFaultOfItem (scope_at s at xs k).senses (scope_at s at xs k).names (at + k) (bare_item x) i
    l → ⊥
no_fault_at s at [] k x none h i l f = none-some x h
no_fault_at s at (y ∷ ys) zero x none h i l f =
    let same : x ≡ y = sym (same_Some y x h) in
    let left : at + 0 ≡ at = omega arith in
    none 0 i l (inl (
      refl,
      subst (λ (n : ℕ). IsFaultOfItem s.senses s.names n (bare_item y) i l) left
          (subst (λ (z : Item). IsFaultOfItem s.senses s.names (at + 0) (bare_item z) i l)
          same f),
    ))
no_fault_at s at (y ∷ ys) (suc k) x none h i l f =
    let moved : at + suc k ≡ (at + 1) + k = omega arith in
    let there = scope_at (scope_after s at y) (at + 1) ys k in
    no_fault_at (scope_after s at y) (at + 1) ys k x
    (λ j i l g. none (1 + j) i l (inr (j, refl, g))) h i l
    (subst (λ (n : ℕ). IsFaultOfItem there.senses there.names n (bare_item x) i l) moved f)

-- ---- models

pub record IsOuter (n : Naming) : Type 0 where
  pub predefined : Predefined
  pub is : n ≡ naming_of predefined

module _ (names : List Naming) (items : List Item)
    (outer : (slot : ℕ) (n : Naming) → told names slot ≡ Some n → IsOuter n) where
  abbrev pub seen_by : ℕ → Scope
  seen_by k = sees names items k

  no_outer : (n : Naming) → IsOuter n → (i : Input) → n.binder ≡ binders.Bound i → ⊥
  no_outer n h i e =
      no_predefined_input h.predefined i (sym (ap (λ (m : Naming). m.binder) h.is) ∙ e)

  -- names that the items bind stand behind the predefined ones
  pub bound_high : (k slot : ℕ) (n : Naming) (i : Input) → told (seen_by k).names slot ≡ Some n
      → n.binder ≡ binders.Bound i → length names ≤ slot
  bound_high k slot n i h e = elim (cases_Bool (nat_le (length names) slot)) [
    | inl t ↦ leb-true (length names) slot t
    | inr f ↦ (
        let lt = leb-false (length names) slot f in
        let there : told names slot ≡ Some n = sym ((under_at (first_scope names) 0 items k).same slot lt) ∙ h in
        absurd (no_outer n (outer slot n there) i e)
        )
  ]

  pub function_high : (k slot : ℕ) (n : Naming) (g : ℕ) → told (seen_by k).names slot ≡ Some n
      → n.binder ≡ binders.Applicable g → length names ≤ slot
  function_high k slot n g h e = elim (cases_Bool (nat_le (length names) slot)) [
    | inl t ↦ leb-true (length names) slot t
    | inr f ↦ (
        let lt = leb-false (length names) slot f in
        let there : told names slot ≡ Some n = sym ((under_at (first_scope names) 0 items k).same slot lt) ∙ h in
        let is = outer slot n there in
        absurd (no_predefined_function is.predefined g
        (sym (ap (λ (m : Naming). m.binder) is.is) ∙ e))
        )
  ]

  -- the name is an input of an item before that one, and the slot tells which
  pub record IsRight (k : ℕ) (u : Used) : Type 0 where
    pub name : List ℕ
    pub kind : Kind
    pub input : IsInput names items u.input name kind
    pub place : u.slot ≡ slot_of names items u.input
    pub before : u.input.item < k

  right_later : (k l : ℕ) → k ≤ l → (u : Used) → IsRight k u → IsRight l u
  right_later k l le u h =
      record {
        name = h.name;
        kind = h.kind;
        input = h.input;
        place = h.place;
        before = (let lt = h.before in omega (arith, lt, le));
      }

  pub sole_right : (k : ℕ) (u v : Used) → IsRight k u → IsRight k v → u.slot ≡ v.slot
      → u.input ≡ v.input
  sole_right k u v h g e =
      one_input names items u.input v.input h.name g.name h.kind g.kind h.input g.input
      (sym h.place ∙ (e ∙ g.place))

  pub seen_right : (k : ℕ) (x : List ℕ) (f : Found) (i : Input) → found (seen_by k).names x ≡ Some f
      → f.binder ≡ binders.Bound i → IsRight k (record { slot = f.slot; input = i })
  seen_right k x f i h e =
      let there = told_found (seen_by k).names x f h in
      let high = bound_high k f.slot (naming_found x f) i there e in
      let at = told_input names items k f.slot (naming_found x f) i there high e in
      record { name = x; kind = f.kind; input = at.input; place = at.place; before = at.before }

  pub seen_low : (k from : ℕ) (x : List ℕ) (f : Found) (i : Input)
      → found (seen_by k).names x ≡ Some f → nat_le from f.slot ≡ false → f.binder ≡ binders.Bound i
      → IsRight k (record { slot = f.slot; input = i })
  seen_low k from x f i h low e = seen_right k x f i h e

  -- names that the item of that index adds stand behind those before it
  pub seen_outside : (k : ℕ) (x : List ℕ) (f : Found) (i : Input)
      → found (seen_by (suc k)).names x ≡ Some f → nat_le (start names items k) f.slot ≡ false
      → f.binder ≡ binders.Bound i → IsRight k (record { slot = f.slot; input = i })
  seen_outside k x f i h low e =
      let right = seen_right (suc k) x f i h e in
      record { name = right.name; kind = right.kind; input = right.input; place = right.place; before = lower (nat_le k i.item) refl right.place }
    where
      lower : (b : Bool) → nat_le k i.item ≡ b → f.slot ≡ slot_of names items i → i.item < k
      lower true t place =
          let lt = leb-false (start names items k) f.slot low in
          let under = (later names items k i.item (leb-true k i.item t)).shorter in
          absurd (omega (arith, lt, under, place))
      lower false t place = leb-false k i.item t

  -- ---- the usages that an item sees

  pub record IsUsageAt (k at : ℕ) (u : Usage) : Type 0 where
    pub index : ℕ
    pub before : index < k
    pub item : Item
    pub there : slice_get items index ≡ Some item
    pub name : List ℕ
    pub parameters : List (List ℕ)
    pub body : Term
    pub clause : bare_item item ≡ Defined name parameters body
    pub usage : u
        ≡ usage_of_function (seen_by index).usages (seen_by index).names index parameters body
    pub number : slice_get (functions_before 0 items k) at ≡ Some index

  of_function : (k at : ℕ) (u : Usage) → slice_get (seen_by k).usages at ≡ Some u
      → slice_get (functions_before 0 items k) at ≡ Some u.item
      → IsFunctionAt (first_scope names) 0 items k at at u.item → IsUsageAt k at u
  of_function k at u h numbered f =
      let index : u.item ≡ f.behind = omega (arith, f.index) in
      let same : u ≡ usage_of_function (seen_by f.behind).usages (seen_by f.behind).names u.item f.parameters f.body = same_Some _ _ (sym h ∙ f.usage) in
      record {
        index = f.behind;
        before = f.before;
        item = f.item;
        there = f.text;
        name = f.name;
        parameters = f.parameters;
        body = f.body;
        clause = f.clause;
        usage =
            same
            ∙ ap
            (λ (i : ℕ). usage_of_function (seen_by f.behind).usages (seen_by f.behind).names i
            f.parameters f.body) index;
        number = numbered ∙ ap (λ (i : ℕ). Some i) index;
      }

  pub is_usage : (k at : ℕ) (u : Usage) → slice_get (seen_by k).usages at ≡ Some u
      → IsUsageAt k at u
  is_usage k at u h =
      let counted : slice_get (map (λ (v : Usage). v.item) (seen_by k).usages) at ≡ Some u.item = slice_get-map (λ (v : Usage). v.item) (seen_by k).usages at ∙ ap (option_map (λ (v : Usage). v.item)) h in
      let numbered : slice_get (functions_before 0 items k) at ≡ Some u.item = ap (λ (l : List ℕ). slice_get l at) (sym (usages_numbered (first_scope names) 0 items k)) ∙ counted in
      of_function k at u h numbered (function_at (first_scope names) 0 items k at at at u.item
      (omega arith) (omega arith) numbered)

  abbrev pub AreRightUsages : ℕ → Type 0
  AreRightUsages k =
      (at : ℕ) (u : Usage) → slice_get (seen_by k).usages at ≡ Some u → Each (IsRight k) u.values

  -- what an expression notes, where the item of that index sees right usages
  function_right : (k : ℕ) (ps : List (List ℕ)) (body : Term) → AreRightUsages k
      → Each (IsRight k) (with_values (seen_by k).usages (seen_by k).names ps (start names items k)
      body [])
  function_right k ps body usages =
      term_right (IsRight k) (sole_right k) (λ i. Unit {0}) (seen_by k) (seen_by k).names ps
      (start names items k) (seen_low k (start names items k)) usages body [] tt

  right_usages : (most k : ℕ) → k ≤ most → AreRightUsages k
  right_usages zero k le at u h =
      absurd (let is = is_usage k at u h in omega (arith, is.before, le))
  right_usages (suc most) k le at u h =
      let is = is_usage k at u h in
      let noted = with_values (seen_by is.index).usages (seen_by is.index).names is.parameters (start names items is.index) is.body [] in
      let right = function_right is.index is.parameters is.body (right_usages most is.index (omega (arith, is.before, le))) in
      let low : is.index ≤ k = (let lt = is.before in omega (arith, lt)) in
      subst (λ (w : Usage). Each (IsRight k) w.values) (sym is.usage) (each_reverse (IsRight k)
      noted (each_to (IsRight is.index) (IsRight k) (right_later is.index k low) noted
      right))

  pub usages_right : (k : ℕ) → AreRightUsages k
  usages_right k = right_usages k k (omega arith)

  -- ---- functions whose names are kept

  module _ (P : Input → Type 0) (Q : ℕ → Type 0) where
    -- the item is a function, and what holds of all that it uses holds of each name that it sees
    pub record IsKeptFunction (i : ℕ) : Type 0 where
      pub item : Item
      pub there : slice_get items i ≡ Some item
      pub name : List ℕ
      pub parameters : List (List ℕ)
      pub body : Term
      pub clause : bare_item item ≡ Defined name parameters body
      pub kept : AreKept P Q (seen_by i).usages (seen_by i).names parameters (start names items i)
          body

    kept_usages : (most k : ℕ) → k ≤ most → (at : ℕ) (u : Usage)
        → slice_get (seen_by k).usages at ≡ Some u → Hold P u.values → Each Q u.functions
        → IsKeptFunction u.item × Each IsKeptFunction u.functions
    kept_usages zero k le at u h hold all =
        absurd (let is = is_usage k at u h in omega (arith, is.before, le))
    kept_usages (suc most) k le at u h hold all =
        let is = is_usage k at u h in
        let s = seen_by is.index in
        let from = start names items is.index in
        let noted = with_values s.usages s.names is.parameters from is.body [] in
        let applied = with_functions s.usages s.names is.parameters is.body [] in
        let seen = seen_low is.index from in
        let noted_hold : Hold P noted = each_reversed (λ (v : Used). P v.input) noted (subst (λ (w : Usage). Hold P w.values) is.usage hold) in
        let applied_all : Each Q applied = each_reversed Q applied (subst (λ (w : Usage). Each Q w.functions) is.usage all) in
        let kept = (term_kept (IsRight is.index) (sole_right is.index) P s s.names is.parameters from seen (usages_right is.index) Q is.body [] [] tt noted_hold applied_all).1 in
        let functions = term_good (IsRight is.index) (sole_right is.index) P s s.names is.parameters from seen (usages_right is.index) Q IsKeptFunction (kept_usages most is.index (omega (arith, is.before, le))) is.body [] kept tt in
        let here : IsKeptFunction is.index = record { item = is.item; there = is.there; name = is.name; parameters = is.parameters; body = is.body; clause = is.clause; kept = kept } in (
          subst IsKeptFunction (sym (ap (λ (w : Usage). w.item) is.usage)) here,
          subst (λ (w : Usage). Each IsKeptFunction w.functions) (sym is.usage)
              (each_reverse IsKeptFunction applied functions),
        )

    pub usages_kept : (k at : ℕ) (u : Usage) → slice_get (seen_by k).usages at ≡ Some u
        → Hold P u.values → Each Q u.functions
        → IsKeptFunction u.item × Each IsKeptFunction u.functions
    usages_kept k at u h hold all = kept_usages k k (omega arith) at u h hold all
