-- What holds of all that an item uses holds of each name that it sees.
use Rattle.std.proofs.Common.{ℕ, ◌≡◌, suc, List, [], ◌∷◌, reverse, true, false, Some, sym, subst}
use Rattle.std.specs.Prelude.{nat_le, slice_get}
use Rattle.std.specs.List.{AllByRecursion as Each}
use Rattle.text_values.specs.declared.model.Item.{Item}
use Rattle.binding_kinds.specs.declared.scope.Binder.TheVariants as binders
use Rattle.binding_kinds.specs.declared.scope.Found.{Found}
use Rattle.binding_kinds.specs.declared.scope.Input.{Input}
use Rattle.binding_kinds.specs.declared.scope.Used.{Used}
use Rattle.binding_kinds.specs.Value.{Naming, Bound, BareItem, Group, Check, Mute, Defined}
use Rattle.binding_kinds.specs.Kinds.{found}
use Rattle.binding_graph.specs.declared.resolved.ResolvedItem.{ResolvedItem}
use Rattle.binding_graph.specs.Inputs.{inputs_of}
use Rattle.binding_graph.specs.Resolved.{IsResolvedIn}
use Rattle.binding_graph.specs.Usages.{Usage, with_values, with_functions, with_all_values, with_all_functions}
use Rattle.binding_laws.specs.ItemLaws.{Scope}
use Rattle.binding_laws.proofs.Lists.{each_reverse, each_reversed, each_map, each_mapped, each_to}
use Rattle.binding_laws.proofs.Told.{told}
use Rattle.binding_laws.proofs.Placed.{sees, start, IsNameOfGroup}
use Rattle.binding_laws.proofs.Used.{Hold, AreKept, functions_old, term_right, term_kept, term_good}
use Rattle.binding_laws.proofs.Whole.{IsOuter, IsRight, sole_right, seen_low, seen_outside, usages_right, IsKeptFunction, usages_kept}

-- what is kept of an item, where bodies of a recursive group see these names, and those from that
-- slot on are its own
abbrev pub IsKeptItem : (Input → Type 0) → (ℕ → Type 0) → Scope → List Naming → ℕ → BareItem → Type 0
IsKeptItem P Q s own from (Group true bs) = Each (λ b. AreKept P Q s.usages own [] from b.body) bs
IsKeptItem P Q s own from (Group false bs) =
    Each (λ b. AreKept P Q s.usages s.names [] from b.body) bs
IsKeptItem P Q s own from (Check w e) = AreKept P Q s.usages s.names [] from e
IsKeptItem P Q s own from Mute = Unit {0}
IsKeptItem P Q s own from (Defined n ps b) = AreKept P Q s.usages s.names ps from b

-- ---- groups

module _ (R : Used → Type 0) (sole : (u v : Used) → R u → R v → u.slot ≡ v.slot → u.input ≡ v.input)
    (P : Input → Type 0) (s : Scope) (names : List Naming) (from : ℕ)
    (seen : (x : List ℕ) (f : Found) (i : Input) → found names x ≡ Some f
    → nat_le from f.slot ≡ false → f.binder ≡ binders.Bound i
    → R (record { slot = f.slot; input = i }))
    (usages : (at : ℕ) (u : Usage) → slice_get s.usages at ≡ Some u → Each R u.values) where
  bodies_right : (bs : List Bound) (vs : List Used) → Each R vs
      → Each R (with_all_values s.usages names from bs vs)
  bodies_right [] vs h = h
  bodies_right (b ∷ bs) vs h =
      bodies_right bs (with_values s.usages names [] from b.body vs) (term_right R sole P s names []
      from seen usages b.body vs h)

  module _ (Q : ℕ → Type 0) where
    bodies_old : (bs : List Bound) (fs : List ℕ) → Each Q (with_all_functions s.usages names bs fs)
        → Each Q fs
    bodies_old [] fs h = h
    bodies_old (b ∷ bs) fs h =
        functions_old Q s.usages names [] b.body fs (bodies_old bs
        (with_functions s.usages names [] b.body fs) h)

    bodies_kept : (bs : List Bound) (vs : List Used) (fs : List ℕ) → Each R vs
        → Hold P (with_all_values s.usages names from bs vs)
        → Each Q (with_all_functions s.usages names bs fs)
        → Hold P vs × Each (λ b. AreKept P Q s.usages names [] from b.body) bs
    bodies_kept [] vs fs h g q = (g, tt)
    bodies_kept (b ∷ bs) vs fs h g q =
        let noted = with_values s.usages names [] from b.body vs in
        let applied = with_functions s.usages names [] b.body fs in
        let rest = bodies_kept bs noted applied (term_right R sole P s names [] from seen usages b.body vs h) g q in
        let first = term_kept R sole P s names [] from seen usages Q b.body vs fs h rest.0 (bodies_old bs applied q) in
        (first.0, (first.1, rest.1))

    module _ (G : ℕ → Type 0)
        (good : (at : ℕ) (u : Usage) → slice_get s.usages at ≡ Some u → Hold P u.values
        → Each Q u.functions → G u.item × Each G u.functions) where
      bodies_good : (bs : List Bound) (fs : List ℕ)
          → Each (λ b. AreKept P Q s.usages names [] from b.body) bs → Each G fs
          → Each G (with_all_functions s.usages names bs fs)
      bodies_good [] fs k h = h
      bodies_good (b ∷ bs) fs k h =
          bodies_good bs (with_functions s.usages names [] b.body fs) k.1
          (term_good R sole P s names [] from seen usages Q G good b.body fs k.0 h)

-- ---- items

-- what holds of all inputs holds of all names that are noted
noted_hold : (P : Input → Type 0) (r : ResolvedItem) (vs : List Used)
    → r.inputs.items ≡ inputs_of vs → Each P r.inputs.items → Hold P vs
noted_hold P r vs e h =
    each_reversed (λ (v : Used). P v.input) vs (each_mapped (λ (v : Used). v.input) P (reverse vs)
    (subst (Each P) e h))

inputs_hold : (P : Input → Type 0) (r : ResolvedItem) (vs : List Used)
    → r.inputs.items ≡ inputs_of vs → Hold P vs → Each P r.inputs.items
inputs_hold P r vs e h =
    subst (Each P) (sym e) (each_map (λ (v : Used). v.input) P (reverse vs)
    (each_reverse (λ (v : Used). P v.input) vs h))

applied_all : (Q : ℕ → Type 0) (r : ResolvedItem) (fs : List ℕ) → r.functions.items ≡ reverse fs
    → Each Q r.functions.items → Each Q fs
applied_all Q r fs e h = each_reversed Q fs (subst (Each Q) e h)

functions_all : (Q : ℕ → Type 0) (r : ResolvedItem) (fs : List ℕ) → r.functions.items ≡ reverse fs
    → Each Q fs → Each Q r.functions.items
functions_all Q r fs e h = subst (Each Q) (sym e) (each_reverse Q fs h)

module _ (names : List Naming) (items : List Item)
    (outer : (slot : ℕ) (n : Naming) → told names slot ≡ Some n → IsOuter n) (k : ℕ) where
  abbrev s : Scope
  s = sees names items k

  abbrev from : ℕ
  from = start names items k

  abbrev own : List Naming
  own = (sees names items (suc k)).names

  abbrev Right : Used → Type 0
  Right = IsRight names items outer k

  abbrev sole : (u v : Used) → Right u → Right v → u.slot ≡ v.slot → u.input ≡ v.input
  sole = sole_right names items outer k

  abbrev IsName : Input → Type 0
  IsName = IsNameOfGroup names items k

  groups : (vs : List Used) → Each Right vs → Hold IsName vs
  groups vs h =
      each_to Right (λ v. IsName v.input)
      (λ v g. record { name = g.name; kind = g.kind; input = g.input; before = g.before }) vs h

  pub item_inputs : (c : BareItem) (r : ResolvedItem)
      → IsResolvedIn s.senses s.usages s.names own from c r → Each IsName r.inputs.items
  item_inputs (Group true bs) r h =
      inputs_hold IsName r _ h.1.inputs (groups _ (bodies_right Right sole IsName s own from
      (seen_outside names items outer k) (usages_right names items outer k) bs [] tt))
  item_inputs (Group false bs) r h =
      inputs_hold IsName r _ h.1.inputs (groups _ (bodies_right Right sole IsName s s.names from
      (seen_low names items outer k from) (usages_right names items outer k) bs [] tt))
  item_inputs (Check w e) r h =
      inputs_hold IsName r _ h.1.inputs (groups _ (term_right Right sole IsName s s.names [] from
      (seen_low names items outer k from) (usages_right names items outer k) e [] tt))
  item_inputs Mute r h = inputs_hold IsName r [] h.1.inputs tt
  item_inputs (Defined n ps b) r h =
      inputs_hold IsName r _ h.1.inputs (groups _ (term_right Right sole IsName s s.names ps from
      (seen_low names items outer k from) (usages_right names items outer k) b [] tt))

  module _ (P : Input → Type 0) (Q : ℕ → Type 0) where
    pub item_kept : (c : BareItem) (r : ResolvedItem)
        → IsResolvedIn s.senses s.usages s.names own from c r → Each P r.inputs.items
        → Each Q r.functions.items → IsKeptItem P Q s own from c
    item_kept (Group true bs) r h all apps =
        (bodies_kept Right sole P s own from (seen_outside names items outer k)
        (usages_right names items outer k) Q bs [] [] tt (noted_hold P r _ h.1.inputs all)
        (applied_all Q r _ h.1.functions apps)).1
    item_kept (Group false bs) r h all apps =
        (bodies_kept Right sole P s s.names from (seen_low names items outer k from)
        (usages_right names items outer k) Q bs [] [] tt (noted_hold P r _ h.1.inputs all)
        (applied_all Q r _ h.1.functions apps)).1
    item_kept (Check w e) r h all apps =
        (term_kept Right sole P s s.names [] from (seen_low names items outer k from)
        (usages_right names items outer k) Q e [] [] tt (noted_hold P r _ h.1.inputs all)
        (applied_all Q r _ h.1.functions apps)).1
    item_kept Mute r h all apps = tt
    item_kept (Defined n ps b) r h all apps =
        (term_kept Right sole P s s.names ps from (seen_low names items outer k from)
        (usages_right names items outer k) Q b [] [] tt (noted_hold P r _ h.1.inputs all)
        (applied_all Q r _ h.1.functions apps)).1

    -- so does it hold of each name that a function sees which it applies
    pub item_functions : (c : BareItem) (r : ResolvedItem)
        → IsResolvedIn s.senses s.usages s.names own from c r → IsKeptItem P Q s own from c
        → Each (IsKeptFunction names items outer P Q) r.functions.items
    item_functions (Group true bs) r h kept =
        functions_all (IsKeptFunction names items outer P Q) r _ h.1.functions (bodies_good Right
        sole P s own from (seen_outside names items outer k)
        (usages_right names items outer k) Q (IsKeptFunction names items outer P Q)
        (usages_kept names items outer P Q k) bs [] kept tt)
    item_functions (Group false bs) r h kept =
        functions_all (IsKeptFunction names items outer P Q) r _ h.1.functions (bodies_good Right
        sole P s s.names from (seen_low names items outer k from)
        (usages_right names items outer k) Q (IsKeptFunction names items outer P Q)
        (usages_kept names items outer P Q k) bs [] kept tt)
    item_functions (Check w e) r h kept =
        functions_all (IsKeptFunction names items outer P Q) r _ h.1.functions (term_good Right sole
        P s s.names [] from (seen_low names items outer k from)
        (usages_right names items outer k) Q (IsKeptFunction names items outer P Q)
        (usages_kept names items outer P Q k) e [] kept tt)
    item_functions Mute r h kept =
        functions_all (IsKeptFunction names items outer P Q) r [] h.1.functions tt
    item_functions (Defined n ps b) r h kept =
        functions_all (IsKeptFunction names items outer P Q) r _ h.1.functions (term_good Right sole
        P s s.names ps from (seen_low names items outer k from)
        (usages_right names items outer k) Q (IsKeptFunction names items outer P Q)
        (usages_kept names items outer P Q k) b [] kept tt)
