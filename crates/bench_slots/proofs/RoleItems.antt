-- The items of a model without fault are closed.
use Rattle.std.proofs.Common.{ℕ, ◌≡◌, ◌<◌, ◌+◌, zero, suc, List, [], ◌∷◌, ◌++◌, length, map, reverse, Bool, true, false, Some, refl, sym, ap, ◌∙◌, subst, inl, inr, arith}
use Rattle.std.specs.Prelude.{nat_le, slice_get}
use Rattle.std.specs.List.{AllByRecursion as Each}
use Rattle.std.proofs.lemmas.Bool.{leb-false}
use Rattle.std.proofs.lemmas.Option.{none-some, same_Some}
use Rattle.predefined_names.specs.declared.predefined.TheConstants.{PREDEFINED}
use Rattle.text_values.specs.ModelValue.{Term}
use Rattle.memo_core.specs.Step.{Has}
use Rattle.binding_kinds.specs.declared.kinds.Kind.TheVariants.{OfAny}
use Rattle.binding_kinds.specs.declared.scope.Binder.TheVariants as binders
use Rattle.binding_kinds.specs.declared.scope.Found.{Found}
use Rattle.binding_kinds.specs.declared.scope.Input.{Input}
use Rattle.binding_kinds.specs.declared.scope.Used.{Used}
use Rattle.binding_kinds.specs.Value.{Naming, Bound, BareItem, Group, Check, Mute, Defined}
use Rattle.binding_kinds.specs.Kinds.{found}
use Rattle.binding_kinds.specs.Senses.{Sense}
use Rattle.binding_kinds.specs.Faults.{with_own, with_all, names_after, senses_after}
use Rattle.binding_graph.specs.declared.resolved.Body.{Body}
use Rattle.binding_graph.specs.declared.resolved.ResolvedItem.{ResolvedItem}
use Rattle.binding_graph.specs.declared.resolved.Role.{Role}
use Rattle.binding_graph.specs.declared.resolved.Role.TheVariants as roles
use Rattle.binding_graph.specs.Usages.{Usage, usage_of_function, usages_after, with_values, with_functions}
use Rattle.binding_graph.specs.Resolved.{AreBodies, IsGroupRole, HasUses, IsResolvedIn, AreResolved}
use Rattle.bench_slots.specs.Tables.{name_count, IsNameOf}
use Rattle.bench_slots.specs.Closed.{NamesItem, IsPassedOn, IsClosedItem, AreClosed}
use Rattle.binding_kinds.specs.Outermost.{outermost_names}
use Rattle.bench_slots.proofs.Lists.{each_reverse, each_map, each_to, has_append, has_reverse, has_map}
use Rattle.bench_slots.proofs.Naming.{binder_at, at_below, one_more, found_at, own_same, NamesHold, names_more, own_hold, all_hold, predefined_hold}
use Rattle.bench_slots.proofs.Using.{IsBoundBy, items_in, IsCovered, AreKnown, term_known, bodies_known}

-- ---- what stays as more is bound

bound_more : (n : Naming) (names : List Naming) (v : Used) → IsBoundBy names v
    → IsBoundBy (n ∷ names) v
bound_more n names v h =
    one_more n names v.slot (at_below names v.slot (binders.Bound v.input) h) ∙ h

-- what one more name keeps, the names of a group keep
own_keep : (P : List Naming → Type 0)
    → ((n : Naming) (names : List Naming) → P names → P (n ∷ names))
    → (bs : List Bound) (names : List Naming) (item at : ℕ) → P names
    → P (with_own names item at bs)
own_keep P more [] names item at h = h
own_keep P more (b ∷ bs) names item at h = own_keep P more bs _ item (suc at) (more _ names h)

all_keep : (P : List Naming → Type 0)
    → ((n : Naming) (names : List Naming) → P names → P (n ∷ names))
    → (ss : List Sense) (outer : List Naming) (bs : List Bound) (names : List Naming) (item at : ℕ)
    → P names → P (with_all ss outer names item at bs)
all_keep P more ss outer [] names item at h = h
all_keep P more ss outer (b ∷ bs) names item at h =
    all_keep P more ss outer bs _ item (suc at) (more _ names h)

extended_keep : (P : List Naming → Type 0)
    → ((n : Naming) (names : List Naming) → P names → P (n ∷ names))
    → (ss : List Sense) (names : List Naming) (at : ℕ) (c : BareItem) → P names
    → P (names_after ss names at c)
extended_keep P more ss names at (Group true bs) h = own_keep P more bs names at 0 h
extended_keep P more ss names at (Group false bs) h = all_keep P more ss names bs names at 0 h
extended_keep P more ss names at (Check w e) h = h
extended_keep P more ss names at Mute h = h
extended_keep P more ss names at (Defined n ps b) h = more _ names h

covered_more : (us more : List Usage) (vs : List Used) (f : ℕ) → IsCovered us vs f
    → IsCovered (us ++ more) vs f
covered_more us more vs f c =
    record {
      usage = c.usage;
      there = has_append us more c.usage c.there;
      item = c.item;
      among = c.among;
    }

known_more : (names : List Naming) (us more : List Usage) (vs : List Used) (fs : List ℕ)
    → AreKnown names us vs fs → AreKnown names (us ++ more) vs fs
known_more names us more vs fs k =
    record {
      bound = k.bound;
      covered =
          each_to (IsCovered us vs) (IsCovered (us ++ more) vs) (covered_more us more vs) fs
          k.covered;
    }

known_later : (us : List Usage) (vs : List Used) (fs : List ℕ) (n : Naming) (names : List Naming)
    → AreKnown names us vs fs → AreKnown (n ∷ names) us vs fs
known_later us vs fs n names k =
    record {
      bound =
          each_to (IsBoundBy names) (IsBoundBy (n ∷ names)) (bound_more n names) vs k.bound;
      covered = k.covered;
    }

-- the same, in the other order
known_turned : (names : List Naming) (us : List Usage) (vs : List Used) (fs : List ℕ)
    → AreKnown names us vs fs → AreKnown names us (reverse vs) (reverse fs)
known_turned names us vs fs k = record {
  bound = each_reverse (IsBoundBy names) vs k.bound;
  covered =
      each_reverse (IsCovered us (reverse vs)) fs (each_to (IsCovered us vs)
      (IsCovered us (reverse vs)) turned fs k.covered);
}
  where
    turned_has : (ws : List Used) (k : ℕ) → Has (items_in ws) k → Has (items_in (reverse ws)) k
    turned_has ws k h = has_turned ws k h
      where
        map_reverse : (ws : List Used) (k : ℕ) → Has (items_in ws) k
            → (v : Used) × Has ws v × (v.input.item ≡ k)
        map_reverse [] k h = absurd h
        map_reverse (w ∷ ws) k (inl e) = (w, inl refl, e)
        map_reverse (w ∷ ws) k (inr h) = let r = map_reverse ws k h in (r.0, inr r.1, r.2)

        has_turned : (ws : List Used) (k : ℕ) → Has (items_in ws) k → Has (items_in (reverse ws)) k
        has_turned ws k h =
            let r = map_reverse ws k h in
            subst (Has (items_in (reverse ws))) r.2 (has_map (λ (v : Used). v.input.item)
            (reverse ws) r.0 (has_reverse ws r.0 r.1))

    turned : (f : ℕ) → IsCovered us vs f → IsCovered us (reverse vs) f
    turned f c = record {
      usage = c.usage;
      there = c.there;
      item = c.item;
      among =
          each_to (λ v. Has (items_in vs) v.input.item)
          (λ v. Has (items_in (reverse vs)) v.input.item) (λ v h. turned_has vs v.input.item h)
          c.usage.values c.among;
    }

-- ---- functions and their items

module _ (items : List ResolvedItem) where
  -- what is kept of a function is what its item uses
  pub record IsUsageOf (names : List Naming) (us : List Usage) (u : Usage) : Type 0 where
    pub known : AreKnown names us u.values u.functions
    pub item : ResolvedItem
    pub found : slice_get items u.item ≡ Some item
    pub silent : item.role ≡ roles.Silent
    pub inputs : item.inputs.items ≡ map (λ v. v.input) u.values

  abbrev AreUsages : List Usage → List Naming → Type 0
  AreUsages us names = (u : Usage) → Has us u → IsUsageOf names us u

  usage_later : (us : List Usage) (n : Naming) (names : List Naming) → AreUsages us names
      → AreUsages us (n ∷ names)
  usage_later us n names h u there =
      let is = h u there in
      record { known = known_later us u.values u.functions n names is.known; item = is.item; found = is.found; silent = is.silent; inputs = is.inputs }

  usage_more : (us more : List Usage) (names : List Naming) (u : Usage) → IsUsageOf names us u
      → IsUsageOf names (us ++ more) u
  usage_more us more names u is =
      record {
        known = known_more names us more u.values u.functions is.known;
        item = is.item;
        found = is.found;
        silent = is.silent;
        inputs = is.inputs;
      }

  -- ---- the item of what is known

  abbrev IsEarlier : ℕ → Input → Type 0
  IsEarlier index i = (i.item < index) × IsNameOf items i

  earlier_more : (index : ℕ) (i : Input) → IsEarlier index i → IsEarlier (index + 1) i
  earlier_more index i h = (omega (arith, h.0), h.1)

  names_closed : (index : ℕ) (names : List Naming) (vs : List Used)
      → NamesHold (IsEarlier index) names → Each (IsBoundBy names) vs
      → Each (IsEarlier index) (map (λ v. v.input) vs)
  names_closed index names vs hold bound =
      each_map (λ (v : Used). v.input) (IsEarlier index) vs (each_to (IsBoundBy names)
      (λ v. IsEarlier index v.input) (λ v h. hold v.slot v.input h) vs bound)

  item_in_inputs : (vs : List Used) (k : ℕ) → Has (items_in vs) k
      → Has (map (λ name. name.item) (map (λ v. v.input) vs)) k
  item_in_inputs [] k h = h
  item_in_inputs (v ∷ vs) k (inl e) = inl e
  item_in_inputs (v ∷ vs) k (inr h) = inr (item_in_inputs vs k h)

  passed_on : (names : List Naming) (us : List Usage) (vs : List Used) (r : ResolvedItem)
      → AreUsages us names → r.inputs.items ≡ map (λ v. v.input) vs → (f : ℕ) → IsCovered us vs f
      → IsPassedOn items r f
  passed_on names us vs r all inputs f c =
      let is = all c.usage c.there in
      let among : Each (λ name. NamesItem r name.item) (map (λ v. v.input) c.usage.values) =
      each_map (λ (v : Used). v.input) (λ name. NamesItem r name.item) c.usage.values
      (each_to (λ v. Has (items_in vs) v.input.item) (λ v. NamesItem r v.input.item)
      (λ v h. subst (λ (is : List Input). Has (map (λ name. name.item) is) v.input.item)
      (sym inputs) (item_in_inputs vs v.input.item h)) c.usage.values c.among) in (
        is.item,
        ap (slice_get items) (sym c.item) ∙ is.found,
        is.silent,
        subst (Each (λ name. NamesItem r name.item)) (sym is.inputs) among,
      )

  closed_by : (index : ℕ) (names : List Naming) (us : List Usage) (vs : List Used) (fs : List ℕ)
      (r : ResolvedItem) → NamesHold (IsEarlier index) names → AreUsages us names
      → AreKnown names us vs fs → HasUses r vs fs → IsClosedItem items index r
  closed_by index names us vs fs r hold all k uses =
      let turned = known_turned names us vs fs k in
      record {
        names =
            subst (Each (IsEarlier index)) (sym uses.inputs)
            (names_closed index names (reverse vs) hold turned.bound);
        functions =
            subst (Each (IsPassedOn items r)) (sym uses.functions) (each_to
            (IsCovered us (reverse vs)) (IsPassedOn items r)
            (passed_on names us (reverse vs) r all uses.inputs) (reverse fs) turned.covered);
      }

  -- ---- what an item sees

  nothing_known : (names : List Naming) (us : List Usage) → AreKnown names us [] []
  nothing_known names us = record { bound = tt; covered = tt }

  seen_same : (names : List Naming) (x : List ℕ) (f : Found) → found names x ≡ Some f
      → nat_le (length names) f.slot ≡ false → binder_at names f.slot ≡ Some f.binder
  seen_same names x f e t = found_at names x f e

  seen_own : (names : List Naming) (bs : List Bound) (at : ℕ) (x : List ℕ) (f : Found)
      → found (with_own names at 0 bs) x ≡ Some f → nat_le (length names) f.slot ≡ false
      → binder_at names f.slot ≡ Some f.binder
  seen_own names bs at x f e t =
      sym (own_same bs names at 0 f.slot (leb-false (length names) f.slot t))
      ∙ found_at (with_own names at 0 bs) x f e

  module _ (ss : List Sense) (us : List Usage) (names : List Naming) (at : ℕ)
      (all : AreUsages us names) (hold : NamesHold (IsEarlier at) names) where
    knowns : (u : Usage) → Has us u → AreKnown names us u.values u.functions
    knowns u there = (all u there).known

    item_closed : (c : BareItem) (r : ResolvedItem)
        → IsResolvedIn ss us names (names_after ss names at c) (length names) c r
        → IsClosedItem items at r
    item_closed (Group true bs) r h =
        closed_by at names us _ _ r hold all
        (bodies_known names us knowns (with_own names at 0 bs) (length names) (seen_own names bs at)
        bs [] [] (nothing_known names us)) h.1
    item_closed (Group false bs) r h =
        closed_by at names us _ _ r hold all
        (bodies_known names us knowns names (length names) (seen_same names) bs [] []
        (nothing_known names us)) h.1
    item_closed (Check w e) r h =
        closed_by at names us _ _ r hold all
        (term_known names us knowns names [] (length names) (seen_same names) e [] []
        (nothing_known names us)) h.1
    item_closed Mute r h = closed_by at names us [] [] r hold all (nothing_known names us) h.1
    item_closed (Defined n ps b) r h =
        closed_by at names us _ _ r hold all
        (term_known names us knowns names ps (length names) (seen_same names) b [] []
        (nothing_known names us)) h.1

    -- ---- what the next item sees

    bodies_many : (from : ℕ) (seen : List Naming) (bs : List Bound) (rs : List Body)
        (vs : List Used) → AreBodies ss us seen from vs bs rs → length rs ≡ length bs
    bodies_many from seen [] [] vs h = refl
    bodies_many from seen [] (r ∷ rs) vs h = absurd h
    bodies_many from seen (b ∷ bs) [] vs h = absurd h
    bodies_many from seen (b ∷ bs) (r ∷ rs) vs h =
        ap suc (bodies_many from seen bs rs (with_values us seen [] from b.body vs) h.2)

    role_many : (from : ℕ) (seen : List Naming) (recursive : Bool) (bs : List Bound) (role : Role)
        → IsGroupRole ss us seen from recursive bs role → name_count role ≡ length bs
    role_many from seen recursive bs (roles.Group r bodies) h =
        bodies_many from seen bs bodies.items [] h.1
    role_many from seen recursive bs (roles.Check check) h = absurd h
    role_many from seen recursive bs roles.Silent h = absurd h

    module _ (r : ResolvedItem) (there : slice_get items at ≡ Some r) where
      group_name : (bs : List Bound) → name_count r.role ≡ length bs → (p : ℕ) → p < length bs
          → IsEarlier (at + 1) (record { item = at; position = p })
      group_name bs many p lt = (omega arith, (r, there, omega (arith, many, lt)))

      hold_more : NamesHold (IsEarlier (at + 1)) names
      hold_more slot i e = earlier_more at i (hold slot i e)

      next_hold : (c : BareItem)
          → IsResolvedIn ss us names (names_after ss names at c) (length names) c r
          → NamesHold (IsEarlier (at + 1)) (names_after ss names at c)
      next_hold (Group true bs) h =
          own_hold (IsEarlier (at + 1)) bs names at 0 (length bs)
          (group_name bs (role_many (length names) (with_own names at 0 bs) true bs r.role h.0))
          (omega arith) hold_more
      next_hold (Group false bs) h =
          all_hold (IsEarlier (at + 1)) ss names bs names at 0 (length bs)
          (group_name bs (role_many (length names) names false bs r.role h.0)) (omega arith)
          hold_more
      next_hold (Check w e) h = hold_more
      next_hold Mute h = hold_more
      next_hold (Defined n ps b) h =
          names_more (IsEarlier (at + 1))
          (record { name = n; kind = OfAny; binder = binders.Applicable (length ss) }) names
          (λ i e. absurd (no_function i e)) hold_more
        where
          no_function : (i : Input) → binders.Applicable (length ss) ≡ binders.Bound i → ⊥
          no_function i e = cc

      abbrev new_usage : List (List ℕ) → Term → Usage
      new_usage ps b = usage_of_function us names at ps b

      usage_new : (n : List ℕ) (ps : List (List ℕ)) (b : Term)
          → IsResolvedIn ss us names (names_after ss names at (Defined n ps b)) (length names)
          (Defined n ps b) r → IsUsageOf names (us ++ new_usage ps b ∷ []) (new_usage ps b)
      usage_new n ps b h =
          let k = term_known names us knowns names ps (length names) (seen_same names) b [] [] (nothing_known names us) in
          record {
            known =
                known_more names us (new_usage ps b ∷ []) _ _ (known_turned names us
                (with_values us names ps (length names) b []) (with_functions us names ps b [])
                k);
            item = r;
            found = there;
            silent = h.0;
            inputs = h.1.inputs;
          }

      usages_grown : (w : Usage) → IsUsageOf names (us ++ w ∷ []) w → AreUsages (us ++ w ∷ []) names
      usages_grown w is u inside =
          by_end us w inside (λ i. usage_more us (w ∷ []) names u (all u i))
          (λ e. subst (IsUsageOf names (us ++ w ∷ [])) e is)
        where
          by_end : {X : Type 0} (xs : List Usage) (w : Usage) → Has (xs ++ w ∷ []) u
              → (Has xs u → X) → (w ≡ u → X) → X
          by_end [] w (inl e) f g = g e
          by_end [] w (inr h) f g = absurd h
          by_end (x ∷ xs) w (inl e) f g = f (inl e)
          by_end (x ∷ xs) w (inr h) f g = by_end xs w h (λ i. f (inr i)) g

      next_usages : (c : BareItem)
          → IsResolvedIn ss us names (names_after ss names at c) (length names) c r
          → AreUsages (usages_after us names at c) (names_after ss names at c)
      next_usages (Group true bs) h =
          extended_keep (AreUsages us) (usage_later us) ss names at (Group true bs) all
      next_usages (Group false bs) h =
          extended_keep (AreUsages us) (usage_later us) ss names at (Group false bs) all
      next_usages (Check w e) h = all
      next_usages Mute h = all
      next_usages (Defined n ps b) h =
          extended_keep (AreUsages (us ++ new_usage ps b ∷ []))
          (usage_later (us ++ new_usage ps b ∷ [])) ss names at (Defined n ps b)
          (usages_grown (new_usage ps b) (usage_new n ps b h))

  -- ---- one item after another

  abbrev Later : ℕ → List ResolvedItem → Type 0
  Later at rs =
      (k : ℕ) (r : ResolvedItem) → slice_get rs k ≡ Some r → slice_get items (at + k) ≡ Some r

  here_later : (at : ℕ) (r : ResolvedItem) (rs : List ResolvedItem) → Later at (r ∷ rs)
      → slice_get items at ≡ Some r
  here_later at r rs h =
      let none : at + 0 ≡ at = omega arith in
      subst (λ (n : ℕ). slice_get items n ≡ Some r) none (h 0 r refl)

  rest_later : (at : ℕ) (r : ResolvedItem) (rs : List ResolvedItem) → Later at (r ∷ rs)
      → Later (at + 1) rs
  rest_later at r rs h k q e =
      let moved : at + suc k ≡ (at + 1) + k = omega arith in
      subst (λ (n : ℕ). slice_get items n ≡ Some q) moved (h (suc k) q e)

  walk : (cs : List BareItem) (rs : List ResolvedItem) (ss : List Sense) (us : List Usage)
      (names : List Naming) (at : ℕ) → Later at rs → AreUsages us names
      → NamesHold (IsEarlier at) names → AreResolved ss us names at cs rs
      → (k : ℕ) (r : ResolvedItem) → slice_get rs k ≡ Some r → IsClosedItem items (at + k) r
  walk [] [] ss us names at later all hold h k r e = absurd (none-some r e)
  walk [] (q ∷ rs) ss us names at later all hold h k r e = absurd h
  walk (c ∷ cs) [] ss us names at later all hold h k r e = absurd h
  walk (c ∷ cs) (q ∷ rs) ss us names at later all hold h zero r e =
      let none : at ≡ at + 0 = omega arith in
      subst (λ (n : ℕ). IsClosedItem items n r) none (subst (IsClosedItem items at)
      (same_Some _ _ e) (item_closed ss us names at all hold c q h.0))
  walk (c ∷ cs) (q ∷ rs) ss us names at later all hold h (suc k) r e =
      let moved : (at + 1) + k ≡ at + suc k = omega arith in
      let there = here_later at q rs later in
      subst (λ (n : ℕ). IsClosedItem items n r) moved
      (walk cs rs (senses_after ss names c) (usages_after us names at c) (names_after ss names at c)
      (at + 1) (rest_later at q rs later)
      (next_usages ss us names at all hold q there c h.0)
      (next_hold ss us names at all hold q there c h.0) h.1 k r e)

pub resolved_closed : (cs : List BareItem) (items : List ResolvedItem)
    → AreResolved [] [] outermost_names 0 cs items → AreClosed items
resolved_closed cs items h index r e =
    let none : 0 + index ≡ index = omega arith in
    subst (λ (n : ℕ). IsClosedItem items n r) none (walk items cs items [] [] outermost_names 0
    from_first (λ u i. absurd i) (predefined_hold (IsEarlier items 0) PREDEFINED) h index r
    e)
  where
    from_first : Later items 0 items
    from_first k q f =
        let none : k ≡ 0 + k = omega arith in subst (λ (n : ℕ). slice_get items n ≡ Some q) none f
