-- Two models whose items that are used say the same are aligned.
use Rattle.std.proofs.Common.{ℕ, ◌≡◌, ◌+◌, ◌-◌, ◌<◌, ◌⊎◌, List, [], ◌∷◌, ◌++◌, length, map, reverse, false, Option, Some, Contains, refl, sym, ap, ◌∙◌, subst, inl, inr, arith}
use Rattle.std.specs.Prelude.{slice_get, option_map}
use Rattle.std.specs.List.{AllZip, AllByRecursion as Each}
use Rattle.std.proofs.lemmas.Bool.{cases_Bool}
use Rattle.std.proofs.lemmas.Option.{none-some, same_Some}
use Rattle.std.proofs.lemmas.List.{reverse-append, append_assoc}
use Rattle.text_values.specs.declared.model.Item.{Item}
use Rattle.text_values.specs.ModelValues as values
use Rattle.text_values.specs.ModelValue as value
use Rattle.memo_core.specs.Step.{Has}
use Rattle.binding_kinds.specs.declared.scope.Input.{Input}
use Rattle.binding_kinds.specs.declared.scope.Found.{Found}
use Rattle.binding_kinds.specs.Value.{BareItem, Group, Check, Mute, Defined, bare_item}
use Rattle.binding_kinds.specs.Faults.{names_after}
use Rattle.binding_graph.specs.declared.resolved.ResolvedItem.{ResolvedItem}
use Rattle.binding_graph.specs.Contents.{RoleContent, role_content}
use Rattle.binding_graph.specs.Reach.{is_check}
use Rattle.binding_graph.specs.Resolved.{IsResolvedIn}
use Rattle.bench_slices.specs.Slices.{clause_at}
use Rattle.binding_laws.specs.ItemLaws.{Scope, DoTheSame}
use Rattle.binding_laws.proofs.AlikeItems.{alike_items}
use Rattle.evaluation_laws.specs.Alignment.{Move, First, Second, Both, pairs_of, IsPaired, AreAligned}
use Rattle.binding_laws.proofs.Lists.{contains_here, contains_later}
use Rattle.evaluation_laws.proofs.Common.{Shared, inputs_of, pairing_of, AreShared, all_within, within_self, falling_more}
use Rattle.evaluation_laws.proofs.ReadItems.{HasKeptNamesIn, item_kept}
use Rattle.evaluation_laws.proofs.Stepping.{HasFunction, item_past, IsOwnPair, AreFrom, scope_behind, item_step}
use Rattle.evaluation_laws.proofs.Side.{Whole, reach, IsWhole, functions_in, IsSeen, names_longer, senses_front, usages_front, many_functions, functions_numbered, next_function, seen_next, here_at, IsLeft, IsSkipped, IsTaken, turn}
use Rattle.evaluation_laws.proofs.ReadTexts.{same_text, label_moved}

-- what an item does
abbrev pub role_at : List ResolvedItem → ℕ → Option RoleContent
role_at rs k = option_map (λ r. role_content r.role) (slice_get rs k)

-- an item that is not used is no check
pub no_check : (w : Whole) → IsWhole w → (at : ℕ) (r : ResolvedItem)
    → slice_get w.resolved at ≡ Some r → (Has w.used at → ⊥) → is_check r.role ≡ false
no_check w whole at r is unused = elim (cases_Bool (is_check r.role)) [
  | inl e ↦ absurd (unused (whole.checks at r is e))
  | inr f ↦ f
]

has_function : (w : Whole) (s : Scope) (at : ℕ) (x : Item) (xs : List Item) (r : ResolvedItem)
    (rs : List ResolvedItem) (side : Shared → Found) (cs : List Shared)
    (unused : Has w.used at → ⊥) → IsSeen w s at (x ∷ xs) (r ∷ rs)
    → HasFunction (reach w) side cs at unused (length s.senses) (bare_item x)
has_function w s at x xs r rs side cs unused h = by_clause (bare_item x) h.counted
  where
    by_clause : (c : BareItem)
        → w.functions ≡ map (λ u. u.item) s.usages ++ functions_in at (c ∷ map bare_item xs)
        → HasFunction (reach w) side cs at unused (length s.senses) c
    by_clause (Group b bs) e = tt
    by_clause (Check o t) e = tt
    by_clause Mute e = tt
    by_clause (Defined n ps b) e =
        next_function w s at (functions_in (at + 1) (map bare_item xs)) (many_functions s h.counts)
        e

-- the names of the item at hand are kept
kept_here : (w : Whole) → IsWhole w
    → (s : Scope) (at : ℕ) (x : Item) (xs : List Item) (r : ResolvedItem) (rs : List ResolvedItem)
    → Has w.used at → IsSeen w s at (x ∷ xs) (r ∷ rs)
    → HasKeptNamesIn (reach w) s (names_after s.senses s.names at (bare_item x)) (bare_item x)
kept_here w whole s at x xs r rs used h =
    let is = here_at w.resolved rs r at h.items in
    item_kept (reach w) s at h.counts h.values
    (functions_numbered w s (functions_in at (map bare_item (x ∷ xs))) h.counted) used
    (bare_item x) r
    (λ i k f. h.no_fault 0 i k (inl (refl, f))) h.as_resolved.0 (whole.names at r used is)
    (whole.functions at r used is)

module _ (w z : Whole) (left_whole : IsWhole w) (right_whole : IsWhole z) where
  pub record IsState (s o : Scope) (at bt : ℕ) (xs ys : List Item) (rs qs : List ResolvedItem)
      (us vs : List ℕ) (cs : List Shared) (ms : List Move) (bs ds : List ResolvedItem)
      : Type 0 where
    pub left : IsSeen w s at xs rs
    pub right : IsSeen z o bt ys qs
    pub left_used : IsLeft w at us
    pub right_used : IsLeft z bt vs
    pub shared : AreShared (reach w) (reach z) s o cs
    pub origin : AreFrom (IsPaired (pairs_of ms bs ds)) cs
    pub left_count : length bs ≡ at
    pub right_count : length ds ≡ bt
    pub aligned : AreAligned ms bs ds
    pub texts : map (clause_at w.items) us ≡ map (clause_at z.items) vs

  -- ---- an item that is not used

  skip_left : (s o : Scope) (at bt : ℕ) (x : Item) (xs ys : List Item) (r : ResolvedItem)
      (rs qs : List ResolvedItem) (us vs : List ℕ) (cs : List Shared) (ms : List Move)
      (bs ds : List ResolvedItem) → IsSkipped w at us
      → IsState s o at bt (x ∷ xs) ys (r ∷ rs) qs us vs cs ms bs ds
      → IsState (scope_behind s at (bare_item x)) o (at + 1) bt xs ys rs qs us vs cs (First ∷ ms)
      (r ∷ bs) ds
  skip_left s o at bt x xs ys r rs qs us vs cs ms bs ds skip h =
      let t = scope_behind s at (bare_item x) in
      record {
        left = seen_next w s at x xs r rs h.left;
        right = h.right;
        left_used = skip.left;
        right_used = h.right_used;
        shared = record {
          left =
              item_past (reach w) (λ c. c.left) cs at skip.unused s.senses s.names (bare_item x)
              (has_function w s at x xs r rs (λ c. c.left) cs skip.unused h.left) h.shared.left;
          right = h.shared.right;
          falling =
              falling_more cs (length s.names) (length o.names) (length t.names) (length o.names)
              h.shared.falling (names_longer s.senses s.names at (bare_item x)) (omega arith);
          common =
              all_within (pairing_of cs) (pairing_of cs) (within_self (pairing_of cs)) s o t o
              (senses_front s (bare_item x)) (λ i y g. g) (usages_front s at (bare_item x))
              (λ i y g. g) cs h.shared.common;
        };
        origin = h.origin;
        left_count = (let e = h.left_count in omega (arith, e));
        right_count = h.right_count;
        aligned = (
          no_check w left_whole at r (here_at w.resolved rs r at h.left.items) skip.unused,
          h.aligned,
        );
        texts = h.texts;
      }

  skip_right : (s o : Scope) (at bt : ℕ) (y : Item) (xs ys : List Item) (q : ResolvedItem)
      (rs qs : List ResolvedItem) (us vs : List ℕ) (cs : List Shared) (ms : List Move)
      (bs ds : List ResolvedItem) → IsSkipped z bt vs
      → IsState s o at bt xs (y ∷ ys) rs (q ∷ qs) us vs cs ms bs ds
      → IsState s (scope_behind o bt (bare_item y)) at (bt + 1) xs ys rs qs us vs cs (Second ∷ ms)
      bs (q ∷ ds)
  skip_right s o at bt y xs ys q rs qs us vs cs ms bs ds skip h =
      let t = scope_behind o bt (bare_item y) in
      record {
        left = h.left;
        right = seen_next z o bt y ys q qs h.right;
        left_used = h.left_used;
        right_used = skip.left;
        shared = record {
          left = h.shared.left;
          right =
              item_past (reach z) (λ c. c.right) cs bt skip.unused o.senses o.names (bare_item y)
              (has_function z o bt y ys q qs (λ c. c.right) cs skip.unused h.right) h.shared.right;
          falling =
              falling_more cs (length s.names) (length o.names) (length s.names) (length t.names)
              h.shared.falling (omega arith) (names_longer o.senses o.names bt (bare_item y));
          common =
              all_within (pairing_of cs) (pairing_of cs) (within_self (pairing_of cs)) s o s t
              (λ i x g. g) (senses_front o (bare_item y)) (λ i x g. g)
              (usages_front o bt (bare_item y)) cs h.shared.common;
        };
        origin = h.origin;
        left_count = h.left_count;
        right_count = (let e = h.right_count in omega (arith, e));
        aligned = (
          no_check z right_whole bt q (here_at z.resolved qs q bt h.right.items) skip.unused,
          h.aligned,
        );
        texts = h.texts;
      }

  -- ---- an item that both have

  paired_inputs : (P : Input → Input → Type 0) (at bt : ℕ) (cs : List Shared)
      → AreFrom (λ i j. P i j ⊎ IsOwnPair at bt i j) cs → (is js : List Input)
      → Each (λ i. i.item < at) is → AllZip (λ i j. Contains (inputs_of cs) (i, j)) is js
      → AllZip P is js
  paired_inputs P at bt cs from [] [] low h = tt
  paired_inputs P at bt cs from [] (j ∷ js) low h = absurd h
  paired_inputs P at bt cs from (i ∷ is) [] low h = absurd h
  paired_inputs P at bt cs from (i ∷ is) (j ∷ js) low h =
      (one (from i j h.0), paired_inputs P at bt cs from is js low.1 h.1)
    where
      one : P i j ⊎ IsOwnPair at bt i j → P i j
      one (inl p) = p
      one (inr own) = absurd (omega (arith, own.0, low.0))

  -- what both models do with the item, and what they see behind it
  record IsMet (s o : Scope) (at bt : ℕ) (x y : Item) (r q : ResolvedItem) (ms : List Move)
      (bs ds : List ResolvedItem) : Type 0 where
    pub role : role_content r.role ≡ role_content q.role
    pub inputs : AllZip (IsPaired (pairs_of ms bs ds)) r.inputs.items q.inputs.items
    pub behind : List Shared
    pub shared : AreShared (reach w) (reach z) (scope_behind s at (bare_item x))
        (scope_behind o bt (bare_item y)) behind
    pub origin : AreFrom (IsPaired ((length bs, length ds) ∷ pairs_of ms bs ds)) behind

  meet : (s o : Scope) (at bt : ℕ) (x y : Item) (xs ys : List Item) (r q : ResolvedItem)
      (rs qs : List ResolvedItem) (us vs : List ℕ) (cs : List Shared) (ms : List Move)
      (bs ds : List ResolvedItem)
      → Has w.used at → Has z.used bt → values.clause_of x ≡ values.clause_of y
      → IsState s o at bt (x ∷ xs) (y ∷ ys) (r ∷ rs) (q ∷ qs) us vs cs ms bs ds
      → IsMet s o at bt x y r q ms bs ds
  meet s o at bt x y xs ys r q rs qs us vs cs ms bs ds used others text h =
      let P : Input → Input → Type 0 = IsPaired (pairs_of ms bs ds) in
      let say = same_text x y text in
      let c = bare_item x in
      let l = kept_here w left_whole s at x xs r rs used h.left in
      let k : HasKeptNamesIn (reach z) o (names_after o.senses o.names bt c) c = subst (λ (d : BareItem). HasKeptNamesIn (reach z) o (names_after o.senses o.names bt d) d) (sym say.0) (kept_here z right_whole o bt y ys q qs others h.right) in
      let step = item_step (reach w) (reach z) s o at bt cs h.shared P h.origin c (many_functions s h.left.counts) (many_functions o h.right.counts) l k in
      let resolved : IsResolvedIn o.senses o.usages o.names (names_after o.senses o.names bt c) (length o.names) c q = subst (λ (d : BareItem). IsResolvedIn o.senses o.usages o.names (names_after o.senses o.names bt d) (length o.names) d q) (sym say.0) h.right.as_resolved.0 in
      let same : DoTheSame (pairing_of step.during) r q =
      alike_items x (pairing_of step.during) s o (names_after s.senses s.names at c)
      (names_after o.senses o.names bt c) (length s.names) (length o.names) r q step.pairing
      step.names (h.left.as_resolved.0, h.left.labelled.0)
      (resolved, label_moved x y q say.1 h.right.labelled.0) in
      record {
        role = same.0 refl;
        inputs =
            paired_inputs P at bt step.during step.during_from r.inputs.items q.inputs.items
            (left_whole.earlier at r (here_at w.resolved rs r at h.left.items)) same.1;
        behind = step.behind;
        shared =
            subst
            (λ (d : BareItem). AreShared (reach w) (reach z) (scope_behind s at c)
            (scope_behind o bt d) step.behind) say.0 step.shared;
        origin = λ i j g. behind_pair i j (step.behind_from i j g);
      }
    where
      behind_pair : (i j : Input) → IsPaired (pairs_of ms bs ds) i j ⊎ IsOwnPair at bt i j
          → IsPaired ((length bs, length ds) ∷ pairs_of ms bs ds) i j
      behind_pair i j (inl p) =
          (contains_later (length bs, length ds) (pairs_of ms bs ds) (i.item, j.item) p.0, p.1)
      behind_pair i j (inr own) =
          let a : length bs ≡ i.item = h.left_count ∙ sym own.0 in
          let b : length ds ≡ j.item = h.right_count ∙ sym own.1 in (
            subst (λ (n : ℕ × ℕ). Contains ((length bs, length ds) ∷ pairs_of ms bs ds) n)
                (λ e. (a e, b e)) (contains_here (length bs, length ds) (pairs_of ms bs ds)),
            own.2,
          )

  -- ---- the walk

  -- the rest is aligned too, and the items that are used do the same
  pub record IsWalked (rs qs : List ResolvedItem) (us vs : List ℕ) (bs ds : List ResolvedItem)
      : Type 0 where
    pub moves : List Move
    pub aligned : AreAligned moves (reverse rs ++ bs) (reverse qs ++ ds)
    pub roles : AllZip (λ u v. role_at w.resolved u ≡ role_at z.resolved v) us vs

  turned : (r : ResolvedItem) (rs bs : List ResolvedItem)
      → reverse rs ++ r ∷ bs ≡ reverse (r ∷ rs) ++ bs
  turned r rs bs =
      sym (ap (λ (l : List ResolvedItem). l ++ bs) (reverse-append (r ∷ []) rs)
      ∙ append_assoc (reverse rs) (r ∷ []) bs)

  after_left : (r : ResolvedItem) (rs qs : List ResolvedItem) (us vs : List ℕ)
      (bs ds : List ResolvedItem) → IsWalked rs qs us vs (r ∷ bs) ds
      → IsWalked (r ∷ rs) qs us vs bs ds
  after_left r rs qs us vs bs ds h =
      record {
        moves = h.moves;
        aligned =
            subst (λ (l : List ResolvedItem). AreAligned h.moves l (reverse qs ++ ds))
            (turned r rs bs) h.aligned;
        roles = h.roles;
      }

  after_right : (q : ResolvedItem) (rs qs : List ResolvedItem) (us vs : List ℕ)
      (bs ds : List ResolvedItem) → IsWalked rs qs us vs bs (q ∷ ds)
      → IsWalked rs (q ∷ qs) us vs bs ds
  after_right q rs qs us vs bs ds h =
      record {
        moves = h.moves;
        aligned =
            subst (λ (l : List ResolvedItem). AreAligned h.moves (reverse rs ++ bs) l)
            (turned q qs ds) h.aligned;
        roles = h.roles;
      }

  none_left : (v : Whole) → IsWhole v → (s : Scope) (at : ℕ) (us : List ℕ) → IsSeen v s at [] []
      → IsLeft v at us → us ≡ []
  none_left v whole s at us h l = at_turn (turn v at us l) us l
    where
      at_turn : IsSkipped v at us ⊎ IsTaken v at us → (ws : List ℕ) → IsLeft v at ws → ws ≡ []
      at_turn t [] k = refl
      at_turn t (u ∷ ws) k =
          let low = k.rising.0 in
          let there = whole.there u (k.within u (inl refl)) in
          let e : at + (u - at) ≡ u = omega (arith, low) in
          absurd (none-some there.0 (sym (h.items (u - at))
          ∙ (ap (slice_get v.resolved) e ∙ there.1)))

  abbrev Then : List Item → List ResolvedItem → List ℕ → Scope → ℕ → Type 0
  Then xs rs us t next =
      (ys : List Item) (qs : List ResolvedItem) (vs : List ℕ) (o : Scope) (bt : ℕ)
      (cs : List Shared) (ms : List Move) (bs ds : List ResolvedItem)
      → IsState t o next bt xs ys rs qs us vs cs ms bs ds → IsWalked rs qs us vs bs ds

  first_clause : (a b : Option value.Clause) (ls ks : List (Option value.Clause)) → a ∷ ls ≡ b ∷ ks
      → a ≡ b
  first_clause a b ls ks e = cc

  rest_clauses : (a b : Option value.Clause) (ls ks : List (Option value.Clause)) → a ∷ ls ≡ b ∷ ks
      → ls ≡ ks
  rest_clauses a b ls ks e = cc

  pair_up : (s o : Scope) (at bt : ℕ) (x y : Item) (xs ys : List Item) (r q : ResolvedItem)
      (rs qs : List ResolvedItem) (us vs : List ℕ) (cs : List Shared) (ms : List Move)
      (bs ds : List ResolvedItem) → IsLeft w (at + 1) us → IsLeft z (bt + 1) vs → Has w.used at
      → Has z.used bt
      → Then xs rs us (scope_behind s at (bare_item x)) (at + 1)
      → IsState s o at bt (x ∷ xs) (y ∷ ys) (r ∷ rs) (q ∷ qs) (at ∷ us) (bt ∷ vs) cs ms bs ds
      → IsWalked (r ∷ rs) (q ∷ qs) (at ∷ us) (bt ∷ vs) bs ds
  pair_up s o at bt x y xs ys r q rs qs us vs cs ms bs ds left right used others next h =
      let at_left = here_at w.resolved rs r at h.left.items in
      let at_right = here_at z.resolved qs q bt h.right.items in
      let text_left : clause_at w.items at ≡ Some (values.clause_of x) = ap (λ (i : Option Item). option_map values.clause_of i) (here_at w.items xs x at h.left.texts) in
      let text_right : clause_at z.items bt ≡ Some (values.clause_of y) = ap (λ (i : Option Item). option_map values.clause_of i) (here_at z.items ys y bt h.right.texts) in
      let same : clause_at w.items at ≡ clause_at z.items bt = first_clause _ _ _ _ h.texts in
      let text : values.clause_of x ≡ values.clause_of y = same_Some _ _ (sym text_left ∙ (same ∙ text_right)) in
      let met = meet s o at bt x y xs ys r q rs qs (at ∷ us) (bt ∷ vs) cs ms bs ds used others text h in
      let state : IsState (scope_behind s at (bare_item x)) (scope_behind o bt (bare_item y)) (at + 1) (bt + 1) xs ys rs qs us vs met.behind (Both ∷ ms) (r ∷ bs) (q ∷ ds) = record {
        left = seen_next w s at x xs r rs h.left;
        right = seen_next z o bt y ys q qs h.right;
        left_used = left;
        right_used = right;
        shared = met.shared;
        origin = met.origin;
        left_count = (let e = h.left_count in omega (arith, e));
        right_count = (let e = h.right_count in omega (arith, e));
        aligned = (met.role, met.inputs, h.aligned);
        texts = rest_clauses _ _ _ _ h.texts;
      } in
      let rest = next ys qs vs (scope_behind o bt (bare_item y)) (bt + 1) met.behind (Both ∷ ms) (r ∷ bs) (q ∷ ds) state in
      let role : role_at w.resolved at ≡ role_at z.resolved bt =
      ap (λ (i : Option ResolvedItem). option_map (λ p. role_content p.role) i) at_left
      ∙ (ap (λ (c : RoleContent). Some c) met.role
      ∙ sym (ap (λ (i : Option ResolvedItem). option_map (λ p. role_content p.role) i)
      at_right)) in
      record {
        moves = rest.moves;
        aligned =
            subst (λ (l : List ResolvedItem). AreAligned rest.moves l (reverse (q ∷ qs) ++ ds))
            (turned r rs bs) (subst
            (λ (l : List ResolvedItem). AreAligned rest.moves (reverse rs ++ r ∷ bs) l)
            (turned q qs ds) rest.aligned);
        roles = (role, rest.roles);
      }

  -- the first model is at an item that is used: the second goes on to its next one
  seek : (ys : List Item) (qs : List ResolvedItem) (vs : List ℕ) (s o : Scope) (at bt : ℕ)
      (x : Item) (xs : List Item) (r : ResolvedItem) (rs : List ResolvedItem) (us : List ℕ)
      (cs : List Shared) (ms : List Move) (bs ds : List ResolvedItem) → IsLeft w (at + 1) us
      → Has w.used at
      → Then xs rs us (scope_behind s at (bare_item x)) (at + 1)
      → IsState s o at bt (x ∷ xs) ys (r ∷ rs) qs (at ∷ us) vs cs ms bs ds
      → IsWalked (r ∷ rs) qs (at ∷ us) vs bs ds
  seek [] [] vs s o at bt x xs r rs us cs ms bs ds left used next h =
      let none = none_left z right_whole o bt vs h.right h.right_used in
      absurd (no_text (clause_at w.items at) (map (clause_at w.items) us)
      (h.texts ∙ ap (λ (l : List ℕ). map (clause_at z.items) l) none))
    where
      no_text : (c : Option value.Clause) (cs : List (Option value.Clause)) → c ∷ cs ≡ [] → ⊥
      no_text c cs e = cc
  seek [] (q ∷ qs) vs s o at bt x xs r rs us cs ms bs ds left used next h =
      absurd h.right.as_resolved
  seek (y ∷ ys) [] vs s o at bt x xs r rs us cs ms bs ds left used next h =
      absurd h.right.as_resolved
  seek (y ∷ ys) (q ∷ qs) vs s o at bt x xs r rs us cs ms bs ds left used next h =
      elim (turn z bt vs h.right_used) [
        | inl k ↦ after_right q (r ∷ rs) qs (at ∷ us) vs bs ds (seek ys qs vs s
            (scope_behind o bt (bare_item y)) at (bt + 1) x xs r rs us cs (Second ∷ ms) bs (q ∷ ds)
            left used next (skip_right s o at bt y (x ∷ xs) ys q (r ∷ rs) qs (at ∷ us) vs cs ms bs
            ds k h))
        | inr k ↦ subst (λ (l : List ℕ). IsWalked (r ∷ rs) (q ∷ qs) (at ∷ us) l bs ds) (sym k.is)
            (pair_up s o at bt x y xs ys r q rs qs us k.behind cs ms bs ds left k.left used k.used
            next
            (subst
            (λ (l : List ℕ). IsState s o at bt (x ∷ xs) (y ∷ ys) (r ∷ rs) (q ∷ qs) (at ∷ us)
            l cs ms bs ds) k.is h))
      ]

  -- the second model alone has items left
  rest_right : (ys : List Item) (qs : List ResolvedItem) (s o : Scope) (at bt : ℕ)
      (cs : List Shared) (ms : List Move) (bs ds : List ResolvedItem)
      → IsState s o at bt [] ys [] qs [] [] cs ms bs ds → IsWalked [] qs [] [] bs ds
  rest_right [] [] s o at bt cs ms bs ds h = record { moves = ms; aligned = h.aligned; roles = tt }
  rest_right [] (q ∷ qs) s o at bt cs ms bs ds h = absurd h.right.as_resolved
  rest_right (y ∷ ys) [] s o at bt cs ms bs ds h = absurd h.right.as_resolved
  rest_right (y ∷ ys) (q ∷ qs) s o at bt cs ms bs ds h = elim (turn z bt [] h.right_used) [
    | inl k ↦ after_right q [] qs [] [] bs ds (rest_right ys qs s (scope_behind o bt (bare_item y))
        at (bt + 1) cs (Second ∷ ms) bs (q ∷ ds)
        (skip_right s o at bt y [] ys q [] qs [] [] cs ms bs ds k h))
    | inr k ↦ absurd (let n : [] ≡ bt ∷ k.behind = k.is in cc)
  ]

  no_texts : (vs : List ℕ) → [] ≡ map (clause_at z.items) vs → vs ≡ []
  no_texts [] e = refl
  no_texts (v ∷ vs) e =
      absurd (let n : [] ≡ clause_at z.items v ∷ map (clause_at z.items) vs = e in cc)

  pub walk : (xs : List Item) (rs : List ResolvedItem) (us : List ℕ) (s : Scope) (at : ℕ)
      → Then xs rs us s at
  walk [] [] us s at ys qs vs o bt cs ms bs ds h =
      let none = none_left w left_whole s at us h.left h.left_used in
      let first : IsState s o at bt [] ys [] qs [] vs cs ms bs ds = subst (λ (l : List ℕ). IsState s o at bt [] ys [] qs l vs cs ms bs ds) none h in
      let empty = no_texts vs first.texts in
      subst (λ (l : List ℕ). IsWalked [] qs l vs bs ds) (sym none) (subst
      (λ (l : List ℕ). IsWalked [] qs [] l bs ds) (sym empty)
      (rest_right ys qs s o at bt cs ms bs ds (subst
      (λ (l : List ℕ). IsState s o at bt [] ys [] qs [] l cs ms bs ds) empty first)))
  walk [] (r ∷ rs) us s at ys qs vs o bt cs ms bs ds h = absurd h.left.as_resolved
  walk (x ∷ xs) [] us s at ys qs vs o bt cs ms bs ds h = absurd h.left.as_resolved
  walk (x ∷ xs) (r ∷ rs) us s at ys qs vs o bt cs ms bs ds h = elim (turn w at us h.left_used) [
    | inl k ↦ after_left r rs qs us vs bs ds (walk xs rs us (scope_behind s at (bare_item x))
        (at + 1) ys qs vs o bt cs (First ∷ ms) (r ∷ bs) ds
        (skip_left s o at bt x xs ys r rs qs us vs cs ms bs ds k h))
    | inr k ↦ subst (λ (l : List ℕ). IsWalked (r ∷ rs) qs l vs bs ds) (sym k.is)
        (seek ys qs vs s o at bt x xs r rs k.behind cs ms bs ds k.left k.used
        (walk xs rs k.behind (scope_behind s at (bare_item x)) (at + 1))
        (subst (λ (l : List ℕ). IsState s o at bt (x ∷ xs) ys (r ∷ rs) qs l vs cs ms bs ds)
        k.is h))
  ]
