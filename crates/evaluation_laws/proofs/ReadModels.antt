-- Two models that are read and without fault, and whose items that are used say the same.
use Rattle.std.proofs.Common.{ℕ, ◌≡◌, ◌+◌, ◌<◌, ◌≤◌, zero, suc, List, [], ◌∷◌, ◌++◌, length, map, Some, Contains, refl, ap, subst, inl, inr, arith}
use Rattle.std.specs.Prelude.{slice_get, slice_index_or, AllPairs}
use Rattle.std.specs.List.{AllByRecursion as Each}
use Rattle.std.proofs.lemmas.Option.{none-some}
use Rattle.text_values.specs.declared.model.Item.{Item}
use Rattle.predefined_names.specs.declared.predefined.Predefined.{Predefined}
use Rattle.predefined_names.specs.declared.predefined.TheConstants.{PREDEFINED}
use Rattle.memo_core.specs.Step.{Has}
use Rattle.binding_kinds.specs.declared.scope.Binder.{Binder}
use Rattle.binding_kinds.specs.declared.scope.Binder.TheVariants as binders
use Rattle.binding_kinds.specs.declared.scope.Input.{Input}
use Rattle.binding_kinds.specs.Outermost.{naming_of, outermost_names}
use Rattle.binding_kinds.specs.Value.{Naming, bare_item}
use Rattle.binding_graph.specs.declared.resolved.ResolvedItem.{ResolvedItem}
use Rattle.binding_graph.specs.Reach.{ItemUses, AreReached}
use Rattle.binding_graph.proofs.Reaching.{leads_more}
use Rattle.bench_texts.specs.Readings.{AreResolvedItems}
use Rattle.bench_slices.specs.Slices.{clause_at}
use Rattle.binding_laws.specs.ItemLaws.{Scope, first_scope}
use Rattle.bench_slots.proofs.Lists.{each_has, each_reverse, has_contains, contains_has}
use Rattle.bench_slots.specs.Tables.{IsNameOf}
use Rattle.bench_slots.specs.Closed.{AreClosed, IsPassedOn}
use Rattle.bench_slots.proofs.RoleItems.{resolved_closed}
use Rattle.evaluation_laws.proofs.Kept.{Reach}
use Rattle.binding_laws.proofs.Told.{found_here}
use Rattle.binding_laws.proofs.Lists.{contains_here}
use Rattle.evaluation_laws.proofs.Common.{Shared, Looks, look_one, inputs_of, pairing_of, IsCommon, all_within, within_one, slots_of, IsFalling}
use Rattle.evaluation_laws.proofs.ReadItems.{of_map}
use Rattle.evaluation_laws.proofs.Side.{Whole, reach, IsWhole, functions_in, IsSeen, IsRising, IsLeft}
use Rattle.evaluation_laws.proofs.Walk.{IsWalked, walk}

-- ---- the predefined names

abbrev IsOuter : Naming → Type 0
IsOuter n = (p : Predefined) × (n.binder ≡ binders.Predefined p)

abbrev outer_of : List Naming → List Shared
outer_of [] = []
outer_of (n ∷ ns) =
    record { name = n.name; left = found_here ns n; right = found_here ns n } ∷ outer_of ns

module _ (u : Reach) where
  outer_left : (names : List Naming) → Looks u names (λ c. c.left) (outer_of names)
  outer_left [] = λ x f is kept. absurd (none-some f is)
  outer_left (n ∷ ns) =
      look_one u (λ c. c.left) ns (outer_of ns) n
      (record { name = n.name; left = found_here ns n; right = found_here ns n }) refl refl
      (outer_left ns)

  outer_right : (names : List Naming) → Looks u names (λ c. c.right) (outer_of names)
  outer_right [] = λ x f is kept. absurd (none-some f is)
  outer_right (n ∷ ns) =
      look_one u (λ c. c.right) ns (outer_of ns) n
      (record { name = n.name; left = found_here ns n; right = found_here ns n }) refl refl
      (outer_right ns)

outer_falling : (names : List Naming) → IsFalling (outer_of names) (length names) (length names)
outer_falling [] = tt
outer_falling (n ∷ ns) = (omega arith, omega arith, outer_falling ns)

outer_common : (s : Scope) (names : List Naming) → Each IsOuter names
    → Each (IsCommon (pairing_of (outer_of names)) s s) (outer_of names)
outer_common s [] h = tt
outer_common s (n ∷ ns) h =
    let c : Shared = record { name = n.name; left = found_here ns n; right = found_here ns n } in
    let first : IsCommon (pairing_of (c ∷ outer_of ns)) s s c = by_binder n.binder h.0 in (
      first,
      all_within (pairing_of (outer_of ns)) (pairing_of (c ∷ outer_of ns))
          (within_one c (outer_of ns)) s s s s (λ i x g. g) (λ i x g. g) (λ i x g. g)
          (λ i x g. g) (outer_of ns) (outer_common s ns h.1),
    )
  where
    by_binder : (b : Binder) → ((p : Predefined) × (b ≡ binders.Predefined p))
        → (
        let c : Shared =
        record {
          name = n.name;
          left = record { slot = length ns; kind = n.kind; binder = b };
          right = record { slot = length ns; kind = n.kind; binder = b };
        } in
        IsCommon (pairing_of (c ∷ outer_of ns)) s s c)
    by_binder (binders.Predefined p) g =
        record {
          slots = contains_here (length ns, length ns) (slots_of (outer_of ns));
          kinds = refl;
          matched = refl;
        }
    by_binder (binders.Bound i) g =
        absurd (let n : binders.Bound i ≡ binders.Predefined g.0 = g.1 in cc)
    by_binder (binders.Applicable f) g =
        absurd (let n : binders.Applicable f ≡ binders.Predefined g.0 = g.1 in cc)

no_input : (names : List Naming) → Each IsOuter names → inputs_of (outer_of names) ≡ []
no_input [] h = refl
no_input (n ∷ ns) h = let e = h.0.1 in rw e (no_input ns h.1)

each_outer : (ps : List Predefined) → Each IsOuter (map naming_of ps)
each_outer [] = tt
each_outer (p ∷ ps) = ((p, refl), each_outer ps)

pub all_outer : Each IsOuter outermost_names
all_outer = each_reverse IsOuter (map naming_of PREDEFINED) (each_outer PREDEFINED)

-- ---- a model

get_below : (rs : List ResolvedItem) (b : ℕ) → b < length rs
    → (r : ResolvedItem) × (slice_get rs b ≡ Some r)
get_below [] b lt = absurd (omega (arith, lt))
get_below (r ∷ rs) zero lt = (r, refl)
get_below (r ∷ rs) (suc b) lt = get_below rs b (omega (arith, lt))

below_get : (rs : List ResolvedItem) (b : ℕ) (r : ResolvedItem) → slice_get rs b ≡ Some r
    → b < length rs
below_get [] b r e = absurd (none-some r e)
below_get (q ∷ rs) zero r e = omega arith
below_get (q ∷ rs) (suc b) r e = let lt = below_get rs b r e in omega (arith, lt)

rises : (at : ℕ) (us : List ℕ) → ((k : ℕ) → k < length us → at ≤ slice_index_or us k 0)
    → AllPairs (λ a b. a < b) us → IsRising at us
rises at [] low h = tt
rises at (u ∷ us) low h = (
  low 0 (omega arith),
  rises (u + 1) us
      (λ k lt.
      (let later = h 0 (suc k) 0 (omega arith) (omega (arith, lt)) in omega (arith, later)))
      (λ i j d lt le. h (suc i) (suc j) d (omega (arith, lt)) (omega (arith, le))),
)

abbrev whole_of : List Item → List ResolvedItem → List ℕ → Whole
whole_of xs rs us =
    record { items = xs; resolved = rs; used = us; functions = functions_in 0 (map bare_item xs) }

module _ (xs : List Item) (rs : List ResolvedItem) (us : List ℕ) (sound : AreResolvedItems xs rs)
    (reached : AreReached rs us) where
  closed : AreClosed rs
  closed = resolved_closed (map bare_item xs) rs sound.as_resolved

  used_next : (b k : ℕ) → Has us b → ItemUses rs b k → k < length rs → Has us k
  used_next b k h uses lt =
      let is = ((reached.exact b).0 (has_contains us b h)).1 in
      contains_has us k ((reached.exact k).1 (
        lt,
        record {
          from = is.from;
          is_check = is.is_check;
          through = is.through ++ k ∷ [];
          leads = leads_more rs is.from is.through b k is.leads uses;
        },
      ))

  pub is_whole : IsWhole (whole_of xs rs us)
  is_whole = record {
    there = λ b h. get_below rs b ((reached.exact b).0 (has_contains us b h)).0;
    names =
        λ b r h e k g. used_next b k h
        (r, e, inl (has_contains (map (λ (i : Input). i.item) r.inputs.items) k g))
        (name_low b r e k g);
    functions =
        λ b r h e k g. used_next b k h (r, e, inr (has_contains r.functions.items k g))
        (let f = each_has (IsPassedOn rs r) r.functions.items (closed b r e).functions k g in
        below_get rs k f.0 f.1);
    earlier = λ b r e. each_lower r.inputs.items b (closed b r e).names;
    checks =
        λ b r e c.
        let lt = below_get rs b r e in
        contains_has us b ((reached.exact b).1 (
          lt,
          record { from = b; is_check = (r, e, c); through = []; leads = refl },
        ));
  }
    where
      each_lower : (is : List Input) (b : ℕ) → Each (λ i. (i.item < b) × IsNameOf rs i) is
          → Each (λ i. i.item < b) is
      each_lower [] b h = tt
      each_lower (i ∷ is) b h = (h.0.0, each_lower is b h.1)

      name_low : (b : ℕ) (r : ResolvedItem) → slice_get rs b ≡ Some r → (k : ℕ)
          → Has (map (λ i. i.item) r.inputs.items) k → k < length rs
      name_low b r e k g =
          let i = of_map (λ (i : Input). i.item) r.inputs.items k g in
          let low = (each_has (λ (n : Input). (n.item < b) × IsNameOf rs n) r.inputs.items (closed b r e).names i.0 i.1).0 in
          let lt = below_get rs b r e in
          let is = i.2 in
          omega (arith, low, lt, is)

  abbrev outermost : Scope
  outermost = first_scope outermost_names

  seen_first : IsSeen (whole_of xs rs us) outermost 0 xs rs
  seen_first = record {
    as_resolved = sound.as_resolved;
    labelled = sound.labelled;
    no_fault = sound.no_fault;
    texts = λ k. ap (slice_get xs) (zero_left k);
    items = λ k. ap (slice_get rs) (zero_left k);
    counted = refl;
    counts = refl;
    values = λ u h. absurd h;
  }
    where
      zero_left : (k : ℕ) → 0 + k ≡ k
      zero_left k = omega arith

  left_first : IsLeft (whole_of xs rs us) 0 us
  left_first =
      record {
        rising = rises 0 us (λ k lt. omega arith) reached.rising;
        within = λ b h. h;
        all = λ b h lt. h;
      }

-- ---- two models

module _ (xs ys : List Item) (rs qs : List ResolvedItem) (us vs : List ℕ) (sound : AreResolvedItems xs rs)
    (others : AreResolvedItems ys qs) (reached : AreReached rs us) (more : AreReached qs vs)
    (texts : map (clause_at xs) us ≡ map (clause_at ys) vs) where
  pub models_walked : IsWalked (whole_of xs rs us) (whole_of ys qs vs)
      (is_whole xs rs us sound reached) (is_whole ys qs vs others more) rs qs us vs [] []
  models_walked =
      walk (whole_of xs rs us) (whole_of ys qs vs) (is_whole xs rs us sound reached)
      (is_whole ys qs vs others more) xs rs us (first_scope outermost_names) 0
      ys qs vs (first_scope outermost_names) 0 (outer_of outermost_names) [] [] [] (record {
        left = seen_first xs rs us sound reached;
        right = seen_first ys qs vs others more;
        left_used = left_first xs rs us sound reached;
        right_used = left_first ys qs vs others more;
        shared = record {
          left = outer_left (reach (whole_of xs rs us)) outermost_names;
          right = outer_right (reach (whole_of ys qs vs)) outermost_names;
          falling = outer_falling outermost_names;
          common = outer_common (first_scope outermost_names) outermost_names all_outer;
        };
        origin =
            λ i j h. absurd (no_element (subst (λ (l : List (Input × Input)). Contains l (i, j))
            (no_input outermost_names all_outer) h));
        left_count = refl;
        right_count = refl;
        aligned = tt;
        texts = texts;
      })
    where
      no_element : {x : Input × Input} → Contains [] x → ⊥
      no_element h = omega (arith, h.1)
