-- What checks and flags reach among closed items.
use Rattle.std.proofs.Common.{ℕ, ◌≡◌, ◌<◌, ◌≤◌, ◌+◌, ◌⊎◌, suc, List, [], ◌∷◌, ◌++◌, length, map, false, Option, Some, None, AllPairs, refl, sym, ap, ◌∙◌, subst, inl, inr, arith}
use Rattle.std.specs.Prelude.{slice_get, slice_index_or}
use Rattle.std.specs.List.{AllByRecursion as Each}
use Rattle.std.proofs.lemmas.Bool.{cases_Bool, cases_order}
use Rattle.std.proofs.lemmas.Option.{none-some, slice_get_within, same_Some}
use Rattle.memo_core.specs.Step.{Has}
use Rattle.binding_kinds.specs.declared.scope.Input.{Input}
use Rattle.binding_graph.specs.declared.resolved.ResolvedItem.{ResolvedItem}
use Rattle.binding_graph.specs.declared.resolved.Role.{Role}
use Rattle.binding_graph.specs.declared.resolved.Role.TheVariants as roles
use Rattle.binding_graph.specs.Reach.{is_check, ItemUses, ReachesBy, IsCheckAt, IsReached, AreReached}
use Rattle.bench_nodes.specs.declared.table.SlotKey.{SlotKey}
use Rattle.bench_slots.proofs.Lists.{has_contains, contains_has, each_has, each_from_has}
use Rattle.bench_slots.specs.Slots.{number_at, flag_key, answer_key, key_by, keys_by}
use Rattle.bench_slots.specs.Tables.{IsNameOf, UsesNames, AreOrderedItems}
use Rattle.bench_slots.specs.Closed.{NamesItem, IsPassedOn, AreClosed, LeadsByNames, IsReachedByNames, all_keys}

-- ---- lists

-- each number is below all later ones
abbrev IsRising : List ℕ → Type 0
IsRising [] = Unit {0}
IsRising (x ∷ xs) = Each (λ y. x < y) xs × IsRising xs

each_at : (P : ℕ → Type 0) (xs : List ℕ) → ((k : ℕ) → k < length xs → P (slice_index_or xs k 0))
    → Each P xs
each_at P [] h = tt
each_at P (x ∷ xs) h = (h 0 (omega arith), each_at P xs (λ k lt. h (suc k) (omega (arith, lt))))

rising : (xs : List ℕ) → AllPairs (λ a b. a < b) xs → IsRising xs
rising [] h = tt
rising (x ∷ xs) h = (
  each_at (λ y. x < y) xs (λ k lt. h 0 (suc k) 0 (omega arith) (omega (arith, lt))),
  rising xs (λ i j d lt le. h (suc i) (suc j) d (omega (arith, lt)) (omega (arith, le))),
)

-- ---- one use more

one_more_use : (items : List ResolvedItem) (cs : List ℕ) (a i k : ℕ) → ReachesBy items a cs i
    → ItemUses items i k → ReachesBy items a (cs ++ k ∷ []) k
one_more_use items [] a i k e u = (subst (λ (n : ℕ). ItemUses items n k) (sym e) u, refl)
one_more_use items (c ∷ cs) a i k h u = (h.0, one_more_use items cs c i k h.1 u)

module _ (items : List ResolvedItem) (used : List ℕ) (closed : AreClosed items)
    (reach : AreReached items used) where
  pub name_reached : (i : ℕ) (r : ResolvedItem) (name : Input) → Has used i
      → slice_get items i ≡ Some r → NamesItem r name.item → IsNameOf items name
      → Has used name.item
  name_reached i r name there found names is =
      let i_reached = ((reach.exact i).0 (has_contains used i there)).1 in
      contains_has used name.item ((reach.exact name.item).1 (
        slice_get_within items name.item is.0 is.1,
        record {
          from = i_reached.from;
          is_check = i_reached.is_check;
          through = i_reached.through ++ name.item ∷ [];
          leads =
              one_more_use items i_reached.through i_reached.from i name.item i_reached.leads
              (r, found, inl (has_contains (map (λ n. n.item) r.inputs.items) name.item names));
        },
      ))

  -- what is used lies before or behind
  abbrev Split : List ℕ → List ℕ → Type 0
  Split before is = (k : ℕ) → Has used k → Has before k ⊎ Has is k

  before_of : (before is : List ℕ) (i k : ℕ) → Split before (i ∷ is) → Each (λ j. i < j) is → k < i
      → Has used k → Has before k
  before_of before is i k split above lt there = elim (split k there) [
    | inl h ↦ h
    | inr (inl e) ↦ absurd (omega (arith, lt, e))
    | inr (inr h) ↦ absurd (let over = each_has (λ j. i < j) is above k h in
        omega (arith, lt, over))
  ]

  names_before : (before is : List ℕ) (i : ℕ) (r : ResolvedItem) → Split before (i ∷ is)
      → Each (λ j. i < j) is → Has used i → slice_get items i ≡ Some r → (names : List Input)
      → ((k : ℕ) → Has (map (λ n. n.item) names) k → NamesItem r k)
      → Each (λ name. (name.item < i) × IsNameOf items name) names
      → Each (λ name. Has before name.item × IsNameOf items name) names
  names_before before is i r split above there found [] inside h = tt
  names_before before is i r split above there found (n ∷ ns) inside h = (
    (
      before_of before is i n.item split above h.0.0 (name_reached i r n there found
          (inside n.item (inl refl)) h.0.1),
      h.0.1,
    ),
    names_before before is i r split above there found ns (λ k g. inside k (inr g)) h.1,
  )

  uses_before : (before is : List ℕ) (i : ℕ) (o : Option ResolvedItem) → slice_get items i ≡ o
      → Split before (i ∷ is) → Each (λ j. i < j) is → Has used i → UsesNames items before o
  uses_before before is i None e split above there = tt
  uses_before before is i (Some r) e split above there =
      names_before before is i r split above there e r.inputs.items (λ k h. h) (closed i r e).names

  split_next : (before is : List ℕ) (i : ℕ) → Split before (i ∷ is) → Split (i ∷ before) is
  split_next before is i split k there = elim (split k there) [
    | inl h ↦ inl (inr h)
    | inr (inl e) ↦ inl (inl e)
    | inr (inr h) ↦ inr h
  ]

  ordered_from : (before is : List ℕ) → Split before is → IsRising is
      → ((k : ℕ) → Has is k → Has used k) → AreOrderedItems items before is
  ordered_from before [] split rise inside = tt
  ordered_from before (i ∷ is) split rise inside = (
    uses_before before is i (slice_get items i) refl split rise.0 (inside i (inl refl)),
    ordered_from (i ∷ before) is (split_next before is i split) rise.1 (λ k h. inside k (inr h)),
  )

  pub ordered_items : AreOrderedItems items [] used
  ordered_items = ordered_from [] used (λ k h. inr h) (rising used reach.rising) (λ k h. h)

-- ---- by names alone

module _ (items : List ResolvedItem) (closed : AreClosed items) (b : ℕ) (last : ResolvedItem)
    (found : slice_get items b ≡ Some last) (loud : last.role ≡ roles.Silent → ⊥) where
  abbrev ByNames : ℕ → Type 0
  ByNames a = (through : List ℕ) × LeadsByNames items a through b

  passed : (r : ResolvedItem) (names : List Input) → Each (λ name. NamesItem r name.item) names
      → (k : ℕ) → Has (map (λ n. n.item) names) k → NamesItem r k
  passed r [] h k i = absurd i
  passed r (n ∷ ns) h k (inl e) = subst (NamesItem r) e h.0
  passed r (n ∷ ns) h k (inr i) = passed r ns h.1 k i

  by_function : (a c : ℕ) (r : ResolvedItem) → slice_get items a ≡ Some r → IsPassedOn items r c
      → (through : List ℕ) → LeadsByNames items c through b → ByNames a
  by_function a c r at p [] e =
      absurd (loud (ap (λ (x : ResolvedItem). x.role) (same_Some _ _
      (sym found ∙ ap (slice_get items) (sym e) ∙ p.1)) ∙ p.2))
  by_function a c r at p (d ∷ ds) h =
      let same : p.0 ≡ h.0.0 = same_Some _ _ (sym p.1 ∙ h.0.1) in (
        d ∷ ds,
        (
          (
            r,
            at,
            passed r p.0.inputs.items p.3 d (subst
                (λ (x : ResolvedItem). NamesItem x d) (sym same) h.0.2),
          ),
          h.1,
        ),
      )

  one_step : (a c : ℕ) → ItemUses items a c → ByNames c → ByNames a
  one_step a c (r, at, inl h) (through, leads) =
      (c ∷ through, ((r, at, contains_has (map (λ n. n.item) r.inputs.items) c h), leads))
  one_step a c (r, at, inr h) (through, leads) =
      by_function a c r at
      (each_has (IsPassedOn items r) r.functions.items (closed a r at).functions c
      (contains_has r.functions.items c h)) through leads

  by_names : (cs : List ℕ) (a : ℕ) → ReachesBy items a cs b → ByNames a
  by_names [] a e = ([], e)
  by_names (c ∷ cs) a h = one_step a c h.0 (by_names cs c h.1)

  pub reached_by_names : IsReached items b → IsReachedByNames items b
  reached_by_names h =
      let by = by_names h.through h.from h.leads in
      record { from = h.from; is_check = h.is_check; through = by.0; leads = by.1 }

-- ---- what checks and flags add to the inputs of a verdict

module _ (f : Role → ℕ → List SlotKey)
    (none : (role : Role) (own : ℕ) → is_check role ≡ false → f role own ≡ []) (numbers : List ℕ)
    (items : List ResolvedItem) where
  abbrev Later : ℕ → List ResolvedItem → Type 0
  Later at rs =
      (k : ℕ) (r : ResolvedItem) → slice_get rs k ≡ Some r → slice_get items (at + k) ≡ Some r

  here_later : (at : ℕ) (r : ResolvedItem) (rs : List ResolvedItem) → Later at (r ∷ rs)
      → slice_get items at ≡ Some r
  here_later at r rs h =
      let start : at + 0 ≡ at = omega arith in
      subst (λ (n : ℕ). slice_get items n ≡ Some r) start (h 0 r refl)

  rest_later : (at : ℕ) (r : ResolvedItem) (rs : List ResolvedItem) → Later at (r ∷ rs)
      → Later (suc at) rs
  rest_later at r rs h k q e =
      let moved : at + suc k ≡ suc at + k = omega arith in
      subst (λ (n : ℕ). slice_get items n ≡ Some q) moved (h (suc k) q e)

  -- these indexes are of the items from there on, and hold all checks among them
  record AreOf (at : ℕ) (rs : List ResolvedItem) (is : List ℕ) : Type 0 where
    later : Later at rs
    rise : IsRising is
    above : Each (λ i. at ≤ i) is
    below : Each (λ i. i < at + length rs) is
    checks : (k : ℕ) → at ≤ k → IsCheckAt items k → Has is k

  above_all : (at i : ℕ) (is : List ℕ) → at ≤ i → Each (λ j. i < j) is → Each (λ j. suc at ≤ j) is
  above_all at i [] le h = tt
  above_all at i (j ∷ is) le h = (omega (arith, le, h.0), above_all at i is le h.1)

  below_all : (at : ℕ) (n m : ℕ) (is : List ℕ) → n ≡ m → Each (λ j. j < n) is → Each (λ j. j < m) is
  below_all at n m is e h = subst (λ (k : ℕ). Each (λ j. j < k) is) e h

  moved : (at n : ℕ) → at + suc n ≡ suc at + n
  moved at n = omega arith

  -- the first item is among the indexes
  with_first : (at i : ℕ) (r : ResolvedItem) (rs : List ResolvedItem) (is : List ℕ)
      → AreOf at (r ∷ rs) (i ∷ is) → i ≡ at → AreOf (suc at) rs is
  with_first at i r rs is h e = record {
    later = rest_later at r rs h.later;
    rise = h.rise.1;
    above = above_all at i is h.above.0 h.rise.0;
    below =
        below_all at (at + suc (length rs)) (suc at + length rs) is (moved at (length rs))
        h.below.1;
    checks = λ k le check. behind k le (h.checks k (omega (arith, le)) check);
  }
    where
      behind : (k : ℕ) → suc at ≤ k → Has (i ∷ is) k → Has is k
      behind k le (inl g) = absurd (omega (arith, le, g, e))
      behind k le (inr g) = g

  -- the first item is not among them
  without_first : (at : ℕ) (r : ResolvedItem) (rs : List ResolvedItem) (is : List ℕ)
      → AreOf at (r ∷ rs) is → Each (λ j. suc at ≤ j) is → AreOf (suc at) rs is
  without_first at r rs is h up = record {
    later = rest_later at r rs h.later;
    rise = h.rise;
    above = up;
    below =
        below_all at (at + suc (length rs)) (suc at + length rs) is (moved at (length rs)) h.below;
    checks = λ k le check. h.checks k (omega (arith, le)) check;
  }

  no_check : (at : ℕ) (r : ResolvedItem) (rs : List ResolvedItem) (is : List ℕ)
      → AreOf at (r ∷ rs) is → Each (λ j. suc at ≤ j) is → f r.role (number_at numbers at) ≡ []
  no_check at r rs is h up = elim (cases_Bool (is_check r.role)) [
    | inl t ↦ absurd (
        let over =
        each_has (λ j. suc at ≤ j) is up at (h.checks at (omega arith)
        (r, here_later at r rs h.later, t)) in
        omega (arith, over))
    | inr t ↦ none r.role (number_at numbers at) t
  ]

  head_is : (at : ℕ) (r : ResolvedItem) (o : Option ResolvedItem) → Some r ≡ o
      → key_by f (number_at numbers at) o ≡ f r.role (number_at numbers at)
  head_is at r None g = absurd (none-some r (sym g))
  head_is at r (Some q) g =
      ap (λ (x : ResolvedItem). f x.role (number_at numbers at)) (sym (same_Some _ _ g))

  abbrev Rest : ℕ → List ResolvedItem → Type 0
  Rest at rs =
      (is : List ℕ) → AreOf at rs is → keys_by f numbers items is ≡ all_keys f numbers at rs

  is_here : (at i : ℕ) (r : ResolvedItem) (rs : List ResolvedItem) (is : List ℕ)
      → AreOf at (r ∷ rs) (i ∷ is) → Rest (suc at) rs → i ≡ at
      → keys_by f numbers items (i ∷ is) ≡ all_keys f numbers at (r ∷ rs)
  is_here at i r rs is h rest e =
      ap
      (λ (n : ℕ). key_by f (number_at numbers n) (slice_get items n)
      ++ keys_by f numbers items is) e
      ∙ ap (λ (ks : List SlotKey). ks ++ keys_by f numbers items is) (head_is at r
      (slice_get items at) (sym (here_later at r rs h.later)))
      ∙ ap (λ (ks : List SlotKey). f r.role (number_at numbers at) ++ ks)
      (rest is (with_first at i r rs is h e))

  is_over : (at : ℕ) (r : ResolvedItem) (rs : List ResolvedItem) (is : List ℕ)
      → AreOf at (r ∷ rs) is → Rest (suc at) rs → Each (λ j. suc at ≤ j) is
      → keys_by f numbers items is ≡ all_keys f numbers at (r ∷ rs)
  is_over at r rs is h rest up =
      sym (ap (λ (ks : List SlotKey). ks ++ all_keys f numbers (suc at) rs)
      (no_check at r rs is h up) ∙ sym (rest is (without_first at r rs is h up)))

  by_first : (at : ℕ) (r : ResolvedItem) (rs : List ResolvedItem) (is : List ℕ)
      → AreOf at (r ∷ rs) is → Rest (suc at) rs
      → keys_by f numbers items is ≡ all_keys f numbers at (r ∷ rs)
  by_first at r rs [] h rest = is_over at r rs [] h rest tt
  by_first at r rs (i ∷ is) h rest = elim (cases_order i at) [
    | inl e ↦ is_here at i r rs is h rest e
    | inr (inl lt) ↦ absurd (let a = h.above.0 in omega (arith, a, lt))
    | inr (inr lt) ↦ is_over at r rs (i ∷ is) h rest
        (omega (arith, lt), above_all at i is h.above.0 h.rise.0)
  ]

  all_of : (rs : List ResolvedItem) (at : ℕ) (is : List ℕ) → AreOf at rs is
      → keys_by f numbers items is ≡ all_keys f numbers at rs
  all_of [] at [] h = refl
  all_of [] at (i ∷ is) h = absurd (let a = h.above.0 in let b = h.below.0 in omega (arith, a, b))
  all_of (r ∷ rs) at is h = by_first at r rs is h (all_of rs (suc at))

  pub all_reached : (used : List ℕ) → AreReached items used
      → keys_by f numbers items used ≡ all_keys f numbers 0 items
  all_reached used reach = all_of items 0 used (record {
    later =
        λ k r e.
        let start : k ≡ 0 + k = omega arith in
        subst (λ (n : ℕ). slice_get items n ≡ Some r) start e;
    rise = rising used reach.rising;
    above = each_from_has (λ i. 0 ≤ i) used (λ i h. omega arith);
    below =
        each_from_has (λ i. i < 0 + length items) used (λ i h.
        let lt = ((reach.exact i).0 (has_contains used i h)).0 in omega (arith, lt));
    checks =
        λ k le check. contains_has used k ((reach.exact k).1 (
          slice_get_within items k check.0
              check.1,
          record { from = k; is_check = check; through = []; leads = refl },
        ));
  })

no_flag : (role : Role) (own : ℕ) → is_check role ≡ false → flag_key role own ≡ []
no_flag (roles.Group recursive bodies) own h = refl
no_flag (roles.Check check) own h = cc
no_flag roles.Silent own h = refl

no_answer : (role : Role) (own : ℕ) → is_check role ≡ false → answer_key role own ≡ []
no_answer (roles.Group recursive bodies) own h = refl
no_answer (roles.Check check) own h = cc
no_answer roles.Silent own h = refl

pub all_flags : (numbers : List ℕ) (items : List ResolvedItem) (used : List ℕ)
    → AreReached items used
    → keys_by flag_key numbers items used ≡ all_keys flag_key numbers 0 items
all_flags numbers items used reach = all_reached flag_key no_flag numbers items used reach

pub all_answers : (numbers : List ℕ) (items : List ResolvedItem) (used : List ℕ)
    → AreReached items used
    → keys_by answer_key numbers items used ≡ all_keys answer_key numbers 0 items
all_answers numbers items used reach = all_reached answer_key no_answer numbers items used reach
