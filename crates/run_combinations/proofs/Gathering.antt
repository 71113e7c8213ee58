-- The loads and stores of events, with their sources and needs.
use Rattle.std.proofs.Common.{ℕ, zero, suc, ◌≡◌, ◌<◌, ◌≤◌, ◌+◌, ◌⊎◌, ◌↔◌, inl, inr, Bool, true, false, cond, IsTrue, List, [], ◌∷◌, ◌++◌, map, filter, length, take, get_or, slice_get, Option, Some, None, Contains, min, arith, rules, sym, subst, refl, ap, ◌∙◌}
use Rattle.std.proofs.lemmas.List.{append-nil, map_push, take_more, length-map}
use Rattle.std.proofs.lemmas.List.Elements.{Contains-append_left, Contains-push, Contains-push_cases, filter-append}
use Rattle.std.proofs.lemmas.Option.{slice_get_within, get_or_from_slice_get, slice_get-get_or, slice_get-map, slice_get_cases}
use Rattle.std.proofs.Math.Seq.{take-length}
use Rattle.std.specs.Option.{option_map}
use Rattle.bit_rows.specs.Relation.{Events, IsMember, IsEvents}
use Rattle.store_orders.specs.Events.{numbers, is_load, is_store}
use Rattle.run_combinations.specs.ReadChoices.{MayReadFrom, accesses_in, stores_for, may_read}
use Rattle.run_combinations.specs.Rounds.{IsReadingOf, AreLoads, AreStores, load_event}
use Rattle.store_orders.specs.declared.combination.Event.{Event}
use Rattle.run_combinations.specs.declared.reading.Reading.{Reading}
use Rattle.run_combinations.specs.declared.reading.Load.{Load}
use Rattle.run_combinations.specs.declared.reading.Store.{Store}
use Rattle.store_orders.proofs.Stores.{one_event_more}
use Rattle.run_combinations.proofs.Numbers.{Numbered, contained, number_there, as_many}

yes_true : IsTrue true
yes_true = search rules

no_false : IsTrue false → ⊥
no_false t = search rules

pub true_is : (b : Bool) → IsTrue b ↔ (b ≡ true)
true_is true = ((λ t. refl), (λ e. yes_true))
true_is false = ((λ t. absurd (no_false t)), (λ e. absurd cc))

-- one event more of those that pass
pub one_number_more : (test : Event → Bool) (es : List Event) (i n : ℕ) (d : Event) (b : Bool)
    (old new : Events) → i < length es → b ≡ test (get_or es i d) → i < n
    → IsEvents old n (λ x. Contains (numbers test 0 (take i es)) x)
    → IsEvents new old.count (λ x. IsMember old x ⊎ ((x < old.count) × (x ≡ i) × IsTrue b))
    → IsEvents new n (λ x. Contains (numbers test 0 (take (i + 1) es)) x)
one_number_more test es i n d b old new lt is below before step = record {
  count = step.count ∙ before.count;
  within = λ a m. subst (λ (k : ℕ). a < k) before.count (step.within a m);
  members = λ x. (
    (λ m. elim ((step.members x).0 m) [
      | inl was ↦ subst (λ (l : List ℕ). Contains l x) (sym whole) (Contains-append_left
          (numbers test 0 (take i es)) (cond b (i ∷ []) []) x ((before.members x).0 was))
      | inr now ↦ subst (λ (l : List ℕ). Contains l x)
          (sym (whole
          ∙ ap (λ (c : Bool). numbers test 0 (take i es) ++ cond c (i ∷ []) [])
          ((true_is b).0 now.2)))
          (subst (λ (y : ℕ). Contains (numbers test 0 (take i es) ++ i ∷ []) y) (sym now.1)
          (Contains-push (numbers test 0 (take i es)) i))
    ]),
    (λ c. (step.members x).1 (back x b refl (subst (λ (l : List ℕ). Contains l x) whole c))),
  );
}
  where
    whole : numbers test 0 (take (i + 1) es) ≡ numbers test 0 (take i es) ++ cond b (i ∷ []) []
    whole =
        one_event_more test es i d lt
        ∙ ap (λ (c : Bool). numbers test 0 (take i es) ++ cond c (i ∷ []) []) (sym is)

    back : (x : ℕ) (c : Bool) → b ≡ c
        → Contains (numbers test 0 (take i es) ++ cond c (i ∷ []) []) x
        → IsMember old x ⊎ ((x < old.count) × (x ≡ i) × IsTrue b)
    back x true e h = elim (Contains-push_cases (numbers test 0 (take i es)) i x h) [
      | inl was ↦ inl ((before.members x).1 was)
      | inr now ↦ inr (
        subst (λ (y : ℕ). y < old.count) now
            (subst (λ (k : ℕ). i < k) (sym before.count) below),
        sym now,
        (true_is b).1 e,
      )
    ]
    back x false e h =
        inl ((before.members x).1 (subst (λ (l : List ℕ). Contains l x)
        (append-nil (numbers test 0 (take i es))) h))

pub no_number : (test : Event → Bool) (es : List Event) (n : ℕ) (s : Events) → IsEvents s n (λ x. ⊥)
    → IsEvents s n (λ x. Contains (numbers test 0 (take 0 es)) x)
no_number test es n s h =
    record {
      count = h.count;
      within = h.within;
      members = λ x. ((λ m. absurd ((h.members x).0 m)), (λ c. absurd (omega (arith, c.1))));
    }

some_one : {X : Type 0} {u v : X} → Some u ≡ Some v → u ≡ v
some_one h = cc

-- whether a number is one of those that pass
pub has_number : (test : Event → Bool) (es : List Event) (n : ℕ) (d : Event) (b : Bool)
    → n < length es → b ≡ test (get_or es n d) → IsTrue b ↔ Contains (numbers test 0 es) n
has_number test es n d b lt is = (
  (λ t. subst (λ (y : ℕ). Contains (numbers test 0 es) y) plain (number_there test 0 es n
      (get_or es n d) (slice_get-get_or es n d lt) (sym is ∙ (true_is b).0 t))),
  (λ c.
      let h : Numbered test 0 es n = contained test es n c in
      let index : h.index ≡ n = omega (arith, h.is) in
      let same : get_or es n d ≡ h.item = get_or_from_slice_get es n h.item d (ap (λ (k : ℕ). slice_get es k) (sym index) ∙ h.there) in
      (true_is b).1 (is ∙ ap test same ∙ h.passes)),
)
  where
    plain : 0 + n ≡ n
    plain = omega arith

pub number_within : (test : Event → Bool) (es : List Event) (n : ℕ) → Contains (numbers test 0 es) n
    → n < length es
number_within test es n c =
    let h : Numbered test 0 es n = contained test es n c in
    let l : h.index < length es = slice_get_within es h.index h.item h.there in
    omega (arith, h.is, l)

-- the sources of a load among the first events
abbrev pub Sourced : List Event → Event → ℕ → Events → Type 0
Sourced es load n found =
    IsEvents found (length es) (λ x.
    Contains (numbers (λ e. may_read load.action e.action) 0 (take n es)) x)

pub no_source : (es : List Event) (load : Event) (s : Events) → IsEvents s (length es) (λ x. ⊥)
    → Sourced es load 0 s
no_source es load s h = no_number (λ e. may_read load.action e.action) es (length es) s h

pub one_source_more : (es : List Event) (load : Event) (i : ℕ) (d : Event) (b : Bool)
    (old new : Events) → i < length es → b ≡ may_read load.action (get_or es i d).action
    → Sourced es load i old
    → IsEvents new old.count (λ x. IsMember old x ⊎ ((x < old.count) × (x ≡ i) × IsTrue b))
    → Sourced es load (i + 1) new
one_source_more es load i d b old new lt is before step =
    one_number_more (λ e. may_read load.action e.action) es i (length es) d b old new lt is lt
    before step

pub all_sources : (es : List Event) (load : Event) (n : ℕ) (s : Events) → n ≡ length es
    → Sourced es load n s → IsEvents s (length es) (Contains (stores_for es load))
all_sources es load n s whole h =
    let e : take n es ≡ es = ap (λ (k : ℕ). take k es) whole ∙ take-length es in
    subst
    (λ (l : List Event). IsEvents s (length es) (λ x.
    Contains (numbers (λ e. may_read load.action e.action) 0 l) x)) e h

-- the needs of a store among the first pairs
abbrev pub Needed : List Event → List (ℕ × ℕ) → ℕ → ℕ → Events → Type 0
Needed es pairs store n found =
    IsEvents found (length es) (λ a. Contains (take n pairs) (a, store)
    × Contains (numbers is_load 0 es) a)

pub no_need : (es : List Event) (pairs : List (ℕ × ℕ)) (store : ℕ) (s : Events)
    → IsEvents s (length es) (λ x. ⊥) → Needed es pairs store 0 s
no_need es pairs store s h =
    record {
      count = h.count;
      within = h.within;
      members = λ x. ((λ m. absurd ((h.members x).0 m)), (λ c. absurd (omega (arith, c.0.1))));
    }

same_pair : (p : ℕ × ℕ) (a b : ℕ) → p ≡ (a, b) → (p.0 ≡ a) × (p.1 ≡ b)
same_pair p a b h = (cc, cc)

pair_same : (p : ℕ × ℕ) (a b : ℕ) → a ≡ p.0 → p.1 ≡ b → p ≡ (a, b)
pair_same (x, y) a b e f = cc

pub one_need_more : (es : List Event) (pairs : List (ℕ × ℕ)) (store i : ℕ) (d p : ℕ × ℕ) (b : Bool)
    (old new : Events) → i < length pairs → p ≡ get_or pairs i d
    → IsTrue b ↔ ((p.1 ≡ store) × Contains (numbers is_load 0 es) p.0) → Needed es pairs store i old
    → IsEvents new old.count (λ x. IsMember old x ⊎ ((x < old.count) × (x ≡ p.0) × IsTrue b))
    → Needed es pairs store (i + 1) new
one_need_more es pairs store i d p b old new lt is tells before step = record {
  count = step.count ∙ before.count;
  within = λ a m. subst (λ (k : ℕ). a < k) before.count (step.within a m);
  members = λ x. (
    (λ m. elim ((step.members x).0 m) [
      | inl was ↦
          let o : Contains (take i pairs) (x, store) × Contains (numbers is_load 0 es) x =
          (before.members x).0 was in (
            subst (λ (l : List (ℕ × ℕ)). Contains l (x, store)) (sym whole)
                (Contains-append_left (take i pairs) (p ∷ []) (x, store) o.0),
            o.1,
          )
      | inr now ↦
          let t : (p.1 ≡ store) × Contains (numbers is_load 0 es) p.0 = tells.0 now.2 in (
            subst (λ (l : List (ℕ × ℕ)). Contains l (x, store)) (sym whole) (subst
                (λ (y : ℕ × ℕ). Contains (take i pairs ++ p ∷ []) y)
                (pair_same p x store now.1 t.0) (Contains-push (take i pairs) p)),
            subst (λ (y : ℕ). Contains (numbers is_load 0 es) y) (sym now.1) t.1,
          )
    ]),
    (λ c. (step.members x).1 (elim
        (Contains-push_cases (take i pairs) p (x, store) (subst
        (λ (l : List (ℕ × ℕ)). Contains l (x, store)) whole c.0)) [
          | inl was ↦ inl ((before.members x).1 (was, c.1))
          | inr now ↦
              let h : (p.0 ≡ x) × (p.1 ≡ store) = same_pair p x store now in
              let l : x < length es = number_within is_load es x c.1 in
              inr (
                subst (λ (k : ℕ). x < k) (sym before.count) l,
                sym h.0,
                tells.1 (h.1, subst (λ (y : ℕ). Contains (numbers is_load 0 es) y) (sym h.0) c.1),
              )
        ])),
  );
}
  where
    whole : take (i + 1) pairs ≡ take i pairs ++ p ∷ []
    whole = take_more pairs i d lt ∙ ap (λ (q : ℕ × ℕ). take i pairs ++ q ∷ []) (sym is)

pub all_needs : (es : List Event) (pairs : List (ℕ × ℕ)) (store n : ℕ) (s : Events)
    → n ≡ length pairs → Needed es pairs store n s
    → IsEvents s (length es) (λ a. Contains pairs (a, store) × Contains (numbers is_load 0 es) a)
all_needs es pairs store n s whole h =
    let e : take n pairs ≡ pairs = ap (λ (k : ℕ). take k pairs) whole ∙ take-length pairs in
    subst
    (λ (l : List (ℕ × ℕ)).
    IsEvents s (length es) (λ a. Contains l (a, store) × Contains (numbers is_load 0 es) a))
    e h

-- an element of a list that was pushed to
pub pushed_at : {X : Type 0} (xs : List X) (x y : X) (k : ℕ) → slice_get (xs ++ x ∷ []) k ≡ Some y
    → (slice_get xs k ≡ Some y) ⊎ ((k ≡ length xs) × (y ≡ x))
pushed_at [] x y zero h = inr (refl, sym (some_one h))
pushed_at [] x y (suc k) h = absurd (let n : None ≡ Some y = h in cc)
pushed_at (z ∷ xs) x y zero h = inl h
pushed_at (z ∷ xs) x y (suc k) h = elim (pushed_at xs x y k h) [
  | inl was ↦ inl was
  | inr now ↦ inr (ap (λ (n : ℕ). suc n) now.0, now.1)
]

kept_more : (test : Event → Bool) (es : List Event) (i : ℕ) (d : Event) (b : Bool) → i < length es
    → b ≡ test (get_or es i d)
    → filter test (take (i + 1) es) ≡ filter test (take i es) ++ cond b (get_or es i d ∷ []) []
kept_more test es i d b lt is =
    ap (λ (l : List Event). filter test l) (take_more es i d lt)
    ∙ filter-append test (take i es) (get_or es i d ∷ [])
    ∙ ap (λ (l : List Event). filter test (take i es) ++ l) (one (get_or es i d) b is)
  where
    one : (e : Event) (c : Bool) → c ≡ test e → filter test (e ∷ []) ≡ cond c (e ∷ []) []
    one e c h = go (test e) c h
      where
        go : (t c : Bool) → c ≡ t → cond t (e ∷ []) [] ≡ cond c (e ∷ []) []
        go t c h = rw h refl

numbers_more : (test : Event → Bool) (es : List Event) (i : ℕ) (d : Event) (b : Bool)
    → i < length es → b ≡ test (get_or es i d)
    → numbers test 0 (take (i + 1) es) ≡ numbers test 0 (take i es) ++ cond b (i ∷ []) []
numbers_more test es i d b lt is =
    one_event_more test es i d lt
    ∙ ap (λ (c : Bool). numbers test 0 (take i es) ++ cond c (i ∷ []) []) (sym is)

-- one event more, which is a load or none
pub one_load_more : (es : List Event) (i : ℕ) (d : Event) (b : Bool) (old new : List Load)
    (l : Load) → i < length es → b ≡ is_load (get_or es i d) → b ≡ true → AreLoads es i old
    → l.event ≡ i → IsEvents l.sources (length es) (Contains (stores_for es (get_or es i d)))
    → new ≡ old ++ l ∷ [] → AreLoads es (i + 1) new
one_load_more es i d b old new l lt is holds before number sources more = record {
  events =
      ap (λ (ls : List Load). map (λ m. m.event) ls) more ∙ map_push (λ m. m.event) old l
      ∙ ap (λ (ns : List ℕ). ns ++ l.event ∷ []) before.events
      ∙ ap (λ (n : ℕ). numbers is_load 0 (take i es) ++ n ∷ []) number
      ∙ sym (numbers_more is_load es i d b lt is
      ∙ ap (λ (c : Bool). numbers is_load 0 (take i es) ++ cond c (i ∷ []) []) holds);
  sources = λ k m e at there.
      elim (pushed_at old l m k (ap (λ (ls : List Load). slice_get ls k) (sym more) ∙ at)) [
        | inl was ↦ elim
            (pushed_at (filter is_load (take i es)) (get_or es i d) e k
            (ap (λ (xs : List Event). slice_get xs k) (sym kept) ∙ there)) [
              | inl there' ↦ before.sources k m e was there'
              | inr past ↦ absurd (let w : k < length old = slice_get_within old k m was in
                  omega (arith, w, past.0, long))
            ]
        | inr now ↦ elim
            (pushed_at (filter is_load (take i es)) (get_or es i d) e k
            (ap (λ (xs : List Event). slice_get xs k) (sym kept) ∙ there)) [
              | inl there' ↦ absurd (
                  let w : k < length (filter is_load (take i es)) =
                  slice_get_within (filter is_load (take i es)) k e there' in
                  omega (arith, w, now.0, long))
              | inr last ↦ subst
                  (λ (x : Load). IsEvents x.sources (length es) (Contains (stores_for es e)))
                  (sym now.1) (subst
                  (λ (x : Event). IsEvents l.sources (length es) (Contains (stores_for es x)))
                  (sym last.1) sources)
            ]
      ];
}
  where
    long : length old ≡ length (filter is_load (take i es))
    long =
        sym (length-map old load_event) ∙ ap (λ (ns : List ℕ). length ns) before.events
        ∙ sym (as_many is_load 0 (take i es))

    kept : filter is_load (take (i + 1) es) ≡ filter is_load (take i es) ++ get_or es i d ∷ []
    kept =
        kept_more is_load es i d b lt is
        ∙ ap (λ (c : Bool). filter is_load (take i es) ++ cond c (get_or es i d ∷ []) []) holds

pub no_load_more : (es : List Event) (i : ℕ) (d : Event) (b : Bool) (old new : List Load)
    → i < length es → b ≡ is_load (get_or es i d) → b ≡ false → AreLoads es i old → new ≡ old
    → AreLoads es (i + 1) new
no_load_more es i d b old new lt is fails before same = record {
  events =
      ap (λ (ls : List Load). map (λ m. m.event) ls) same ∙ before.events
      ∙ sym (numbers_more is_load es i d b lt is
      ∙ ap (λ (c : Bool). numbers is_load 0 (take i es) ++ cond c (i ∷ []) []) fails
      ∙ append-nil (numbers is_load 0 (take i es)));
  sources =
      λ k m e at there. before.sources k m e
      (ap (λ (ls : List Load). slice_get ls k) (sym same) ∙ at) (ap
      (λ (xs : List Event). slice_get xs k) (sym kept) ∙ there);
}
  where
    kept : filter is_load (take (i + 1) es) ≡ filter is_load (take i es)
    kept =
        kept_more is_load es i d b lt is
        ∙ ap (λ (c : Bool). filter is_load (take i es) ++ cond c (get_or es i d ∷ []) []) fails
        ∙ append-nil (filter is_load (take i es))

-- one event more, which is a store or none
pub one_store_more : (es : List Event) (pairs : List (ℕ × ℕ)) (i : ℕ) (d : Event) (b : Bool)
    (old new : List Store) (s : Store) → i < length es → b ≡ is_store (get_or es i d) → b ≡ true
    → AreStores es pairs i old → s.event ≡ i
    → IsEvents s.needs (length es) (λ a. Contains pairs (a, i) × Contains (numbers is_load 0 es) a)
    → new ≡ old ++ s ∷ [] → AreStores es pairs (i + 1) new
one_store_more es pairs i d b old new s lt is holds before number needs more = record {
  events =
      ap (λ (ls : List Store). map (λ m. m.event) ls) more ∙ map_push (λ m. m.event) old s
      ∙ ap (λ (ns : List ℕ). ns ++ s.event ∷ []) before.events
      ∙ ap (λ (n : ℕ). numbers is_store 0 (take i es) ++ n ∷ []) number
      ∙ sym (numbers_more is_store es i d b lt is
      ∙ ap (λ (c : Bool). numbers is_store 0 (take i es) ++ cond c (i ∷ []) []) holds);
  needs =
      λ k m at.
      elim (pushed_at old s m k (ap (λ (ls : List Store). slice_get ls k) (sym more) ∙ at)) [
        | inl was ↦ before.needs k m was
        | inr now ↦ subst
            (λ (x : Store). IsEvents x.needs (length es) (λ a. Contains pairs (a, x.event)
            × Contains (numbers is_load 0 es) a))
            (sym now.1)
            (subst
            (λ (x : ℕ). IsEvents s.needs (length es) (λ a. Contains pairs (a, x)
            × Contains (numbers is_load 0 es) a))
            (sym number) needs)
      ];
}

pub no_store_more : (es : List Event) (pairs : List (ℕ × ℕ)) (i : ℕ) (d : Event) (b : Bool)
    (old new : List Store) → i < length es → b ≡ is_store (get_or es i d) → b ≡ false
    → AreStores es pairs i old → new ≡ old → AreStores es pairs (i + 1) new
no_store_more es pairs i d b old new lt is fails before same = record {
  events =
      ap (λ (ls : List Store). map (λ m. m.event) ls) same ∙ before.events
      ∙ sym (numbers_more is_store es i d b lt is
      ∙ ap (λ (c : Bool). numbers is_store 0 (take i es) ++ cond c (i ∷ []) []) fails
      ∙ append-nil (numbers is_store 0 (take i es)));
  needs = λ k m at. before.needs k m (ap (λ (ls : List Store). slice_get ls k) (sym same) ∙ at);
}

-- the loads and stores of all events
pub shown_reading : (es slice : List Event) (pairs : List (ℕ × ℕ)) (r : Reading) → slice ≡ es
    → length es ≤ 128 → r.count ≡ length slice → AreLoads slice (length slice) r.loads.items
    → AreStores slice pairs (length slice) r.stores.items → IsReadingOf es pairs r
shown_reading es slice pairs r same few count loads stores = record {
  count = long;
  few = omega (arith, long, few);
  loads = loads.events ∙ ap (λ (l : List Event). numbers is_load 0 l) whole;
  sources = λ i l at.
      let within : i < length (filter is_load es) = omega (arith, slice_get_within r.loads.items i l at, as_long) in
      source i l at (slice_get_cases (filter is_load es) i).1 within;
  stores = stores.events ∙ ap (λ (l : List Event). numbers is_store 0 l) whole;
  needs = λ k s at.
      let n : IsEvents s.needs (length slice) (λ a. Contains pairs (a, s.event) × Contains (numbers is_load 0 slice) a) = stores.needs k s at in
      record {
        count = n.count ∙ sym count;
        within = λ a m. subst (λ (c : ℕ). a < c) (sym count) (n.within a m);
        members = λ a. (
          (λ m.
              let c : Contains pairs (a, s.event) × Contains (numbers is_load 0 slice) a =
              (n.members a).0 m in (
                c.0,
                subst (λ (l : List Event). Contains (numbers is_load 0 l) a) same c.1,
                store_there k s at,
              )),
          (λ need. (n.members a).1 (
            need.0,
            subst (λ (l : List Event). Contains (numbers is_load 0 l) a) (sym same)
                need.1,
          )),
        );
      };
}
  where
    long : r.count ≡ length es
    long = count ∙ ap (λ (l : List Event). length l) same

    whole : take (length slice) slice ≡ es
    whole = take-length slice ∙ same

    as_long : length r.loads.items ≡ length (filter is_load es)
    as_long =
        sym (length-map r.loads.items load_event)
        ∙ ap (λ (ns : List ℕ). length ns) (loads.events
        ∙ ap (λ (l : List Event). numbers is_load 0 l) whole) ∙ sym (as_many is_load 0 es)

    source : (i : ℕ) (l : Load) → slice_get r.loads.items i ≡ Some l
        → ((x : Event) × (i < length (filter is_load es))
        × (slice_get (filter is_load es) i ≡ Some x)
        × (get_or (filter is_load es) i x ≡ x))
        ⊎ ((length (filter is_load es) ≤ i) × (slice_get (filter is_load es) i ≡ None))
        → i < length (filter is_load es)
        → IsEvents l.sources r.count (MayReadFrom (accesses_in es pairs) i)
    source i l at (inr past) within = absurd (omega (arith, past.0, within))
    source i l at (inl found) within =
        let there : slice_get (filter is_load (take (length slice) slice)) i ≡ Some found.0 = ap (λ (xs : List Event). slice_get (filter is_load xs) i) whole ∙ found.2 in
        let n : IsEvents l.sources (length slice) (Contains (stores_for slice found.0)) = loads.sources i l found.0 at there in
        let mapped : slice_get (map (stores_for es) (filter is_load es)) i ≡ Some (stores_for es found.0) = slice_get-map (stores_for es) (filter is_load es) i ∙ ap (λ (o : Option Event). option_map (stores_for es) o) found.2 in
        let list : get_or (map (stores_for es) (filter is_load es)) i [] ≡ stores_for es found.0 = get_or_from_slice_get (map (stores_for es) (filter is_load es)) i (stores_for es found.0) [] mapped in
        record {
          count = n.count ∙ sym count;
          within = λ a m. subst (λ (c : ℕ). a < c) (sym count) (n.within a m);
          members = λ a. (
            (λ m. subst (λ (ns : List ℕ). Contains ns a) (sym list) (subst
                (λ (xs : List Event). Contains (stores_for xs found.0) a) same
                ((n.members a).0 m))),
            (λ c. (n.members a).1 (subst (λ (xs : List Event). Contains (stores_for xs found.0) a)
                (sym same) (subst (λ (ns : List ℕ). Contains ns a) list c))),
          );
        }

    store_there : (k : ℕ) (s : Store) → slice_get r.stores.items k ≡ Some s
        → Contains (numbers is_store 0 es) s.event
    store_there k s at =
        contains_mapped (numbers is_store 0 es) (stores.events
        ∙ ap (λ (l : List Event). numbers is_store 0 l) whole)
      where
        contains_mapped : (ns : List ℕ) → map (λ m. m.event) r.stores.items ≡ ns
            → Contains ns s.event
        contains_mapped ns e =
            let there : slice_get ns k ≡ Some s.event = ap (λ (l : List ℕ). slice_get l k) (sym e) ∙ slice_get-map (λ (m : Store). m.event) r.stores.items k ∙ ap (λ (o : Option Store). option_map (λ (m : Store). m.event) o) at in (
              k,
              slice_get_within ns k s.event there,
              get_or_from_slice_get ns k s.event s.event there,
            )

pub fronted : (es slice : List Event) (n : ℕ) → n ≡ min (length es) 128 → slice ≡ take n es
    → length es ≤ 128 → slice ≡ es
fronted es slice n is prefix few =
    let m : n ≡ length es = omega (arith, is, few) in
    prefix ∙ ap (λ (k : ℕ). take k es) m ∙ take-length es
