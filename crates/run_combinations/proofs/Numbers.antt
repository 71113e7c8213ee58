-- Numbers of the events that pass a test.
use Rattle.std.proofs.Common.{ℕ, zero, suc, ◌≡◌, ◌<◌, ◌≤◌, ◌+◌, inl, inr, Bool, true, false, cond, List, [], ◌∷◌, map, filter, length, get_or, slice_get, Option, Some, None, Contains, arith, sym, subst, refl, ap, ◌∙◌}
use Rattle.std.specs.Option.{option_map}
use Rattle.std.proofs.lemmas.List.{length-map}
use Rattle.std.proofs.lemmas.Bool.{false≢true, cases_lt, cases_eq}
use Rattle.std.proofs.lemmas.Option.{slice_get_within, get_or_from_slice_get, slice_get-map, slice_get_cases}
use Rattle.store_orders.specs.Events.{numbers, is_load, is_store, is_load_action, is_store_action}
use Rattle.run_combinations.specs.ReadChoices.{AreProperAccesses, accesses_in, stores_for, may_read}
use Rattle.store_orders.specs.declared.combination.Event.{Event}
use Rattle.store_orders.specs.declared.combination.Action.{Action}
use Rattle.store_orders.specs.declared.combination.Action.TheVariants.{Load, Store, Fence}

some_same : {X : Type 0} {u v : X} → Some u ≡ Some v → u ≡ v
some_same h = cc

-- an element at an index
pub contains_at : (xs : List ℕ) (k x : ℕ) → slice_get xs k ≡ Some x → Contains xs x
contains_at xs k x e = (k, slice_get_within xs k x e, get_or_from_slice_get xs k x x e)

pub mapped_at : {X Y : Type 0} (f : X → Y) (xs : List X) (ys : List Y) (k : ℕ) (y : X)
    → map f xs ≡ ys → slice_get xs k ≡ Some y → slice_get ys k ≡ Some (f y)
mapped_at {X} {Y} f xs ys k y e h =
    ap (λ (l : List Y). slice_get l k) (sym e) ∙ slice_get-map f xs k
    ∙ ap (λ (o : Option X). option_map f o) h

-- the item behind an element of a mapped list
pub record Behind {X Y : Type 0} (f : X → Y) (xs : List X) (k : ℕ) (y : Y) : Type 0 where
  pub item : X
  pub there : slice_get xs k ≡ Some item
  pub is : y ≡ f item

pub behind_at : {X Y : Type 0} (f : X → Y) (xs : List X) (ys : List Y) (k : ℕ) (y : Y)
    → map f xs ≡ ys → slice_get ys k ≡ Some y → Behind f xs k y
behind_at {X} {Y} f xs ys k y e h = elim (slice_get_cases xs k).1 [
  | inl t ↦ record {
    item = t.0;
    there = t.2;
    is = some_same (sym h ∙ mapped_at f xs ys k t.0 e t.2);
  }
  | inr t ↦ absurd (
      let none : Some y ≡ None =
      sym h ∙ ap (λ (l : List Y). slice_get l k) (sym e) ∙ slice_get-map f xs k
      ∙ ap (λ (o : Option X). option_map f o) t.1 in
      cc)
]

pub element_at : (ys : List ℕ) (k d : ℕ) → k < length ys → slice_get ys k ≡ Some (get_or ys k d)
element_at ys k d lt = elim (slice_get_cases ys k).1 [
  | inl t ↦ t.2 ∙ ap (λ (x : ℕ). Some x) (sym (get_or_from_slice_get ys k t.0 d t.2))
  | inr t ↦ absurd (omega (arith, t.0, lt))
]

-- an event with its number
pub record Numbered (test : Event → Bool) (at : ℕ) (es : List Event) (x : ℕ) : Type 0 where
  pub index : ℕ
  pub item : Event
  pub there : slice_get es index ≡ Some item
  pub is : x ≡ at + index
  pub passes : test item ≡ true

further : (test : Event → Bool) (at : ℕ) (e : Event) (es : List Event) (x : ℕ)
    → Numbered test (at + 1) es x → Numbered test at (e ∷ es) x
further test at e es x n =
    record {
      index = suc n.index;
      item = n.item;
      there = n.there;
      is = let i : x ≡ (at + 1) + n.index = n.is in omega (arith, i);
      passes = n.passes;
    }

pub numbered : (test : Event → Bool) (at : ℕ) (es : List Event) (k x : ℕ)
    → slice_get (numbers test at es) k ≡ Some x → Numbered test at es x
numbered test at [] k x h = absurd cc
numbered test at (e ∷ es) k x h = go (test e) refl (λ j t. numbered test (at + 1) es j x t) k h
  where
    go : (b : Bool) → test e ≡ b
        → ((j : ℕ) → slice_get (numbers test (at + 1) es) j ≡ Some x → Numbered test (at + 1) es x)
        → (j : ℕ)
        → slice_get (cond b (at ∷ numbers test (at + 1) es) (numbers test (at + 1) es)) j ≡ Some x
        → Numbered test at (e ∷ es) x
    go true is rest zero t =
        record {
          index = 0;
          item = e;
          there = refl;
          is = let s : at ≡ x = some_same t in omega (arith, s);
          passes = is;
        }
    go true is rest (suc j) t = further test at e es x (rest j t)
    go false is rest j t = further test at e es x (rest j t)

pub contained : (test : Event → Bool) (es : List Event) (x : ℕ) → Contains (numbers test 0 es) x
    → Numbered test 0 es x
contained test es x c =
    numbered test 0 es c.0 x (element_at (numbers test 0 es) c.0 x c.1 ∙ ap (λ (y : ℕ). Some y) c.2)

later : (xs : List ℕ) (y x : ℕ) → Contains xs x → Contains (y ∷ xs) x
later xs y x c = (suc c.0, omega (arith, c.1), c.2)

pub number_there : (test : Event → Bool) (at : ℕ) (es : List Event) (j : ℕ) (e : Event)
    → slice_get es j ≡ Some e → test e ≡ true → Contains (numbers test at es) (at + j)
number_there test at [] j e h t = absurd cc
number_there test at (d ∷ es) zero e h t =
    let same : d ≡ e = some_same h in
    let z : at ≡ at + 0 = omega arith in
    subst (λ (y : ℕ). Contains (numbers test at (d ∷ es)) y) z (first (test d) (ap test same ∙ t))
  where
    first : (b : Bool) → b ≡ true
        → Contains (cond b (at ∷ numbers test (at + 1) es) (numbers test (at + 1) es)) at
    first true k = (0, omega arith, refl)
    first false k = absurd (false≢true k)
number_there test at (d ∷ es) (suc j) e h t =
    let z : (at + 1) + j ≡ at + suc j = omega arith in
    subst (λ (y : ℕ). Contains (numbers test at (d ∷ es)) y) z
    (after (test d) (number_there test (at + 1) es j e h t))
  where
    after : (b : Bool) → Contains (numbers test (at + 1) es) ((at + 1) + j)
        → Contains (cond b (at ∷ numbers test (at + 1) es) (numbers test (at + 1) es))
        ((at + 1) + j)
    after true c = later (numbers test (at + 1) es) at ((at + 1) + j) c
    after false c = c

-- the numbers rise
from_start : (test : Event → Bool) (at : ℕ) (es : List Event) (k : ℕ)
    → k < length (numbers test at es) → at ≤ get_or (numbers test at es) k 0
from_start test at es k lt =
    let n : Numbered test at es (get_or (numbers test at es) k 0) = numbered test at es k (get_or (numbers test at es) k 0) (element_at (numbers test at es) k 0 lt) in
    omega (arith, n.is)

rising : (test : Event → Bool) (at : ℕ) (es : List Event) (i j : ℕ) → i < j
    → j < length (numbers test at es)
    → get_or (numbers test at es) i 0 < get_or (numbers test at es) j 0
rising test at [] i j lt within = absurd (omega (arith, within))
rising test at (e ∷ es) i j lt within =
    go (test e) i j lt within (λ k l. from_start test (at + 1) es k l)
    (λ k l. rising test (at + 1) es k l)
  where
    go : (b : Bool) (k l : ℕ) → k < l
        → l < length (cond b (at ∷ numbers test (at + 1) es) (numbers test (at + 1) es))
        → ((m : ℕ) → m < length (numbers test (at + 1) es)
        → at + 1 ≤ get_or (numbers test (at + 1) es) m 0)
        → ((m n : ℕ) → m < n → n < length (numbers test (at + 1) es)
        → get_or (numbers test (at + 1) es) m 0 < get_or (numbers test (at + 1) es) n 0)
        → get_or (cond b (at ∷ numbers test (at + 1) es) (numbers test (at + 1) es)) k 0
        < get_or (cond b (at ∷ numbers test (at + 1) es) (numbers test (at + 1) es)) l 0
    go true k zero below inside above rest = absurd (omega (arith, below))
    go true zero (suc l) below inside above rest = omega (arith, above l (omega (arith, inside)))
    go true (suc k) (suc l) below inside above rest =
        rest k l (omega (arith, below)) (omega (arith, inside))
    go false k l below inside above rest = rest k l below inside

pub as_many : (test : Event → Bool) (at : ℕ) (es : List Event)
    → length (filter test es) ≡ length (numbers test at es)
as_many test at [] = refl
as_many test at (e ∷ es) = go (test e) (as_many test (at + 1) es)
  where
    go : (b : Bool) → length (filter test es) ≡ length (numbers test (at + 1) es)
        → length (cond b (e ∷ filter test es) (filter test es))
        ≡ length (cond b (at ∷ numbers test (at + 1) es) (numbers test (at + 1) es))
    go true h = ap (λ (n : ℕ). suc n) h
    go false h = h

not_both : (a : Action) → is_load_action a ≡ true → is_store_action a ≡ true → ⊥
not_both (Load l v) r w = false≢true w
not_both (Store l v) r w = false≢true r
not_both (Fence f) r w = false≢true r

read_is_store : (a b : Action) → may_read a b ≡ true → is_store_action b ≡ true
read_is_store (Load l v) (Load m w) h = absurd (false≢true h)
read_is_store (Load l v) (Store m w) h = refl
read_is_store (Load l v) (Fence f) h = absurd (false≢true h)
read_is_store (Store l v) b h = absurd (nothing b h)
  where
    nothing : (c : Action) → may_read (Store l v) c ≡ true → ⊥
    nothing (Load m w) k = false≢true k
    nothing (Store m w) k = false≢true k
    nothing (Fence f) k = false≢true k
read_is_store (Fence f) b h = absurd (nothing b h)
  where
    nothing : (c : Action) → may_read (Fence f) c ≡ true → ⊥
    nothing (Load m w) k = false≢true k
    nothing (Store m w) k = false≢true k
    nothing (Fence f) k = false≢true k

-- the accesses among events are each a load or a store
pub proper : (es : List Event) (pairs : List (ℕ × ℕ)) → AreProperAccesses (length es) (accesses_in es pairs)
proper es pairs = record {
  paired = mapped_long ∙ as_many is_load 0 es;
  loads_within =
      λ i lt. within is_load (get_or (numbers is_load 0 es) i 0) (contains_at (numbers is_load 0 es)
      i (get_or (numbers is_load 0 es) i 0) (element_at (numbers is_load 0 es) i 0 lt));
  apart = λ i j li lj e. elim (cases_eq i j) [
    | inl same ↦ same
    | inr other ↦ elim (cases_lt i j) [
      | inl lt ↦ absurd (omega (arith, rising is_load 0 es i j lt lj, e))
      | inr ge ↦ absurd (omega (arith, rising is_load 0 es j i (omega (arith, ge, other)) li, e))
    ]
  ];
  stores_within = λ x st. within is_store x st;
  never_both = λ i lt st.
      let l : Numbered is_load 0 es (get_or (numbers is_load 0 es) i 0) = numbered is_load 0 es i (get_or (numbers is_load 0 es) i 0) (element_at (numbers is_load 0 es) i 0 lt) in
      let s : Numbered is_store 0 es (get_or (numbers is_load 0 es) i 0) = contained is_store es (get_or (numbers is_load 0 es) i 0) st in
      let same_index : l.index ≡ s.index = omega (arith, l.is, s.is) in
      let same_event : l.item ≡ s.item = some_same (sym l.there ∙ ap (λ (k : ℕ). slice_get es k) same_index ∙ s.there) in
      not_both l.item.action l.passes (ap (λ (e : Event). is_store_action e.action) same_event ∙ s.passes);
  sources = λ i s lt source.
      let at : slice_get (map (stores_for es) (filter is_load es)) i ≡ Some (get_or (map (stores_for es) (filter is_load es)) i []) = list_at (map (stores_for es) (filter is_load es)) i (omega (arith, lt, mapped_long, as_many is_load 0 es)) in
      let load : Behind (stores_for es) (filter is_load es) i (get_or (map (stores_for es) (filter is_load es)) i []) = behind_at (stores_for es) (filter is_load es) (map (stores_for es) (filter is_load es)) i (get_or (map (stores_for es) (filter is_load es)) i []) refl at in
      let n : Numbered (λ e. may_read load.item.action e.action) 0 es s = contained (λ e. may_read load.item.action e.action) es s (subst (λ (l : List ℕ). Contains l s) load.is source) in
      subst (λ (y : ℕ). Contains (numbers is_store 0 es) y) (sym n.is) (number_there is_store 0 es
      n.index n.item n.there (read_is_store load.item.action n.item.action n.passes));
  needed =
      λ a x need. (
        need.1.0,
        need.1.1,
        sym (get_or_from_slice_get (numbers is_load 0 es) need.1.0 a 0 (element_at
            (numbers is_load 0 es) need.1.0 a need.1.1
            ∙ ap (λ (y : ℕ). Some y) need.1.2)),
      );
  needing = λ a x need. need.2;
}
  where
    mapped_long : length (map (stores_for es) (filter is_load es)) ≡ length (filter is_load es)
    mapped_long = length-map (filter is_load es) (stores_for es)

    within : (test : Event → Bool) (x : ℕ) → Contains (numbers test 0 es) x → x < length es
    within test x c =
        let n : Numbered test 0 es x = contained test es x c in
        let l : n.index < length es = slice_get_within es n.index n.item n.there in
        omega (arith, n.is, l)

    list_at : (ls : List (List ℕ)) (k : ℕ) → k < length ls → slice_get ls k ≡ Some (get_or ls k [])
    list_at ls k lt = elim (slice_get_cases ls k).1 [
      | inl t ↦ t.2 ∙ ap (λ (l : List ℕ). Some l) (sym (get_or_from_slice_get ls k t.0 [] t.2))
      | inr t ↦ absurd (omega (arith, t.0, lt))
    ]
