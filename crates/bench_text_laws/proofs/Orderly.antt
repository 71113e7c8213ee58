-- Edits keep names and numbers apart.
use Rattle.std.proofs.Common.{ℕ, ◌+◌, ◌<◌, ◌≤◌, ◌≡◌, ◌≢◌, ◌==◌, inl, inr, Bool, true, false, nat_lt, List, [], ◌∷◌, length, map, Option, Some, None, refl, sym, subst, eqb-true, arith}
use Rattle.std.specs.List.{insert, remove}
use Rattle.std.specs.Str.{bytes_eq}
use Rattle.std.proofs.lemmas.Slice.Eq.{bytes_eq-Decides}
use Rattle.std.proofs.lemmas.Bool.Decides.{nat_tests}
use Rattle.text_values.specs.TestValue.{Content}
use Rattle.text_values.specs.ModelValue.{Clause}
use Rattle.memo_core.specs.Step.{Has}
use Rattle.bench_texts.specs.declared.fault.EditFault.{EditFault}
use Rattle.bench_texts.specs.BenchTexts.{BenchTexts, NumberedItem, PlainModel, test_index, model_index, item_index, put_at, changed_at, with_init, with_thread, with_condition, with_observed, with_items, with_tests, with_models, numbered_items}
use Rattle.bench_texts.specs.Edits.{Edit, PutTest, DropTest, SetInit, SetThread, SetCond, SetLocations, PutModel, DropModel, SetItem, InsertItem, RemoveItem, has_model, has_item, model_items, index_in, index_before, unless, missing_fault, EditMakes, Applies}
use Rattle.bench_texts.proofs.Lists.{map-remove}
use Rattle.bench_text_laws.specs.Orderly.{AreApart, numbers_of, all_numbers, IsOrderly}
use Rattle.bench_text_laws.proofs.Lists.{apart_put, keys_put, keys_changed, has_removed, apart_removed, has_inserted, apart_inserted, map-inserted, StandsAt, stands_get, Grows, has_all_changed, all_apart_changed, has_all_put, all_apart_put, has_all_removed, all_apart_removed}

-- ---- names

not_both : (b : Bool) → b ≡ true → b ≡ false → ⊥
not_both true h i = cc
not_both false h i = cc

pub named : (a b : List ℕ) → bytes_eq a b ≡ true → a ≡ b
named a b h = (bytes_eq-Decides a b).0 h

pub not_named : (a b : List ℕ) → bytes_eq a b ≡ false → a ≢ b
not_named a b h e = not_both (bytes_eq a b) ((bytes_eq-Decides a b).1 e) h

some_none : (f : EditFault) → Some f ≡ None → ⊥
some_none f h = cc

-- what an edit names is there
pub is_there : (b : Bool) (f : EditFault) (later : Option EditFault) → unless b f later ≡ None
    → b ≡ true
is_there true f later h = refl
is_there false f later h = absurd (some_none f h)

pub then_there : (b : Bool) (f : EditFault) (later : Option EditFault) → unless b f later ≡ None
    → later ≡ None
then_there true f later h = h
then_there false f later h = absurd (some_none f h)

-- ---- edits of tests

with_names : (t : BenchTexts) (f : List Content → List Content)
    → AreApart (map (λ c. c.name) (f t.tests)) → IsOrderly t → IsOrderly (with_tests f t)
with_names t f names o = record { tests = names; models = o.models; items = o.items; next = o.next }

-- a part of a test is changed
part_changed : (t : BenchTexts) (i : ℕ) (g : Content → Content)
    → ((c : Content) → (g c).name ≡ c.name) → IsOrderly t
    → IsOrderly (with_tests (changed_at i g) t)
part_changed t i g same o =
    with_names t (changed_at i g)
    (subst AreApart (sym (keys_changed (λ c. c.name) g same i t.tests)) o.tests) o

test_put : (t : BenchTexts) (c : Content) → IsOrderly t
    → IsOrderly (with_tests (put_at (test_index c.name t.tests) c) t)
test_put t c o = with_names t (put_at (test_index c.name t.tests) c)
    (apart_put (λ d. d.name) (λ d. bytes_eq d.name c.name) c.name (λ d h. named d.name c.name h)
    (λ d h. not_named d.name c.name h) c t.tests refl o.tests) o

test_dropped : (t : BenchTexts) (i : ℕ) → IsOrderly t → IsOrderly (with_tests (λ ts. remove ts i) t)
test_dropped t i o =
    with_names t (λ ts. remove ts i)
    (subst AreApart (sym (map-remove (λ c. c.name) t.tests i))
    (apart_removed (map (λ c. c.name) t.tests) i o.tests)) o

-- ---- edits of models

-- a model is changed as to its items
items_changed : (t : BenchTexts) (i next : ℕ) (g : List NumberedItem → List NumberedItem)
    → ((m : PlainModel) → StandsAt i t.models m
    → Grows t.next (numbers_of m) (numbers_of (with_items g m))) → t.next ≤ next
    → ((n : ℕ) → Has (all_numbers (changed_at i (with_items g) t.models)) n → n < next)
    → IsOrderly t → IsOrderly (with_models (changed_at i (with_items g)) next t)
items_changed t i next g grows le low o = record {
  tests = o.tests;
  models =
      subst AreApart (sym (keys_changed (λ m. m.name) (with_items g) (λ m. refl) i t.models))
      o.models;
  items = all_apart_changed numbers_of t.next (with_items g) i t.models grows o.items o.next;
  next = low;
}

low_changed : (t : BenchTexts) (i : ℕ) (g : List NumberedItem → List NumberedItem)
    → ((m : PlainModel) → StandsAt i t.models m
    → Grows t.next (numbers_of m) (numbers_of (with_items g m))) → IsOrderly t
    → (n : ℕ) → Has (all_numbers (changed_at i (with_items g) t.models)) n → n < t.next + 1
low_changed t i g grows o n h =
    elim (has_all_changed numbers_of t.next (with_items g) i t.models grows n h) [
      | inl was ↦ (let l = o.next n was in omega (arith, l))
      | inr is ↦ omega (arith, is)
    ]

-- no item is new
grown : (next : ℕ) (before after : List ℕ) → (AreApart before → AreApart after)
    → ((n : ℕ) → Has after n → Has before n) → Grows next before after
grown next before after a f = record { apart = λ h low. a h; from = λ n h. inl (f n h) }

kept_changed : (t : BenchTexts) (i : ℕ) (g : List NumberedItem → List NumberedItem)
    → ((m : PlainModel) → StandsAt i t.models m → AreApart (numbers_of m)
    → AreApart (numbers_of (with_items g m)))
    → ((m : PlainModel) → StandsAt i t.models m → (n : ℕ) → Has (numbers_of (with_items g m)) n
    → Has (numbers_of m) n) → IsOrderly t
    → IsOrderly (with_models (changed_at i (with_items g)) t.next t)
kept_changed t i g a f o = items_changed t i t.next g grows (omega arith) low o
  where
    grows : (m : PlainModel) → StandsAt i t.models m
        → Grows t.next (numbers_of m) (numbers_of (with_items g m))
    grows m s = grown t.next (numbers_of m) (numbers_of (with_items g m)) (a m s) (f m s)

    above : (m : PlainModel) → StandsAt i t.models m
        → Grows (t.next + 1) (numbers_of m) (numbers_of (with_items g m))
    above m s = grown (t.next + 1) (numbers_of m) (numbers_of (with_items g m)) (a m s) (f m s)

    low : (n : ℕ) → Has (all_numbers (changed_at i (with_items g) t.models)) n → n < t.next
    low n h = elim (has_all_changed numbers_of t.next (with_items g) i t.models grows n h) [
      | inl was ↦ o.next n was
      | inr is ↦ elim (has_all_changed numbers_of (t.next + 1) (with_items g) i t.models above n h) [
        | inl was ↦ o.next n was
        | inr also ↦ absurd (omega (arith, is, also))
      ]
    ]

-- the items of the model at the index of that name
items_at : (t : BenchTexts) (name : List ℕ) (m : PlainModel)
    → StandsAt (model_index name t.models) t.models m → model_items t name ≡ m.items
items_at t name m s = stands_get (λ x. x.items) (model_index name t.models) t.models m [] s

-- an item that is set keeps its number
pub numbers_set : (t : BenchTexts) (name : List ℕ) (item : ℕ) (c : Clause)
    → has_item t name item ≡ true → (m : PlainModel)
    → StandsAt (model_index name t.models) t.models m
    → numbers_of (with_items (put_at (index_in t name item) (record { number = item; clause = c }))
    m) ≡ numbers_of m
numbers_set t name item c there m s = by_items (model_items t name) (items_at t name m s) there
  where
    within : (i n : ℕ) → nat_lt i n ≡ true → i < n
    within i n h = grind (arith, nat_tests)

    by_items : (is : List NumberedItem) → is ≡ m.items
        → nat_lt (item_index item is) (length is) ≡ true
        → map (λ i. i.number) (put_at (item_index item is) (record { number = item; clause = c })
        m.items) ≡ numbers_of m
    by_items is e h =
        let lt : item_index item m.items < length m.items = within (item_index item m.items) (length m.items) (rw e at h) in
        rw e (keys_put (λ i. i.number) (λ i. i.number == item) item
        (λ i t. eqb-true i.number item t) (record { number = item; clause = c }) m.items
        refl lt)

item_set : (t : BenchTexts) (name : List ℕ) (item : ℕ) (c : Clause) → has_item t name item ≡ true
    → IsOrderly t
    → IsOrderly (with_models
    (changed_at (model_index name t.models) (with_items (put_at (index_in t name item)
    (record { number = item; clause = c })))) t.next t)
item_set t name item c there o =
    kept_changed t (model_index name t.models) (put_at (index_in t name item)
    (record { number = item; clause = c }))
    (λ m s h. subst AreApart (sym (numbers_set t name item c there m s)) h)
    (λ m s n h. subst (λ (ns : List ℕ). Has ns n) (numbers_set t name item c there m s) h)
    o

item_removed : (t : BenchTexts) (at index : ℕ) → IsOrderly t
    → IsOrderly (with_models (changed_at at (with_items (λ is. remove is index))) t.next t)
item_removed t at index o = kept_changed t at (λ is. remove is index)
    (λ m s h. subst AreApart (sym (map-remove (λ i. i.number) m.items index))
    (apart_removed (numbers_of m) index h))
    (λ m s n h. has_removed (numbers_of m) index n (subst (λ (ns : List ℕ). Has ns n)
    (map-remove (λ i. i.number) m.items index) h))
    o

item_inserted : (t : BenchTexts) (at index : ℕ) (c : Clause) → IsOrderly t
    → IsOrderly (with_models
    (changed_at at (with_items (λ is.
    insert is index (record { number = t.next; clause = c }))))
    (t.next + 1) t)
item_inserted t at index c o =
    items_changed t at (t.next + 1) put grows (omega arith) (low_changed t at put grows o) o
  where
    put : List NumberedItem → List NumberedItem
    put is = insert is index (record { number = t.next; clause = c })

    numbers : (m : PlainModel) → numbers_of (with_items put m) ≡ insert (numbers_of m) index t.next
    numbers m = map-inserted (λ i. i.number) m.items index (record { number = t.next; clause = c })

    grows : (m : PlainModel) → StandsAt at t.models m
        → Grows t.next (numbers_of m) (numbers_of (with_items put m))
    grows m s = record {
      apart =
          λ h low. subst AreApart (sym (numbers m)) (apart_inserted (numbers_of m) index t.next
          (λ n. let l = low t.next n in absurd (omega (arith, l))) h);
      from =
          λ n h. has_inserted (numbers_of m) index t.next n
          (subst (λ (ns : List ℕ). Has ns n) (numbers m) h);
    }

-- ---- a model put

pub numbers_from : (n : ℕ) (cs : List Clause) (k : ℕ)
    → Has (map (λ i. i.number) (numbered_items n cs)) k → (n ≤ k) × (k < n + length cs)
numbers_from n [] k h = absurd h
numbers_from n (c ∷ cs) k h = elim h [
  | inl e ↦ (omega (arith, e), omega (arith, e))
  | inr m ↦ (let r = numbers_from (n + 1) cs k m in (omega (arith, r.0), omega (arith, r.1)))
]

apart_from : (n : ℕ) (cs : List Clause) → AreApart (map (λ i. i.number) (numbered_items n cs))
apart_from n [] = tt
apart_from n (c ∷ cs) =
    ((λ h. let r = numbers_from (n + 1) cs n h in omega (arith, r.0)), apart_from (n + 1) cs)

model_put : (t : BenchTexts) (name : List ℕ) (cs : List Clause) → IsOrderly t
    → IsOrderly (with_models
    (put_at (model_index name t.models)
    (record { name = name; items = numbered_items t.next cs }))
    (t.next + length cs) t)
model_put t name cs o = record {
  tests = o.tests;
  models =
      apart_put (λ m. m.name) (λ m. bytes_eq m.name name) name (λ m h. named m.name name h)
      (λ m h. not_named m.name name h) new t.models refl o.models;
  items =
      all_apart_put numbers_of t.next (model_index name t.models) new t.models
      (apart_from t.next cs) (λ n h. (numbers_from t.next cs n h).0) o.items o.next;
  next = λ n h. elim (has_all_put numbers_of t.next (model_index name t.models) new t.models n h) [
    | inl was ↦ (let l = o.next n was in omega (arith, l))
    | inr is ↦ (numbers_from t.next cs n is).1
  ];
}
  where
    new : PlainModel
    new = record { name = name; items = numbered_items t.next cs }

model_dropped : (t : BenchTexts) (i : ℕ) → IsOrderly t
    → IsOrderly (with_models (λ ms. remove ms i) t.next t)
model_dropped t i o = record {
  tests = o.tests;
  models =
      subst AreApart (sym (map-remove (λ m. m.name) t.models i))
      (apart_removed (map (λ m. m.name) t.models) i o.models);
  items = all_apart_removed numbers_of t.next t.models i o.items;
  next = λ n h. o.next n (has_all_removed numbers_of t.next t.models i n h);
}

-- ---- all edits

made_orderly : (t u : BenchTexts) (e : Edit) → IsOrderly t → missing_fault t e ≡ None → EditMakes t e u
    → IsOrderly u
made_orderly t u (PutTest text) o there m = subst IsOrderly (sym m.2) (test_put t m.0 o)
made_orderly t u (DropTest test) o there m =
    subst IsOrderly (sym m) (test_dropped t (test_index test t.tests) o)
made_orderly t u (SetInit test text) o there m =
    subst IsOrderly (sym m.2) (part_changed t (test_index test t.tests) (with_init m.0) (λ c. refl)
    o)
made_orderly t u (SetThread test thread text) o there m =
    subst IsOrderly (sym m.2) (part_changed t (test_index test t.tests) (with_thread thread m.0)
    (λ c. refl) o)
made_orderly t u (SetCond test text) o there m =
    subst IsOrderly (sym m.2) (part_changed t (test_index test t.tests) (with_condition m.0)
    (λ c. refl) o)
made_orderly t u (SetLocations test text) o there m =
    subst IsOrderly (sym m.2) (part_changed t (test_index test t.tests) (with_observed m.0)
    (λ c. refl) o)
made_orderly t u (PutModel model text) o there m =
    subst IsOrderly (sym m.2) (model_put t model m.0 o)
made_orderly t u (DropModel model) o there m =
    subst IsOrderly (sym m) (model_dropped t (model_index model t.models) o)
made_orderly t u (SetItem model item text) o there m =
    subst IsOrderly (sym m.2) (item_set t model item m.0
    (is_there (has_item t model item) _ None (then_there (has_model t model) _ _ there)) o)
made_orderly t u (InsertItem model before text) o there m =
    subst IsOrderly (sym m.3) (item_inserted t (model_index model t.models)
    (index_before t model before) m.0 o)
made_orderly t u (RemoveItem model item) o there m =
    subst IsOrderly (sym m) (item_removed t (model_index model t.models) (index_in t model item) o)

pub applied_orderly : (t u : BenchTexts) (spent : Bool) (e : Edit) → IsOrderly t
    → Applies t spent e u → IsOrderly u
applied_orderly t u spent e o a = made_orderly t u e o a.all_there a.makes
