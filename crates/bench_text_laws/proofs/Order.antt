-- The items of the texts go on over edits.
use Rattle.std.proofs.Common.{ℕ, ◌+◌, ◌<◌, ◌≤◌, ◌≡◌, inl, inr, Bool, true, List, length, Some, None, sym, ap, subst, ◌∙◌, arith}
use Rattle.std.specs.List.{insert, remove, slice_get}
use Rattle.std.proofs.lemmas.Option.{same_Some}
use Rattle.std.proofs.lemmas.Bool.{cases_lt}
use Rattle.text_values.specs.ModelValue.{Clause}
use Rattle.memo_core.specs.Step.{Has}
use Rattle.bench_texts.specs.BenchTexts.{BenchTexts, NumberedItem, PlainModel, test_index, model_index, put_at, changed_at, with_init, with_thread, with_condition, with_observed, with_items, with_tests, with_models, numbered_items}
use Rattle.bench_texts.specs.Edits.{Edit, PutTest, DropTest, SetInit, SetThread, SetCond, SetLocations, PutModel, DropModel, SetItem, InsertItem, RemoveItem, has_model, has_item, index_in, index_before, missing_fault, EditMakes, Applies}
use Rattle.bench_texts.proofs.Lists.{map-remove}
use Rattle.text_values.specs.TestValue.{Content}
use Rattle.bench_text_laws.specs.Orderly.{AreApart, numbers_of, all_numbers, IsOrderly}
use Rattle.bench_text_laws.specs.Order.{StandsBefore, PlainItemsGoOn, AreNumbersInOneOrder}
use Rattle.bench_text_laws.proofs.Lists.{map-inserted, StandsAt}
use Rattle.bench_text_laws.proofs.Orderly.{is_there, then_there, numbers_set, numbers_from}
use Rattle.bench_text_laws.proofs.Splices.{Precedes, has_at, precedes, is_before, one_way, precedes_among, has_among, IsSpliced, spliced_order, spliced_fresh, spliced_none, spliced_inserted, spliced_removed, all_spliced_changed, all_spliced_put, all_spliced_removed}

-- ---- one edit

spliced : (t u : BenchTexts) → IsOrderly t
    → IsSpliced t.next (all_numbers t.models) (all_numbers u.models) → t.next ≤ u.next
    → PlainItemsGoOn t u
spliced t u o s le = record {
  order = spliced_order t.next (all_numbers t.models) (all_numbers u.models) s o.items o.next;
  fresh = spliced_fresh t.next (all_numbers t.models) (all_numbers u.models) s;
  next = le;
}

-- an edit of tests
tests_changed : (t : BenchTexts) (f : List Content → List Content) → IsOrderly t
    → PlainItemsGoOn t (with_tests f t)
tests_changed t f o =
    spliced t (with_tests f t) o (spliced_none t.next (all_numbers t.models)) (omega arith)

-- a model is changed as to its items
items_changed : (t : BenchTexts) (i next : ℕ) (g : List NumberedItem → List NumberedItem)
    → ((m : PlainModel) → StandsAt i t.models m
    → IsSpliced t.next (numbers_of m) (numbers_of (with_items g m))) → t.next ≤ next
    → IsOrderly t → PlainItemsGoOn t (with_models (changed_at i (with_items g)) next t)
items_changed t i next g s le o =
    spliced t (with_models (changed_at i (with_items g)) next t) o
    (all_spliced_changed numbers_of t.next (with_items g) i t.models s) le

item_set : (t : BenchTexts) (name : List ℕ) (item : ℕ) (c : Clause) → has_item t name item ≡ true
    → IsOrderly t
    → PlainItemsGoOn t (with_models
    (changed_at (model_index name t.models) (with_items (put_at (index_in t name item)
    (record { number = item; clause = c })))) t.next t)
item_set t name item c there o =
    items_changed t (model_index name t.models) t.next (put_at (index_in t name item)
    (record { number = item; clause = c }))
    (λ m s. subst (λ (ns : List ℕ). IsSpliced t.next (numbers_of m) ns)
    (sym (numbers_set t name item c there m s)) (spliced_none t.next (numbers_of m)))
    (omega arith) o

item_removed : (t : BenchTexts) (at index : ℕ) → IsOrderly t
    → PlainItemsGoOn t (with_models (changed_at at (with_items (λ is. remove is index))) t.next t)
item_removed t at index o = items_changed t at t.next (λ is. remove is index)
    (λ m s. subst (λ (ns : List ℕ). IsSpliced t.next (numbers_of m) ns)
    (sym (map-remove (λ i. i.number) m.items index))
    (spliced_removed t.next (numbers_of m) index))
    (omega arith) o

item_inserted : (t : BenchTexts) (at index : ℕ) (c : Clause) → IsOrderly t
    → PlainItemsGoOn t (with_models
    (changed_at at (with_items (λ is.
    insert is index (record { number = t.next; clause = c }))))
    (t.next + 1) t)
item_inserted t at index c o =
    items_changed t at (t.next + 1) (λ is. insert is index (record { number = t.next; clause = c }))
    (λ m s. subst (λ (ns : List ℕ). IsSpliced t.next (numbers_of m) ns)
    (sym (map-inserted (λ i. i.number) m.items index (record { number = t.next; clause = c })))
    (spliced_inserted t.next (numbers_of m) index t.next (omega arith))) (omega arith) o

model_put : (t : BenchTexts) (name : List ℕ) (cs : List Clause) → IsOrderly t
    → PlainItemsGoOn t (with_models
    (put_at (model_index name t.models)
    (record { name = name; items = numbered_items t.next cs }))
    (t.next + length cs) t)
model_put t name cs o =
    spliced t (with_models (put_at (model_index name t.models) new) (t.next + length cs) t) o
    (all_spliced_put numbers_of t.next (model_index name t.models) new t.models
    (λ n h. (numbers_from t.next cs n h).0))
    (omega arith)
  where
    new : PlainModel
    new = record { name = name; items = numbered_items t.next cs }

model_dropped : (t : BenchTexts) (i : ℕ) → IsOrderly t
    → PlainItemsGoOn t (with_models (λ ms. remove ms i) t.next t)
model_dropped t i o =
    spliced t (with_models (λ ms. remove ms i) t.next t) o
    (all_spliced_removed numbers_of t.next t.models i) (omega arith)

made_go_on : (t u : BenchTexts) (e : Edit) → IsOrderly t → missing_fault t e ≡ None → EditMakes t e u
    → PlainItemsGoOn t u
made_go_on t u (PutTest text) o there m =
    subst (PlainItemsGoOn t) (sym m.2) (tests_changed t (put_at (test_index m.0.name t.tests) m.0) o)
made_go_on t u (DropTest test) o there m =
    subst (PlainItemsGoOn t) (sym m) (tests_changed t (λ ts. remove ts (test_index test t.tests)) o)
made_go_on t u (SetInit test text) o there m =
    subst (PlainItemsGoOn t) (sym m.2) (tests_changed t
    (changed_at (test_index test t.tests) (with_init m.0)) o)
made_go_on t u (SetThread test thread text) o there m =
    subst (PlainItemsGoOn t) (sym m.2) (tests_changed t
    (changed_at (test_index test t.tests) (with_thread thread m.0)) o)
made_go_on t u (SetCond test text) o there m =
    subst (PlainItemsGoOn t) (sym m.2) (tests_changed t
    (changed_at (test_index test t.tests) (with_condition m.0)) o)
made_go_on t u (SetLocations test text) o there m =
    subst (PlainItemsGoOn t) (sym m.2) (tests_changed t
    (changed_at (test_index test t.tests) (with_observed m.0)) o)
made_go_on t u (PutModel model text) o there m =
    subst (PlainItemsGoOn t) (sym m.2) (model_put t model m.0 o)
made_go_on t u (DropModel model) o there m =
    subst (PlainItemsGoOn t) (sym m) (model_dropped t (model_index model t.models) o)
made_go_on t u (SetItem model item text) o there m =
    subst (PlainItemsGoOn t) (sym m.2) (item_set t model item m.0
    (is_there (has_item t model item) _ None (then_there (has_model t model) _ _ there)) o)
made_go_on t u (InsertItem model before text) o there m =
    subst (PlainItemsGoOn t) (sym m.3) (item_inserted t (model_index model t.models)
    (index_before t model before) m.0 o)
made_go_on t u (RemoveItem model item) o there m =
    subst (PlainItemsGoOn t) (sym m) (item_removed t (model_index model t.models) (index_in t model item)
    o)

pub applied_go_on : (t u : BenchTexts) (spent : Bool) (e : Edit) → IsOrderly t → Applies t spent e u
    → PlainItemsGoOn t u
applied_go_on t u spent e o a = made_go_on t u e o a.all_there a.makes

-- ---- several edits

pub go_on_same : (t : BenchTexts) → PlainItemsGoOn t t
go_on_same t = record { order = λ a b h i p. p; fresh = λ n h. inl h; next = omega arith }

-- a number that earlier texts have and later ones too is in those between them
has_between : (t u v : BenchTexts) → IsOrderly t → PlainItemsGoOn t u → PlainItemsGoOn u v → (n : ℕ)
    → Has (all_numbers t.models) n → Has (all_numbers v.models) n → Has (all_numbers u.models) n
has_between t u v o g h n was is = elim (h.fresh n is) [
  | inl m ↦ m
  | inr le ↦ (let l = o.next n was in let k = g.next in absurd (omega (arith, l, k, le)))
]

pub go_on_further : (t u v : BenchTexts) → IsOrderly t → PlainItemsGoOn t u → PlainItemsGoOn u v
    → PlainItemsGoOn t v
go_on_further t u v o g h = record {
  order = λ a b x y p. h.order a b x y (g.order a b
      (has_between t u v o g h a (has_at (all_numbers t.models) p.0 a p.2) x)
      (has_between t u v o g h b (has_at (all_numbers t.models) p.1 b p.3) y) p);
  fresh =
      λ n x. elim (h.fresh n x) [
        | inl m ↦ g.fresh n m
        | inr le ↦ inr
            (let k = g.next in omega (arith, k, le))
      ];
  next = (let k = g.next in let l = h.next in omega (arith, k, l));
}

-- ---- models

-- the numbers of a model are in one order in a list of all
module _ (all : List ℕ) (apart : AreApart all) (numbers : List ℕ)
    (among : (a b : ℕ) → Precedes numbers a b → Precedes all a b) where
  order_in : (c d first second : ℕ) → slice_get numbers c ≡ Some first
      → slice_get numbers d ≡ Some second → Precedes all first second → c < d
  order_in c d first second e f p = elim (cases_lt c d) [
    | inl lt ↦ lt
    | inr le ↦ elim (cases_lt d c) [
      | inl lt ↦ absurd (one_way all first second apart p (among second first
          (precedes numbers d c second first f e lt)))
      | inr ge ↦ absurd (one_way all first second apart p (same c d (omega (arith, le, ge)) e f))
    ]
  ]
    where
      same : (c d : ℕ) → c ≡ d → slice_get numbers c ≡ Some first
          → slice_get numbers d ≡ Some second → Precedes all second first
      same c d is e f =
          let one = same_Some first second (sym e ∙ ap (slice_get numbers) is ∙ f) in
          subst (λ (n : ℕ). Precedes all n first) one
          (subst (λ (n : ℕ). Precedes all first n) (sym one) p)

pub models_in_order : (t u : BenchTexts) (m w : PlainModel) → IsOrderly u → PlainItemsGoOn t u
    → Has t.models m → Has u.models w → AreNumbersInOneOrder (numbers_of m) (numbers_of w)
models_in_order t u m w o g hm hw a b c d first second ea eb ec ed lt =
    order_in (all_numbers u.models) o.items (numbers_of w)
    (λ x y p. precedes_among numbers_of u.models w x y hw p) c d first second ec ed later
  where
    before : StandsBefore (all_numbers t.models) first second
    before =
        is_before (all_numbers t.models) first second (precedes_among numbers_of t.models m first
        second hm (precedes (numbers_of m) a b first second ea eb lt))

    is_there_too : (i n : ℕ) → slice_get (numbers_of w) i ≡ Some n → Has (all_numbers u.models) n
    is_there_too i n e = has_among numbers_of u.models w n hw (has_at (numbers_of w) i n e)

    later : Precedes (all_numbers u.models) first second
    later =
        let p = g.order first second (is_there_too c first ec) (is_there_too d second ed) before in
        precedes (all_numbers u.models) p.0 p.1 first second p.2 p.3 p.4
