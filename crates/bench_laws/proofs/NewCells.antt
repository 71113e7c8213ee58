-- A cell that an edit adds to a board is open.
use Rattle.std.proofs.Common.{◌≡◌, ℕ, zero, suc, ◌+◌, ◌<◌, ◌≤◌, inl, inr, Bool, false, List, [], ◌∷◌, ◌++◌, length, map, Option, Some, None, if◌then◌else◌, refl, sym, ap, subst, ◌∙◌, arith}
use Rattle.std.specs.Prelude.{slice_get, remove, fold, bytes_eq, nat_lt, ◌==◌}
use Rattle.std.specs.List.{position_or_len}
use Rattle.std.specs.Arc.{arc_value}
use Rattle.std.proofs.lemmas.Bool.{cases_Bool, eqb-true, ltb-true, ltb-false}
use Rattle.std.proofs.lemmas.List.{length-map}
use Rattle.std.proofs.lemmas.Option.{none-some}
use Rattle.text_values.specs.declared.test.Test.{Test}
use Rattle.text_values.specs.TestValue.{Content}
use Rattle.outcome_states.specs.declared.answer.Outcome.{Outcome}
use Rattle.bench_texts.specs.declared.fault.EditFault.TheVariants as faults
use Rattle.bench_texts.specs.declared.model.NamedModel.{NamedModel}
use Rattle.bench_texts.specs.declared.replacement.Replacement.{Replacement}
use Rattle.bench_texts.specs.declared.replacement.Replacement.TheVariants as made
use Rattle.bench_texts.specs.BenchTexts.{BenchTexts, PlainModel, changed_at, put_at, test_index, model_index, with_init, with_thread, with_condition, with_observed, with_items, with_tests, with_models, numbered_items}
use Rattle.bench_texts.specs.Edits.{Edit as Change, PutTest as PutsTest, DropTest as DropsTest, SetInit, SetThread, SetCond, SetLocations, PutModel as PutsModel, DropModel as DropsModel, SetItem, InsertItem, RemoveItem, missing_fault, has_test, has_model, EditMakes, Applies}
use Rattle.bench_texts.proofs.Lists.{length-put_at, length-remove}
use Rattle.bench_text_laws.proofs.Lists.{keys_put, keys_changed}
use Rattle.bench_text_laws.proofs.Orderly.{named as name_is, not_named, is_there}
use Rattle.board.specs.declared.operation.CellIndex.{CellIndex}
use Rattle.board.specs.declared.operation.NameChange.{NameChange}
use Rattle.board.specs.declared.operation.NameChange.TheVariants.{PutTest, DropTest, PutModel, DropModel}
use Rattle.board.specs.Contents.{RowContent, ColumnContent, BoardContent, cell_at}
use Rattle.board.specs.Operations.{open_cell, open_row, wider_row, rows_after}
use Rattle.board.specs.Histories.{IsContentOf}
use Rattle.board.specs.Legal.{TestsAndModels, tests_and_models_with, Announces}
use Rattle.board.specs.Results.{LacksOne}
use Rattle.board.proofs.Lookups.{skip, get_removed}
use Rattle.board.proofs.Names.{IsNamed, as_many}
use Rattle.board.proofs.ShownNames.{found, same_name, below}
use Rattle.board.proofs.Widths.{AreWide}
use Rattle.bench_laws.specs.Openings.{test_at, model_at}
use Rattle.bench_laws.proofs.CellLists.{some_is, one_more, found_name, placed_other, stays_open}
use Rattle.bench_laws.proofs.ReachedCells.{AreThere}
use Rattle.bench_laws.proofs.There.{test_names, model_names}

-- ---- an edit that adds or drops nothing leaves the names

-- where there are as many, the names are those of before
pub record HasNamesKept (old new : List (List ℕ)) (old_models new_models : List (List ℕ))
    : Type 0 where
  pub tests : length new ≡ length old → new ≡ old
  pub models : length new_models ≡ length old_models → new_models ≡ old_models

first_within : {A : Type 0} (p : A → Bool) (xs : List A) → position_or_len p xs ≤ length xs
first_within p [] = omega arith
first_within p (x ∷ xs) =
    elim (cases_Bool (p x)) [
      | inl t ↦ rw t (omega arith)
      | inr f ↦
          (let more = first_within p xs in rw f (omega (arith, more)))
    ]

-- what is put at the index of a key is not more where the key is there
put_names : {A : Type 0} (f : A → List ℕ) (wanted : List ℕ) (y : A) (xs : List A) → f y ≡ wanted
    → length (map f (put_at (found f wanted xs) y xs)) ≡ length (map f xs)
    → map f (put_at (found f wanted xs) y xs) ≡ map f xs
put_names f wanted y xs e same =
    let k : ℕ = found f wanted xs in
    let within : k ≤ length xs = first_within (λ x. bytes_eq (f x) wanted) xs in
    let count = length-put_at xs k y within in
    let one = length-map (put_at k y xs) f in
    let two = length-map xs f in
    keys_put f (λ x. bytes_eq (f x) wanted) wanted (λ x t. name_is (f x) wanted t) y xs e
    (omega (arith, count, one, two, same))

removed_names : {A : Type 0} (f : A → List ℕ) (i : ℕ) (xs : List A) → i < length xs
    → length (map f (remove xs i)) ≡ length (map f xs) → map f (remove xs i) ≡ map f xs
removed_names f i xs lt same =
    let count = length-remove xs i lt in
    let one = length-map (remove xs i) f in
    let two = length-map xs f in
    absurd (omega (arith, count, one, two, same, lt))

abbrev pub content_names : BenchTexts → List (List ℕ)
content_names t = map (λ c. c.name) t.tests

abbrev pub plain_names : BenchTexts → List (List ℕ)
plain_names t = map (λ m. m.name) t.models

abbrev pub NamesKept : BenchTexts → BenchTexts → Type 0
NamesKept t u = HasNamesKept (content_names t) (content_names u) (plain_names t) (plain_names u)

tests_kept : (t u : BenchTexts) → u.models ≡ t.models
    → (length (content_names u) ≡ length (content_names t) → content_names u ≡ content_names t)
    → NamesKept t u
tests_kept t u same tests =
    record {
      tests = tests;
      models = λ many. ap (λ (ms : List PlainModel). map (λ m. m.name) ms) same;
    }

models_kept : (t u : BenchTexts) → u.tests ≡ t.tests
    → (length (plain_names u) ≡ length (plain_names t) → plain_names u ≡ plain_names t)
    → NamesKept t u
models_kept t u same models =
    record {
      tests = λ many. ap (λ (cs : List Content). map (λ c. c.name) cs) same;
      models = models;
    }

-- a part of a test, or the items of a model, are changed
part_kept : (t : BenchTexts) (i : ℕ) (g : Content → Content) → ((c : Content) → (g c).name ≡ c.name)
    → NamesKept t (with_tests (changed_at i g) t)
part_kept t i g same =
    tests_kept t (with_tests (changed_at i g) t) refl
    (λ many. keys_changed (λ c. c.name) g same i t.tests)

items_kept : (t : BenchTexts) (i next : ℕ) (g : PlainModel → PlainModel)
    → ((m : PlainModel) → (g m).name ≡ m.name) → NamesKept t (with_models (changed_at i g) next t)
items_kept t i next g same =
    models_kept t (with_models (changed_at i g) next t) refl
    (λ many. keys_changed (λ m. m.name) g same i t.models)

made_kept : (t u : BenchTexts) (e : Change) → missing_fault t e ≡ None → EditMakes t e u → NamesKept t u
made_kept t u (PutsTest text) there m =
    subst (NamesKept t) (sym m.2) (tests_kept t
    (with_tests (put_at (test_index (m.0).name t.tests) m.0) t) refl
    (λ many. put_names (λ c. c.name) (m.0).name m.0 t.tests refl many))
made_kept t u (DropsTest test) there m =
    let lt = ltb-true (test_index test t.tests) (length t.tests) (is_there (has_test t test) faults.NoTest None there) in
    subst (NamesKept t) (sym m) (tests_kept t
    (with_tests (λ ts. remove ts (test_index test t.tests)) t) refl
    (λ many. removed_names (λ c. c.name) (test_index test t.tests) t.tests lt many))
made_kept t u (SetInit test text) there m =
    subst (NamesKept t) (sym m.2) (part_kept t (test_index test t.tests) (with_init m.0)
    (λ c. refl))
made_kept t u (SetThread test thread text) there m =
    subst (NamesKept t) (sym m.2) (part_kept t (test_index test t.tests) (with_thread thread m.0)
    (λ c. refl))
made_kept t u (SetCond test text) there m =
    subst (NamesKept t) (sym m.2) (part_kept t (test_index test t.tests) (with_condition m.0)
    (λ c. refl))
made_kept t u (SetLocations test text) there m =
    subst (NamesKept t) (sym m.2) (part_kept t (test_index test t.tests) (with_observed m.0)
    (λ c. refl))
made_kept t u (PutsModel model text) there m =
    let new : PlainModel = record { name = model; items = numbered_items t.next m.0 } in
    subst (NamesKept t) (sym m.2)
    (models_kept t (with_models (put_at (model_index model t.models) new) (t.next + length m.0) t)
    refl (λ many. put_names (λ m. m.name) model new t.models refl many))
made_kept t u (DropsModel model) there m =
    let lt = ltb-true (model_index model t.models) (length t.models) (is_there (has_model t model) faults.NoModel None there) in
    subst (NamesKept t) (sym m) (models_kept t
    (with_models (λ ms. remove ms (model_index model t.models)) t.next t) refl
    (λ many. removed_names (λ m. m.name) (model_index model t.models) t.models lt many))
made_kept t u (SetItem model item text) there m =
    subst (NamesKept t) (sym m.2) (items_kept t (model_index model t.models) t.next (with_items _)
    (λ m. refl))
made_kept t u (InsertItem model before text) there m =
    subst (NamesKept t) (sym m.3) (items_kept t (model_index model t.models) (t.next + 1)
    (with_items _) (λ m. refl))
made_kept t u (RemoveItem model item) there m =
    subst (NamesKept t) (sym m) (items_kept t (model_index model t.models) t.next (with_items _)
    (λ m. refl))

pub applied_kept : (t u : BenchTexts) (e : Change) → Applies t false e u → NamesKept t u
applied_kept t u e a = made_kept t u e a.all_there a.makes

-- ---- what is there has an index

-- where one of that name stands, one is found
found_there : {A : Type 0} (f : A → List ℕ) (wanted : List ℕ) (xs : List A) (i : ℕ) (x : A)
    → slice_get xs i ≡ Some x → f x ≡ wanted → (y : A) × (slice_get xs (found f wanted xs) ≡ Some y)
found_there f wanted [] i x e same = absurd (none-some x e)
found_there f wanted (z ∷ zs) zero x e same = elim (cases_Bool (bytes_eq (f z) wanted)) [
  | inl t ↦ rw t (z, refl)
  | inr n ↦ absurd (not_named (f z) wanted n (ap f (some_is e) ∙ same))
]
found_there f wanted (z ∷ zs) (suc i) x e same = elim (cases_Bool (bytes_eq (f z) wanted)) [
  | inl t ↦ rw t (z, refl)
  | inr n ↦ (let more = found_there f wanted zs i x e same in
      rw n (more.0, ap (slice_get (z ∷ zs)) (one_more (found f wanted zs)) ∙ more.1))
]

not_lacking : {A : Type 0} (f : A → List ℕ) (wanted : List ℕ) (xs : List A) (i : ℕ) (x : A)
    → slice_get xs i ≡ Some x → f x ≡ wanted → slice_get xs (found f wanted xs) ≡ None → ⊥
not_lacking f wanted xs i x e same none =
    let there = found_there f wanted xs i x e same in none-some there.0 (sym none ∙ there.1)

-- nor where one of that name stands in a list with the same names
not_named_before : {A : Type 0} (f : A → List ℕ) (wanted : List ℕ) (xs ys : List A) (i : ℕ) (x : A)
    → map f xs ≡ map f ys → slice_get xs i ≡ Some x → f x ≡ wanted
    → slice_get ys (found f wanted ys) ≡ None → ⊥
not_named_before f wanted xs ys i x names e same none =
    let was = same_name f f xs ys i x names e in
    not_lacking f wanted ys i was.0 was.1 (was.2 ∙ same) none

-- what is new stands behind the last
put_last : {A : Type 0} (f : A → List ℕ) (wanted : List ℕ) (xs : List A) (new : A)
    (index count k : ℕ) (x : A) → index ≡ length xs → index ≡ count
    → slice_get xs (found f wanted xs) ≡ None
    → slice_get (put_at index new xs) k ≡ Some x → f x ≡ wanted → k ≡ count
put_last f wanted xs new index count k x end is none e same = elim (cases_Bool (k == index)) [
  | inl t ↦ eqb-true k index t ∙ is
  | inr n ↦ absurd (not_lacking f wanted xs k x
      (sym (placed_other new index xs k (omega (arith, end)) n) ∙ e) same none)
]

-- ---- cells that are added

none_open : (columns : List ColumnContent) (j : ℕ) (name : List ℕ) → j < length columns
    → slice_get (open_row name columns).cells j ≡ Some None
none_open [] j name lt = absurd (omega (arith, lt))
none_open (c ∷ cs) zero name lt = refl
none_open (c ∷ cs) (suc j) name lt = none_open cs j name (omega (arith, lt))

row_last : (rows : List RowContent) (r : RowContent) (j : ℕ)
    → cell_at (rows ++ r ∷ []) (length rows) j ≡ slice_get r.cells j
row_last [] r j = refl
row_last (q ∷ rs) r j = row_last rs r j

cell_last : (cs : List (Option Outcome)) → slice_get (cs ++ None ∷ []) (length cs) ≡ Some None
cell_last [] = refl
cell_last (c ∷ cs) = cell_last cs

wider_last : (width : ℕ) (rows : List RowContent) (i : ℕ) → AreWide width rows → i < length rows
    → cell_at (map wider_row rows) i width ≡ Some None
wider_last width [] i wide lt = absurd (omega (arith, lt))
wider_last width (r ∷ rs) zero wide lt =
    subst (λ (n : ℕ). slice_get (r.cells ++ None ∷ []) n ≡ Some None) wide.0 (cell_last r.cells)
wider_last width (r ∷ rs) (suc i) wide lt = wider_last width rs i wide.1 (omega (arith, lt))

longer_last : (b : Bool) (name : List ℕ) (at : ℕ) (columns : List ColumnContent)
    (rows changed : List RowContent) (j : ℕ) → b ≡ false → j < length columns
    → cell_at (if b then changed else rows ++ open_row name columns ∷ []) (length rows) j
    ≡ Some None
longer_last b name at columns rows changed j no_test lt =
    rw no_test (row_last rows (open_row name columns) j ∙ none_open columns j name lt)

-- ---- an edit

abbrev pub HeldKept : TestsAndModels → TestsAndModels → Type 0
HeldKept h g =
    HasNamesKept (map (λ t. t.name) h.tests) (map (λ t. t.name) g.tests)
    (map (λ m. m.name) h.models) (map (λ m. m.name) g.models)

-- what is so of the contents is so of the tests and models
pub held_kept : (t u : BenchTexts) (h g : TestsAndModels) → IsContentOf t h → IsContentOf u g → NamesKept t u
    → HeldKept h g
held_kept t u h g old new kept =
    let tests : content_names t ≡ map (λ t. t.name) h.tests = ap (map (λ c. c.name)) old.tests ∙ sym (test_names h.tests) in
    let more_tests : content_names u ≡ map (λ t. t.name) g.tests = ap (map (λ c. c.name)) new.tests ∙ sym (test_names g.tests) in
    let models : plain_names t ≡ map (λ m. m.name) h.models = ap (map (λ m. m.name)) old.models ∙ sym (model_names h.models) in
    let more_models : plain_names u ≡ map (λ m. m.name) g.models = ap (map (λ m. m.name)) new.models ∙ sym (model_names g.models) in
    record {
      tests =
          λ many. sym more_tests ∙ (kept.tests
          (ap (λ (l : List (List ℕ)). length l) more_tests ∙
          (many ∙ sym (ap (λ (l : List (List ℕ)). length l) tests))) ∙ tests);
      models =
          λ many. sym more_models ∙ (kept.models
          (ap (λ (l : List (List ℕ)). length l) more_models ∙
          (many ∙ sym (ap (λ (l : List (List ℕ)). length l) models))) ∙ models);
    }

module _ (h : TestsAndModels) (b : BoardContent) (named : IsNamed b.rows b.columns h)
    (wide : AreWide (length b.columns) b.rows) (test model : List ℕ) (lacks : LacksOne h test model)
  where
    row_count : length b.rows ≡ length h.tests
    row_count = as_many (λ r. r.name) (λ t. t.name) b.rows h.tests named.tests

    column_count : length b.columns ≡ length h.models
    column_count = as_many (λ c. c.name) (λ m. m.name) b.columns h.models named.models

    abbrev IsOpenNow : NameChange → List CellIndex → Replacement → Type 0
    IsOpenNow change cells r =
        cell_at (fold open_cell (rows_after change b.columns b.rows) cells)
        (test_at (tests_and_models_with r h) test) (model_at (tests_and_models_with r h) model) ≡ Some None

    -- a test that is put and was not there
    test_added : (at index : ℕ) (name : _) (new : Test) (cells : List CellIndex) → at ≡ index
        → at ≤ length h.tests → HeldKept h (tests_and_models_with (made.PutTest index new) h)
        → AreThere (tests_and_models_with (made.PutTest index new) h) test model
        → slice_get h.tests (test_at h test) ≡ None
        → IsOpenNow (PutTest at name) cells (made.PutTest index new)
    test_added at index name new cells same le kept now none =
        let g : TestsAndModels = tests_and_models_with (made.PutTest index new) h in
        let k : ℕ = test_at g test in
        let now_name : (now.content).name ≡ test = found_name (λ t. t.name) test g.tests now.content now.test_is in
        let column_lt : model_at g model < length b.columns = (let lt = below h.models (model_at g model) now.under now.model_is in let many = column_count in omega (arith, lt, many)) in
        elim (cases_Bool (nat_lt at (length b.rows))) [
          | inl few ↦ (let lt = ltb-true at (length b.rows) few in
              let many = row_count in
              let count = length-put_at h.tests index new (omega (arith, same, le)) in
              let one = length-map (put_at index new h.tests) (λ t. t.name) in
              let two = length-map h.tests (λ t. t.name) in
              let names = kept.tests (omega (arith, count, one, two, same, lt, many)) in
              absurd (not_named_before (λ t. t.name) test g.tests h.tests k now.content names
              now.test_is now_name none))
          | inr full ↦ (let over = ltb-false at (length b.rows) full in
              let many = row_count in
              let last : index ≡ length h.tests = omega (arith, over, many, same, le) in
              let end : k ≡ length b.rows = put_last (λ t. t.name) test h.tests new index (length b.rows) k now.content last (last ∙ sym many) none now.test_is now_name in
              stays_open cells (rows_after (PutTest at name) b.columns b.rows) k (model_at g model)
              (subst
              (λ (n : ℕ). cell_at (rows_after (PutTest at name) b.columns b.rows) n
              (model_at g model) ≡ Some None)
              (sym end)
              (longer_last (nat_lt at (length b.rows)) (arc_value name) at b.columns b.rows _
              (model_at g model) full column_lt)))
        ]

    -- a model that is put and was not there
    model_added : (at index next : ℕ) (name items : _) (new : NamedModel) (cells : List CellIndex)
        → at ≡ index → at ≤ length h.models
        → HeldKept h (tests_and_models_with (made.PutModel index new next) h)
        → AreThere (tests_and_models_with (made.PutModel index new next) h) test model
        → slice_get h.models (model_at h model) ≡ None
        → IsOpenNow (PutModel at name items) cells (made.PutModel index new next)
    model_added at index next name items new cells same le kept now none =
        let g : TestsAndModels = tests_and_models_with (made.PutModel index new next) h in
        let k : ℕ = model_at g model in
        let now_name : (now.under).name ≡ model = found_name (λ m. m.name) model g.models now.under now.model_is in
        let row_lt : test_at g test < length b.rows = (let lt = below h.tests (test_at g test) now.content now.test_is in let many = row_count in omega (arith, lt, many)) in
        elim (cases_Bool (nat_lt at (length b.columns))) [
          | inl few ↦ (let lt = ltb-true at (length b.columns) few in
              let many = column_count in
              let count = length-put_at h.models index new (omega (arith, same, le)) in
              let one = length-map (put_at index new h.models) (λ m. m.name) in
              let two = length-map h.models (λ m. m.name) in
              let names = kept.models (omega (arith, count, one, two, same, lt, many)) in
              absurd (not_named_before (λ m. m.name) model g.models h.models k now.under names
              now.model_is now_name none))
          | inr full ↦ (let over = ltb-false at (length b.columns) full in
              let many = column_count in
              let last : index ≡ length h.models = omega (arith, over, many, same, le) in
              let end : k ≡ length b.columns = put_last (λ m. m.name) model h.models new index (length b.columns) k now.under last (last ∙ sym many) none now.model_is now_name in
              let wider : cell_at (map wider_row b.rows) (test_at g test) k ≡ Some None =
              subst (λ (n : ℕ). cell_at (map wider_row b.rows) (test_at g test) n ≡ Some None)
              (sym end) (wider_last (length b.columns) b.rows (test_at g test) wide row_lt) in
              stays_open cells (rows_after (PutModel at name items) b.columns b.rows)
              (test_at g test)
              k (rw full wider))
        ]

    -- where something is dropped, no cell is added
    test_not_dropped : (index : ℕ) → AreThere (tests_and_models_with (made.DropTest index) h) test model → ⊥
    test_not_dropped index now = elim lacks [
      | inl none ↦ (let k : ℕ = test_at (tests_and_models_with (made.DropTest index) h) test in
          not_lacking (λ t. t.name) test h.tests (skip index k) now.content
          (sym (get_removed h.tests index k) ∙ now.test_is)
          (found_name (λ t. t.name) test (remove h.tests index) now.content now.test_is) none)
      | inr none ↦ none-some now.under (sym none ∙ now.model_is)
    ]

    model_not_dropped : (index : ℕ) → AreThere (tests_and_models_with (made.DropModel index) h) test model → ⊥
    model_not_dropped index now = elim lacks [
      | inl none ↦ none-some now.content (sym none ∙ now.test_is)
      | inr none ↦ (let k : ℕ = model_at (tests_and_models_with (made.DropModel index) h) model in
          not_lacking (λ m. m.name) model h.models (skip index k) now.under
          (sym (get_removed h.models index k) ∙ now.model_is)
          (found_name (λ m. m.name) model (remove h.models index) now.under now.model_is) none)
    ]

    pub added_cell : (whole : Bool) (change : NameChange) (cells : List CellIndex) (r : Replacement)
        → Announces h whole change cells r → HeldKept h (tests_and_models_with r h)
        → AreThere (tests_and_models_with r h) test model → IsOpenNow change cells r
    added_cell whole (PutTest at name) cells (made.PutTest index new) a kept now = elim lacks [
      | inl none ↦ test_added at index name new cells a.0 a.1 kept now none
      | inr none ↦ absurd (none-some now.under (sym none ∙ now.model_is))
    ]
    added_cell whole (PutTest at name) cells (made.DropTest index) a kept now = absurd a
    added_cell whole (PutTest at name) cells (made.PutModel index new next) a kept now = absurd a
    added_cell whole (PutTest at name) cells (made.DropModel index) a kept now = absurd a
    added_cell whole (DropTest at) cells (made.PutTest index new) a kept now = absurd a
    added_cell whole (DropTest at) cells (made.DropTest index) a kept now =
        absurd (test_not_dropped index now)
    added_cell whole (DropTest at) cells (made.PutModel index new next) a kept now = absurd a
    added_cell whole (DropTest at) cells (made.DropModel index) a kept now = absurd a
    added_cell whole (PutModel at name items) cells (made.PutTest index new) a kept now = absurd a
    added_cell whole (PutModel at name items) cells (made.DropTest index) a kept now = absurd a
    added_cell whole (PutModel at name items) cells (made.PutModel index new next) a kept now =
        elim lacks [
          | inl none ↦ absurd (none-some now.content (sym none ∙ now.test_is))
          | inr none ↦ model_added at index next name items new cells a.0 a.1 kept now none
        ]
    added_cell whole (PutModel at name items) cells (made.DropModel index) a kept now = absurd a
    added_cell whole (DropModel at) cells (made.PutTest index new) a kept now = absurd a
    added_cell whole (DropModel at) cells (made.DropTest index) a kept now = absurd a
    added_cell whole (DropModel at) cells (made.PutModel index new next) a kept now = absurd a
    added_cell whole (DropModel at) cells (made.DropModel index) a kept now =
        absurd (model_not_dropped index now)
