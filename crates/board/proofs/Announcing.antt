-- The cells that an edit reaches, of some cells and of all.
use Rattle.std.proofs.Common.{◌≡◌, ℕ, Vec, ◌<◌, ◌≤◌, ◌⊎◌, inl, inr, List, [], ◌∷◌, ◌++◌, length, map, Option, Some, None, Bool, true, false, IsTrue, refl, sym, ap, ◌∙◌, subst, arith}
use Rattle.std.specs.Prelude.{slice_get, Contains, if◌then◌else◌, ◌==◌, ◌&&◌}
use Rattle.std.specs.List.{range_with_len}
use Rattle.std.proofs.lemmas.Bool.{eqb-true, cases_lt}
use Rattle.std.proofs.lemmas.Option.{slice_get_past}
use Rattle.std.proofs.lemmas.List.Elements.{Contains-append_left, Contains-push, Contains-push_cases}
use Rattle.std.proofs.lemmas.List.FromFn.{length-map-range_with_len, get_or-map-range_with_len}
use Rattle.text_values.specs.declared.test.Test.{Test}
use Rattle.bench_texts.specs.declared.model.NamedModel.{NamedModel}
use Rattle.bench_texts.specs.declared.replacement.Replacement.{Replacement}
use Rattle.bench_texts.specs.declared.replacement.Replacement.TheVariants as made
use Rattle.bench_texts.proofs.Lists.{length-put_at}
use Rattle.bench_slices.specs.Reach.{cell_slice}
use Rattle.board.specs.declared.operation.CellIndex.{CellIndex}
use Rattle.board.specs.Lines.{test_cell, model_cell, ListsAmong}
use Rattle.board.specs.Legal.{TestsAndModels, board_slice_before, board_slice_after, IsCellReached, ListsReached, Announces}
use Rattle.board.specs.declared.operation.NameChange.TheVariants.{PutTest, PutModel}
use Rattle.std.specs.Arc.{arc_value}
use Rattle.std.specs.declared.sync.Arc.{Arc}
use Rattle.std.specs.declared.alloc.Global.{Global}
use Rattle.text_values.specs.declared.name.Name.{Name}
use Rattle.bench_texts.specs.Held.{IsModelRead}
use Rattle.bench_texts.specs.Replacements.{printed_by}

nowhere : {A : Type 0} (x : A) → Contains [] x → ⊥
nowhere x c = omega (arith, c.1)

module _ (h : TestsAndModels) (whole : Bool) (r : Replacement) (line cells : List CellIndex)
    (l : ListsAmong h whole r line cells) (c : CellIndex) where
  pub one_listed : IsCellReached h whole r c.test c.model
      → ListsAmong h whole r (line ++ c ∷ []) (cells ++ c ∷ [])
  one_listed is = record {
    inside = λ d i. inside_more d (Contains-push_cases cells c d i);
    kept = λ d i out. kept_more d out (Contains-push_cases line c d i);
    listed = λ d i reached. listed_more d reached (Contains-push_cases line c d i);
  }
    where
      inside_more : (d : CellIndex) → Contains cells d ⊎ (c ≡ d)
          → Contains (line ++ c ∷ []) d × IsCellReached h whole r d.test d.model
      inside_more d (inl i) =
          (Contains-append_left line (c ∷ []) d (l.inside d i).0, (l.inside d i).1)
      inside_more d (inr e) = (
        subst (λ (x : CellIndex). Contains (line ++ c ∷ []) x) e (Contains-push line c),
        subst (λ (x : CellIndex). IsCellReached h whole r x.test x.model) e is,
      )

      kept_more : (d : CellIndex) → (Contains (cells ++ c ∷ []) d → ⊥) → Contains line d ⊎ (c ≡ d)
          → board_slice_before h d.test d.model ≡ board_slice_after h r d.test d.model
      kept_more d out (inl i) = l.kept d i (λ w. out (Contains-append_left cells (c ∷ []) d w))
      kept_more d out (inr e) =
          absurd (out (subst (λ (x : CellIndex). Contains (cells ++ c ∷ []) x) e
          (Contains-push cells c)))

      listed_more : (d : CellIndex) → IsCellReached h whole r d.test d.model → Contains line d ⊎ (c ≡ d)
          → Contains (cells ++ c ∷ []) d
      listed_more d reached (inl i) = Contains-append_left cells (c ∷ []) d (l.listed d i reached)
      listed_more d reached (inr e) =
          subst (λ (x : CellIndex). Contains (cells ++ c ∷ []) x) e (Contains-push cells c)

  pub one_passed : (IsCellReached h whole r c.test c.model → ⊥)
      → board_slice_before h c.test c.model ≡ board_slice_after h r c.test c.model
      → ListsAmong h whole r (line ++ c ∷ []) cells
  one_passed none same = record {
    inside = λ d i. (Contains-append_left line (c ∷ []) d (l.inside d i).0, (l.inside d i).1);
    kept = λ d i out. kept_more d out (Contains-push_cases line c d i);
    listed = λ d i reached. listed_more d reached (Contains-push_cases line c d i);
  }
    where
      kept_more : (d : CellIndex) → (Contains cells d → ⊥) → Contains line d ⊎ (c ≡ d)
          → board_slice_before h d.test d.model ≡ board_slice_after h r d.test d.model
      kept_more d out (inl i) = l.kept d i out
      kept_more d out (inr e) =
          subst (λ (x : CellIndex). board_slice_before h x.test x.model ≡ board_slice_after h r x.test x.model)
          e same

      listed_more : (d : CellIndex) → IsCellReached h whole r d.test d.model → Contains line d ⊎ (c ≡ d)
          → Contains cells d
      listed_more d reached (inl i) = l.listed d i reached
      listed_more d reached (inr e) =
          absurd (none (subst (λ (x : CellIndex). IsCellReached h whole r x.test x.model) (sym e)
          reached))

-- ---- lines of cells

in_line : (f : ℕ → CellIndex) (n j : ℕ) → j < n → Contains (map f (range_with_len 0 n)) (f j)
in_line f n j lt = (
  j,
  omega (arith, length-map-range_with_len f 0 n),
  get_or-map-range_with_len f 0 n j j (f j) lt (omega arith),
)

from_line : (f : ℕ → CellIndex) (n : ℕ) (c : CellIndex) → Contains (map f (range_with_len 0 n)) c
    → (j : ℕ) × (j < n) × (f j ≡ c)
from_line f n c i =
    let lt : i.0 < n = omega (arith, i.1, length-map-range_with_len f 0 n) in
    (i.0, lt, sym (get_or-map-range_with_len f 0 n i.0 i.0 c lt (omega arith)) ∙ i.2)

no_slice : (t : Option Test) → cell_slice t None ≡ None
no_slice None = refl
no_slice (Some t) = refl

not_of : (whole b : Bool) → b ≡ false → IsTrue (whole && b) → ⊥
not_of true b e t = let f : true ≡ false = sym t ∙ e in cc
not_of false b e t = let f : false ≡ true = t in cc

-- ---- a test that is put

module _ (h : TestsAndModels) (whole : Bool) (at : ℕ) (test : Test) (cells : List CellIndex)
    (le : at ≤ length h.tests)
    (l : ListsAmong h whole (made.PutTest at test)
    (map (test_cell at) (range_with_len 0 (length h.models))) cells) where
  abbrev put_test : Replacement
  put_test = made.PutTest at test

  test_elsewhere : (i j : ℕ) → (i == at) ≡ false → board_slice_before h i j ≡ board_slice_after h put_test i j
  test_elsewhere i j e =
      ap
      (λ (b : Bool).
      cell_slice (if b then Some test else slice_get h.tests i) (slice_get h.models j))
      (sym e)

  no_model : (i j : ℕ) → length h.models ≤ j → board_slice_before h i j ≡ board_slice_after h put_test i j
  no_model i j past =
      let none = slice_get_past h.models j past in
      (ap (λ (m : Option NamedModel). cell_slice (slice_get h.tests i) m) none
      ∙ no_slice (slice_get h.tests i))
      ∙ sym (ap
      (λ (m : Option NamedModel).
      cell_slice (if i == at then Some test else slice_get h.tests i) m) none
      ∙ no_slice (if i == at then Some test else slice_get h.tests i))

  in_row : (c : CellIndex) → (c.test == at) ≡ true → c.model < length h.models
      → Contains (map (test_cell at) (range_with_len 0 (length h.models))) c
  in_row c e lt =
      subst
      (λ (x : CellIndex). Contains (map (test_cell at) (range_with_len 0 (length h.models))) x)
      (ap (λ (n : ℕ). test_cell n c.model) (sym (eqb-true c.test at e)))
      (in_line (test_cell at) (length h.models) c.model lt)

  row_back : (c : CellIndex) (b : Bool) → (c.test == at) ≡ b → c.model < length h.models
      → IsCellReached h whole put_test c.test c.model → Contains cells c
  row_back c true e lt reached = l.listed c (in_row c e lt) reached
  row_back c false e lt (inl t) = absurd (not_of whole (c.test == at) e t)
  row_back c false e lt (inr differ) = absurd (differ (test_elsewhere c.test c.model e))

  row_kept : (c : CellIndex) (b : Bool) → (c.test == at) ≡ b
      → (c.model < length h.models) ⊎ (length h.models ≤ c.model) → (Contains cells c → ⊥)
      → board_slice_before h c.test c.model ≡ board_slice_after h put_test c.test c.model
  row_kept c true e (inl lt) out = l.kept c (in_row c e lt) out
  row_kept c true e (inr past) out = no_model c.test c.model past
  row_kept c false e w out = test_elsewhere c.test c.model e

  pub test_listed : ListsReached h whole put_test cells
  test_listed = record {
    exact = λ c. (
      λ i.
          let q = l.inside c i in
          let j = from_line (test_cell at) (length h.models) c q.0 in
          let row : at ≡ c.test = ap (λ (x : CellIndex). x.test) j.2 in
          let column : j.0 ≡ c.model = ap (λ (x : CellIndex). x.model) j.2 in
          ((omega (arith, length-put_at h.tests at test le), omega (arith, j.1)), q.1),
      λ there. row_back c (c.test == at) refl there.0.1 there.1,
    );
    kept = λ c out. row_kept c (c.test == at) refl (cases_lt c.model (length h.models)) out;
  }

-- ---- a model that is put

module _ (h : TestsAndModels) (whole : Bool) (at next : ℕ) (model : NamedModel) (cells : List CellIndex)
    (le : at ≤ length h.models)
    (l : ListsAmong h whole (made.PutModel at model next)
    (map (model_cell at) (range_with_len 0 (length h.tests))) cells) where
  abbrev put_model : Replacement
  put_model = made.PutModel at model next

  model_elsewhere : (i j : ℕ) → (j == at) ≡ false → board_slice_before h i j ≡ board_slice_after h put_model i j
  model_elsewhere i j e =
      ap
      (λ (b : Bool).
      cell_slice (slice_get h.tests i) (if b then Some model else slice_get h.models j))
      (sym e)

  no_test : (i j : ℕ) → length h.tests ≤ i → board_slice_before h i j ≡ board_slice_after h put_model i j
  no_test i j past =
      let none = slice_get_past h.tests i past in
      ap (λ (t : Option Test). cell_slice t (slice_get h.models j)) none
      ∙ sym (ap
      (λ (t : Option Test).
      cell_slice t (if j == at then Some model else slice_get h.models j)) none)

  in_column : (c : CellIndex) → (c.model == at) ≡ true → c.test < length h.tests
      → Contains (map (model_cell at) (range_with_len 0 (length h.tests))) c
  in_column c e lt =
      subst
      (λ (x : CellIndex). Contains (map (model_cell at) (range_with_len 0 (length h.tests))) x)
      (ap (λ (n : ℕ). model_cell n c.test) (sym (eqb-true c.model at e)))
      (in_line (model_cell at) (length h.tests) c.test lt)

  column_back : (c : CellIndex) (b : Bool) → (c.model == at) ≡ b → c.test < length h.tests
      → IsCellReached h whole put_model c.test c.model → Contains cells c
  column_back c true e lt reached = l.listed c (in_column c e lt) reached
  column_back c false e lt (inl t) = absurd (not_of whole (c.model == at) e t)
  column_back c false e lt (inr differ) = absurd (differ (model_elsewhere c.test c.model e))

  column_kept : (c : CellIndex) (b : Bool) → (c.model == at) ≡ b
      → (c.test < length h.tests) ⊎ (length h.tests ≤ c.test) → (Contains cells c → ⊥)
      → board_slice_before h c.test c.model ≡ board_slice_after h put_model c.test c.model
  column_kept c true e (inl lt) out = l.kept c (in_column c e lt) out
  column_kept c true e (inr past) out = no_test c.test c.model past
  column_kept c false e w out = model_elsewhere c.test c.model e

  pub model_listed : ListsReached h whole put_model cells
  model_listed = record {
    exact = λ c. (
      λ i.
          let q = l.inside c i in
          let j = from_line (model_cell at) (length h.tests) c q.0 in
          let column : at ≡ c.model = ap (λ (x : CellIndex). x.model) j.2 in
          let row : j.0 ≡ c.test = ap (λ (x : CellIndex). x.test) j.2 in
          ((omega (arith, j.1), omega (arith, length-put_at h.models at model le)), q.1),
      λ there. column_back c (c.model == at) refl there.0.0 there.1,
    );
    kept = λ c out. column_kept c (c.model == at) refl (cases_lt c.test (length h.tests)) out;
  }

-- ---- what edits announce

pub announce_test : (h : TestsAndModels) (whole : Bool) (r : Replacement) (at : ℕ) (name : Arc Name Global)
    (test : Test) (cells : List CellIndex) → r ≡ made.PutTest at test → at ≤ length h.tests
    → arc_value name ≡ test.name
    → ListsAmong h whole r (map (test_cell at) (range_with_len 0 (length h.models))) cells
    → Announces h whole (PutTest at name) cells r
announce_test h whole r at name test cells e le same l =
    subst (λ (q : Replacement). Announces h whole (PutTest at name) cells q) (sym e) (
      refl,
      le,
      same,
      test_listed h whole at test cells le (subst
          (λ (q : Replacement). ListsAmong h whole q
          (map (test_cell at) (range_with_len 0 (length h.models))) cells) e l),
    )

pub announce_model : (h : TestsAndModels) (whole : Bool) (r : Replacement) (at next : ℕ)
    (name : Arc Name Global) (items : Arc (Vec ℕ Global) Global) (model : NamedModel)
    (cells : List CellIndex) → r ≡ made.PutModel at model next → at ≤ length h.models
    → arc_value name ≡ model.name
    → Some (arc_value items).items ≡ printed_by r → IsModelRead model
    → ListsAmong h whole r (map (model_cell at) (range_with_len 0 (length h.tests))) cells
    → Announces h whole (PutModel at name items) cells r
announce_model h whole r at next name items model cells e le same printed read l =
    subst (λ (q : Replacement). Announces h whole (PutModel at name items) cells q) (sym e) (
      refl,
      le,
      same,
      model_listed h whole at next model cells le (subst
          (λ (q : Replacement). ListsAmong h whole q
          (map (model_cell at) (range_with_len 0 (length h.tests))) cells) e l),
      subst (λ (q : Replacement). Some (arc_value items).items ≡ printed_by q) e printed,
      read,
    )
