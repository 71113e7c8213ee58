-- A cell of a test and a model that are there is shown open where no outcome of it is shown.
use Rattle.std.proofs.Common.{◌≡◌, ◌<◌, ◌≤◌, ◌⊎◌, inl, inr, ℕ, List, length, map, get_or, Option, Some, None, IfNone, Bor, Contains, refl, sym, ap, ◌∙◌, subst, arith}
use Rattle.std.specs.Prelude.{slice_get, IfSome, option_map}
use Rattle.std.proofs.lemmas.List.{length-map, get_or-map}
use Rattle.std.proofs.lemmas.List.Elements.{Contains-get_or}
use Rattle.std.proofs.lemmas.Option.{slice_get_cases, slice_get_within}
use Rattle.text_values.specs.TestValue.{Content, content_of}
use Rattle.outcome_states.specs.declared.answer.Outcome.{Outcome}
use Rattle.bench_texts.specs.BenchTexts.{BenchTexts, PlainModel}
use Rattle.bench_texts.specs.Held.{plain_model}
use Rattle.outcome_texts.specs.Cells.{NoCell, Open}
use Rattle.board.specs.Contents.{BoardContent, RowContent, cells_of, cell_at, shown_cell}
use Rattle.board.specs.Operations.{no_board, board_after}
use Rattle.board.specs.Legal.{no_tests_or_models, texts_after}
use Rattle.board.proofs.Histories.{contents_are_those}
use Rattle.board.proofs.Names.{names_from}
use Rattle.board.proofs.Widths.{wide_at, wide_from}
use Rattle.session_views.specs.declared.find.AskedModel.{AskedModel}
use Rattle.session_views.specs.Asked.{asked_index}
use Rattle.session_views.specs.Shown.{ShowsTexts}
use Rattle.session_views.specs.Waiting.{IsUnsettled, IsOpenAt, IsOpenUnder, IsOpenAmong}

pub open_cell : (x : Option (Option Outcome)) → Open ≡ shown_cell x → IsUnsettled x
open_cell None e = tt
open_cell (Some None) e = tt
open_cell (Some (Some o)) e = absurd cc

pub no_cell : (x : Option (Option Outcome)) → NoCell ≡ shown_cell x → IsUnsettled x
no_cell None e = tt
no_cell (Some None) e = tt
no_cell (Some (Some o)) e = absurd cc

none_is : (x : Option Outcome) → IsUnsettled (Some x) → x ≡ None
none_is None h = refl
none_is (Some o) h = absurd h

there_if : {A : Type 0} (xs : List A) (i : ℕ) → i < length xs
    → ((x : A) × (i < length xs) × (slice_get xs i ≡ Some x) × (get_or xs i x ≡ x))
    ⊎ ((length xs ≤ i) × (slice_get xs i ≡ None))
    → (x : A) × (slice_get xs i ≡ Some x)
there_if xs i less (inl a) = (a.0, a.2)
there_if xs i less (inr a) = absurd (omega (arith, a.0))

-- something is there at an index below the length
there : {A : Type 0} (xs : List A) (i : ℕ) → i < length xs → (x : A) × (slice_get xs i ≡ Some x)
there xs i less = there_if xs i less (slice_get_cases xs i).1

module _ (t : BenchTexts) (b : BoardContent) (s : ShowsTexts t b) where
  as_many_tests : length (board_after s.ops).rows ≡ length t.tests
  as_many_tests =
      let named = names_from s.ops no_board no_tests_or_models 0 s.legal (record { tests = refl; models = refl }) in
      let plain = contents_are_those s.ops in
      sym (length-map (board_after s.ops).rows (λ r. r.name))
      ∙ ap (λ (l : List (List ℕ)). length l) named.tests
      ∙ length-map (texts_after s.ops).tests (λ t. t.name)
      ∙ sym (length-map (texts_after s.ops).tests content_of)
      ∙ ap (λ (l : List Content). length l) (sym plain.tests)
      ∙ ap (λ (x : BenchTexts). length x.tests) s.texts

  as_many_models : length (board_after s.ops).columns ≡ length t.models
  as_many_models =
      let named = names_from s.ops no_board no_tests_or_models 0 s.legal (record { tests = refl; models = refl }) in
      let plain = contents_are_those s.ops in
      sym (length-map (board_after s.ops).columns (λ c. c.name))
      ∙ ap (λ (l : List (List ℕ)). length l) named.models
      ∙ length-map (texts_after s.ops).models (λ m. m.name)
      ∙ sym (length-map (texts_after s.ops).models plain_model)
      ∙ ap (λ (l : List PlainModel). length l) (sym plain.models)
      ∙ ap (λ (x : BenchTexts). length x.models) s.texts

  open_there : (i j : ℕ) (c : Content) (m : PlainModel) → slice_get t.tests i ≡ Some c
      → slice_get t.models j ≡ Some m → IsUnsettled (cell_at b.rows i j) → IsOpenAt b i j
  open_there i j c m test model unsettled =
      let shown = board_after s.ops in
      let row = there shown.rows i (omega (arith, as_many_tests, slice_get_within t.tests i c test)) in
      let wide : length row.0.cells ≡ length shown.columns = wide_at (length shown.columns) shown.rows i row.0 (wide_from s.ops no_board tt) row.1 in
      let cell = there row.0.cells j (omega (arith, wide, as_many_models, slice_get_within t.models j m model)) in
      let here : cell_at b.rows i j ≡ Some cell.0 = ap (λ (x : BoardContent). cell_at x.rows i j) s.board ∙ ap (λ (r : Option RowContent). slice_get (cells_of r) j) row.1 ∙ cell.1 in
      here
      ∙ ap (λ (x : Option Outcome). Some x) (none_is cell.0 (subst
      (λ (x : Option (Option Outcome)). IsUnsettled x) here unsettled))

-- where there is no outcome, the cell is shown open
pub open_shown : (t : BenchTexts) (b : BoardContent) → ShowsTexts t b
    → (i j : ℕ) (c : Content) (m : PlainModel) → slice_get t.tests i ≡ Some c
    → slice_get t.models j ≡ Some m
    → (r : Option (Bor Outcome)) → IfNone r (IsUnsettled (cell_at b.rows i j))
    → IfNone r (IsOpenAt b i j)
open_shown t b s i j c m test model None h = open_there t b s i j c m test model h
open_shown t b s i j c m test model (Some o) h = tt

-- an open cell of one of these models
pub open_among : (b : BoardContent) (models : List AskedModel) (k i : ℕ) (a : AskedModel)
    → k < length models → a ≡ get_or models k a → IsOpenAt b i a.index
    → IsOpenAmong b (map asked_index models)
open_among b models k i a less is shown =
    let long : k < length (map asked_index models) = omega (arith, less, length-map models asked_index) in
    let at : get_or (map asked_index models) k a.index ≡ a.index = get_or-map asked_index models k a a.index less ∙ ap asked_index (sym is) in
    record {
      test = i;
      model = a.index;
      among =
          subst (λ (n : ℕ). Contains (map asked_index models) n) at
          (Contains-get_or (map asked_index models) k a.index long);
      is = shown;
    }

-- an open cell of the model of this index
pub open_under : (b : BoardContent) (i j : ℕ) (model : Option AskedModel)
    → IfSome model (λ a. a.index ≡ j) → IsOpenUnder b i (option_map asked_index model)
    → IsOpenAt b i j
open_under b i j None at shown = absurd shown
open_under b i j (Some a) at shown = subst (λ (k : ℕ). IsOpenAt b i k) at shown
