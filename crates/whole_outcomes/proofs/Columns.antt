-- The columns of all items and the answers of checks over all candidates, from those over fewer.
use Rattle.std.proofs.Common.{ℕ, ◌≡◌, ◌<◌, inl, inr, zero, suc, List, [], ◌∷◌, length, get_or, Bool, true, false, Option, Some, Bor, refl, sym, ap, arith}
use Rattle.std.specs.Prelude.{slice_get}
use Rattle.std.proofs.lemmas.Option.{slice_get-get_or, slice_get_within}
use Rattle.binding_kinds.specs.declared.scope.Input.{Input}
use Rattle.binding_graph.specs.declared.resolved.Body.{Body}
use Rattle.binding_graph.specs.declared.resolved.ResolvedItem.{ResolvedItem}
use Rattle.binding_graph.specs.declared.resolved.Role.{Role}
use Rattle.binding_graph.specs.declared.resolved.Role.TheVariants as roles
use Rattle.candidate_spaces.specs.declared.candidate.Space.{Space}
use Rattle.candidate_spaces.specs.Space.{Candidate, candidates_in}
use Rattle.cat_machine.specs.declared.column.Column.{Column}
use Rattle.cat_machine.specs.Columns.{ColumnsOf, AreGroupColumns}
use Rattle.cat_machine.specs.Executions.{events_of}
use Rattle.cat_machine.specs.Named.{InputEvents, InputPairs}
use Rattle.cat_machine.specs.Values.{AnswersOf}
use Rattle.from_scratch.specs.Answers.{AreNamed, AreLeast, LeastOf, AreItemColumns, HasAnswers}
use Rattle.order_growth.specs.Within.{AreBodyExpressions}
use Rattle.order_growth.specs.Coded.{IsOfExpressions, AreOfExpressions}
use Rattle.whole_outcomes.specs.Whole.{AreAmong, AreInputsKept, AreColumnsKept, AreAnswersKept, IsColumnBelow, AreBelowAll}
use Rattle.whole_outcomes.proofs.Below.{columns_below}
use Rattle.whole_outcomes.proofs.Wholes.{columns_whole, answers_whole}

no_column : (cs : List Column) (p : ℕ) (c : Column) → cs ≡ [] → slice_get cs p ≡ Some c → ⊥
no_column cs p c none at =
    let lt = slice_get_within cs p c at in
    let e : length cs ≡ 0 = ap (λ (xs : List Column). length xs) none in
    omega (arith, lt, e)

-- the names of a recursive group have least values
least : (recursive : Bool) (bodies : List Body) (inputs : List (Bor Column)) (all : List Candidate)
    (cs : List Column) → AreBodyExpressions recursive bodies
    → AreGroupColumns recursive bodies inputs all cs → AreLeast recursive bodies inputs all cs
least false bodies inputs all cs expressions are = tt
least true bodies inputs all cs expressions are =
    let (trees, codes, rises) = expressions.0 in
    (trees, codes, λ k one here. are.values k one here trees codes rises)

module _ (indexes : List (Option ℕ)) (all fewer : Space)
    (among : AreAmong indexes (candidates_in all.combinations.items)
    (candidates_in fewer.combinations.items)) where
  abbrev Candidates : List Candidate
  Candidates = candidates_in all.combinations.items

  -- ---- columns have only events of each candidate

  abbrev IsBelow : List Column → Type 0
  IsBelow cs =
      (k : ℕ) (one : Candidate) → slice_get Candidates k ≡ Some one → (p : ℕ) (c : Column)
      → slice_get cs p ≡ Some c → IsColumnBelow (events_of one) c k

  role_below : (role : Role) (inputs : List (Bor Column)) (cs : List Column) → IsOfExpressions role
      → ColumnsOf role inputs all cs → IsBelow cs
  role_below (roles.Group recursive bodies) inputs cs expressions are k one here p c at =
      columns_below recursive bodies.items Candidates inputs cs k one p c expressions are here at
  role_below (roles.Check check) inputs cs expressions are k one here p c at =
      absurd (no_column cs p c are at)
  role_below roles.Silent inputs cs expressions are k one here p c at =
      absurd (no_column cs p c are at)

  items_below : (rs : List ResolvedItem) → AreOfExpressions rs → (i : ℕ) (cs : List Column)
      → AreItemColumns all rs i cs → IsBelow cs
  items_below [] es i cs h = absurd h
  items_below (r ∷ rs) es i cs (inl h) = role_below r.role h.1.0 cs es.0 h.1.2
  items_below (r ∷ rs) es i cs (inr h) = items_below rs es.1 i cs h

  module _ (V : ℕ → List Column → Type 0)
      (below : (i : ℕ) (cs : List Column) → V i cs → IsBelow cs) where
    input_below : (names : List Input) (inputs : List (Bor Column)) → AreNamed V names inputs
        → (k : ℕ) (one : Candidate) → slice_get Candidates k ≡ Some one → (index : ℕ)
        → ((a : ℕ) → InputEvents (slice_get inputs index) k (events_of one) a → a < events_of one)
        × ((a b : ℕ) → InputPairs (slice_get inputs index) k (events_of one) a b
        → (a < events_of one) × (b < events_of one))
    input_below [] [] h k one here index = ((λ a x. absurd x), (λ a b x. absurd x))
    input_below [] (c ∷ cs) h k one here index = absurd h
    input_below (x ∷ xs) [] h k one here index = absurd h
    input_below (x ∷ xs) (c ∷ cs) h k one here zero =
        let is = below x.item h.0.0 h.0.1 k one here x.position c.now h.0.2 in (is.events, is.pairs)
    input_below (x ∷ xs) (c ∷ cs) h k one here (suc index) = input_below xs cs h.1 k one here index

    inputs_below : (names : List Input) (inputs : List (Bor Column)) → AreNamed V names inputs
        → AreBelowAll Candidates inputs
    inputs_below names inputs h k one here = record {
      events = λ index. (input_below names inputs h k one here index).0;
      pairs = λ index. (input_below names inputs h k one here index).1;
    }

  -- ---- columns over all

  abbrev IsWhole : (ℕ → List Column → Type 0) → ℕ → List Column → Type 0
  IsWhole W i ds = (cs : List Column) × W i cs × AreColumnsKept indexes cs ds

  module _ (V W : ℕ → List Column → Type 0)
      (whole : (i : ℕ) (ds : List Column) → V i ds → IsWhole W i ds) where
    inputs_whole : (names : List Input) (others : List (Bor Column)) → AreNamed V names others
        → (inputs : List (Bor Column)) × AreNamed W names inputs × AreInputsKept indexes inputs others
    inputs_whole [] [] h = ([], tt, tt)
    inputs_whole [] (d ∷ ds) h = absurd h
    inputs_whole (x ∷ xs) [] h = absurd h
    inputs_whole (x ∷ xs) (d ∷ ds) h =
        let (ts, v, at) = h.0 in
        let (cs, w, kept) = whole x.item ts v in
        let (inputs, named, rest) = inputs_whole xs ds h.1 in
        let inside = slice_get_within ts x.position d.now at in
        let found = slice_get-get_or cs x.position d.now (omega (arith, inside, kept.as_many)) in (
          record { ref_ptr = (0, 0); now = get_or cs x.position d.now } ∷ inputs,
          ((cs, w, found), named),
          (kept.each x.position (get_or cs x.position d.now) d.now found at, rest),
        )

  no_names : (ds : List Column) → ds ≡ [] → AreColumnsKept indexes [] ds
  no_names ds e = record {
    as_many = sym (ap (λ (xs : List Column). length xs) e);
    each = λ p c d at found. absurd (no_column ds p d e found);
  }

  role_whole : (role : Role) (inputs others : List (Bor Column)) (ds : List Column)
      → IsOfExpressions role → AreInputsKept indexes inputs others
      → AreBelowAll Candidates inputs → ColumnsOf role others fewer ds
      → (cs : List Column) × ColumnsOf role inputs all cs × LeastOf role inputs all cs
      × AreColumnsKept indexes cs ds
  role_whole (roles.Group recursive bodies) inputs others ds es kept below are =
      let (cs, columns, same) = columns_whole recursive bodies.items indexes Candidates
      (candidates_in fewer.combinations.items) inputs others ds es among kept below are in
      (cs, columns, least recursive bodies.items inputs Candidates cs es columns, same)
  role_whole (roles.Check check) inputs others ds es kept below are = ([], refl, tt, no_names ds are)
  role_whole roles.Silent inputs others ds es kept below are = ([], refl, tt, no_names ds are)

  pub columns_over_all : (rs : List ResolvedItem) → AreOfExpressions rs → (i : ℕ)
      (ds : List Column) → AreItemColumns fewer rs i ds
      → IsWhole (λ j cs. AreItemColumns all rs j cs) i ds
  columns_over_all [] es i ds h = absurd h
  columns_over_all (r ∷ rs) es i ds (inl h) =
      let V : ℕ → List Column → Type 0 = λ j ts. AreItemColumns fewer rs j ts in
      let W : ℕ → List Column → Type 0 = λ j ts. AreItemColumns all rs j ts in
      let (inputs, named, kept) = inputs_whole V W (columns_over_all rs es.1) r.inputs.items h.1.0 h.1.1 in
      let below = inputs_below W (items_below rs es.1) r.inputs.items inputs named in
      let (cs, columns, is_least, same) = role_whole r.role inputs h.1.0 ds es.0 kept below h.1.2 in
      (cs, inl (h.0, (inputs, named, columns, is_least)), same)
  columns_over_all (r ∷ rs) es i ds (inr h) =
      let (cs, columns, same) = columns_over_all rs es.1 i ds h in (cs, inr columns, same)

  -- ---- answers over all

  role_answers : (role : Role) (inputs others : List (Bor Column)) (less : List Bool)
      → IsOfExpressions role → AreInputsKept indexes inputs others
      → AreBelowAll Candidates inputs → AnswersOf role others fewer less
      → (answers : List Bool) × AnswersOf role inputs all answers
      × AreAnswersKept indexes answers less
  role_answers (roles.Group recursive bodies) inputs others less es kept below are =
      ([], refl, λ k j stays. ap (λ (xs : List Bool). slice_get xs j) (sym are))
  role_answers (roles.Check check) inputs others less es kept below are =
      answers_whole check indexes Candidates (candidates_in fewer.combinations.items) inputs others
      less es among kept below are
  role_answers roles.Silent inputs others less es kept below are =
      ([], refl, λ k j stays. ap (λ (xs : List Bool). slice_get xs j) (sym are))

  pub answers_over_all : (rs : List ResolvedItem) (r : ResolvedItem) → IsOfExpressions r.role
      → AreOfExpressions rs → (less : List Bool)
      → HasAnswers fewer (λ j cs. AreItemColumns fewer rs j cs) r less
      → (answers : List Bool) × HasAnswers all (λ j cs. AreItemColumns all rs j cs) r answers
      × AreAnswersKept indexes answers less
  answers_over_all rs r e es less h =
      let V : ℕ → List Column → Type 0 = λ j ts. AreItemColumns fewer rs j ts in
      let W : ℕ → List Column → Type 0 = λ j ts. AreItemColumns all rs j ts in
      let (inputs, named, kept) = inputs_whole V W (columns_over_all rs es) r.inputs.items h.0 h.1 in
      let below = inputs_below W (items_below rs es) r.inputs.items inputs named in
      let (answers, are, same) = role_answers r.role inputs h.0 less e kept below h.2 in
      (answers, (inputs, named, are), same)
