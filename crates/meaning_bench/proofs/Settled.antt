-- A cell is settled with one outcome, and an edit that leaves its slice leaves it settled.
use Rattle.std.proofs.Common.{◌≡◌, ◌↔◌, ℕ, Bool, false, List, Option, Some, IsTrue, true≢false, sym, ap, subst, ◌∙◌}
use Rattle.std.proofs.lemmas.Option.{none-some}
use Rattle.std.specs.Prelude.{slice_get, map}
use Rattle.text_values.specs.declared.test.Test.{Test}
use Rattle.text_values.specs.TestValue.{content_of}
use Rattle.outcome_states.specs.declared.answer.Outcome.{Outcome}
use Rattle.outcome_texts.specs.Cells as shown_as
use Rattle.outcome_texts.specs.Cells.{Cell}
use Rattle.memo_core.specs.declared.keys.Key.TheVariants.{Output}
use Rattle.memo_core.specs.declared.keys.Node.{Node}
use Rattle.memo_core.specs.Graph.{at, IsSettled}
use Rattle.bench_values.specs.Values.{NodeContent, outcome_in}
use Rattle.bench_texts.specs.declared.model.NamedModel.{NamedModel}
use Rattle.bench_texts.specs.Held.{plain_model}
use Rattle.bench_slices.specs.Reach.{cell_slice}
use Rattle.board.specs.Legal.{tests_and_models}
use Rattle.board.specs.Results.{test_by_name, model_by_name}
use Rattle.board.proofs.ShownNames.{found_alike}
use Rattle.bench_instance.specs.declared.stamped_texts.StampedTexts.{StampedTexts}
use Rattle.bench_instance.specs.StampedTexts.{stamped_net}
use Rattle.bench_instance.specs.StampedCells.{test_of, model_of, slice_by_names}
use Rattle.cells.specs.declared.shown.Shown.{Shown}
use Rattle.cells.specs.declared.shown.Shown.TheVariants.{Settled, Open, NoCell}
use Rattle.cells.specs.Cells.{IsSettledCell, IsCellShown}
use Rattle.bench_laws.specs.Live.{live_cells}
use Rattle.bench_laws.specs.Openings.{slice_named}
use Rattle.bench_laws.specs.There.{LiveState}
use Rattle.bench_laws.proofs.There.{test_names, model_names}
use Rattle.meaning_bench.specs.Shown.{cell_shown, LeavesSlice}

-- ---- one outcome

same_some : {A : Type 0} {a b : A} → Some a ≡ Some b → a ≡ b
same_some e = cc

same_settled : {o p : Outcome} → shown_as.Settled o ≡ shown_as.Settled p → o ≡ p
same_settled e = cc

abbrev pub Shows : LiveState → (test model : List ℕ) → Outcome → Type 0
Shows b test model o = IsSettledCell stamped_net live_cells b test model o

one_outcome : (b : LiveState) (test model : List ℕ) (o p : Outcome) → Shows b test model o
    → Shows b test model p → o ≡ p
one_outcome b test model o p s t =
    let node : s.verdict ≡ t.verdict = same_some (sym s.is ∙ t.is) in
    let first : Some (s.carries.stamp, s.carries.value) ≡ Some (t.carries.stamp, t.carries.value) = sym s.carries.first ∙ ap (λ (n : Node). at b.memos (Output n 0)) node ∙ t.carries.first in
    let value : s.carries.value ≡ t.carries.value = ap (λ (x : ℕ × NodeContent). x.1) (same_some first) in
    same_some (sym s.carries.holds ∙ ap outcome_in value ∙ t.carries.holds)

settled_by : (b : LiveState) (test model : List ℕ) (o : Outcome) (shown : Shown Outcome)
    → IsCellShown stamped_net live_cells b test model shown
    → cell_shown shown ≡ shown_as.Settled o → Shows b test model o
settled_by b test model o (Settled p) is e =
    subst (λ (q : Outcome). Shows b test model q) (same_settled e) is
settled_by b test model o Open is e = cc
settled_by b test model o NoCell is e = cc

shown_by_settled : (b : LiveState) (test model : List ℕ) (o : Outcome) (shown : Shown Outcome)
    → IsCellShown stamped_net live_cells b test model shown → Shows b test model o
    → cell_shown shown ≡ shown_as.Settled o
shown_by_settled b test model o (Settled p) is s =
    ap shown_as.Settled (one_outcome b test model p.now o is s)
shown_by_settled b test model o Open is s =
    absurd (is.unsettled
    (subst (λ (n : Node). IsSettled (stamped_net b.texts) b.memos n)
    (same_some (sym s.is ∙ is.is)) s.settled))
shown_by_settled b test model o NoCell is s = absurd (none-some s.verdict (sym is ∙ s.is))

-- what is shown is an outcome just where the cell is settled with it
pub shows_settled : (b : LiveState) (test model : List ℕ) (o : Outcome) (shown : Shown Outcome)
    → IsCellShown stamped_net live_cells b test model shown
    → (cell_shown shown ≡ shown_as.Settled o) ↔ Shows b test model o
shows_settled b test model o shown is =
    (settled_by b test model o shown is, shown_by_settled b test model o shown is)

-- ---- slices

test_is : (x : StampedTexts) (test : List ℕ)
    → test_by_name (tests_and_models x.texts) test ≡ test_of x test
test_is x test =
    ap (slice_get x.texts.tests.items) (found_alike (λ t. t.name) (λ c. c.name) test
    x.texts.tests.items (map content_of x.texts.tests.items) (test_names x.texts.tests.items))

model_is : (x : StampedTexts) (model : List ℕ)
    → model_by_name (tests_and_models x.texts) model ≡ model_of x model
model_is x model =
    ap (slice_get x.texts.models.items) (found_alike (λ m. m.name) (λ m. m.name) model
    x.texts.models.items (map plain_model x.texts.models.items)
    (model_names x.texts.models.items))

slice_is : (x : StampedTexts) (test model : List ℕ)
    → slice_named (tests_and_models x.texts) test model ≡ slice_by_names x test model
slice_is x test model =
    ap
    (λ (t : Option Test). cell_slice t (model_by_name (tests_and_models x.texts) model))
    (test_is x test)
    ∙ ap (λ (m : Option NamedModel). cell_slice (test_of x test) m) (model_is x model)

-- an edit that leaves the slice does not reach the cell
pub is_unreached : (x y : StampedTexts) (test model : List ℕ)
    → LeavesSlice x.texts y.texts test model
    → slice_by_names y test model ≡ slice_by_names x test model
is_unreached x y test model same =
    sym (slice_is y test model) ∙ same ∙ slice_is x test model

-- ---- an outcome that is compared

-- a settled cell shows the outcome just where the two are the same
pub is_settled_as : (o p : Outcome) (same : Bool) → IsTrue same ↔ (o ≡ p)
    → IsTrue same ↔ (shown_as.Settled o ≡ shown_as.Settled p)
is_settled_as o p same is = (λ t. ap shown_as.Settled (is.0 t), λ e. is.1 (same_settled e))

-- an open cell shows none, and neither does one that is not there
pub is_not_open : (o : Outcome) → IsTrue false ↔ (shown_as.Open ≡ shown_as.Settled o)
is_not_open o = (λ t. absurd (true≢false (sym t)), λ e. absurd (let h : shown_as.Open ≡ shown_as.Settled o = e in cc))

pub is_not_missing : (o : Outcome) → IsTrue false ↔ (shown_as.NoCell ≡ shown_as.Settled o)
is_not_missing o =
    (λ t. absurd (true≢false (sym t)), λ e. absurd (let h : shown_as.NoCell ≡ shown_as.Settled o = e in cc))
