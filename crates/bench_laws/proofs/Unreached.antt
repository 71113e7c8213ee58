-- An edit that reaches no cell leaves every used node settled.
use Rattle.std.proofs.Common.{◌≡◌, ℕ, zero, suc, ◌+◌, inl, inr, List, [], ◌∷◌, Option, Some, None, slice_get, refl, sym, ap, subst, ◌∙◌}
use Rattle.std.specs.List.{AllByRecursion as Each}
use Rattle.text_values.specs.declared.test.Test.{Test}
use Rattle.memo_core.specs.declared.keys.Node.{Node}
use Rattle.memo_core.specs.Graph.{Memo, Net, input_nodes, Matches, IsSettledBy, IsSettled}
use Rattle.memo_core.specs.Run.{Edit, Step, state_in}
use Rattle.memo_core.specs.Step.{Has}
use Rattle.memo_core.proofs.Headline.{untouched_edit}
use Rattle.bench_nodes.specs.declared.table.ModelRow.{ModelRow}
use Rattle.bench_nodes.specs.declared.table.TestRow.{TestRow}
use Rattle.bench_texts.specs.declared.edit.Edit.{Edit as Code}
use Rattle.bench_texts.specs.declared.model.NamedModel.{NamedModel}
use Rattle.bench_texts.specs.BenchTexts.{test_index, model_index}
use Rattle.bench_texts.specs.Held.{texts_of}
use Rattle.bench_slices.specs.Reach.{cell_slice}
use Rattle.bench_slices.specs.Slices.{Slice}
use Rattle.bench_parts.specs.States.{keeps}
use Rattle.cells.specs.Cells.{AllAreSettled, StandsOnBy}
use Rattle.bench_instance.specs.declared.stamped_texts.StampedTexts.{StampedTexts}
use Rattle.bench_instance.specs.StampedTexts.{AreSoundTexts, stamped_net, verdict_by, verdict_of}
use Rattle.bench_instance.specs.StampedCells.{test_of, model_of}
use Rattle.bench_instance.specs.Lemmas.CellProofs.{cell_in, row_there, model_row_there, all_needed, verdicts_used}
use Rattle.bench_instance.specs.Lemmas.LeftCells.{cells_left}
use Rattle.bench_laws.specs.Live.{live_meaning}
use Rattle.bench_laws.specs.There.{LiveState}
use Rattle.bench_laws.specs.Unreached.{HaveSameSlices, HasNoWork, UnreachedNeedsNoJob}
use Rattle.bench_laws.proofs.Runs.{sound_after}

-- ---- settled nodes

each_has : {X : Type 0} (P : X → Type 0) (xs : List X) (x : X) → Each P xs → Has xs x → P x
each_has P [] x all h = absurd h
each_has P (y ∷ ys) x all (inl e) = subst P e all.0
each_has P (y ∷ ys) x all (inr h) = each_has P ys x all.1 h

-- what a settled node stands on is settled
pub settled_under : {V G : Type 0} (net : Net G) (ms : List (Memo V)) (steps d : ℕ) (n m : Node)
    → StandsOnBy steps net n m → IsSettledBy d net ms n → IsSettled net ms m
settled_under net ms zero d n m e s = subst (λ (k : Node). IsSettled net ms k) e (d, s)
settled_under net ms (suc steps) zero n m h s = absurd s
settled_under net ms (suc steps) (suc d) n m h s =
    settled_under net ms steps d h.0 m h.2 (each_has (IsSettledBy d net ms)
    (input_nodes (net.inputs n)) h.0 s.1 h.1)

settled_matches : {V G : Type 0} (net : Net G) (ms : List (Memo V)) (d : ℕ) (n : Node)
    → IsSettledBy d net ms n → Matches net ms n
settled_matches net ms zero n s = absurd s
settled_matches net ms (suc d) n s = s.0

-- ---- cells

some_is : {A : Type 0} {a b : A} → Some a ≡ Some b → a ≡ b
some_is e = cc

none_is : {A : Type 0} {P : Type 0} {a : A} → None ≡ Some a → P
none_is e = cc

-- a cell that has a slice has a test and a model
record HasParts (c : Option Test) (m : Option NamedModel) : Type 0 where
  test : Test
  model : NamedModel
  test_is : c ≡ Some test
  model_is : m ≡ Some model

parts_there : (c : Option Test) (m : Option NamedModel) (s : Slice) → cell_slice c m ≡ Some s
    → HasParts c m
parts_there None m s e = none_is e
parts_there (Some c) None s e = none_is e
parts_there (Some c) (Some m) s e = record { test = c; model = m; test_is = refl; model_is = refl }

slice_there : (c : Option Test) (m : Option NamedModel) (test : Test) (model : NamedModel)
    → c ≡ Some test → m ≡ Some model → (s : Slice) × (cell_slice c m ≡ Some s)
slice_there None m test model e f = none_is e
slice_there (Some c) None test model e f = none_is f
slice_there (Some c) (Some m) test model e f = (_, refl)

-- where a test and a model are there, they have a verdict
verdict_there : (t : StampedTexts) (test model : List ℕ) → AreSoundTexts t
    → HasParts (test_of t test) (model_of t model) → (v : Node) × (verdict_of t test model ≡ Some v)
verdict_there t test model sound parts =
    let i : ℕ = test_index test (texts_of t.texts).tests in
    let j : ℕ = model_index model (texts_of t.texts).models in
    let row = row_there t.parts.last t.parts.table.tests.items t.texts.tests.items t.parts.locations.items i parts.test ((sound.parts_are).built).tests parts.test_is in
    let model_row = model_row_there t.parts.table.models.items t.texts.models.items j parts.model (sound.parts_are).each_model parts.model_is in (
      _,
      ap (λ (r : Option TestRow). verdict_by r (slice_get t.parts.table.models.items j)) row.1
          ∙ ap (λ (r : Option ModelRow). verdict_by (Some row.0) r) model_row.1,
    )

-- ---- after an edit

module _ (old new : LiveState) (e : Code) (sound : AreSoundTexts old.texts)
    (step : Step live_meaning old (Edit e) new) (all : AllAreSettled stamped_net old)
    (same : HaveSameSlices old.texts new.texts) where
  sound_now : AreSoundTexts new.texts
  sound_now = (step.0).sound sound

  verdict_before : (test model : List ℕ) (v : Node) → verdict_of new.texts test model ≡ Some v
      → verdict_of old.texts test model ≡ Some v
  verdict_before test model v is =
      let now = cell_in new.texts test model v sound_now is in
      let of = slice_there (test_of new.texts test) (model_of new.texts model) now.of_test now.of_model now.test_is now.model_is in
      let parts = parts_there (test_of old.texts test) (model_of old.texts model) of.0 (sym (same test model) ∙ of.1) in
      let was = verdict_there old.texts test model sound parts in
      let left = cells_left old.texts new.texts e (old.taken + 1) test model sound step.0 (λ reached. reached (same test model)) was.0 was.1 in
      was.1 ∙ sym left.0 ∙ is

  verdict_settled : (test model : List ℕ) (v : Node) → verdict_of new.texts test model ≡ Some v
      → IsSettled (stamped_net new.texts) new.memos v
  verdict_settled test model v is =
      let was = verdict_before test model v is in
      let left = cells_left old.texts new.texts e (old.taken + 1) test model sound step.0 (λ reached. reached (same test model)) v was in
      untouched_edit (λ n. keeps new.texts.parts n) (state_in live_meaning old)
      (state_in live_meaning new) v step.1 left.1
      (all v (verdicts_used old.texts test model v sound was))

  all_settled : AllAreSettled stamped_net new
  all_settled n has =
      let need = all_needed new.texts sound_now n has in
      let settled = verdict_settled need.test need.model need.verdict need.is in
      settled_under (stamped_net new.texts) new.memos (need.stands).0 settled.0 need.verdict n
      (need.stands).1 settled.1

  no_work : HasNoWork new
  no_work n work =
      let s = all_settled n work.used in
      work.unmatched (settled_matches (stamped_net new.texts) new.memos s.0 n s.1)

pub unreached_needs_no_job : UnreachedNeedsNoJob
unreached_needs_no_job events start old new e s run step all same =
    let sound = sound_after events start old s run in
    (all_settled old new e sound step all same, no_work old new e sound step all same)
