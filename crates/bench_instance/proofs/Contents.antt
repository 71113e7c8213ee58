-- The texts after some operations, and their contents.
use Rattle.std.proofs.Common.{◌≡◌, ℕ, ◌≤◌, List, [], ◌∷◌, ◌++◌, length, refl, sym, ap, ◌∙◌, subst, arith}
use Rattle.std.specs.Prelude.{Option, fold, slice_get, false}
use Rattle.std.proofs.lemmas.List.{length-map}
use Rattle.text_values.specs.declared.test.Test.{Test}
use Rattle.text_values.specs.TestValue.{content_of}
use Rattle.outcome_states.specs.declared.answer.Outcome.{Outcome}
use Rattle.bench_texts.specs.declared.model.NamedModel.{NamedModel}
use Rattle.bench_texts.specs.BenchTexts.{BenchTexts, test_index, model_index, no_texts}
use Rattle.bench_texts.specs.Edits as edits
use Rattle.bench_texts.specs.Held.{texts_of, plain_model}
use Rattle.bench_texts.specs.Replacements.{texts_with}
use Rattle.board.specs.declared.operation.BoardOp.{BoardOp}
use Rattle.board.specs.declared.operation.BoardOp.TheVariants.{Edit, Settle}
use Rattle.board.specs.Legal.{TestsAndModels, tests_and_models, texts_after}
use Rattle.bench_instance.specs.declared.stamped_texts.StampedTexts.{StampedTexts}
use Rattle.bench_instance.specs.StampedCells.{cell_from_scratch, scratch_by, test_of as test_in, model_of as model_in}
use Rattle.board.specs.Histories.{contents_with, contents_after, IsEditOf, IsMadeOn, AreMadeFrom, IsHistory}
use Rattle.bench_instance.specs.Texts.{AreAfter}
use Rattle.bench_instance.specs.Lemmas.Laws.{made_few}
use Rattle.board.proofs.Histories.{contents_are_those}
use Rattle.bench_instance.specs.Contents.{IsApplied, AreWithinLimits, SayTheSameTexts}

-- ---- one operation more

one_more : (ops : List BoardOp) (op : BoardOp) (t : BenchTexts)
    → fold contents_with t (ops ++ op ∷ []) ≡ contents_with (fold contents_with t ops) op
one_more [] op t = refl
one_more (o ∷ ops) op t = one_more ops op (contents_with t o)

applied_here : (t : BenchTexts) (op : BoardOp) (e : edits.Edit) (number : ℕ)
    → IsEditOf t op e number → edits.Applies t false e (contents_with t op)
applied_here t (Edit edit) e number h = h.1.applies
applied_here t (Settle at outcome) e number h = absurd h

pub edit_is_applied : (ops : List BoardOp) (op : BoardOp) → IsApplied ops op
edit_is_applied ops op e number h =
    subst (λ (t : BenchTexts). edits.Applies (contents_after ops) false e t)
    (sym (one_more ops op no_texts)) (applied_here (contents_after ops) op e number h)

-- ---- the limits

abbrev AreFew : BenchTexts → Type 0
AreFew t = (length t.tests ≤ 512) × (length t.models ≤ 16)

few_with : (t : BenchTexts) (op : BoardOp) → AreFew t → IsMadeOn t op → AreFew (contents_with t op)
few_with t (Edit edit) few made =
    made_few t (texts_with edit.prepared.value.replacement t) made.0 made.1.applies
few_with t (Settle at outcome) few made = few

few_from : (ops : List BoardOp) (t : BenchTexts) → AreFew t → AreMadeFrom t ops
    → AreFew (fold contents_with t ops)
few_from [] t few made = few
few_from (op ∷ ops) t few made = few_from ops (contents_with t op) (few_with t op few made.0) made.1

pub history_is_within : (ops : List BoardOp) → IsHistory ops → AreWithinLimits (texts_after ops)
history_is_within ops history =
    let few = few_from ops no_texts (omega arith, omega arith) history.1 in
    let same = contents_are_those ops in
    let h : TestsAndModels = texts_after ops in
    record {
      tests =
          subst (λ (n : ℕ). n ≤ 512) (ap length same.tests ∙ length-map h.tests content_of) few.0;
      models =
          subst (λ (n : ℕ). n ≤ 16) (ap length same.models ∙ length-map h.models plain_model) few.1;
    }

-- ---- two texts after the same operations

module _ (t u : StampedTexts) (same : tests_and_models u.texts ≡ tests_and_models t.texts)
    (contents : texts_of u.texts ≡ texts_of t.texts) where
  test_same : (name : List ℕ) → test_in u name ≡ test_in t name
  test_same name =
      ap (λ (h : TestsAndModels). slice_get h.tests (test_index name (texts_of u.texts).tests)) same
      ∙ ap (λ (x : BenchTexts). slice_get t.texts.tests.items (test_index name x.tests)) contents

  model_same : (name : List ℕ) → model_in u name ≡ model_in t name
  model_same name =
      ap (λ (h : TestsAndModels). slice_get h.models (model_index name (texts_of u.texts).models)) same
      ∙ ap (λ (x : BenchTexts). slice_get t.texts.models.items (model_index name x.models)) contents

  pub result_same : (test model : List ℕ) (o : Outcome) → cell_from_scratch t test model o
      → cell_from_scratch u test model o
  result_same test model o h =
      subst (λ (c : Option Test). scratch_by c (model_in u model) o) (sym (test_same test))
      (subst (λ (m : Option NamedModel). scratch_by (test_in t test) m o) (sym (model_same model))
      h)

pub texts_are_one : (t u : StampedTexts) (ops : List BoardOp) → AreAfter t ops → AreAfter u ops
    → SayTheSameTexts t u
texts_are_one t u ops a b =
    let same : tests_and_models u.texts ≡ tests_and_models t.texts = b.held ∙ sym a.held in
    let contents : texts_of u.texts ≡ texts_of t.texts = b.contents ∙ sym a.contents in
    record { held = same; contents = contents; results = result_same t u same contents }
