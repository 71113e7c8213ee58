-- Two outcomes of one cell are equal.
use Rattle.std.proofs.Common.{◌≡◌, ℕ, List, Option, Some, None}
use Rattle.text_values.specs.declared.test.Test.{Test}
use Rattle.outcome_states.specs.declared.answer.Outcome.{Outcome}
use Rattle.bench_texts.specs.declared.model.NamedModel.{NamedModel}
use Rattle.evaluation_laws.proofs.Saying.{one_outcome}
use Rattle.bench_instance.specs.declared.stamped_texts.StampedTexts.{StampedTexts}
use Rattle.bench_instance.specs.StampedCells.{scratch_by, cell_from_scratch, test_of, model_of}

one_of : (c : Option Test) (m : Option NamedModel) (o p : Outcome) → scratch_by c m o
    → scratch_by c m p → o ≡ p
one_of None m o p h k = absurd h
one_of (Some c) None o p h k = absurd h
one_of (Some c) (Some m) o p h k = one_outcome c m.text o p h k

pub one_scratch : (t : StampedTexts) (test model : List ℕ) (o p : Outcome)
    → cell_from_scratch t test model o → cell_from_scratch t test model p → o ≡ p
one_scratch t test model o p h k = one_of (test_of t test) (model_of t model) o p h k
