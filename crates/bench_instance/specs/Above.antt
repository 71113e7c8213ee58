-- Under which model the verdicts are that may stand on a node, and which test the last edit
-- touched. Read it after StampedTexts.
use Rattle.std.specs.Prelude.{◌≡◌, ℕ, ◌+◌, ◌-◌, ◌<◌, ◌==◌, ◌&&◌, Bool, true, List, [], ◌∷◌, Some, length, nat_lt, if◌then◌else◌}
use Rattle.std.specs.List.{position_or_len}
use Rattle.memo_core.specs.declared.keys.Node.{Node}
use Rattle.cells.specs.Cells.{StandsOn}
use Rattle.bench_texts.specs.declared.model.NamedModel.{NamedModel}
use Rattle.bench_texts.specs.BenchTexts.{model_index}
use Rattle.bench_texts.specs.Held.{texts_of}
use Rattle.bench_instance.specs.declared.stamped_texts.StampedTexts.{StampedTexts}
use Rattle.bench_instance.specs.StampedTexts.{stamped_net, verdict_of}

-- the index of the model that has the item at an index among those of all models, or how many
-- models there are
abbrev pub model_holding : List NamedModel → ℕ → ℕ
model_holding [] item = 0
model_holding (m ∷ ms) item =
    if nat_lt item (length m.numbers.items) then 0
    else 1 + model_holding ms (item - length m.numbers.items)

-- the verdicts that stand on the node are of the model at that index
abbrev pub IsModelAbove : StampedTexts → Node → ℕ → Type 0
IsModelAbove t node index =
    (test model : List ℕ) (verdict : Node) → verdict_of t test model ≡ Some verdict
    → StandsOn (stamped_net t) verdict node → model_index model (texts_of t.texts).models ≡ index

-- whether all of these nodes are of that test
abbrev pub are_of_test : List Node → ℕ → Bool
are_of_test [] id = true
are_of_test (n ∷ ns) id = (n.test == id) && are_of_test ns id

-- the last edit touched nodes, all of the test of that number, which is there
pub record IsTouchedTest (t : StampedTexts) (id : ℕ) : Type 0 where
  pub some : 0 < length t.touched.items
  pub all : are_of_test t.touched.items id ≡ true
  pub there : position_or_len (λ r. r.id == id) t.parts.table.tests.items
      < length t.parts.table.tests.items
