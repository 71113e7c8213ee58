-- What `bench_laws::equal_slices_have_same_cells` states. Read it after BenchCells.
use Rattle.std.specs.Prelude.{◌≡◌}
use Rattle.text_values.specs.TestValue.{Content}
use Rattle.bench_texts.specs.declared.model.NamedModel.{NamedModel}
use Rattle.bench_texts.specs.Held.{IsModelRead}
use Rattle.bench_nodes.specs.declared.table.ModelRow.{ModelRow}
use Rattle.bench_slices.specs.Slices.{slice}
use Rattle.bench_edits.specs.Readings.{written_model}
use Rattle.bench_edits.specs.BenchCells.{HaveSameCells}

-- Two models that give a test one slice give its cells the same items, or the same fault, under a
-- model of one number.
abbrev pub EqualSlicesHaveSameCells : Type 0
EqualSlicesHaveSameCells =
    (test other : Content) (model under : NamedModel) (row : ModelRow) → IsModelRead model
    → IsModelRead under
    → slice test model ≡ slice other under
    → HaveSameCells (written_model row model) (written_model row under)
