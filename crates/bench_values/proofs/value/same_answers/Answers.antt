use Rattle.std.specs.Cmp.{booleans_Decides}
use Rattle.std.proofs.lemmas.Slice.Eq.{slice_eq-Decides}
use Rattle.bench_values.proofs.value.same_answers.Goals as goal

pub returns : goal.returns
returns c =
    slice_eq-Decides booleans_Decides c.args.these.now c.args.those.now c.eq.result c.eq.ensures
