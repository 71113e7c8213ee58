use Rattle.std.proofs.lemmas.List.{map-set}
use Rattle.std.proofs.Math.Seq.{map-set_same}
use Rattle.std.proofs.Common.{refl}
use Rattle.relation_columns.specs.declared.runs.Run.{Run}
use Rattle.relation_columns.proofs.runs.set_end.Goals as goal

pub returns-clause-ends : goal.returns-clause-ends
returns-clause-ends g c = map-set (λ (r : Run _). r.end) c.args.runs.now c.args.run _

pub returns-clause-values : goal.returns-clause-values
returns-clause-values g c =
    map-set_same (λ (r : Run _). r.value) c.args.runs.now c.args.run _ c.index-runs-run.result refl
