use Rattle.bench_edits.proofs.Scratch.{faulty_scratch}
use Rattle.bench_edits.proofs.bench_laws.faults_are_from_scratch.Goals as goal

pub returns : goal.returns
returns c =
    λ s models kept index row test at id fault there of_model.
    faulty_scratch s models kept index row test at id fault there c.args.model.now of_model
