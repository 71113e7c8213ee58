use Rattle.bench_edits.proofs.Scratch.{sound_scratch}
use Rattle.bench_edits.proofs.bench_laws.verdicts_are_from_scratch.Goals as goal

pub returns : goal.returns
returns c =
    λ s models kept index row test at id numbers items used there none of_model. sound_scratch s
    models kept index row test at id numbers items used there c.args.model.now none of_model
