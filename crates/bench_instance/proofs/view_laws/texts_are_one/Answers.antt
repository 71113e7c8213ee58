use Rattle.bench_instance.proofs.Contents as proof
use Rattle.bench_instance.proofs.view_laws.texts_are_one.Goals as goal

pub returns : goal.returns
returns c = proof.texts_are_one
