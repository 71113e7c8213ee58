use Rattle.litmus_ppc.proofs.Bounds.{fails_within_all}
use Rattle.litmus_ppc.proofs.read.read_whole.Goals as goal

pub returns-clause-within : goal.returns-clause-within
returns-clause-within c =
    fails_within_all c.args.kind c.args.threads c.args.bytes.now c.read_all.result
    c.read_all.ensures
