use Rattle.meanings_exist.proofs.Cycles.{cycles_decided}
use Rattle.meanings_exist.proofs.cycles_are_decided.Goals as goal

pub returns : goal.returns
returns c = λ pairs. cycles_decided pairs
