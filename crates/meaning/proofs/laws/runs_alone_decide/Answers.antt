use Rattle.meaning.proofs.Communication.{runs_alone_decide}
use Rattle.meaning.proofs.laws.runs_alone_decide.Goals as goal

pub returns : goal.returns
returns c = λ t items free x y same execution kept.
    (execution, runs_alone_decide t items free x y same kept.1)
