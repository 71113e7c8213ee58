use Rattle.from_scratch.proofs.Sole.{one_fault, fault_or_none}
use Rattle.from_scratch.proofs.laws.faults_are_one.Goals as goal

pub returns : goal.returns
returns c = record {
  one = λ k l f g. one_fault _ _ _ _ k l f g;
  or_none = λ k f none. fault_or_none _ _ _ _ k f none;
}
