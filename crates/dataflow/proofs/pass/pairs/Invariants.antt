use Rattle.dataflow.proofs.PairLists.{UpTo}
use Rattle.dataflow.proofs.pass.pairs.Given as goal

abbrev pub invariant-loop-from : goal.invariant-loop-from
invariant-loop-from l = UpTo l.columns l.count l.from 0 l.pairs.items

abbrev pub invariant-loop-to : goal.invariant-loop-to
invariant-loop-to l = UpTo l.columns l.count l.from l.to l.pairs.items
