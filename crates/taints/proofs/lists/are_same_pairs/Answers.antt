use Rattle.std.proofs.lemmas.Slice.Eq.{slice_eq-Decides}
use Rattle.taints.proofs.PairDecision.{pair_decides}
use Rattle.taints.proofs.lists.are_same_pairs.Goals as goal

pub returns : goal.returns
returns c =
    slice_eq-Decides pair_decides c.args.first.now c.args.second.now c.eq.result c.eq.ensures
