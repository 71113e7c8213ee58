use Rattle.store_orders.proofs.Pairs.{length-candidates}
use Rattle.std.proofs.Common.{arith}
use Rattle.std.proofs.lemmas.Grind.{common_steps}
use Rattle.store_orders.proofs.combination.Combination.candidate_count.Goals as goal

pub returns : goal.returns
returns c = rw (length-candidates c.args.self.now) (grind (arith, common_steps))
