use Rattle.run_combinations.proofs.Pruning.{told}
use Rattle.run_combinations.proofs.search.fits.Goals as goal

pub returns : goal.returns
returns c =
    told c.args.prefix.now c.args.part.now c.args.later.now c.join.new.self c.join-2.new.self
    c.join-3.new.self c.is_within.result c.join.ensures c.join-2.ensures c.join-3.ensures
    c.is_within.ensures
