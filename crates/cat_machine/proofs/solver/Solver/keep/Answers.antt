use Rattle.cat_machine.proofs.Grown.{rooms_less}
use Rattle.cat_machine.proofs.solver.Solver.keep.Goals as goal

pub returns-clause-grown : goal.returns-clause-grown
returns-clause-grown c = λ grew.
    rooms_less c.args.self.now.own.items c.args.position c.index_mut.result.now c.grow.new.own
    c.requires c.index_mut.ensures.value (c.grow.ensures.grown grew)
