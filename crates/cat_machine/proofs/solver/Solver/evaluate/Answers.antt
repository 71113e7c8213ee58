use Rattle.std.proofs.Common.{◌∙◌, reverse}
use Rattle.cat_machine.specs.Named.{EventsIn, PairsOutside, WithOwn, OwnPairs}
use Rattle.cat_machine.proofs.Evaluated.{relation_left, set_left}
use Rattle.cat_machine.proofs.solver.Solver.evaluate.Goals as goal

pub returns-clause-relation : goal.returns-clause-relation
returns-clause-relation c = λ t code.
    rw c.deref.ensures.value at (relation_left c.args.base.now.count
    (EventsIn c.args.base.now c.args.inputs.now c.args.candidate)
    (WithOwn (PairsOutside c.args.base.now c.args.inputs.now c.args.candidate)
    (OwnPairs c.args.base.now.count c.deref.result.now)) c.deref-2.result.now
    (reverse c.run.new.self.sets.items) c.run.new.self.relations c.in_ok-run.ensures t
    (c.deref-2.ensures.value ∙ code))

pub returns-clause-set : goal.returns-clause-set
returns-clause-set c = λ t code.
    set_left c.args.base.now.count (EventsIn c.args.base.now c.args.inputs.now c.args.candidate)
    (WithOwn (PairsOutside c.args.base.now c.args.inputs.now c.args.candidate)
    (OwnPairs c.args.base.now.count c.deref.result.now)) c.deref-2.result.now
    (reverse c.run.new.self.sets.items) c.run.new.self.relations c.in_ok-run.ensures t
    (c.deref-2.ensures.value ∙ code)
