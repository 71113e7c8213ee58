use Rattle.std.proofs.Common.{◌∙◌, [], reverse, refl}
use Rattle.cat_machine.specs.Named.{EventsIn, PairsOutside, WithOwn, OwnPairs}
use Rattle.cat_machine.proofs.Evaluated.{relation_left, set_left}
use Rattle.cat_eval.proofs.Visits.{answer_is}
use Rattle.cat_eval.proofs.check.CheckRun.evaluated.Goals as goal

pub returns : goal.returns
returns c =
    let run = c.args.self.now in
    let base = c.args.base.now in
    let check = run.check.now in
    let inputs = run.inputs.now in
    let k = c.args.candidate in
    let events = EventsIn base inputs k in
    let pairs = WithOwn (PairsOutside base inputs k) (OwnPairs base.count []) in
    let us = reverse c.run.new.self.sets.items in
    let vs = c.run.new.self.relations in
    answer_is check inputs base k c.is_as_asked-met.result us vs
    (λ t code. set_left base.count events pairs c.deref.result.now us vs c.in_ok-run.ensures t
    (c.deref.ensures.value ∙ code))
    (λ t code. relation_left base.count events pairs c.deref.result.now us vs c.in_ok-run.ensures t
    (c.deref.ensures.value ∙ code))
    c.is_as_asked-met.ensures.set c.is_as_asked-met.ensures.relation check.code.kind refl
