use Rattle.std.proofs.Common.{◌≡◌, reverse, get_or}
use Rattle.std.proofs.lemmas.List.{get_or_read}
use Rattle.binding_graph.specs.declared.resolved.Body.{Body}
use Rattle.cat_eval.proofs.Columns.{meant_is}
use Rattle.cat_eval.proofs.group.GroupRun.evaluate_one.Goals as goal

pub returns-clause-added : goal.returns-clause-added
returns-clause-added c = λ none lt col.
    let run = c.args.self.now in
    let body = c.index-bodies-position.result in
    let read : (b : Body) → body ≡ get_or run.bodies.now c.args.position b = λ b. get_or_read run.bodies.now c.args.position body c.requires c.index-bodies-position.is b in (
      c.set-set.result,
      c.relation.result.now,
      c.in_ok-put.ensures.added lt col,
      (λ b. rw (← read b)
          (meant_is run.inputs.now c.args.base.now c.args.candidate body.code.steps.items
          c.set-set.result c.relation.result.now (reverse c.evaluate.new.machine.sets.items)
          c.evaluate.new.machine.relations
          c.in_ok-evaluate.ensures.set (rw none at c.in_ok-evaluate.ensures.relation)
          c.set-set.ensures c.relation.ensures body.code.kind)),
    )
