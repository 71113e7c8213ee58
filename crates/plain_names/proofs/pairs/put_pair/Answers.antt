use Rattle.plain_executions.specs.Executions.{AreRelated, execution_as}
use Rattle.plain_names.specs.Related.{IsRelatedBy}
use Rattle.std.proofs.lemmas.Bool.{iff_false}
use Rattle.meaning_plain.proofs.Growing.{grows_if, grows_unless}
use Rattle.plain_names.proofs.Relating.{related_here}
use Rattle.plain_names.proofs.pairs.put_pair.Goals as goal

pub returns-then-not-is : goal.returns-then-not-is
returns-then-not-is c =
    let seen = c.args.shown.now.seen.items in
    let R = IsRelatedBy c.args.name seen (execution_as c.args.execution.now) in
    grows_unless (AreRelated R seen c.args.pair.0 c.args.pair.1) c.args.pair c.args.pairs.now.items
    (λ is. iff_false c.in_ok-is.ensures c.if-not-is.true
    ((related_here R seen c.args.pair.0 c.args.pair.1 c.index.result.now c.index-2.result.now c.requires.from c.index.ensures c.requires.to c.index-2.ensures).1 is))

pub returns : goal.returns
returns c =
    let seen = c.args.shown.now.seen.items in
    let R = IsRelatedBy c.args.name seen (execution_as c.args.execution.now) in
    grows_if (AreRelated R seen c.args.pair.0 c.args.pair.1) c.args.pair c.args.pairs.now.items
    c.add_pair.new.pairs.items
    ((related_here R seen c.args.pair.0 c.args.pair.1 c.index.result.now c.index-2.result.now c.requires.from c.index.ensures c.requires.to c.index-2.ensures).0
    (c.in_ok-is.ensures.0 c.if-not-is.false))
    c.in_ok-add_pair.ensures
