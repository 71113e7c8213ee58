use Rattle.std.proofs.Common.{bytes_eq, ap, ◌∙◌, arith}
use Rattle.plain_models.specs.declared.scope.Named.{Named}
use Rattle.plain_models.proofs.Latest.{named_more}
use Rattle.plain_models.proofs.scope.latest_named.Goals as goal

pub loop-index-preserved : goal.loop-index-preserved
loop-index-preserved c =
    named_more c.args.name.now c.args.outer.now c.loop-index.index c.index-outer-index.result
    c.is_name-is.result c.loop-index.found c.later-found.result (omega arith) c.loop-index.invariant
    (c.is_name-is.ensures
    ∙ ap (λ (b : Named). bytes_eq b.name c.args.name.now) c.index-outer-index.is) c.later-found.ensures
