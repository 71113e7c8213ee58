use Rattle.std.proofs.Common.{bytes_eq, ap, ◌∙◌, arith}
use Rattle.meaning.specs.Names.{Name}
use Rattle.plain_models.proofs.Latest.{latest_more}
use Rattle.plain_models.proofs.scope.latest_name.Goals as goal

pub loop-index-preserved : goal.loop-index-preserved
loop-index-preserved c =
    latest_more c.args.name.now c.args.names.now c.loop-index.index c.index-names-index.result
    c.is_name-is.result c.loop-index.found c.later-found.result (omega arith) c.loop-index.invariant
    (c.is_name-is.ensures
    ∙ ap (λ (m : Name). bytes_eq m c.args.name.now) c.index-names-index.is) c.later-found.ensures
