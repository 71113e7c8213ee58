use Rattle.std.proofs.Common.{Some, Option, ap, sym, ◌∙◌}
use Rattle.memo_core.specs.declared.keys.Key.{Key}
use Rattle.bench_nodes.proofs.Lists.{key_in}
use Rattle.bench_nodes.proofs.nodes.key_in.Goals as goal

pub returns : goal.returns
returns c =
    key_in c.args.test c.args.keys.now c.args.i _ c.requires
    ∙ ap (λ (k : Key). let o : Option Key = Some k in o) (sym c.key_at.ensures)
