use Rattle.std.proofs.Common.{refl}
use Rattle.cat_eval.proofs.Filling.{filled_again}
use Rattle.cat_eval.proofs.table.push_again.Goals as goal

pub returns-clause-filled : goal.returns-clause-filled
returns-clause-filled c =
    λ bases last base ends same before.
    filled_again c.args.entry.now _ bases last base refl ends same c.in_ok-push_last.ensures before
