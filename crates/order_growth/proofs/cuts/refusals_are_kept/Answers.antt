use Rattle.order_growth.proofs.Refusing.{refusals_kept}
use Rattle.order_growth.proofs.cuts.refusals_are_kept.Goals as goal

pub returns : goal.returns
returns c = refusals_kept
