use Rattle.order_growth.proofs.Refused.{refusals_kept}
use Rattle.order_growth.proofs.laws.refusals_stay.Goals as goal

pub returns : goal.returns
returns c = refusals_kept c.args.check.now
