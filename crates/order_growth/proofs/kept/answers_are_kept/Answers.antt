use Rattle.order_growth.proofs.Keeping.{answers_kept}
use Rattle.order_growth.proofs.kept.answers_are_kept.Goals as goal

pub returns : goal.returns
returns c = answers_kept c.args.role.now c.args.other.now c.args.space.now c.args.another.now
