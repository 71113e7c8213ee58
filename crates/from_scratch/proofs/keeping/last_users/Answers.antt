use Rattle.from_scratch.proofs.Letting.{last_keeps}
use Rattle.from_scratch.proofs.keeping.last_users.Goals as goal

pub returns-in-All-clause-last : goal.returns-in-All-clause-last
returns-in-All-clause-last c =
    last_keeps c.args.items.now c.args.indexes.now c.none.result c.none.ensures
