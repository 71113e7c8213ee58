use Rattle.plain_executions.proofs.Pairing.{read_behind}
use Rattle.plain_executions.proofs.cycle.+reads.Goals as goal

pub is_read_behind-returns-in-Some : goal.is_read_behind-returns-in-Some
is_read_behind-returns-in-Some t c =
    read_behind c.args.reads_from.now c.in-Some.rest.now c.args.loads.now c.args.from.now
    c.in-Some.read.now c.args.store.now c.args.load.now c.is_pair-first.result
    c.is_read_from-later.result c.either.result c.in-Some.ensures.cases.0 c.is_pair-first.ensures
    c.is_read_from-later.ensures c.either.ensures
