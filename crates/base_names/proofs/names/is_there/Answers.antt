use Rattle.std.proofs.Common.{rules, ◌≡◌, Contains, get_or}
use Rattle.base_names.specs.Known.{shared_names}
use Rattle.base_names.proofs.Covering.{named_at}
use Rattle.base_names.proofs.names.is_there.Goals as goal

pub returns-then-eq : goal.returns-then-eq
returns-then-eq c h =
    let same : c.one-item.result.name ≡ c.args.name = search (rules, c.eq.ensures, c.if-eq.true) in
    let at : Contains (shared_names c.args.shared.now) (get_or c.args.shared.now c.loop-one.one-index c.one-item.result).name = named_at c.args.shared.now c.loop-one.one-index c.one-item.result c.loop-one-test.true in
    rw (← same) (rw c.one-item.is at)
