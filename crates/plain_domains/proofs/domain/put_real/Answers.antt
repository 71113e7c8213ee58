use Rattle.plain_machine.specs.Values.{value_as}
use Rattle.plain_runs.proofs.Mapping.{not_true}
use Rattle.plain_domains.proofs.Rounds.{real_none, real_some}
use Rattle.plain_domains.proofs.domain.put_real.Goals as goal

pub returns-then-is_none : goal.returns-then-is_none
returns-then-is_none c =
    real_none (value_as c.args.value.now) c.args.values.now.items (c.is_none.ensures.0 c.if-is_none.true)

pub returns : goal.returns
returns c =
    real_some (value_as c.args.value.now) c.args.values.now.items c.put_value.new.values.items
    (λ none. not_true c.is_none.result c.if-is_none.false (c.is_none.ensures.1 none))
    c.in_ok-put_value.ensures
