use Rattle.std.proofs.Common.{false, refl}
use Rattle.plain_machine.specs.Values.{value_as}
use Rattle.plain_runs.proofs.Mapping.{not_true, none_more, none_all}
use Rattle.plain_domains.proofs.store.has_value.Goals as goal

pub loop-one-preserved : goal.loop-one-preserved
loop-one-preserved c =
    none_more value_as c.args.values.now c.loop-one.one-index _ (value_as c.args.value.now)
    c.loop-one-test.true
    (λ same. not_true c.is_same_value.result c.if-is_same_value.false (c.is_same_value.ensures.1 same))
    c.loop-one.invariant

pub returns : goal.returns
returns c = (
  (λ no. absurd (not_true false refl no)),
  λ there. absurd (none_all value_as c.args.values.now c.loop-one.one-index (value_as c.args.value.now) c.loop-one-test.false c.loop-one.invariant there),
)
