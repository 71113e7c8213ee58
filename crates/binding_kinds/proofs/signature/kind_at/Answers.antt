use Rattle.std.proofs.Common.{arith}
use Rattle.binding_kinds.proofs.Combinations.{set_at, relation_at, any_at}
use Rattle.binding_kinds.proofs.signature.kind_at.Goals as goal

pub returns-then-digit-eq0 : goal.returns-then-digit-eq0
returns-then-digit-eq0 c =
    λ ks d n_is lt le. set_at c.args.index c.args.combination c.weight.result ks d n_is
    (c.weight.ensures.power (omega arith)) lt c.if-digit-eq0.true

pub returns-then-digit-eq1 : goal.returns-then-digit-eq1
returns-then-digit-eq1 c =
    λ ks d n_is lt le. relation_at c.args.index c.args.combination c.weight.result ks d n_is
    (c.weight.ensures.power (omega arith)) lt c.if-digit-eq1.true

pub returns-else-digit-eq1 : goal.returns-else-digit-eq1
returns-else-digit-eq1 c =
    λ ks d n_is lt le. any_at c.args.index c.args.combination c.weight.result ks d n_is
    (c.weight.ensures.power (omega arith)) lt c.if-digit-eq0.false c.if-digit-eq1.false
