use Rattle.std.proofs.Common.{[]}
use Rattle.bench_parts.proofs.ItemKinds.{kinds_of_roles}
use Rattle.bench_parts.proofs.item_laws.kinds_follow_roles.Goals as goal

pub returns : goal.returns
returns c = λ names. kinds_of_roles [] [] names 0
