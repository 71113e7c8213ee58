use Rattle.std.proofs.Common.{rules}
use Rattle.plain_names.proofs.names.named.Goals as goal

pub returns : goal.returns
returns c t are = (search rules, c.in_ok-value.ensures t are)
