use Rattle.binding_laws.proofs.Visible.{uses_seen}
use Rattle.binding_laws.proofs.uses_are_seen.Goals as goal

pub returns : goal.returns
returns c = uses_seen
