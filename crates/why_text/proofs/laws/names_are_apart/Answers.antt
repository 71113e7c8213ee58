use Rattle.why_text.proofs.Names.{names_apart}
use Rattle.why_text.proofs.laws.names_are_apart.Goals as goal

pub returns : goal.returns
returns c = names_apart
