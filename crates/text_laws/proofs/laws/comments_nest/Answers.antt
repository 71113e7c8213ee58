use Rattle.text_laws.proofs.Nesting.{found, only, unended}
use Rattle.text_laws.proofs.laws.comments_nest.Goals as goal

pub returns : goal.returns
returns c = record { found = found; only = only; unended = unended }
