use Rattle.meaning.proofs.Entries.{entries_may_swap}
use Rattle.meaning.proofs.laws.entries_may_swap.Goals as goal

pub returns : goal.returns
returns c = λ t before behind e f other. entries_may_swap t before behind e f other
