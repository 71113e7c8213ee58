use Rattle.meaning_executions.proofs.Meant.{names_meant}
use Rattle.meaning_executions.proofs.predefined_names_are_meant.Goals as goal

pub returns : goal.returns
returns c = λ t p of values x is y by_name same ends one shows.
    names_meant t p of values x is y by_name same ends one shows
