use Rattle.std.proofs.lemmas.List.Elements.{contains_decides, Contains-from_at}
use denote.Enum.Bare.{sameb}
use Rattle.predefined_names.specs.contracts.predefined.Predefined.{the_type}
use Rattle.cat_machine.proofs.Naming.{names_Decides}
use Rattle.cat_eval.proofs.needs.is_listed.Goals as goal

pub returns : goal.returns
returns c = λ listed.
    let names = c.args.names.now in
    let name = c.args.name in
    Contains-from_at names name ((contains_decides (sameb the_type) names_Decides names name
    c.contains.result c.contains.ensures.cases).0 listed)
