use Rattle.std.proofs.Common.{sym, ◌∙◌}
use Rattle.binding_graph.proofs.Meant.{on_ok}
use Rattle.binding_graph.proofs.Sights.{name_parameter, name_other}
use Rattle.binding_graph.proofs.inside.inside_name.Goals as goal

pub returns-in-Parameter-clause-part : goal.returns-in-Parameter-clause-part
returns-in-Parameter-clause-part c =
    λ ss. c.parameter.ensures ss _ _ c.args.name.now (name_parameter _ _ c.in-Parameter.index
    (sym c.in-Parameter.is ∙ c.in_ok-index.ensures.named))

pub returns-in-Parameter-clause-template : goal.returns-in-Parameter-clause-template
returns-in-Parameter-clause-template c = on_ok c.parameter.result c.in_ok-index.ensures.template

pub returns-in-Parameter-clause-uses : goal.returns-in-Parameter-clause-uses
returns-in-Parameter-clause-uses c = on_ok c.parameter.result c.in_ok-index.ensures.uses

pub returns-in-Other-clause-part : goal.returns-in-Other-clause-part
returns-in-Other-clause-part c = λ ss.
    let is = name_other _ _ c.in-Other.found (sym c.in-Other.is ∙ c.in_ok-index.ensures.named) in
    c.other.ensures ss _ _ c.args.under c.args.name.now is.0 is.1

pub returns-in-Other-clause-template : goal.returns-in-Other-clause-template
returns-in-Other-clause-template c = on_ok c.other.result c.in_ok-index.ensures.template

pub returns-in-Other-clause-uses : goal.returns-in-Other-clause-uses
returns-in-Other-clause-uses c = on_ok c.other.result c.in_ok-index.ensures.uses
