use Rattle.std.proofs.Common.{sym, ◌∙◌, refl}
use Rattle.binding_graph.proofs.Sights.{name_parameter, name_other}
use Rattle.binding_graph.proofs.Walks.{noted_none, noted_name}
use Rattle.binding_graph.proofs.reading.note_name.Goals as goal

pub returns-in_ok-put-in-Parameter-clause-named : goal.returns-in_ok-put-in-Parameter-clause-named
returns-in_ok-put-in-Parameter-clause-named c = sym c.in-Parameter.is ∙ c.named.ensures

pub returns-in_ok-put-in-Parameter-clause-template : goal.returns-in_ok-put-in-Parameter-clause-template
returns-in_ok-put-in-Parameter-clause-template c =
    let is = name_parameter _ _ c.in-Parameter.index (sym c.in-Parameter.is ∙ c.named.ensures) in
    rw is c.in_ok-put-in-Parameter.ensures

pub returns-in_ok-put-in-Parameter-clause-uses : goal.returns-in_ok-put-in-Parameter-clause-uses
returns-in_ok-put-in-Parameter-clause-uses c =
    let is = name_parameter _ _ c.in-Parameter.index (sym c.in-Parameter.is ∙ c.named.ensures) in
    rw is (noted_none (λ vs. vs) (λ fs. fs) _ (λ vs. refl) (λ fs. refl))

pub returns-in_ok-add_name-in-Other-clause-named : goal.returns-in_ok-add_name-in-Other-clause-named
returns-in_ok-add_name-in-Other-clause-named c = sym c.in-Other.is ∙ c.named.ensures

pub returns-in_ok-add_name-in-Other-clause-template : goal.returns-in_ok-add_name-in-Other-clause-template
returns-in_ok-add_name-in-Other-clause-template c =
    let is = name_other _ _ c.in-Other.found (sym c.in-Other.is ∙ c.named.ensures) in
    rw (is.0, is.1) c.in_ok-put_name-in-Other.ensures

pub returns-in_ok-add_name-in-Other-clause-uses : goal.returns-in_ok-add_name-in-Other-clause-uses
returns-in_ok-add_name-in-Other-clause-uses c =
    let is = name_other _ _ c.in-Other.found (sym c.in-Other.is ∙ c.named.ensures) in
    let more = c.in_ok-add_name-in-Other.ensures in
    rw (is.0, is.1) (noted_name c.args.sight.now.from c.in-Other.found _ _ more.indexed more.values
    more.functions more.applied)
