use Rattle.std.proofs.Common.{sym, ◌∙◌}
use Rattle.binding_graph.proofs.Sights.{name_other, no_parameter}
use Rattle.binding_graph.proofs.reading.read_name.Goals as goal

pub returns-in-Parameter-clause-judged : goal.returns-in-Parameter-clause-judged
returns-in-Parameter-clause-judged c =
    λ none. absurd (no_parameter _ _ _ c.in-Parameter.field-0 none
    (sym c.in-Parameter.is ∙ c.in_ok-note_name.ensures.named))

pub returns-in-Other-clause-judged : goal.returns-in-Other-clause-judged
returns-in-Other-clause-judged c = λ none.
    let is = name_other _ _ c.in-Other.found (sym c.in-Other.is ∙ c.in_ok-note_name.ensures.named) in
    let made = c.judged_name.ensures in
    rw is.1 (made.kind, made.size, made.fault)
