use Rattle.std.proofs.Common.{ℕ, reverse, map, subst, List}
use Rattle.text_values.specs.ModelValues.{term_of}
use Rattle.binding_kinds.specs.Value.{entry_of}
use Rattle.binding_kinds.proofs.Fitted.{fit_typed}
use Rattle.binding_functions.specs.Templates.{pieces_in, HasLarge, IsGrown}
use Rattle.binding_functions.proofs.Lengths.{fit_small}
use Rattle.binding_graph.proofs.Lowered.{code_made}
use Rattle.binding_graph.proofs.bodies.read_code.Goals as goal

pub returns-clause-code : goal.returns-clause-code
returns-clause-code c = λ ss kept sound none ix fit.
    let names = reverse (map entry_of c.args.sight.now.entries.now) in
    let term = term_of c.args.term.now in
    let indexed = c.in_ok-judged.ensures.uses.indexed ix in
    let verdict = c.in_ok-judged.ensures.judged ss kept none in
    let typed = fit_typed ss names term sound fit in
    let grown = subst (λ (ps : List (List ℕ)). IsGrown c.clear.new.self c.read_term.new.template (pieces_in ss names ps term) (HasLarge ss names ps term)) none (c.in_ok-judged.ensures.template ss kept) in
    code_made ss names (reverse c.read_term.new.uses.values.items) c.args.sight.now.from term
    (record { kind = c.in_ok-judged.judged.kind; steps = c.in_ok-lower.field-0 })
    c.clear.new.self c.read_term.new.template _ typed.0 typed.1
    (fit_small c.args.sight.now.functions.now ss names term kept fit) c.clear.ensures.pieces
    c.clear.ensures.is_oversized grown c.deref.ensures.value verdict.kind
    (c.in_ok-lower.ensures indexed)
