use Rattle.std.proofs.Common.{sym, ◌∙◌, refl}
use Rattle.text_values.specs.ModelValues.{term_of}
use Rattle.binding_kinds.proofs.Fitting.{none_later}
use Rattle.binding_kinds.proofs.Fitted.{fit}
use Rattle.binding_graph.proofs.Groups.{inputs_made, functions_made}
use Rattle.binding_graph.proofs.bodies.read_check.Goals as goal

pub returns-in-Some-clause-fault : goal.returns-in-Some-clause-fault
returns-in-Some-clause-fault c = λ ss kept none.
    let v = c.in_ok-judged.ensures.judged ss kept none in
    rw (← v.kind, ← v.fault) (sym c.in-Some.is ∙ c.check_fault.ensures)

pub returns-clause-fault : goal.returns-clause-fault
returns-clause-fault c = λ ss kept none.
    let v = c.in_ok-judged.ensures.judged ss kept none in
    rw (← v.kind, ← v.fault) (sym c.in_default.is ∙ c.check_fault.ensures)

pub returns-clause-item : goal.returns-clause-item
returns-clause-item c = λ ss kept sound known none.
    let one = c.in_ok-judged.ensures in
    let v = one.judged ss kept none in
    let new = c.clear.ensures in
    let t = term_of c.args.check.now.body in
    let clear = sym c.check_fault.ensures ∙ c.in_default.is in
    let fits = fit ss _ _ _ t known (sym v.fault ∙ none_later _ c.in_ok-judged.field-0.judged.fault clear) in
    let values = rw (none, new.values) at (one.uses.values new.indexed) in
    let functions = rw (none, new.functions) at (one.uses.functions new.listed) in
    let code = rw values at (one.code ss kept sound none new.indexed fits) in (
      (refl, code),
      record {
        inputs =
            inputs_made c.read_code.new.work.uses.values.items _ _ _ values c.deref.ensures.value
            c.in_ok-inputs.ensures.inputs;
        functions =
            functions_made c.read_code.new.work.uses.functions.items _ _ functions
            (c.in_ok-inputs.ensures.functions ∙ c.deref-2.ensures.value);
      },
    )
