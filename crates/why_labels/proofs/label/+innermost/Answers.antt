use Rattle.std.proofs.Common.{Some, subst}
use Rattle.why_labels.specs.declared.unions.ModelName.{ModelName}
use Rattle.why_labels.specs.Labels.{IsInnermost, NoName, Relates}
use Rattle.why_labels.proofs.Found.{language_name, name_itself, name_inside}
use Rattle.why_labels.proofs.label.+innermost.Goals as goal

pub returns-in_default-clause-innermost : goal.returns-in_default-clause-innermost
returns-in_default-clause-innermost t c = NoName c.args.names.now c.in_default.ensures

pub returns-in-Predefined-clause-innermost : goal.returns-in-Predefined-clause-innermost
returns-in-Predefined-clause-innermost t c =
    language_name c.args.items.now (Relates c.args.values.now c.args.pair) c.args.names.now
    c.in-Some.name c.in-Some.ensures c.in-Predefined.field-0 c.in-Predefined.is

pub returns-in-Some-2-clause-innermost : goal.returns-in-Some-2-clause-innermost
returns-in-Some-2-clause-innermost t c =
    name_inside c.args.items.now (Relates c.args.values.now c.args.pair) c.args.names.now
    c.in-Some.name c.in-Some.ensures c.in-Bound.input c.deref.result.now c.in-Some-2.inner
    c.in-Bound.is
    (rw c.deref.ensures.value c.in_ok-inside-in-Bound.ensures.operands)
    (rw c.in-Some-2.is at c.in_ok-inner-in-Bound.ensures.innermost)

pub returns-clause-innermost : goal.returns-clause-innermost
returns-clause-innermost t c =
    let P = Relates c.args.values.now c.args.pair in
    let found = name_itself c.args.items.now P c.args.names.now c.in-Some.name c.in-Some.ensures c.in-Bound.input c.deref.result.now c.in-Bound.is
    (rw c.deref.ensures.value c.in_ok-inside-in-Bound.ensures.operands)
    (rw c.in-None.is at c.in_ok-inner-in-Bound.ensures.innermost) in
    subst (λ (name : ModelName). IsInnermost c.args.items.now P c.args.names.now (Some name))
    c.in-Bound.is found
