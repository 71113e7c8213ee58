use Rattle.std.proofs.Common.{inl}
use Rattle.std.proofs.lemmas.Result.{IfOk-weaker}
use Rattle.text_values.specs.ModelValues.{clauses_of}
use Rattle.from_scratch.specs.FromScratch.{AreItemsOf, IsFaultOf}
use Rattle.draw_relations.proofs.Coding.{named_shown}
use Rattle.draw_relations.proofs.values.text_values.Goals as goal

pub returns-in_ok-last_values-in-Ok : goal.returns-in_ok-last_values-in-Ok
returns-in_ok-last_values-in-Ok c =
    let clauses = clauses_of c.args.items.now in
    let space = c.args.space.now in
    let x = c.args.shown.now in
    let text = c.args.text.now in
    let resolved = c.in-Ok.resolved.items.items in
    let items : AreItemsOf text resolved = (c.in-Ok.ensures.items, c.in-Ok.ensures.labels) in
    IfOk-weaker c.named.result _ _
    (λ found h. named_shown clauses space x text resolved c.in_ok-last_values-in-Ok.field-0 found
    c.requires items c.in_ok-last_values-in-Ok.ensures h) c.named.ensures

pub returns-in-Err-Refused : goal.returns-in-Err-Refused
returns-in-Err-Refused c =
    let fault : IsFaultOf c.args.text.now c.in-Err-Refused.fault = rw c.in-Err-Refused.field-0-is at c.in-Err-Refused.ensures.fault in
    inl (c.args.text.now, c.requires, c.in-Err-Refused.fault, fault)
