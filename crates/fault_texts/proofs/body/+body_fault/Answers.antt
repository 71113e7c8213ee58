use Rattle.std.proofs.Common.{ℕ, List, ◌∙◌, ap, reverse, map, arith}
use Rattle.binding_kinds.specs.Value.{entry_of}
use Rattle.fault_texts.specs.Search.{signed_fault}
use Rattle.fault_texts.proofs.Spread.{body_application, next_body, all_bodies}
use Rattle.fault_texts.proofs.body.+body_fault.Goals as goal

pub loop-argument-init : goal.loop-argument-init
loop-argument-init t c = λ ss kept.
    let names = reverse (map entry_of c.args.sight.now.entries.now) in
    let own = c.applied_fault-own.result in
    body_application ss names c.args.sight.now.parameters.now c.args.term.now c.in-Applied.name
    c.in-Applied.arguments c.deref-argument-items.result.now c.len-count.result own _
    c.in-Applied.is c.deref-argument-items.ensures.value
    (let k = c.in-Applied.arguments.ok in let m = c.len-count.ensures in omega (arith, k, m))
    (c.applied_fault-own.ensures ss kept) (c.signed_fault-all.ensures
    ∙ ap (λ (b : List ℕ). signed_fault own b) c.as_bytes-in-Applied.ensures)

pub loop-argument-preserved : goal.loop-argument-preserved
loop-argument-preserved t c = λ ss kept.
    let names = reverse (map entry_of c.args.sight.now.entries.now) in
    let xs = c.deref-argument-items.result.now in
    next_body ss names c.args.sight.now.parameters.now xs c.loop-argument.argument-index
    c.argument-item.result _ _ _ _ (omega (arith, c.loop-argument-test.true)) c.argument-item.is
    (c.body_fault-one.ensures ss kept) c.or_later-all.ensures
    (c.loop-argument.invariant ss kept)

pub returns-after-loop-argument : goal.returns-after-loop-argument
returns-after-loop-argument t c = λ ss kept.
    let names = reverse (map entry_of c.args.sight.now.entries.now) in
    all_bodies ss names c.args.sight.now.parameters.now c.deref-argument-items.result.now
    c.loop-argument.argument-index _ _ (omega (arith, c.loop-argument-test.false))
    (c.loop-argument.invariant ss kept)
