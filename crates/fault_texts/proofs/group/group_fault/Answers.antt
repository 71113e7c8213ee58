use Rattle.std.proofs.Common.{ℕ, List, ◌∙◌, ap, reverse, map, arith, Option}
use Rattle.binding_kinds.specs.Value.{entry_of}
use Rattle.std.specs.Prelude.{option_map}
use Rattle.fault_texts.specs.Search.{SignedFault, signed_fault_of, signed_fault, or_later}
use Rattle.fault_texts.proofs.Spread.{next_binding, all_bindings}
use Rattle.fault_texts.proofs.group.group_fault.Goals as goal

pub loop-index-preserved : goal.loop-index-preserved
loop-index-preserved c = λ ss kept.
    let names = reverse (map entry_of c.args.entries.now) in
    let own = c.binding_fault-own.result in
    next_binding ss names c.args.from c.args.recursive c.args.group.now c.loop-index.index
    c.index-group-index.result own _ _ _ _ _ (omega (arith, c.loop-index-test.true))
    c.index-group-index.is
    (c.binding_fault-own.ensures ss names (c.judge-judged.ensures.kind_in ss kept))
    (c.expression_fault-body.ensures ss kept)
    (c.or_later-one.ensures
    ∙ ap
    (λ (o : Option SignedFault).
    or_later o (option_map signed_fault_of c.expression_fault-body.result))
    (c.signed_fault-here.ensures
    ∙ ap (λ (b : List ℕ). signed_fault own b) c.as_bytes.ensures))
    c.or_later-all.ensures
    (c.loop-index.invariant ss kept)

pub returns : goal.returns
returns c =
    λ ss kept. all_bindings ss _ c.args.from c.args.recursive _ c.args.group.now c.loop-index.index
    _ _ (omega (arith, c.loop-index-test.false)) (c.loop-index.invariant ss kept)
