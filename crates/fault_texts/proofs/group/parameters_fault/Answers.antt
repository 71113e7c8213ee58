use Rattle.std.proofs.Common.{ℕ, List, ◌∙◌, ap, arith}
use Rattle.fault_texts.specs.Search.{signed_fault}
use Rattle.fault_texts.proofs.Spread.{next_parameter, all_parameters}
use Rattle.fault_texts.proofs.group.parameters_fault.Goals as goal

pub loop-index-preserved : goal.loop-index-preserved
loop-index-preserved c =
    let own = c.one_parameter_fault-own.result in
    next_parameter c.args.parameters.now c.loop-index.index c.index-parameters-index.result own _ _
    _ _ (omega (arith, c.loop-index-test.true)) c.index-parameters-index.is
    c.one_parameter_fault-own.ensures
    (c.signed_fault-one.ensures ∙ ap (λ (b : List ℕ). signed_fault own b) c.as_bytes.ensures)
    c.or_later-all.ensures c.loop-index.invariant

pub returns : goal.returns
returns c =
    all_parameters _ c.args.parameters.now c.loop-index.index _ _
    (omega (arith, c.loop-index-test.false)) c.loop-index.invariant
