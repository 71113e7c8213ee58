use Rattle.std.proofs.Common.{length, map, reverse, sym, ap, ◌∙◌, arith}
use Rattle.std.specs.Prelude.{not}
use Rattle.binding_kinds.specs.declared.fault.ModelFault.TheVariants as faults
use Rattle.binding_kinds.specs.declared.signature.Signature.{Signature}
use Rattle.binding_kinds.specs.Value.{entry_of}
use Rattle.binding_kinds.specs.Verdict.{unless}
use Rattle.binding_kinds.proofs.Applications.{found_arity}
use Rattle.fault_texts.proofs.Own.{clashing}
use Rattle.fault_texts.proofs.application.application_fault.Goals as goal

pub returns-else-size-gt-MAX_SIZE : goal.returns-else-size-gt-MAX_SIZE
returns-else-size-gt-MAX_SIZE c = λ ss kept alike.
    let names = reverse (map entry_of c.args.entries.now) in
    let xs = c.args.arguments.now in
    let h = c.in-Ok.ensures ss kept in
    clashing c.in-Ok.function.now ss names xs _ h.0 _ c.args.size
    c.combination_of-combination.result c.unless.result h.1 h.2
    (sym (found_arity ss (length xs) _ h.0 h.1)) (c.combination_of-combination.ensures ss kept)
    alike
    (omega (arith, c.if-size-gt-MAX_SIZE.false)) (c.unless.ensures
    ∙ ap (λ (x : Signature). unless (not x.clashes) faults.Kind) c.signature.ensures)
