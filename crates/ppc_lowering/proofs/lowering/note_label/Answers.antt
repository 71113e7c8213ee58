use Rattle.std.proofs.Common.{OnOk, sym, subst}
use Rattle.text_values.specs.declared.test.Step.{Step}
use Rattle.ppc_lowering.specs.Lowering.{Gains, labels_in}
use Rattle.ppc_lowering.proofs.lowering.note_label.Goals as goal

pub returns-in-Label-clause-noted : goal.returns-in-Label-clause-noted
returns-in-Label-clause-noted c =
    subst
    (λ (s : Step).
    OnOk c.note.result (Gains (labels_in s) c.args.labels.now.items c.note.new.names.items))
    (sym c.in-Label.is) c.note.ensures.noted
