use Rattle.std.proofs.Common.{OnOk, sym, subst}
use Rattle.text_values.specs.declared.test.Value.{Value}
use Rattle.ppc_lowering.specs.Lowering.{Gains, value_names}
use Rattle.ppc_lowering.proofs.lowering.note_value.Goals as goal

pub returns-in-Address-clause-noted : goal.returns-in-Address-clause-noted
returns-in-Address-clause-noted c =
    subst
    (λ (v : Value).
    OnOk c.note.result (Gains (value_names v) c.args.names.now.items c.note.new.names.items))
    (sym c.in-Address.is) c.note.ensures.noted
