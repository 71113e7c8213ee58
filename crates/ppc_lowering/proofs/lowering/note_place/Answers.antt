use Rattle.std.proofs.Common.{OnOk, sym, subst}
use Rattle.text_values.specs.declared.test.Place.{Place}
use Rattle.ppc_lowering.specs.Lowering.{Gains, place_names}
use Rattle.ppc_lowering.proofs.lowering.note_place.Goals as goal

pub returns-in-Location-clause-noted : goal.returns-in-Location-clause-noted
returns-in-Location-clause-noted c =
    subst
    (λ (p : Place).
    OnOk c.note.result (Gains (place_names p) c.args.names.now.items c.note.new.names.items))
    (sym c.in-Location.is) c.note.ensures.noted
