use Rattle.ppc_lowering.specs.Lowering.{place_names, value_names}
use Rattle.ppc_lowering.proofs.Sorting.{adds_after}
use Rattle.ppc_lowering.proofs.lowering.note_both.Goals as goal

pub returns-clause-noted : goal.returns-clause-noted
returns-clause-noted c =
    adds_after (place_names c.args.place.now) (value_names c.args.value.now) _ _ _
    c.in_ok-note_place.ensures.noted c.in_ok-note_value.ensures.noted
