use Rattle.std.proofs.Common.{rules, []}
use Rattle.std.specs.List.{flat_map}
use Rattle.text_values.specs.TestValue.{formula_of}
use Rattle.ppc_lowering.specs.Lowering.{Gains, entry_names, formula_names, place_names}
use Rattle.ppc_lowering.proofs.Sorting.{adds_after, are_names}
use Rattle.ppc_lowering.proofs.lowering.locations_of.Goals as goal

pub returns : goal.returns
returns c =
    let test = c.args.test.now in
    let first : Gains (flat_map entry_names test.init.items) [] c.note_init.new.names.items = search rules in
    let then : Gains (formula_names (formula_of test.condition.proposition)) c.note_init.new.names.items c.note_proposition.new.names.items = search rules in
    let last : Gains (flat_map place_names test.observed.items) c.note_proposition.new.names.items c.note_places.new.names.items = search rules in
    are_names _ _ c.note_places.ensures.rising (adds_after _ _ _ _ _
    (adds_after _ _ _ _ _ first then) last)
