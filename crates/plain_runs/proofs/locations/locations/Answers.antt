use Rattle.std.proofs.Common.{List, bytes_eq, ap, ◌∙◌}
use Rattle.std.specs.List.{flat_map}
use Rattle.text_values.specs.declared.test.Place.{Place}
use Rattle.text_values.specs.declared.test.InitEntry.{InitEntry}
use Rattle.text_values.specs.TestValue.{formula_of}
use Rattle.meaning.specs.Names.{is_name_before, locations_of_entry, locations_of_formula, locations_of_observable}
use Rattle.plain_runs.specs.Locations.{names_as, with_all}
use Rattle.plain_runs.proofs.Placing.{all_parts}
use Rattle.plain_runs.proofs.locations.locations.Goals as goal

pub returns : goal.returns
returns c =
    let t = c.args.test.now in
    all_parts bytes_eq is_name_before (flat_map locations_of_entry t.init.items)
    (locations_of_formula (formula_of t.condition.proposition))
    (flat_map locations_of_observable t.observed.items)
    (names_as c.new-names.result.items) (names_as c.put_places.new.names.items)
    (names_as c.put_proposition.new.names.items) (names_as c.put_entries.new.names.items)
    (ap names_as c.new-names.ensures.items)
    (c.in_ok-put_places.ensures
    ∙ ap (λ (l : List Place). with_all (flat_map locations_of_observable l) (names_as c.new-names.result.items))
    c.deref.ensures.value)
    c.in_ok-put_proposition.ensures
    (c.in_ok-put_entries.ensures
    ∙ ap (λ (l : List InitEntry). with_all (flat_map locations_of_entry l) (names_as c.put_proposition.new.names.items))
    c.deref-2.ensures.value)
