use Rattle.std.proofs.Common.{List, ap, ◌∙◌}
use Rattle.text_values.specs.declared.test.Place.{Place}
use Rattle.text_values.specs.TestValue.{formula_of}
use Rattle.meaning.specs.Names.{is_same_observable}
use Rattle.meaning.specs.Outcome.{is_observable_before, observables_of}
use Rattle.plain_ends.specs.Ends.{places_as, with_places}
use Rattle.plain_runs.proofs.Placing.{both_parts}
use Rattle.plain_ends.proofs.observables.observables.Goals as goal

pub returns : goal.returns
returns c =
    let t = c.args.test.now in
    both_parts is_same_observable is_observable_before
    (observables_of (formula_of t.condition.proposition)) t.observed.items
    (places_as c.new-observables.result.items) (places_as c.put_places.new.observables.items)
    (places_as c.put_proposition.new.observables.items)
    (ap places_as c.new-observables.ensures.items)
    (c.in_ok-put_places.ensures
    ∙ ap (λ (l : List Place). with_places l (places_as c.new-observables.result.items)) c.deref.ensures.value)
    c.in_ok-put_proposition.ensures
