use Rattle.std.proofs.Common.{List, ap, sym, ◌∙◌}
use Rattle.text_values.specs.declared.test.Place.{Place}
use Rattle.text_values.specs.declared.test.Proposition.{Proposition}
use Rattle.text_values.specs.TestValue.{formula_of}
use Rattle.meaning.specs.Names.{is_same_observable}
use Rattle.meaning.specs.Outcome.{is_observable_before, observables_of}
use Rattle.plain_ends.specs.Ends.{places_as, with_places}
use Rattle.plain_runs.proofs.Placing.{each_append}
use Rattle.plain_ends.proofs.observables.+put_proposition.Goals as goal

abbrev put : Proposition → List Place → List Place
put p ps = with_places (observables_of (formula_of p)) ps

pub returns-in_ok-put_proposition-in-Joined-2 : goal.returns-in_ok-put_proposition-in-Joined-2
returns-in_ok-put_proposition-in-Joined-2 t c =
    let old = places_as c.args.observables.now.items in
    let mid = places_as c.put_proposition-in-Joined.new.observables.items in
    let left = c.in-Joined.left.value in
    let right = c.in-Joined.right.value in
    c.in_ok-put_proposition-in-Joined-2.ensures
    ∙ ap (λ (p : Proposition). put p mid) c.deref-in-Joined-2.ensures
    ∙ ap (λ (ps : List Place). put left ps) (c.in_ok-put_proposition-in-Joined.ensures ∙ ap (λ (p : Proposition). put p old) c.deref-in-Joined.ensures)
    ∙ sym (each_append is_same_observable is_observable_before (observables_of (formula_of left)) (observables_of (formula_of right)) old)
    ∙ ap (λ (p : Proposition). put p old) (sym c.in-Joined.is)
