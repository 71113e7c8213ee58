use denote.Ref.{Bor}
use Rattle.std.proofs.Common.{List, ap, sym, ◌∙◌}
use Rattle.std.specs.List.{insert}
use Rattle.text_values.specs.declared.test.Place.{Place}
use Rattle.meaning.specs.Names.{is_same_observable, with_one}
use Rattle.meaning.specs.Outcome.{is_observable_before}
use Rattle.plain_ends.specs.Ends.{places_as}
use Rattle.plain_runs.proofs.Placing.{inserted_as}
use Rattle.plain_ends.proofs.observables.put_observable.Goals as goal

pub returns-in_ok-insert-in-Some : goal.returns-in_ok-insert-in-Some
returns-in_ok-insert-in-Some c =
    ap places_as c.in_ok-insert-in-Some.ensures.items
    ∙ inserted_as (λ (p : Bor Place). p.now) c.args.observables.now.items c.in-Some.index c.args.observable
    ∙ ap (λ (l : List (Bor Place)). insert (places_as l) c.in-Some.index c.args.observable.now) (sym c.deref.ensures.value)
    ∙ sym c.in-Some.ensures.position
    ∙ ap (λ (l : List (Bor Place)). with_one is_same_observable is_observable_before c.args.observable.now (places_as l)) c.deref.ensures.value
