use denote.Ref.{Bor}
use Rattle.std.proofs.Common.{ℕ, List, bytes_eq, ap, sym, ◌∙◌}
use Rattle.std.specs.List.{insert}
use Rattle.meaning.specs.Names.{is_name_before, with_one}
use Rattle.plain_runs.specs.Locations.{names_as}
use Rattle.plain_runs.proofs.Placing.{inserted_as}
use Rattle.plain_runs.proofs.locations.put_name.Goals as goal

pub returns-in_ok-insert-in-Some : goal.returns-in_ok-insert-in-Some
returns-in_ok-insert-in-Some c =
    ap names_as c.in_ok-insert-in-Some.ensures.items
    ∙ inserted_as (λ (n : Bor (List ℕ)). n.now) c.args.names.now.items c.in-Some.index c.args.name
    ∙ ap (λ (l : List (Bor (List ℕ))). insert (names_as l) c.in-Some.index c.args.name.now) (sym c.deref.ensures.value)
    ∙ sym c.in-Some.ensures.position
    ∙ ap (λ (l : List (Bor (List ℕ))). with_one bytes_eq is_name_before c.args.name.now (names_as l)) c.deref.ensures.value
