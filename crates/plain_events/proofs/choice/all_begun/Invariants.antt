use Rattle.std.proofs.Common.{◌≡◌, ◌∷◌, map, take}
use Rattle.plain_events.specs.Choices.{lists_as}
use Rattle.plain_events.proofs.choice.all_begun.Given as goal

abbrev pub invariant-loop-rest : goal.invariant-loop-rest
invariant-loop-rest l =
    lists_as l.longer.items ≡ map (λ ks. l.index ∷ ks) (lists_as (take l.rest-index l.rests))
