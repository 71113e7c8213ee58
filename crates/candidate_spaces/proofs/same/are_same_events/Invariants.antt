use Rattle.std.proofs.Common.{ℕ, ◌≡◌, ◌<◌, get_or}
use Rattle.store_orders.specs.declared.combination.Event.{Event}
use Rattle.candidate_spaces.proofs.same.are_same_events.Given as goal

abbrev pub invariant-loop-index : goal.invariant-loop-index
invariant-loop-index l =
    (k : ℕ) (d : Event) → k < l.index → get_or l.first k d ≡ get_or l.second k d
