use Rattle.std.proofs.Common.{ℕ, ◌<◌, slice_index_or}
use Rattle.store_orders.specs.declared.combination.Event.{Event}
use Rattle.cat_eval.specs.Alike.{IsLike}
use Rattle.cat_eval.proofs.shape.are_events_like.Given as goal

abbrev pub invariant-loop-index : goal.invariant-loop-index
invariant-loop-index l =
    (i : ℕ) → i < l.index → (d : Event)
    → IsLike (slice_index_or l.first i d) (slice_index_or l.second i d)
