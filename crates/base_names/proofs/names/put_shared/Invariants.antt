use Rattle.std.proofs.Common.{ℕ, ◌≡◌, ◌<◌, length, get_or}
use Rattle.bit_rows.specs.Relation.{IsRelation}
use Rattle.base_names.specs.declared.names.Shared.{Shared}
use Rattle.base_names.specs.Known.{shared_names}
use Rattle.base_names.specs.Candidate.{SharedIn}
use Rattle.base_names.proofs.names.put_shared.Given as goal

abbrev pub invariant-loop-index : goal.invariant-loop-index
invariant-loop-index l =
    (length l.shared ≡ length l.initial.shared)
    × (shared_names l.shared ≡ shared_names l.initial.shared)
    × ((i : ℕ) → i < l.index → (d : Shared)
    → IsRelation (get_or l.shared i d).relation l.count
    (SharedIn l.combination l.count (get_or l.shared i d).name))
