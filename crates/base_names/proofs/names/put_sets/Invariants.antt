use Rattle.std.proofs.Common.{ℕ, ◌≡◌, ◌<◌, length, get_or}
use Rattle.bit_rows.specs.Relation.{IsEvents}
use Rattle.base_names.specs.declared.names.Named.{Named}
use Rattle.base_names.specs.Known.{set_names}
use Rattle.base_names.specs.Candidate.{SetIn}
use Rattle.base_names.proofs.names.put_sets.Given as goal

abbrev pub invariant-loop-index : goal.invariant-loop-index
invariant-loop-index l =
    (length l.sets ≡ length l.initial.sets) × (set_names l.sets ≡ set_names l.initial.sets)
    × ((i : ℕ) → i < l.index → (d : Named)
    → IsEvents (get_or l.sets i d).set l.count
    (SetIn l.combination l.count (get_or l.sets i d).name))
