use Rattle.std.proofs.Common.{ℕ, List, take, ◌++◌}
use Rattle.std.specs.Prelude.{IsTrue, IfSome}
use Rattle.base_names.specs.Known.{Known}
use Rattle.base_names.specs.Candidate.{HasReadsFrom, HasCoherence}
use Rattle.cat_eval.specs.Candidates.{reading_so}
use Rattle.cat_machine.specs.Steady.{HasAsLast}
use Rattle.cat_eval.specs.Worlds.{IsBaseReady, AreWorlds}
use Rattle.cat_eval.proofs.walk.enter_orders.Given as goal

abbrev pub invariant-loop-index : goal.invariant-loop-index
invariant-loop-index g l =
    IsBaseReady l.needs.names.items l.base l.combination
    × ((reads_from : List ℕ) → HasReadsFrom l.initial.base l.combination reads_from
    → HasReadsFrom l.base l.combination reads_from)
    × ((reads_from : List ℕ) → (IsTrue l.needs.reads → HasReadsFrom l.initial.base l.combination reads_from)
    → (first : _) (bases : List Known)
    → (IsTrue l.initial.again → HasAsLast bases l.initial.base)
    → g.V.Enter.has_taken first bases l.initial.visitor
    → (more : List Known)
    × AreWorlds l.needs.names.items l.needs.reads l.needs.orders more
    (reading_so l.combination reads_from (take l.index l.combination.orders))
    × g.V.Enter.has_taken first (bases ++ more) l.visitor
    × (IsTrue l.again → HasAsLast (bases ++ more) l.base))
    × (IsTrue l.needs.orders
    → IfSome l.previous (λ earlier. HasCoherence l.base l.combination earlier.now))
