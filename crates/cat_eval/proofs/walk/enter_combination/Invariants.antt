use Rattle.std.proofs.Common.{List, take, ◌++◌}
use Rattle.std.specs.Prelude.{IsTrue}
use Rattle.base_names.specs.Known.{Known}
use Rattle.cat_eval.specs.Candidates.{reading_in}
use Rattle.cat_machine.specs.Steady.{HasAsLast}
use Rattle.cat_eval.specs.Worlds.{IsBaseReady, AreWorlds}
use Rattle.cat_eval.proofs.walk.enter_combination.Given as goal

abbrev pub invariant-loop-reads_from : goal.invariant-loop-reads_from
invariant-loop-reads_from g l =
    IsBaseReady l.needs.names.items l.base l.combination
    × ((first : _) (bases : List Known) → (IsTrue l.initial.again → HasAsLast bases l.initial.base)
    → g.V.Enter.has_taken first bases l.initial.visitor
    → (more : List Known)
    × AreWorlds l.needs.names.items l.needs.reads l.needs.orders more
    (reading_in l.combination (take l.reads_from-index l.combination.reads_from.items))
    × g.V.Enter.has_taken first (bases ++ more) l.visitor
    × (IsTrue l.again → HasAsLast (bases ++ more) l.base))
