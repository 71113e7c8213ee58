use Rattle.std.proofs.Common.{List, [], take}
use Rattle.std.specs.Prelude.{IfSome, IsTrue}
use Rattle.base_names.specs.Known.{Known, IsConsistent}
use Rattle.base_names.specs.Candidate.{IsEntered}
use Rattle.cat_eval.specs.Candidates.{of_combinations}
use Rattle.cat_machine.specs.Steady.{HasAsLast}
use Rattle.cat_eval.specs.Worlds.{AreNamesHeld, AreWorlds}
use Rattle.cat_eval.proofs.walk.enter_space.Given as goal

abbrev pub invariant-loop-combination : goal.invariant-loop-combination
invariant-loop-combination g l =
    IsConsistent l.base
    × AreNamesHeld l.needs.names.items l.base
    × IfSome l.entered (λ earlier. IsEntered l.base earlier.now)
    × (g.V.Enter.has_taken l.initial.visitor [] l.initial.visitor
    → (bases : List Known)
    × AreWorlds l.needs.names.items l.needs.reads l.needs.orders bases
    (of_combinations (take l.combination-index l.space.combinations.items))
    × g.V.Enter.has_taken l.initial.visitor bases l.visitor
    × (IsTrue l.again → HasAsLast bases l.base))
