use Rattle.std.proofs.Common.{take}
use Rattle.from_scratch.specs.Suites.{AreResolvedAs}
use Rattle.from_scratch.proofs.suite.resolved_models.Given as goal

abbrev pub invariant-loop-model : goal.invariant-loop-model
invariant-loop-model l = AreResolvedAs (take l.model-index l.models) l.all.items
